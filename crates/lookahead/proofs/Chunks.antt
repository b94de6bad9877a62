-- Chunks of code points: that none is 0, what a refill leaves of them, and what is seen of them.
use Rattle.std.proofs.Common.{◌≡◌, ℕ, suc, min, ◌+◌, ◌-◌, ◌<◌, ◌≤◌, Bool, true, false, cond, ◌&&◌, eqb, List, [], ◌∷◌, ◌++◌, length, take, drop, Some, None, Ok, Err, Option, Result, refl, sym, ap, ◌∙◌, append_assoc, arith, rules, slice_range}
use Rattle.std.specs.List.{All, copy_within}
use Rattle.std.specs.Result.{result_transpose}
use Rattle.std.proofs.Math.Seq.{take-append-add}
use Rattle.std.proofs.lemmas.Bool.Decides.{nat_tests}
use Rattle.std.proofs.lemmas.List.{drop_more, take_at, take-append-le, drop-append-le, length-take, length-take-le, length-append, length-drop}
use Rattle.std.proofs.lemmas.List.Elements.{All-append, All-cons, All-drop, All-nil, All-same, All-take}
use Rattle.std.proofs.lemmas.Slice.{between_is}
use borrow.Rule.Slice.PartMut.{put_mid, post_of}
use Rattle.refusal.specs.declared.fault.Fault.{Fault}
use Rattle.lookahead.specs.declared.window.Window.{Window}
use Rattle.lookahead.specs.Ahead.{Ahead, ending_in_sight}
use Rattle.lookahead.specs.Windows.{InSightOrTold, chunk_of, points_of}
use Rattle.stream.specs.declared.preprocess.Preprocess.{Preprocess}
use Rattle.stream.specs.declared.source.Step.TheVariants.{End}
use Rattle.stream.specs.Preprocess.{Placed, behind, replaced}
use Rattle.stream.specs.Sources.{Ending, Hands, ended}

abbrev NotZero : Placed → Type 0
NotZero p = 0 < p.0

abbrev pub NoZero : List Placed → Type 0
NoZero ps = All NotZero ps

replaced_is_not_zero : (c : ℕ) → 0 < replaced c
replaced_is_not_zero c = grind (arith, nat_tests)

behind_has_no_zero : (cr : Bool) (ps : List Placed) → NoZero (behind cr ps)
behind_has_no_zero cr [] = All-nil NotZero
behind_has_no_zero cr (p ∷ ps) = by (cr && eqb p.0 10) (behind_has_no_zero false ps) (behind_has_no_zero (eqb p.0 13) ps)
  where
    by : (b : Bool) → NoZero (behind false ps) → NoZero (behind (eqb p.0 13) ps) → NoZero (cond b (behind false ps) ((replaced p.0, p.1) ∷ behind (eqb p.0 13) ps))
    by true h k = h
    by false h k = All-cons NotZero _ _ (replaced_is_not_zero p.0) k

pub source_has_no_zero : {S : Type 0} (ahead : S → List Placed) (p : Preprocess S) → NoZero (points_of ahead p)
source_has_no_zero ahead p = behind_has_no_zero p.after_cr (ahead p.below)

pub slice_has_no_zero : (xs : List Placed) (at end : ℕ) → NoZero (take end xs) → NoZero (slice_range xs at end)
slice_has_no_zero xs at end some = All-same NotZero _ _ (between_is xs at end) (All-drop NotZero at (take end xs) some)

-- cells at..end moved to the front
module _ (xs ys : List Placed) (at end : ℕ) (h : at ≤ end) (k : end ≤ length xs) (e : ys ≡ copy_within xs at end 0) where
  pub moved_up : take (end - at) ys ≡ slice_range xs at end
  moved_up =
      let left : end - at ≤ length (drop at xs) = omega (arith, length-drop at xs) in
      let size : length (slice_range xs at end) ≡ end - at = length-take-le (end - at) (drop at xs) left in
      rw e (take_at (slice_range xs at end) _ (end - at) size)

  pub moved_has_no_zero : NoZero (take end xs) → NoZero (take (end - at) ys)
  moved_has_no_zero some = All-same NotZero _ _ moved_up (slice_has_no_zero xs at end some)

-- behind cells at..end i cells are written: what rest began with, and rest' is left of it
module _ (xs items written rest rest' : List Placed) (at end i n stop : ℕ) (h : at ≤ end) (k : end ≤ length xs) (l : i ≤ length items)
    (s : stop ≡ end + i) (w : take i items ≡ written) (handed : written ++ rest' ≡ rest) where
  grown : take stop (put_mid end n xs items) ≡ take end xs ++ written
  grown =
      let behind_it = take-append-add (take end xs) (items ++ post_of end n xs) i in
      rw s (rw (length-take-le end xs k) at behind_it ∙ ap (λ l. take end xs ++ l) (take-append-le i items (post_of end n xs) l ∙ w))

  pub still_ahead : slice_range (put_mid end n xs items) at stop ++ rest' ≡ slice_range xs at end ++ rest
  still_ahead =
      let within : at ≤ length (take end xs) = omega (arith, length-take-le end xs k) in
      rw (between_is (put_mid end n xs items) at stop, grown, drop-append-le at (take end xs) written within, sym (between_is xs at end), append_assoc) (ap (λ l. slice_range xs at end ++ l) handed)

  pub still_no_zero : NoZero (take end xs) → NoZero rest → NoZero (take stop (put_mid end n xs items))
  still_no_zero some more =
      let front : NoZero written = All-same NotZero _ _ (sym (take_at written rest' (length written) refl))
      (All-take NotZero (length written) _ (All-same NotZero _ _ handed more)) in
      All-same NotZero _ _ grown (All-append NotZero _ _ some front)

-- a source that told its ending had nothing ahead, and has nothing now
pub stopped : (ps ps' : List Placed) (e e' : Ending) (f : Fault) → Hands ps e (Err f) ps' e' → (ps' ≡ ps) × (e' ≡ e)
stopped [] ps' e e' f h = search rules
stopped (p ∷ ps) ps' e e' f h = cc h.0

pub ended_at : (ps ps' : List Placed) (e e' : Ending) (p : ℕ) → Hands ps e (Ok (End p)) ps' e' → (ps' ≡ ps) × (e' ≡ e)
ended_at [] ps' e e' p h = search rules
ended_at (q ∷ ps) ps' e e' p h = cc h.0

-- two inputs are the same when their parts are
pub same : (x y : Ahead) → x.list ≡ y.list → x.ending ≡ y.ending → x ≡ y
same x y p q = λ i. record { list = p i; ending = q i }

-- past the first cell
pub passed_one : (xs rest : List Placed) (at end : ℕ) → 0 < length (slice_range xs at end) → slice_range xs (at + 1) end ++ rest ≡ drop 1 (slice_range xs at end ++ rest)
passed_one xs rest at end h =
    let size : length (slice_range xs at end) ≡ min (end - at) (length xs - at) = length-take (end - at) (drop at xs) ∙ ap (min (end - at)) (length-drop at xs) in
    let within : at < length xs = omega arith in
    let one : end - at ≡ suc (end - (at + 1)) = omega arith in
    rw (one, drop_more xs at (0, 0) within) refl

-- the ending is in sight where fewer than three code points are left
pub out_of_sight : (xs rest : List Placed) (e : Ending) → 3 ≤ length xs → ending_in_sight (record { list = xs ++ rest; ending = e }) ≡ None
unfolding ending_in_sight
out_of_sight xs rest e h = grind (arith, nat_tests, length-append)

pub in_sight : (xs rest : List Placed) (e : Ending) → length xs < 3 → rest ≡ [] → ending_in_sight (record { list = xs ++ rest; ending = e }) ≡ Some (ended e)
unfolding ending_in_sight
in_sight xs rest e h r = grind (arith, nat_tests, length-append)

-- a refilled window with few code points has a source with none, which told its ending
pub few_are_all : {S : Type 0} (ahead : S → List Placed) (ending : S → Ending) (w : Window S) (r : Result (Option ℕ) Fault) → InSightOrTold ahead ending w r → length (chunk_of w) < 3
    → (points_of ahead w.source ≡ []) × (result_transpose r ≡ Some (ended (ending w.source.below)))
few_are_all ahead ending w (Ok None) f h = absurd (omega (arith, f))
few_are_all ahead ending w (Ok (Some p)) f h = (f.0, rw f.1 refl)
few_are_all ahead ending w (Err e) f h = (f.0, rw f.1 refl)
