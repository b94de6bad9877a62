-- What next_token answers while it goes on.
use Rattle.std.proofs.Common.{◌≡◌, ℕ, ◌+◌, ◌-◌, ◌≤◌, Bool, true, false, cond, ltb, List, [], ◌∷◌, ◌++◌, length, get_or, take, drop, Some, None, Option, Ok, Err, Result, sym, refl, ap, ◌∙◌, subst, add-zero, get_or-drop, arith, length-append}
use Rattle.std.specs.Option.{option_transpose}
use Rattle.std.proofs.lemmas.Bool.{le-ltb, ltb-false, cond-true, cond-false}
use Rattle.std.proofs.lemmas.List.{take-append-drop}
use Rattle.codepoint.specs.Utf8.{code_points_of}
use Rattle.refusal.specs.declared.fault.Fault.{Fault}
use Rattle.refusal.specs.declared.fault.Fault.TheVariants.{Outgrown}
use Rattle.stream.specs.Preprocess.{Placed}
use Rattle.stream.specs.Sources.{Ending}
use Rattle.stream.specs.Sources.Ending.{ends, stops}
use Rattle.stream.specs.Sources.{ended}
use Rattle.syntax.specs.Kinds.{is_bad_kind}
use Rattle.syntax.specs.Bodies.{past_comments}
use Rattle.syntax.specs.Reading.{Found, next, next_at, token_of}
use Rattle.syntax.specs.Reading.Next.{token}
use Rattle.syntax.specs.Extents.{before, taken, taken_at, collected, collected_at}
use Rattle.lookahead.specs.declared.ahead.Peek.{Peek}
use Rattle.lookahead.specs.Ahead.{Ahead, EndsAtZero, Left, codes, ending_in_sight, past, peeked}
use Rattle.scan.specs.declared.cells.Cells.{Cells}
use Rattle.scan.specs.Fills.{empty, filled, laid}
use Rattle.scan.proofs.Filling.{filled_words, laid_words}
use Rattle.scan.proofs.States.{same, past_past, length_codes}
use Rattle.reader.specs.declared.answer.Located.{Located}
use Rattle.reader.specs.declared.answer.Next.{Next}
use Rattle.reader.specs.declared.answer.Next.TheVariants.{Token, End}
use Rattle.reader.specs.declared.read.Read.{Read}
use Rattle.reader.specs.Reads.{Reads, found_from}
use Rattle.reader.specs.NextToken.{Answers, answered, end_answer, located, overwritten, place_of, unless_stopped}
use Rattle.reader.proofs.Cutting.{cut_exactly}
use Rattle.reader.proofs.Textual.{first_shown}

-- what is left determines how many were passed over
pub left_exactly : {w w' : Ahead} {r : List ℕ} → Left w r w' → w' ≡ past (length (codes w) - length r) w
left_exactly {w} {w'} {r} a =
    let l = drop a.count w.list in
    let n : length r ≡ length l = ap length (sym a.rest_is) ∙ length_codes w'.list ∙ ap (λ x. length x.list) a.passed in
    let m = length_codes w.list in
    a.passed ∙ same _ _ (sym (cut_exactly w.list (take a.count w.list) l (sym (take-append-drop a.count w.list)))) refl ∙ ap (λ k. past k w) (let e : length w.list - length l ≡ length (codes w) - length r = omega arith in e)

-- the ending, as it is told
module _ {o : Option (Result ℕ Fault)} where
  pub end_told : (p : ℕ) (e : Ending) → o ≡ Some (ended e) → o ≡ Some (Ok p) → Ok (End p) ≡ end_answer e
  end_told p (ends q) h k = let z : p ≡ q = cc (h, k) in ap (λ x. Ok (End x)) z
  end_told p (stops f) h k = absurd (cc (h, k))

  pub fault_told : (f : Fault) (e : Ending) → o ≡ Some (ended e) → o ≡ Some (Err f) → Err f ≡ end_answer e
  fault_told f (ends q) h k = absurd (cc (h, k))
  fault_told f (stops g) h k = let z : f ≡ g = cc (h, k) in ap Err z

-- at the end it is in sight
pub told_at_zero : {s sl : Ahead} {w : Peek} {o : Option (Result ℕ Fault)} → sl ≡ s → EndsAtZero w s.list → w.first ≡ 0 → o ≡ ending_in_sight sl → o ≡ Some (ended sl.ending)
unfolding ending_in_sight
told_at_zero {sl = sl} l at z e = e ∙ ap (λ ps. cond (ltb (length ps) 3) (Some (ended sl.ending)) None) (ap (λ x. x.list) l ∙ at.none z)

-- where it is in sight it may be a fault, which takes an answer's place
module _ (w : Ahead) (r : Result Next Fault) where
  unless_in_sight : Result Next Fault
  unless_in_sight = cond (ltb (length w.list) 3) (unless_stopped w.ending r) r

  not_stopped : (o : Option ℕ) → Ok o ≡ option_transpose (ending_in_sight w) → r ≡ unless_in_sight
  unfolding ending_in_sight unless_in_sight
  not_stopped o h = by (ltb (length w.list) 3) w.ending h
    where
      by : (b : Bool) (e : Ending) → Ok o ≡ option_transpose (cond b (Some (ended e)) None) → r ≡ cond b (unless_stopped e r) r
      by false e k = refl
      by true (ends p) k = refl
      by true (stops f) k = absurd (cc k)

  stopped : (f : Fault) → Err f ≡ option_transpose (ending_in_sight w) → Err f ≡ unless_in_sight
  unfolding ending_in_sight unless_in_sight
  stopped f h = by (ltb (length w.list) 3) w.ending h
    where
      by : (b : Bool) (e : Ending) → Err f ≡ option_transpose (cond b (Some (ended e)) None) → Err f ≡ cond b (unless_stopped e r) r
      by false e k = absurd (cc k)
      by true (ends p) k = absurd (cc k)
      by true (stops g) k = let z : f ≡ g = cc k in ap Err z

-- no token is left
pub ended_answers : {v s1 sl s2 : Ahead} {cells : List ℕ} {w : Peek} {r : Result Next Fault} → Left v (past_comments (codes v)) s1 → sl ≡ s1 → EndsAtZero w s1.list → w.first ≡ 0 → s2 ≡ sl → r ≡ end_answer sl.ending → Answers v cells r cells s2
unfolding next next_at collected taken before answered laid
ended_answers {v} {s1} {sl} {s2} {cells} k l at z m h =
    let nil : past_comments (codes v) ≡ [] = sym k.rest_is ∙ ap code_points_of (at.none z) in
    let t : taken (codes v) ≡ 0 = ap taken_at nil in
    record {
      answer = h ∙ ap (λ x. end_answer x.ending) (l ∙ k.passed) ∙ ap (λ x. answered (length cells) v (next_at x)) (sym nil);
      cells = laid_words cells [] ∙ ap (λ x. overwritten cells (collected_at x)) (sym nil);
      left = m ∙ l ∙ left_exactly k ∙ ap (λ n. past n v) (let e : length (codes v) - length (past_comments (codes v)) ≡ before (codes v) + taken (codes v) = omega arith in e);
    }

-- a token is there
front_stands : (p : List ℕ) → (get_or p 0 0 ≡ 0 → ⊥) → get_or p 0 0 ∷ drop 1 p ≡ p
front_stands [] z = absurd (z refl)
front_stands (c ∷ p) z = refl

module _ (s : List ℕ) (z : get_or (past_comments s) 0 0 ≡ 0 → ⊥) where
  pub next_found : next s ≡ token (token_of (found_from (past_comments s))) (found_from (past_comments s)).rest
  unfolding next next_at
  next_found = sym (ap next_at (front_stands (past_comments s) z))

  pub collected_found : collected s ≡ (found_from (past_comments s)).text ++ (found_from (past_comments s)).unit
  unfolding collected
  collected_found = sym (ap collected_at (front_stands (past_comments s) z))

  pub taken_found : taken s ≡ length (past_comments s) - length (found_from (past_comments s)).rest
  unfolding taken
  taken_found = sym (ap taken_at (front_stands (past_comments s) z)) ∙ ap (λ x. length x - length (found_from (past_comments s)).rest) (front_stands (past_comments s) z)

-- of a bad token no text is given
given_length : (b : Bool) (t : List ℕ) → cond b 0 (length t) ≡ length (cond b [] t)
given_length true t = refl
given_length false t = refl

module _ {v s1 sl : Ahead} {c0 : List ℕ} {d0 d1 : Cells} {s2 : Ahead} {w : Peek} {read : Read} {all : Option ℕ} (k : Left v (past_comments (codes v)) s1) (l : sl ≡ s1) (seen : w ≡ peeked s1.list) (z : w.first ≡ 0 → ⊥) (now : d0.cells.now ≡ c0) (none : d0.filled ≡ empty) (a : Reads d0 sl (found_from (codes sl)) d1 read s2) (all_is : all ≡ d1.filled) {c1 : List ℕ} (returned : c1 ≡ d1.cells.now) where
  abbrev here : Found
  here = found_from (past_comments (codes v))

  codes_are : codes sl ≡ past_comments (codes v)
  codes_are = ap codes l ∙ k.rest_is

  there : get_or (past_comments (codes v)) 0 0 ≡ 0 → ⊥
  there y = z (sym (first_shown s1 _ w k.rest_is seen) ∙ y)

  reads : Reads d0 sl here d1 read s2
  reads = subst (λ x. Reads d0 sl (found_from x) d1 read s2) codes_are a

  start_is : s1 ≡ past (before (codes v)) v
  unfolding before
  start_is = left_exactly k

  left_is : s2 ≡ past (before (codes v) + taken (codes v)) v
  left_is =
      let rest = length here.rest in
      left_exactly reads.all_is.left
      ∙ (λ i. past (length (codes_are i) - rest) ((l ∙ start_is) i))
      ∙ past_past _ (before (codes v)) v
      ∙ ap (λ n. past (before (codes v) + n) v) (sym (taken_found (codes v) there))

  place_is : w.place ≡ place_of v
  place_is = ap (λ (t : Peek). t.place) seen ∙ ap (λ (x : Ahead). (get_or {A = Placed} x.list 0 (0, 0)).1) start_is ∙ ap (λ (p : Placed). p.1) (get_or-drop (before (codes v)) v.list 0 (0, 0) ∙ ap (λ n. get_or v.list n (0, 0)) (add-zero (before (codes v))))

  length_is : length (collected (codes v)) ≡ length here.text + length here.unit
  length_is = ap length (collected_found (codes v) there) ∙ length-append here.text here.unit

  text_so : length (collected (codes v)) ≤ length c0 → read.text ≡ Some (length here.text)
  text_so h =
      let n = length_is in
      reads.text_is none ∙ ap (λ x. filled (length x) empty here.text) now ∙ filled_words (length c0) here.text ∙ cond-false _ _ _ (le-ltb (length c0) (length here.text) (omega arith))

  all_so : all ≡ cond (ltb (length c0) (length (collected (codes v)))) None (Some (length (collected (codes v))))
  all_so = all_is ∙ reads.all_is.puts.fill ∙ (λ i. filled (length (now i)) (none i) (here.text ++ here.unit)) ∙ filled_words (length c0) _ ∙ ap (λ x. cond (ltb (length c0) (length x)) None (Some (length x))) (sym (collected_found (codes v) there))

  -- whatever the answer is, the cells and what is left
  answers : (r : Result Next Fault) (s3 : Ahead) → r ≡ answered (length c0) v (token (token_of here) here.rest) → s3 ≡ s2 → Answers v c0 r c1 s3
  answers r s3 e m = record {
    answer = e ∙ ap (answered (length c0) v) (sym (next_found (codes v) there));
    cells = returned ∙ reads.all_is.puts.cells ∙ (λ i. laid (now i) (none i) (here.text ++ here.unit)) ∙ laid_words c0 _ ∙ ap (overwritten c0) (sym (collected_found (codes v) there));
    left = m ∙ left_is;
  }

  module _ {g : Result Located Fault}
      (fits : (n m : ℕ) → read.text ≡ Some n → all ≡ Some m → g ≡ Ok (record { kind = read.kind; mark = read.mark; text = cond (is_bad_kind read.kind) 0 n; unit = m - n; place = w.place }))
      (outgrown : all ≡ None → g ≡ Err (Outgrown w.place)) where
    given : Located
    given = located (place_of v) (token_of here)

    located_so : g ≡ cond (ltb (length c0) (length (collected (codes v)))) (Err (Outgrown (place_of v))) (Ok given)
    unfolding given token_of
    located_so = by (ltb (length c0) (length (collected (codes v)))) refl
      where
        by : (b : Bool) → ltb (length c0) (length (collected (codes v))) ≡ b → g ≡ cond b (Err (Outgrown (place_of v))) (Ok given)
        by true h = outgrown (all_so ∙ cond-true _ _ _ h) ∙ ap (λ p. Err (Outgrown p)) place_is
        by false h =
            let n = length_is in
            let unit : length (collected (codes v)) - length here.text ≡ length here.unit = omega arith in
            let text : cond (is_bad_kind read.kind) 0 (length here.text) ≡ length (cond (is_bad_kind here.kind) [] here.text) = ap (λ x. cond (is_bad_kind x) 0 (length here.text)) reads.kind_is ∙ given_length (is_bad_kind here.kind) here.text in
            fits _ _ (text_so (ltb-false _ _ h)) (all_so ∙ cond-false _ _ _ h)
            ∙ (λ i. Ok (record { kind = reads.kind_is i; mark = reads.mark_is i; text = text i; unit = unit i; place = place_is i }))

    pub outgrown_answers : {e : Fault} → g ≡ Err e → Answers v c0 (Err e) c1 s2
    unfolding answered
    outgrown_answers {e} h = answers _ s2 (by (ltb (length c0) (length (collected (codes v)))) _ (sym h ∙ located_so)) refl
      where
        by : (b : Bool) (r : Result Next Fault) → ◌≡◌ {A = Result Located Fault} (Err e) (cond b (Err (Outgrown (place_of v))) (Ok given)) → ◌≡◌ {A = Result Next Fault} (Err e) (cond b (Err (Outgrown (place_of v))) r)
        by true r k = let z : e ≡ Outgrown (place_of v) = cc k in ap Err z
        by false r k = absurd (cc k)

    module _ {t : Located} (is : g ≡ Ok t) {s3 : Ahead} (m : s3 ≡ s2) {o : Option (Result ℕ Fault)} (told : o ≡ ending_in_sight s2) where
      given_so : (ltb (length c0) (length (collected (codes v))) ≡ false) × (t ≡ given)
      given_so = by (ltb (length c0) (length (collected (codes v)))) (sym is ∙ located_so)
        where
          by : (b : Bool) → ◌≡◌ {A = Result Located Fault} (Ok t) (cond b (Err (Outgrown (place_of v))) (Ok given)) → (b ≡ false) × (t ≡ given)
          by true k = absurd (cc k)
          by false k = (refl, cc k)

      rest_long : length here.rest ≡ length s2.list
      rest_long = ap length (sym reads.all_is.left.rest_is) ∙ length_codes s2.list

      -- the token, unless the source's fault is in sight
      in_sight_so : unless_in_sight s2 (Ok (Token t)) ≡ answered (length c0) v (token (token_of here) here.rest)
      unfolding answered unless_in_sight given
      in_sight_so = (λ i. cond (ltb (sym rest_long i) 3) (unless_stopped (left_is i).ending (Ok (Token (given_so.1 i)))) (Ok (Token (given_so.1 i)))) ∙ sym (cond-false _ _ _ given_so.0)

      pub fault_answers : {f : Fault} → Err f ≡ option_transpose o → Answers v c0 (Err f) c1 s3
      fault_answers {f} h = answers _ s3 (stopped s2 (Ok (Token t)) f (h ∙ ap option_transpose told) ∙ in_sight_so) m

      pub token_answers : {x : Option ℕ} → Ok x ≡ option_transpose o → Answers v c0 (Ok (Token t)) c1 s3
      token_answers {x} h = answers _ s3 (not_stopped s2 (Ok (Token t)) x (h ∙ ap option_transpose told) ∙ in_sight_so) m
