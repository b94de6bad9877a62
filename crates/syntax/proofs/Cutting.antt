-- Reading takes the whole input, and each code point of it once.
use Rattle.std.proofs.Common.{◌≡◌, ℕ, zero, suc, ◌+◌, ◌<◌, false, List, [], ◌∷◌, ◌++◌, map, length, sym, refl, ap, ◌∙◌, subst, arith, length-append}
use Rattle.std.proofs.lemmas.Bool.{cond-false}
use Rattle.syntax.specs.Kinds.{is_bad_kind}
use Rattle.syntax.specs.Tokens.{TokenValue, is_bad}
use Rattle.syntax.specs.Bodies.{in_comments, past_comments}
use Rattle.syntax.specs.Reading.{Found, Next, Yields, found_at, next, next_at, token_of}
use Rattle.syntax.specs.Reading.Next.{end, token}
use Rattle.syntax.specs.Extents.{before, collected, collected_at, taken}
use Rattle.syntax.specs.Written.{Each}
use Rattle.syntax.specs.Pieces.{Cut, Piece, joined, length_of}
use Rattle.syntax.specs.Laws.{ReadingCollectsTextAndUnit, ReadingTakesAllOnce}
use Rattle.syntax.proofs.Chains.{yields_once}
use Rattle.syntax.proofs.Remains.{Behind, left_behind, rest_behind}

-- where the next token lies
record Lies (s r : List ℕ) : Type 0 where
  comments : List ℕ
  own : List ℕ
  whole : s ≡ comments ++ (own ++ r)
  before_it : length comments ≡ before s
  its_own : length own ≡ taken s
  some : 0 < length own

no_end : (t : TokenValue) (r : List ℕ) → end ≡ token t r → ⊥
no_end t r e = let z : ◌≡◌ {A = ℕ} 0 1 = cc in omega arith

lies_at : (s p : List ℕ) (t : TokenValue) (r : List ℕ) → past_comments s ≡ p → Behind s p → next_at p ≡ token t r → Lies s r
unfolding next_at before taken
lies_at s [] t r z b e = absurd (no_end t r e)
lies_at s (a ∷ q) t r z b e =
    let f = (found_at a q).rest in
    let same : f ≡ r = cc in
    let m = rest_behind a q in
    let n : length q ≡ length m.front + length f = ap length m.whole ∙ length-append m.front f in
    let k : length s ≡ length b.front + length (a ∷ q) = ap length b.whole ∙ length-append b.front (a ∷ q) in
    record {
      comments = b.front;
      own = a ∷ m.front;
      whole = b.whole ∙ ap (λ x. b.front ++ (a ∷ x)) (m.whole ∙ ap (λ x. m.front ++ x) same);
      before_it = rw z (omega arith);
      its_own = rw z (omega arith);
      some = omega arith;
    }

lies : (s : List ℕ) (t : TokenValue) (r : List ℕ) → next s ≡ token t r → Lies s r
unfolding next
lies s t r e = lies_at s (past_comments s) t r refl (left_behind in_comments 0 s) e

-- where no token is left, all is comments
end_at : (s p : List ℕ) → past_comments s ≡ p → next_at p ≡ end → length s ≡ before s
unfolding next_at before
end_at s [] z e = rw z (omega arith)
end_at s (a ∷ q) z e = absurd (no_end _ _ (sym e))

all_comments : (s : List ℕ) → next s ≡ end → length s ≡ before s
unfolding next
all_comments s e = end_at s (past_comments s) refl e

-- what is left behind a token is shorter
rest_shorter : (s r : List ℕ) → Lies s r → length r < length s
rest_shorter s r l =
    let e : length s ≡ length l.comments + (length l.own + length r) =
    ap length l.whole ∙ length-append l.comments _ ∙ ap (λ n. length l.comments + n) (length-append l.own r) in
    let k = l.some in
    omega arith

pub token_leaves_less : (s : List ℕ) (t : TokenValue) (r : List ℕ) → next s ≡ token t r → length r < length s
token_leaves_less s t r e = rest_shorter s r (lies s t r e)

-- so reading comes to an end
record Cuts (s : List ℕ) : Type 0 where
  pieces : List Piece
  last : List ℕ
  cut : Cut s pieces last

cut_within : (n : ℕ) (s : List ℕ) → length s < n → Cuts s
cut_within zero s l = absurd (omega arith)
cut_within (suc n) s l = go (next s) refl (λ r k. cut_within n r k)
  where
    go : (x : Next) → next s ≡ x → ((r : List ℕ) → length r < n → Cuts r) → Cuts s
    go end e f = record { pieces = []; last = s; cut = (e, refl, all_comments s e) }
    go (token t r) e f =
        let here = lies s t r e in
        let short = rest_shorter s r here in
        let more = f r (omega arith) in
        record {
          pieces = record { comments = here.comments; own = here.own; value = t } ∷ more.pieces;
          last = more.last;
          cut = (r, e, here.whole, here.before_it, here.its_own, more.cut);
        }

-- the pieces in order are the input
in_order : (s : List ℕ) (ps : List Piece) (l : List ℕ) → Cut s ps l → joined ps l ≡ s
in_order s [] l c = sym c.1
in_order s (p ∷ ps) l c = ap (λ x. p.comments ++ (p.own ++ x)) (in_order c.0 ps l c.5) ∙ sym c.2

joined_length : (ps : List Piece) (l : List ℕ) → length_of ps + length l ≡ length (joined ps l)
joined_length [] l = omega arith
joined_length (p ∷ ps) l =
    let n = joined_length ps l in
    let a = length-append p.comments (p.own ++ joined ps l) in
    let b = length-append p.own (joined ps l) in
    omega arith

each_takes_some : (s : List ℕ) (ps : List Piece) (l : List ℕ) → Cut s ps l → Each (λ (p : Piece). 0 < length p.own) ps
each_takes_some s [] l c = tt
each_takes_some s (p ∷ ps) l c =
    let here = lies s p.value c.0 c.1 in
    let some = here.some in
    let same = here.its_own in
    let own = c.4 in
    (omega arith, each_takes_some c.0 ps l c.5)

values_yielded : (s : List ℕ) (ps : List Piece) (l : List ℕ) → Cut s ps l → Yields s (map (λ (p : Piece). p.value) ps)
values_yielded s [] l c = c.0
values_yielded s (p ∷ ps) l c = (c.0, c.1, values_yielded c.0 ps l c.5)

-- there is one way to cut an input
same_fronts : (a b x y : List ℕ) → a ++ x ≡ b ++ y → length a ≡ length b → (a ≡ b) × (x ≡ y)
same_fronts [] [] x y e l = (refl, e)
same_fronts [] (d ∷ b) x y e l = absurd (omega arith)
same_fronts (c ∷ a) [] x y e l = absurd (omega arith)
same_fronts (c ∷ a) (d ∷ b) x y e l =
    let h : c ≡ d = cc in
    let t : a ++ x ≡ b ++ y = cc in
    let n = same_fronts a b x y t (omega arith) in
    ((λ i. h i ∷ n.0 i), n.1)

unique : (s : List ℕ) (ps : List Piece) (l : List ℕ) (qs : List Piece) (m : List ℕ) → Cut s ps l → Cut s qs m → (ps ≡ qs) × (l ≡ m)
unique s [] l [] m c d = (refl, sym c.1 ∙ d.1)
unique s [] l (q ∷ qs) m c d = absurd (no_end _ _ (sym c.0 ∙ d.1))
unique s (p ∷ ps) l [] m c d = absurd (no_end _ _ (sym d.0 ∙ c.1))
unique s (p ∷ ps) l (q ∷ qs) m c d =
    let e : token p.value c.0 ≡ token q.value d.0 = sym c.1 ∙ d.1 in
    let v : p.value ≡ q.value = cc in
    let r : c.0 ≡ d.0 = cc in
    let a = same_fronts p.comments q.comments _ _ (sym c.2 ∙ d.2) (c.3 ∙ sym d.3) in
    let b = same_fronts p.own q.own _ _ a.1 (c.4 ∙ sym d.4) in
    let n = unique d.0 ps l qs m (subst (λ x. Cut x ps l) r c.5) d.5 in
    ((λ i. record { comments = a.0 i; own = b.0 i; value = v i } ∷ n.0 i), n.1)

pub reading_takes_all_once : ReadingTakesAllOnce
reading_takes_all_once s =
    let c = cut_within (suc (length s)) s (omega arith) in
    let order = in_order s c.pieces c.last c.cut in
    record {
      pieces = c.pieces;
      last = c.last;
      cut = c.cut;
      unique = λ ps l d. unique s ps l c.pieces c.last d c.cut;
      in_order = order;
      add_up = joined_length c.pieces c.last ∙ ap length order;
      each_takes_some = each_takes_some s c.pieces c.last c.cut;
      tokens = values_yielded s c.pieces c.last c.cut;
      no_other_tokens = λ ts y. yields_once s ts _ y (values_yielded s c.pieces c.last c.cut);
    }

-- what is collected of a token that is not bad
found_text : (f : Found) (t : TokenValue) → token_of f ≡ t → is_bad t ≡ false → f.text ++ f.unit ≡ t.text ++ t.unit
unfolding token_of
found_text f t e h =
    let kind : is_bad_kind f.kind ≡ false = ap is_bad e ∙ h in
    let text : f.text ≡ t.text = sym (cond-false (is_bad_kind f.kind) [] f.text kind) ∙ ap (λ (x : TokenValue). x.text) e in
    let unit : f.unit ≡ t.unit = ap (λ (x : TokenValue). x.unit) e in
    λ i. text i ++ unit i

collects_at : (p : List ℕ) (t : TokenValue) (r : List ℕ) → next_at p ≡ token t r → is_bad t ≡ false → collected_at p ≡ t.text ++ t.unit
unfolding next_at
collects_at [] t r e h = absurd (no_end t r e)
collects_at (a ∷ q) t r e h = let same : token_of (found_at a q) ≡ t = cc in found_text (found_at a q) t same h

pub reading_collects_text_and_unit : ReadingCollectsTextAndUnit
unfolding next collected
reading_collects_text_and_unit s t r e h = collects_at (past_comments s) t r e h
