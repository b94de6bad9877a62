-- Comments: the inside of one, and one after another.
use Rattle.std.proofs.Common.{◌≡◌, ℕ, zero, suc, ◌+◌, ◌-◌, Bool, true, false, ◌&&◌, ◌⊎◌, eqb, List, [], ◌∷◌, length, get_or, drop, sym, refl, ap, ◌∙◌, arith, length-drop}
use Rattle.std.proofs.Math.Seq.{drop-nil}
use Rattle.std.proofs.lemmas.Bool.Decides.{nat_tests}
use Rattle.syntax.specs.Rules.{out, left, gives, leaves, collect, beyond}
use Rattle.syntax.specs.Rules.Step.{halt, give}
use Rattle.syntax.specs.Bodies.{in_comment, in_comments}
use Rattle.lookahead.specs.declared.ahead.Peek.{Peek}
use Rattle.lookahead.specs.Ahead.{Ahead, Left, codes, past, peeked}
use Rattle.scan.proofs.States.{Gives, bump_twice, same, past_past, codes_past, length_codes, stop_left}
use Rattle.scan.proofs.Arms.{first_is, second_is}
use Rattle.scan.proofs.Turns.{Skipped, skip_turn, skip_done}

-- what is left of the inside of a comment stands behind as many as were collected
inside_left : (t : List ℕ) → beyond in_comment t ≡ drop (length (collect in_comment t)) t
unfolding out left in_comment
inside_left [] = refl
inside_left (c ∷ t) = by (eqb c 42 && eqb (get_or t 0 0) 47) (inside_left t)
  where
    by : (b : Bool) → beyond in_comment t ≡ drop (length (collect in_comment t)) t → leaves (elim b [ true ↦ halt | false ↦ give (c ∷ []) 0 ]) (c ∷ t) (λ k. left in_comment k t) ≡ drop (length (gives (elim b [ true ↦ halt | false ↦ give (c ∷ []) 0 ]) (λ k. out in_comment k t))) (c ∷ t)
    by true e = refl
    by false e = e

drop_same : {A : Type 0} (l : List A) (m n : ℕ) → length l - m ≡ length l - n → drop m l ≡ drop n l
drop_same [] m n h = drop-nil m ∙ sym (drop-nil n)
drop_same (c ∷ l) zero zero h = refl
drop_same (c ∷ l) zero (suc n) h = absurd (omega arith)
drop_same (c ∷ l) (suc m) zero h = absurd (omega arith)
drop_same (c ∷ l) (suc m) (suc n) h = drop_same l m n (omega arith)

-- how long the inside of a comment is
abbrev inside : List ℕ → ℕ
inside t = length (collect in_comment t)

inside_past : (s s' : Ahead) → Left s (beyond in_comment (codes s)) s' → s' ≡ past (inside (codes s)) s
inside_past s s' a =
    let n : length (codes s') ≡ length (codes s) - inside (codes s) = ap length (a.rest_is ∙ inside_left (codes s)) ∙ length-drop (inside (codes s)) (codes s) in
    let m : length s'.list ≡ length s.list - a.count = ap (λ x. length x.list) a.passed ∙ length-drop a.count s.list in
    let p = length_codes s.list in
    let q = length_codes s'.list in
    a.passed ∙ same _ _ (drop_same s.list a.count (inside (codes s)) (omega arith)) refl

-- past the inside and `*/`
pub comment_past : (s s1 s2 s3 : Ahead) → Left s (beyond in_comment (codes s)) s1 → s2 ≡ past 1 s1 → s3 ≡ past 1 s2 → s3 ≡ past (2 + inside (codes s)) s
comment_past s s1 s2 s3 a e2 e3 =
    e3 ∙ ap (past 1) e2 ∙ past_past 1 1 s1 ∙ ap (past 2) (inside_past s s1 a) ∙ past_past 2 (inside (codes s)) s ∙ ap (λ k. past k s) (let e : inside (codes s) + 2 ≡ 2 + inside (codes s) = omega arith in e)

-- comment after comment
opens : ℕ → ℕ → Bool
opens a b = eqb a 47 && eqb b 42

opened : (a b : ℕ) → a ≡ 47 → b ≡ 42 → opens a b ≡ true
unfolding opens
opened a b h k = grind (arith, nat_tests)

not_opened : (a b : ℕ) → (a ≡ 47 → ⊥) ⊎ ((a ≡ 47) × (b ≡ 42 → ⊥)) → opens a b ≡ false
unfolding opens
not_opened a b h = grind (arith, nat_tests)

comments_go : (t : List ℕ) → opens (get_or t 0 0) (get_or t 1 0) ≡ true → Gives in_comments t [] (3 + inside (drop 2 t))
unfolding in_comments opens
comments_go [] h = cc h
comments_go (c ∷ t) h = record { some = omega arith; says = rw (h, in_comments) refl }

comments_stop : (t : List ℕ) → opens (get_or t 0 0) (get_or t 1 0) ≡ false → in_comments t ≡ halt
unfolding in_comments opens
comments_stop [] h = refl
comments_stop (c ∷ t) h = rw (h, in_comments) refl

module _ (s0 s : Ahead) (w : Peek) (so : Skipped in_comments s0 s) (seen : w ≡ peeked s.list) where
  pub comments_turn : (s1 s2 s3 s' : Ahead) → w.first ≡ 47 → w.second ≡ 42 → s1 ≡ s → s2 ≡ past 1 s1 → s3 ≡ past 1 s2 → s' ≡ past (2 + inside (codes s3)) s3 → Skipped in_comments s0 s'
  comments_turn s1 s2 s3 s' a b e1 e2 e3 e =
      let g = comments_go (codes s) (opened _ _ (rw (first_is s.list w seen) at a) (rw (second_is s.list w seen) at b)) in
      let n = inside (drop 2 (codes s)) in
      let p : s3 ≡ past 2 s = bump_twice s s1 s2 s3 e1 e2 e3 in
      let d : codes s3 ≡ drop 2 (codes s) = ap codes p ∙ codes_past 2 s in
      let up : 2 + (2 + n) ≡ suc (3 + n) = omega arith in
      skip_turn in_comments s0 s so [] (3 + n) g s' (e ∙ ap (λ t. past (2 + inside t) s3) d ∙ ap (past (2 + n)) p ∙ past_past (2 + n) 2 s ∙ ap (λ k. past k s) up)

  pub comments_done : (sl : Ahead) → (w.first ≡ 47 → ⊥) ⊎ ((w.first ≡ 47) × (w.second ≡ 42 → ⊥)) → sl ≡ s → Left s0 (beyond in_comments (codes s0)) sl
  comments_done sl h e =
      skip_done in_comments s0 s so (stop_left in_comments (codes s) (comments_stop (codes s) (not_opened _ _ (rw (first_is s.list w seen, second_is s.list w seen) at h)))) sl e
