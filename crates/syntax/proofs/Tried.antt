-- What holds of each ASCII code point is shown by trying them all.
use Rattle.std.proofs.Common.{◌≡◌, ℕ, zero, suc, ◌<◌, Bool, true, false, not, ◌&&◌, ◌||◌, eqb, ltb, List, [], ◌∷◌, refl, ap, ◌∙◌, ⊎_elim, arith}
use Rattle.std.proofs.lemmas.Bool.{and_parts, both_ways, cases_order, eqb-true, ltb-true, or_cases}
use Rattle.syntax.specs.Points.{is_one_of}

unfoldable pub holds_below : ℕ → (ℕ → Bool) → Bool
holds_below zero p = true
holds_below (suc n) p = p n && holds_below n p

tried : (n : ℕ) (p : ℕ → Bool) → holds_below n p ≡ true → (a : ℕ) → a < n → p a ≡ true
unfolding holds_below
tried zero p h a l = absurd (omega arith)
tried (suc n) p h a l =
    let x = and_parts _ _ h in
    ⊎_elim (λ e. ap p e ∙ x.0) (⊎_elim (λ m. tried n p x.1 a m) (λ m. absurd (omega arith))) (cases_order a n)

-- a test that implies another, on code points below 128
abbrev pub implies : (ℕ → Bool) → (ℕ → Bool) → ℕ → Bool
implies p q a = not (p a) || q a

pub implied : (p q : ℕ → Bool) → holds_below 128 (implies p q) ≡ true → (a : ℕ) → a < 128 → p a ≡ true → q a ≡ true
implied p q h a l e = rw e at (tried 128 (implies p q) h a l)

abbrev all_below : ℕ → List ℕ → Bool
all_below n [] = true
all_below n (d ∷ ds) = ltb d n && all_below n ds

-- what is one of a list of such code points is such a code point
pub one_below : (n : ℕ) (ds : List ℕ) (c : ℕ) → all_below n ds ≡ true → is_one_of ds c ≡ true → c < n
one_below n [] c h k = absurd (both_ways false refl k)
one_below n (d ∷ ds) c h k =
    let p = and_parts (ltb d n) _ h in
    ⊎_elim (λ e. rw (eqb-true c d e) (ltb-true d n p.0)) (λ e. one_below n ds c p.1 e) (or_cases (eqb c d) _ k)
