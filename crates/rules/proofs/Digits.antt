-- The parts of a number one after another.
use Rattle.std.proofs.Common.{◌≡◌, ℕ, zero, suc, ◌+◌, Bool, true, false, cond, List, [], ◌∷◌, get_or, drop, refl, ap, ◌∙◌, arith}
use Rattle.std.specs.List.{prefix_len}
use Rattle.codepoint.specs.Classes.{is_digit}
use Rattle.syntax.specs.Rules.{left, leaves}
use Rattle.syntax.specs.Rules.Step.{halt, give}
use Rattle.syntax.specs.Bodies.{while}
use Rattle.syntax.specs.Numbers.{sign_length, fraction_length, exponent_length, part, part_if_any, past_digits, with_fraction, number_at}

-- past the digits is past as many code points as are digits at the front
pub past_prefix : (s : List ℕ) → drop (prefix_len is_digit s) s ≡ past_digits s
unfolding left while
past_prefix [] = refl
past_prefix (c ∷ s) = by_first (is_digit c) (past_prefix s)
  where
    by_first : (b : Bool) → drop (prefix_len is_digit s) s ≡ past_digits s
        → drop (cond b (1 + prefix_len is_digit s) 0) (c ∷ s) ≡ leaves (elim b [ true ↦ give (c ∷ []) 0 | false ↦ halt ]) (c ∷ s) (λ k. left (while is_digit) k s)
    by_first true e = let one : 1 + prefix_len is_digit s ≡ suc (prefix_len is_digit s) = omega arith in rw one e
    by_first false e = refl

-- what is left does not depend on what was read before
any_text : (k : ℕ) (t u s : List ℕ) → (part_if_any k t s).1 ≡ (part_if_any k u s).1
any_text zero t u s = refl
any_text (suc k) t u s = refl

abbrev fraction : List ℕ → List ℕ
fraction w = (part_if_any (fraction_length (get_or w 0 0) (get_or w 1 0)) [] w).1

abbrev exponent : List ℕ → List ℕ
exponent f = (part_if_any (exponent_length (get_or f 0 0) (get_or f 1 0) (get_or f 2 0)) [] f).1

-- digits behind a sign, then a fraction, then an exponent
pub past_number : (s w f r : List ℕ) (a b d : ℕ)
    → a ≡ sign_length (get_or s 0 0) → w ≡ past_digits (drop a s)
    → b ≡ fraction_length (get_or w 0 0) (get_or w 1 0) → f ≡ (part_if_any b [] w).1
    → d ≡ exponent_length (get_or f 0 0) (get_or f 1 0) (get_or f 2 0) → r ≡ (part_if_any d [] f).1
    → r ≡ (number_at s).1
unfolding number_at
past_number s w f r a b d ea ew eb ef ed er =
    let whole = part (sign_length (get_or s 0 0)) [] s in
    let at-whole : w ≡ whole.1 = ew ∙ ap (λ k. past_digits (drop k s)) ea in
    let at-fraction : f ≡ (with_fraction whole).1 =
    ef ∙ ap (λ k. (part_if_any k [] w).1) eb ∙ ap fraction at-whole ∙ any_text (fraction_length (get_or whole.1 0 0) (get_or whole.1 1 0)) [] whole.0 whole.1 in
    let before = with_fraction whole in
    er ∙ ap (λ k. (part_if_any k [] f).1) ed ∙ ap exponent at-fraction
    ∙ any_text (exponent_length (get_or before.1 0 0) (get_or before.1 1 0) (get_or before.1 2 0)) [] before.0 before.1
