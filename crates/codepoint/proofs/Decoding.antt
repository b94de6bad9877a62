-- Which row of the table decodes bytes, by the first of them.
use Rattle.std.proofs.Common.{◌≡◌, ℕ, ◌+◌, ◌<◌, ◌≤◌, cond, ◌&&◌, leb, List, [], ◌∷◌, length, get_or, take, drop, sym, refl, ap, ◌∙◌, subst, arith, take_all}
use Rattle.std.proofs.lemmas.Bool.{cond_both}
use Rattle.std.proofs.lemmas.Bool.Decides.{nat_tests}
use Rattle.codepoint.specs.declared.utf8.Decoded.{Decoded}
use Rattle.codepoint.specs.declared.utf8.Decoded.TheVariants.{Empty, Point, IllFormed}
use Rattle.codepoint.specs.Classes.{within}
use Rattle.codepoint.specs.Utf8.{decoded, is_second, is_trailing, two_bytes, three_bytes, four_bytes}

-- the choice of `decoded`, with its rows left open
module _ {D : Type 0} (a : ℕ) (one two three four none : D) where
  abbrev chosen : D
  chosen = cond (leb a 0x7f) one (cond (within 0xc2 0xdf a) two (cond (within 0xe0 0xef a) three (cond (within 0xf0 0xf4 a) four none)))

  first_one : a ≤ 0x7f → chosen ≡ one
  first_one h = grind (arith, nat_tests)

  first_two : 0xc2 ≤ a → a ≤ 0xdf → chosen ≡ two
  first_two h k = grind (arith, nat_tests)

  first_three : 0xe0 ≤ a → a ≤ 0xef → chosen ≡ three
  first_three h k = grind (arith, nat_tests)

  first_four : 0xf0 ≤ a → a ≤ 0xf4 → chosen ≡ four
  first_four h k = grind (arith, nat_tests)

  first_none : 0x7f < a → (0xc2 ≤ a → 0xdf < a) → (0xe0 ≤ a → 0xef < a) → (0xf0 ≤ a → 0xf4 < a) → chosen ≡ none
  first_none h i j k = grind (arith, nat_tests)

module _ (a : ℕ) (r : List ℕ) where
  pub decodes_one : a ≤ 0x7f → decoded (a ∷ r) ≡ Point a 1
  unfolding decoded
  decodes_one h = first_one a _ _ _ _ _ h

  pub decodes_two : 0xc2 ≤ a → a ≤ 0xdf → decoded (a ∷ r) ≡ two_bytes a r
  unfolding decoded
  decodes_two h k = first_two a _ _ _ _ _ h k

  pub decodes_three : 0xe0 ≤ a → a ≤ 0xef → decoded (a ∷ r) ≡ three_bytes a r
  unfolding decoded
  decodes_three h k = first_three a _ _ _ _ _ h k

  pub decodes_four : 0xf0 ≤ a → a ≤ 0xf4 → decoded (a ∷ r) ≡ four_bytes a r
  unfolding decoded
  decodes_four h k = first_four a _ _ _ _ _ h k

  pub decodes_none : 0x7f < a → (0xc2 ≤ a → 0xdf < a) → (0xe0 ≤ a → 0xef < a) → (0xf0 ≤ a → 0xf4 < a) → decoded (a ∷ r) ≡ IllFormed
  unfolding decoded
  decodes_none h i j k = first_none a _ _ _ _ _ h i j k

-- where there is a byte, something is decoded or ill-formed
abbrev Filled : Decoded → Type 0
Filled Empty = ⊥
Filled (Point c n) = Unit {0}
Filled IllFormed = Unit {0}

filled_two : (a : ℕ) (r : List ℕ) → Filled (two_bytes a r)
filled_two a [] = tt
filled_two a (b ∷ r) = cond_both (is_trailing b) _ _ Filled (λ _. tt) (λ _. tt)

filled_three : (a : ℕ) (r : List ℕ) → Filled (three_bytes a r)
filled_three a [] = tt
filled_three a (b ∷ []) = tt
filled_three a (b ∷ c ∷ r) = cond_both (is_second a b && is_trailing c) _ _ Filled (λ _. tt) (λ _. tt)

filled_four : (a : ℕ) (r : List ℕ) → Filled (four_bytes a r)
filled_four a [] = tt
filled_four a (b ∷ []) = tt
filled_four a (b ∷ c ∷ []) = tt
filled_four a (b ∷ c ∷ d ∷ r) = cond_both (is_second a b && (is_trailing c && is_trailing d)) _ _ Filled (λ _. tt) (λ _. tt)

pub decoded_is_not_empty : (a : ℕ) (r : List ℕ) → decoded (a ∷ r) ≡ Empty → ⊥
unfolding decoded
decoded_is_not_empty a r e = subst Filled e
    (cond_both (leb a 0x7f) _ _ Filled (λ _. tt) (λ _.
    cond_both (within 0xc2 0xdf a) _ _ Filled (λ _. filled_two a r) (λ _.
    cond_both (within 0xe0 0xef a) _ _ Filled (λ _. filled_three a r) (λ _. cond_both (within 0xf0 0xf4 a) _ _ Filled (λ _. filled_four a r) (λ _. tt)))))

-- which row decodes a slice, by its first byte and what is left of it
pub slice_empty : (xs : List ℕ) → length xs < 1 → decoded xs ≡ Empty
unfolding decoded
slice_empty [] l = refl
slice_empty (a ∷ r) l = absurd (omega arith)

pub slice_one : (xs : List ℕ) → 0 < length xs → get_or xs 0 0 ≤ 0x7f → decoded xs ≡ Point (get_or xs 0 0) 1
slice_one [] l h = absurd (omega arith)
slice_one (a ∷ r) l h = decodes_one a r h

pub slice_none : (xs : List ℕ) → 0x7f < get_or xs 0 0 → (0xc2 ≤ get_or xs 0 0 → 0xdf < get_or xs 0 0) → (0xe0 ≤ get_or xs 0 0 → 0xef < get_or xs 0 0) → (0xf0 ≤ get_or xs 0 0 → 0xf4 < get_or xs 0 0) → decoded xs ≡ IllFormed
slice_none [] h i j k = absurd (omega arith)
slice_none (a ∷ r) h i j k = decodes_none a r h i j k

pub slice_two : (xs : List ℕ) (n : ℕ) → 0xc2 ≤ get_or xs 0 0 → get_or xs 0 0 ≤ 0xdf → length xs ≤ n + 1 → decoded xs ≡ two_bytes (get_or xs 0 0) (take n (drop 1 xs))
slice_two [] n h k l = absurd (omega arith)
slice_two (a ∷ r) n h k l = decodes_two a r h k ∙ ap (two_bytes a) (sym (take_all n r (omega arith)))

pub slice_three : (xs : List ℕ) (n : ℕ) → 0xe0 ≤ get_or xs 0 0 → get_or xs 0 0 ≤ 0xef → length xs ≤ n + 1 → decoded xs ≡ three_bytes (get_or xs 0 0) (take n (drop 1 xs))
slice_three [] n h k l = absurd (omega arith)
slice_three (a ∷ r) n h k l = decodes_three a r h k ∙ ap (three_bytes a) (sym (take_all n r (omega arith)))

pub slice_four : (xs : List ℕ) (n : ℕ) → 0xf0 ≤ get_or xs 0 0 → get_or xs 0 0 ≤ 0xf4 → length xs ≤ n + 1 → decoded xs ≡ four_bytes (get_or xs 0 0) (take n (drop 1 xs))
slice_four [] n h k l = absurd (omega arith)
slice_four (a ∷ r) n h k l = decodes_four a r h k ∙ ap (four_bytes a) (sym (take_all n r (omega arith)))
