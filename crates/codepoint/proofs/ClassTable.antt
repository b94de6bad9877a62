-- Each class is told by the class number: below 128 by one computed comparison of two tables, from 128 on by the rule.
use Rattle.std.proofs.Common.{◌≡◌, ℕ, ◌≤◌, Bool, false, eqb, leb, map, get_or, sym, refl, ap, ◌∙◌, ⊎_elim, arith}
use Rattle.std.proofs.lemmas.List.FromFn.{get_or-map-range_with_len}
use Rattle.std.proofs.lemmas.Bool.{cases_lt, cond-true, le-leb}
use Rattle.std.proofs.lemmas.Bool.Decides.{nat_tests}
use Rattle.std.specs.List.{range_with_len}
use Rattle.codepoint.specs.Classes.{ClassNumber, class_number, is_digit, is_hex_digit, is_ident, is_ident_start, is_letter, is_newline, is_non_printable, is_whitespace, within}

-- past ASCII there is one class
pub beyond_ascii : (c : ℕ) → 128 ≤ c → class_number c ≡ 7
unfolding class_number
beyond_ascii c h = cond-true (leb 128 c) _ _ (le-leb 128 c h)

-- a test on code points is a test on class numbers, if both agree on the first 128 and on the class past them
module _ (test by_number : ℕ → Bool)
    (ascii : map test (range_with_len 0 128) ≡ map (λ c. by_number (class_number c)) (range_with_len 0 128))
    (beyond : (c : ℕ) → 128 ≤ c → test c ≡ by_number 7) where
  told_by_class : (c : ℕ) → test c ≡ by_number (class_number c)
  told_by_class c = ⊎_elim
      (λ h.
      sym (get_or-map-range_with_len test 0 128 c c false h (omega arith)) ∙ ap (λ bs. get_or bs c false) ascii
      ∙ get_or-map-range_with_len (λ i. by_number (class_number i)) 0 128 c c false h (omega arith))
      (λ h. beyond c h ∙ ap by_number (sym (beyond_ascii c h)))
      (cases_lt c 128)

newline_by_class : (c : ℕ) → is_newline c ≡ eqb (class_number c) 1
unfolding class_number is_newline is_non_printable
newline_by_class = told_by_class is_newline (λ k. eqb k 1) refl (λ c h. grind (arith, nat_tests))

whitespace_by_class : (c : ℕ) → is_whitespace c ≡ within 1 2 (class_number c)
unfolding class_number is_whitespace is_non_printable
whitespace_by_class = told_by_class is_whitespace (within 1 2) refl (λ c h. grind (arith, nat_tests))

digit_by_class : (c : ℕ) → is_digit c ≡ eqb (class_number c) 4
unfolding class_number is_digit is_non_printable
digit_by_class = told_by_class is_digit (λ k. eqb k 4) refl (λ c h. grind (arith, nat_tests))

hex_digit_by_class : (c : ℕ) → is_hex_digit c ≡ within 4 5 (class_number c)
unfolding class_number is_hex_digit is_non_printable
hex_digit_by_class = told_by_class is_hex_digit (within 4 5) refl (λ c h. grind (arith, nat_tests))

letter_by_class : (c : ℕ) → is_letter c ≡ within 5 6 (class_number c)
unfolding class_number is_letter is_non_printable
letter_by_class = told_by_class is_letter (within 5 6) refl (λ c h. grind (arith, nat_tests))

ident_start_by_class : (c : ℕ) → is_ident_start c ≡ within 5 7 (class_number c)
unfolding class_number is_ident_start is_letter is_non_printable
ident_start_by_class = told_by_class is_ident_start (within 5 7) refl (λ c h. grind (arith, nat_tests))

ident_by_class : (c : ℕ) → is_ident c ≡ within 3 7 (class_number c)
unfolding class_number is_ident is_ident_start is_letter is_digit is_non_printable
ident_by_class = told_by_class is_ident (within 3 7) refl (λ c h. grind (arith, nat_tests))

non_printable_by_class : (c : ℕ) → is_non_printable c ≡ eqb (class_number c) 8
unfolding class_number is_non_printable
non_printable_by_class = told_by_class is_non_printable (λ k. eqb k 8) refl (λ c h. grind (arith, nat_tests))

-- the class number tells them all
pub tells_each_class : (c r : ℕ) → r ≡ class_number c → ClassNumber c r
tells_each_class c r e = record {
  number = e;
  newline = newline_by_class c ∙ ap (λ k. eqb k 1) (sym e);
  whitespace = whitespace_by_class c ∙ ap (within 1 2) (sym e);
  digit = digit_by_class c ∙ ap (λ k. eqb k 4) (sym e);
  hex_digit = hex_digit_by_class c ∙ ap (within 4 5) (sym e);
  letter = letter_by_class c ∙ ap (within 5 6) (sym e);
  ident_start = ident_start_by_class c ∙ ap (within 5 7) (sym e);
  ident = ident_by_class c ∙ ap (within 3 7) (sym e);
  non_printable = non_printable_by_class c ∙ ap (λ k. eqb k 8) (sym e);
}
