-- Numeric tokens read back.
use Rattle.std.proofs.Common.{◌≡◌, ℕ, ◌<◌, Bool, true, false, ◌&&◌, ◌||◌, eqb, List, [], ◌∷◌, ◌++◌, length, get_or, take, drop, refl, ap, ◌∙◌, append_assoc, append-nil, arith}
use Rattle.std.proofs.lemmas.Bool.Decides.{nat_tests}
use Rattle.std.proofs.lemmas.Bool.{and_left, cond_both, or_from, or_parts}
use Rattle.std.proofs.Math.Seq.{drop-append_seam, take-append_seam}
use Rattle.codepoint.specs.Classes.{is_digit, is_ident, is_ident_start, is_letter}
use Rattle.codepoint.specs.Starts.{is_valid_escape, starts_ident, starts_number}
use Rattle.syntax.specs.declared.kind.Kind.TheVariants.{Dimension, Number, Percentage}
use Rattle.syntax.specs.Tokens.{texted, tok}
use Rattle.syntax.specs.Escapes.{in_ident}
use Rattle.syntax.specs.Bodies.{while}
use Rattle.syntax.specs.Numbers.{digits, exponent_length, fraction_length, has_exponent, is_e, is_sign, number_at, part, part_if_any, past_digits, sign_length, with_exponent, with_fraction}
use Rattle.syntax.specs.Reading.{end_number, found_by, next, numeric_at, token_of, told}
use Rattle.syntax.specs.Reading.Next.{token}
use Rattle.syntax.specs.Places.{escaped_from, looks_like_exponent, spelled_in, treatment, unit_behind}
use Rattle.syntax.proofs.Formed.{Digits, Exponent, Fraction, Numeral, Sign, Text}
use Rattle.syntax.proofs.Formed.Sign.{signed, unsigned}
use Rattle.syntax.proofs.Formed.Fraction.{fractional, no_fraction}
use Rattle.syntax.proofs.Formed.Exponent.{bare_exponent, no_exponent, signed_exponent}
use Rattle.syntax.proofs.Formed.Numeral.{parts}
use Rattle.syntax.proofs.Takes.{Stops, Takes, stops_at, takes_all, takes_more, takes_none, takes_step}
use Rattle.syntax.proofs.Spelt.{inner, spelt_opens, unit_before, unit_spelt}
use Rattle.syntax.proofs.Openings.{Counts, NumberLike, Starts, number_opens, unit_opens}
use Rattle.syntax.proofs.Branches.{is_number_first, name_counts, name_starts, next_found, number_branch, number_first, told_apart}
use Rattle.syntax.proofs.Names.{Plain, plain_stops, unit_taken}

digits_take : (t : List ℕ) → Digits t → Takes (while is_digit) t t
unfolding while
digits_take [] h = takes_none (while is_digit)
digits_take (c ∷ t) h = takes_more (while is_digit) (takes_step (while is_digit) c [] (c ∷ []) (λ r. rw (h.0, while) refl)) (digits_take t h.1)

pub no_digit : (r : List ℕ) → is_digit (get_or r 0 0) ≡ false → Stops (while is_digit) r
unfolding while
no_digit [] h = stops_at (while is_digit) [] refl
no_digit (c ∷ r) h = stops_at (while is_digit) (c ∷ r) (rw (h, while) refl)

-- k code points w and digits d, before what begins with no digit
part_of : (t w d r : List ℕ) → Digits d → is_digit (get_or r 0 0) ≡ false → part (length w) t (w ++ (d ++ r)) ≡ (t ++ (w ++ d), r)
part_of t w d r h n =
    let b = takes_all (while is_digit) r (digits_take d h) (no_digit r n) in
    let td : take (length w) (w ++ (d ++ r)) ≡ w = take-append_seam w (d ++ r) in
    let dd : drop (length w) (w ++ (d ++ r)) ≡ d ++ r = drop-append_seam w (d ++ r) in
    λ i. (t ++ (td i ++ (ap digits dd ∙ b.0) i), (ap past_digits dd ∙ b.1) i)

-- what may follow a number that ends with the exponent e: no digit, no fraction, and no exponent unless there is one
record Ends (e r : List ℕ) : Type 0 where
  no_more : is_digit (get_or r 0 0) ≡ false
  no_part : fraction_length (get_or r 0 0) (get_or r 1 0) ≡ 0
  no_power : e ≡ [] → exponent_length (get_or r 0 0) (get_or r 1 0) (get_or r 2 0) ≡ 0

power_one : (a b c : ℕ) → (eqb a 101 || eqb a 69) ≡ true → is_digit b ≡ true → exponent_length a b c ≡ 1
unfolding exponent_length
power_one a b c p h = rw (p, h) refl

signs : (b : ℕ) → (eqb b 43 || eqb b 45) ≡ true → is_digit b ≡ false
unfolding is_digit
signs b q = grind (arith, nat_tests)

power_two : (a b c : ℕ) → (eqb a 101 || eqb a 69) ≡ true → (eqb b 43 || eqb b 45) ≡ true → is_digit c ≡ true → exponent_length a b c ≡ 2
unfolding exponent_length
power_two a b c p q h = rw (p, signs b q, q, h) refl

exponent_of : (t e r : List ℕ) → Exponent e → Ends e r → with_exponent (t, e ++ r) ≡ (t ++ e, r)
exponent_of t e r no_exponent k = rw (k.no_power refl, append-nil t) refl
exponent_of t e r (bare_exponent {a} {c} {d} p h l) k =
    ap (λ n. part_if_any n t (a ∷ c ∷ (d ++ r))) (power_one a c (get_or (d ++ r) 0 0) p h) ∙ part_of t (a ∷ []) (c ∷ d) r (h, l) k.no_more
exponent_of t e r (signed_exponent {a} {b} {c} {d} p q h l) k =
    ap (λ n. part_if_any n t (a ∷ b ∷ c ∷ (d ++ r))) (power_two a b c p q h) ∙ part_of t (a ∷ b ∷ []) (c ∷ d) r (h, l) k.no_more

-- what opens an exponent is no digit and no fraction
opens_power : (a b : ℕ) → (eqb a 101 || eqb a 69) ≡ true → (is_digit a ≡ false) × (fraction_length a b ≡ 0)
unfolding fraction_length is_digit
opens_power a b p = (grind (arith, nat_tests), rw no_dot refl)
  where
    no_dot : eqb a 46 ≡ false
    no_dot = grind (arith, nat_tests)

exponent_opens : (e r : List ℕ) → Exponent e → Ends e r → (is_digit (get_or (e ++ r) 0 0) ≡ false) × (fraction_length (get_or (e ++ r) 0 0) (get_or (e ++ r) 1 0) ≡ 0)
exponent_opens e r no_exponent k = (k.no_more, k.no_part)
exponent_opens e r (bare_exponent {a} {c} p h l) k = opens_power a c p
exponent_opens e r (signed_exponent {a} {b} p q h l) k = opens_power a b p

dot : (c : ℕ) → is_digit c ≡ true → fraction_length 46 c ≡ 1
unfolding fraction_length
dot c h = rw h refl

fraction_of : (t f s : List ℕ) → Fraction f → is_digit (get_or s 0 0) ≡ false → fraction_length (get_or s 0 0) (get_or s 1 0) ≡ 0 → with_fraction (t, f ++ s) ≡ (t ++ f, s)
fraction_of t f s no_fraction n k = rw (k, append-nil t) refl
fraction_of t f s (fractional {c} {d} h l) n k = ap (λ m. part_if_any m t (46 ∷ c ∷ (d ++ s))) (dot c h) ∙ part_of t (46 ∷ []) (c ∷ d) s (h, l) n

fraction_opens : (f s : List ℕ) → Fraction f → is_digit (get_or s 0 0) ≡ false → is_digit (get_or (f ++ s) 0 0) ≡ false
unfolding is_digit
fraction_opens f s no_fraction n = n
fraction_opens f s (fractional h l) n = refl

-- a sign, digits, a fraction and an exponent, before what may follow, are read as one number
number_parts : (g d f e r : List ℕ) → Digits d → Fraction f → Exponent e → Ends e r → sign_length (get_or (g ++ (d ++ (f ++ (e ++ r)))) 0 0) ≡ length g
    → number_at (g ++ (d ++ (f ++ (e ++ r)))) ≡ (((g ++ d) ++ f) ++ e, r)
unfolding number_at
number_parts g d f e r dd ff ee k s =
    let o = exponent_opens e r ee k in
    let one = ap (λ n. part n [] (g ++ (d ++ (f ++ (e ++ r))))) s ∙ part_of [] g d (f ++ (e ++ r)) dd (fraction_opens f (e ++ r) ff o.0) in
    ap (λ p. with_exponent (with_fraction p)) one ∙ ap with_exponent (fraction_of (g ++ d) f (e ++ r) ff o.0 o.1) ∙ exponent_of ((g ++ d) ++ f) e r ee k

digit_no_sign : (c : ℕ) → is_digit c ≡ true → sign_length c ≡ 0
unfolding sign_length is_digit
digit_no_sign c h = rw (told_apart is_digit c 43 h refl, told_apart is_digit c 45 h refl) refl

sign_of : (g d f s : List ℕ) → Sign g → Digits d → Fraction f → 0 < length (d ++ f) → sign_length (get_or (g ++ (d ++ (f ++ s))) 0 0) ≡ length g
unfolding sign_length
sign_of g [] f s unsigned dd no_fraction l = absurd (omega arith)
sign_of g [] f s unsigned dd (fractional h k) l = refl
sign_of g (c ∷ d) f s unsigned dd ff l = digit_no_sign c dd.0
sign_of g d f s (signed p) dd ff l = rw p refl

-- the text has an exponent only where that part has
no_e : (c : ℕ) → is_digit c ≡ true → is_e c ≡ false
unfolding is_digit
no_e c h = rw (told_apart is_digit c 101 h refl, told_apart is_digit c 69 h refl) refl

sign_no_e : (a : ℕ) → is_sign a ≡ true → is_e a ≡ false
sign_no_e a h = rw (told_apart is_sign a 101 h refl, told_apart is_sign a 69 h refl) refl

digits_no_e : (d s : List ℕ) → Digits d → has_exponent s ≡ false → has_exponent (d ++ s) ≡ false
digits_no_e [] s h k = k
digits_no_e (c ∷ d) s h k = or_from _ _ (no_e c h.0) (digits_no_e d s h.1 k)

fraction_no_e : (f : List ℕ) → Fraction f → has_exponent (f ++ []) ≡ false
fraction_no_e f no_fraction = refl
fraction_no_e f (fractional {c} {d} h k) = digits_no_e (c ∷ d) [] (h, k) refl

text_no_e : (g d f : List ℕ) → Sign g → Digits d → Fraction f → has_exponent (g ++ (d ++ (f ++ []))) ≡ false
text_no_e g d f unsigned dd ff = digits_no_e d (f ++ []) dd (fraction_no_e f ff)
text_no_e g d f (signed {a} p) dd ff = or_from _ _ (sign_no_e a p) (digits_no_e d (f ++ []) dd (fraction_no_e f ff))

-- what may follow the number t
pub record Follows (t r : List ℕ) : Type 0 where
  pub numberless : Counts false r
  pub powerless : has_exponent t ≡ false → exponent_length (get_or r 0 0) (get_or r 1 0) (get_or r 2 0) ≡ 0

pub number_at_lem : (t r : List ℕ) → Numeral t → Follows t r → number_at (t ++ r) ≡ (t, r)
unfolding starts_number fraction_length
number_at_lem t r (parts {g} d {f} {e} gg dd ff ee l) k =
    let p = or_parts _ _ k.numberless in
    let q = or_parts _ _ p.0 in
    let ends : Ends e r = record {
      no_more = q.0;
      no_part = rw q.1 refl;
      no_power = λ n. k.powerless (rw n (text_no_e g d f gg dd ff));
    } in
    simp append_assoc (number_parts g d f e r dd ff ee ends (sign_of g d f (e ++ r) gg dd ff l) ∙ ap {B = List ℕ × List ℕ} (λ t. (t, r)) (simp append_assoc))

-- numeric tokens
number_next : (s : List ℕ) → NumberLike s → next s ≡ told (numeric_at s)
unfolding found_by is_number_first is_digit
number_next [] h = elim h [ ]
number_next (a ∷ s) h = next_found a s (and_left _ _ (number_first h 47 refl)) ∙ ap (λ w. told (found_by w a s)) (number_branch h)

as_number : (t r : List ℕ) → Numeral t → Follows t r → next (t ++ r) ≡ told (end_number t r)
unfolding numeric_at
as_number t r n k = let b = number_at_lem t r n k in number_next _ (number_opens t r n) ∙ (λ i. told (end_number (b i).0 (b i).1))

-- an exponent begins an identifier
e_starts : (a : ℕ) → is_ident_start a ≡ false → is_e a ≡ false
unfolding is_ident_start is_letter
e_starts a h = grind (arith, nat_tests)

nameless_powerless : (r : List ℕ) → Starts false r → exponent_length (get_or r 0 0) (get_or r 1 0) (get_or r 2 0) ≡ 0
unfolding starts_ident exponent_length
nameless_powerless r h = rw (e_starts (get_or r 0 0) (or_parts _ _ (or_parts _ _ h).0).0) refl

pub number_reads : (t r : List ℕ) → Numeral t → Starts false r → Counts false r → eqb (get_or r 0 0) 37 ≡ false → next (t ++ r) ≡ token (texted Number t) r
unfolding end_number token_of
number_reads t r n a b c = as_number t r n (record { numberless = b; powerless = λ _. nameless_powerless r a }) ∙ rw (a, c, end_number) refl

pub percentage_reads : (t r : List ℕ) → Numeral t → next ((t ++ 37 ∷ []) ++ r) ≡ token (texted Percentage t) r
unfolding end_number token_of starts_ident starts_number exponent_length is_ident_start is_letter is_digit is_valid_escape
percentage_reads t r n = rw append_assoc (as_number t (37 ∷ r) n (record { numberless = refl; powerless = λ _. refl }))

-- a unit is never read as an exponent: what comes behind a first `e` is no digit, and no sign and digit
Tame : List ℕ → Type 0
Tame s = (is_digit (get_or s 0 0) ≡ false) × ((is_sign (get_or s 0 0) && is_digit (get_or s 1 0)) ≡ false)

and_less : (x y z : Bool) → (x && (y || z)) ≡ false → (x && y) ≡ false
and_less true y z h = (or_parts y z h).0
and_less false y z h = refl

tame_rest : (r : List ℕ) → Counts false r → Tame r
unfolding Tame starts_number
tame_rest r h =
    let p = or_parts _ _ h in
    ((or_parts _ _ p.0).0, and_less (is_sign (get_or r 0 0)) (is_digit (get_or r 1 0)) _ p.1)

Powerless : List ℕ → Type 0
Powerless s = exponent_length (get_or s 0 0) (get_or s 1 0) (get_or s 2 0) ≡ 0

module _ (n u r : List ℕ) (follows : Counts false r) where
  third_no_digit : (t : List ℕ) → is_digit (get_or t 0 0) ≡ false → is_digit (get_or (escaped_from (treatment (unit_behind n) u) 2 t ++ r) 0 0) ≡ false
  unfolding escaped_from is_digit Tame
  third_no_digit [] h = (tame_rest r follows).0
  third_no_digit (c ∷ t) h = rw append_assoc (spelt_opens (λ s. is_digit (get_or s 0 0) ≡ false) _ (λ _ _ _. refl) (λ _. h) (unit_spelt n u 2 c))

  second_tame : (t : List ℕ) → (is_digit (get_or t 0 0) || (eqb (get_or t 0 0) 45 && is_digit (get_or t 1 0))) ≡ false → Tame (escaped_from (treatment (unit_behind n) u) 1 t ++ r)
  unfolding escaped_from Tame is_ident is_ident_start is_letter is_digit
  second_tame [] h = tame_rest r follows
  second_tame (d ∷ t) h =
      let p = or_parts _ _ h in
      rw append_assoc
      (spelt_opens Tame _ (λ _ _ _. (refl, refl)) (λ k. (p.0, rw (told_apart is_ident d 43 k.kept.ident refl) (signed_next (eqb d 45) p.1))) (unit_spelt n u 1 d))
    where
      signed_next : (b : Bool) → (b && is_digit (get_or t 0 0)) ≡ false → (b && is_digit (get_or (escaped_from (treatment (unit_behind n) u) 2 t ++ r) 0 0)) ≡ false
      signed_next true x = third_no_digit t x
      signed_next false x = refl

unit_powerless : (n u r : List ℕ) → 0 < length u → has_exponent n ≡ false → Counts false r → Powerless (inner (unit_behind n) u ++ r)
unfolding Powerless Tame escaped_from exponent_length
unit_powerless n [] r l h c = absurd (omega arith)
unit_powerless n (a ∷ t) r l h c = rw append_assoc (spelt_opens Powerless _ (λ _ _ _. refl) (λ k. kept (rw h at k.no_exponent)) (unit_spelt n (a ∷ t) 0 a))
  where
    kept : looks_like_exponent (a ∷ t) ≡ false → Powerless (a ∷ (escaped_from (treatment (unit_behind n) (a ∷ t)) 1 t ++ r))
    kept x =
        cond_both (is_e a) _ _ (λ y. y ≡ 0)
        (λ e. let z = second_tame n (a ∷ t) r c t (rw e at x) in rw (z.0, z.1) refl)
        (λ _. refl)

pub dimension_reads : (t u r : List ℕ) → Numeral t → Text u → 0 < length u → Plain r → Counts false r
    → next ((t ++ spelled_in (unit_behind t) u) ++ r) ≡ token (tok Dimension 0 t u) r
unfolding end_number token_of Powerless
dimension_reads t u r n h l p c =
    let o = unit_opens t u r l in
    let b = takes_all in_ident r (unit_taken t u h) (plain_stops p) in
    rw (append_assoc, unit_before t u r)
    (as_number t _ n (record { numberless = name_counts o; powerless = λ e. unit_powerless t u r l e c })
    ∙ rw (name_starts o, end_number) (λ i. token (tok Dimension 0 t (b.0 i)) (b.1 i)))
