-- What is read as a number is one.
use Rattle.std.proofs.Common.{◌≡◌, ℕ, ◌<◌, Bool, true, false, ◌&&◌, ◌||◌, eqb, List, [], ◌∷◌, ◌++◌, length, get_or, take, drop, sym, refl, ap, ◌∙◌, subst, ⊎_elim, append_assoc, append-nil, arith}
use Rattle.std.proofs.lemmas.Bool.Decides.{nat_tests}
use Rattle.std.proofs.lemmas.Bool.{and_parts, both_ways, cond_both, eqb-true, or_cases}
use Rattle.std.proofs.lemmas.List.{take-append-drop}
use Rattle.codepoint.specs.Classes.{is_digit}
use Rattle.codepoint.specs.Starts.{starts_number}
use Rattle.syntax.specs.Rules.{gives, leaves, left, out}
use Rattle.syntax.specs.Bodies.{while}
use Rattle.syntax.specs.Numbers.{digits, exponent_length, fraction_length, is_e, is_sign, number_at, part, part_if_any, past_digits, sign_length, with_exponent, with_fraction}
use Rattle.syntax.proofs.Formed.{Digits, Exponent, Fraction, Numeral, Sign}
use Rattle.syntax.proofs.Formed.Sign.{signed, unsigned}
use Rattle.syntax.proofs.Formed.Fraction.{fractional, no_fraction}
use Rattle.syntax.proofs.Formed.Exponent.{bare_exponent, no_exponent, signed_exponent}
use Rattle.syntax.proofs.Formed.Numeral.{parts}
use Rattle.syntax.proofs.Takes.{out_step}
use Rattle.syntax.proofs.Openings.{Counts}
use Rattle.syntax.proofs.Branches.{told_apart}
use Rattle.syntax.proofs.Numerics.{no_digit}
use Rattle.syntax.proofs.Inputs.{either}

digits_are : (s : List ℕ) → Digits (digits s)
unfolding out while
digits_are [] = tt
digits_are (c ∷ s) = let n = digits_are s in either (is_digit c) _ _ (λ x. Digits (gives x (λ k. out (while is_digit) k s))) (λ e. (e, n)) (λ _. tt)

digits_first : (c : ℕ) (s : List ℕ) → is_digit c ≡ true → digits (c ∷ s) ≡ c ∷ digits s
unfolding while
digits_first c s h = out_step (while is_digit) c s (c ∷ []) 0 (rw (h, while) refl)

not_none : {A : Type 0} → is_digit 0 ≡ true → A
unfolding is_digit
not_none h = absurd (both_ways false refl h)

digits_whole : (s : List ℕ) → digits s ++ past_digits s ≡ s
unfolding out left while
digits_whole [] = refl
digits_whole (c ∷ s) =
    let n = digits_whole s in
    either (is_digit c) _ _ (λ x. gives x (λ k. out (while is_digit) k s) ++ leaves x (c ∷ s) (λ k. left (while is_digit) k s) ≡ c ∷ s) (λ _. ap {B = List ℕ} (λ t. c ∷ t) n) (λ _. refl)

-- from the front of r one more part is put behind t
record Part (Ok : List ℕ → Type 0) (t r : List ℕ) (p : List ℕ × List ℕ) : Type 0 where
  more : List ℕ
  is : p.0 ≡ t ++ more
  ok : Ok more
  whole : more ++ p.1 ≡ r

-- a fraction, where there is one
dots : List ℕ → Bool
dots r = eqb (get_or r 0 0) 46 && is_digit (get_or r 1 0)

Fractional : List ℕ → List ℕ → Type 0
Fractional r f = Fraction f × (dots r ≡ true → 0 < length f)

dotted : (t r : List ℕ) → dots r ≡ true → Part (Fractional r) t r (part 1 t r)
unfolding dots Fractional
dotted t [] e = absurd (both_ways false refl e)
dotted t (a ∷ []) e = not_none (and_parts _ _ e).1
dotted t (a ∷ c ∷ s) e =
    let p = and_parts _ _ e in
    record {
      more = a ∷ digits (c ∷ s);
      is = refl;
      ok = (rw (eqb-true a 46 p.0, digits_first c s p.1) (fractional p.1 (digits_are s)), λ _. omega arith);
      whole = ap {B = List ℕ} (λ t. a ∷ t) (digits_whole (c ∷ s));
    }

fraction_found : (t r : List ℕ) → Part (Fractional r) t r (with_fraction (t, r))
unfolding fraction_length dots Fractional
fraction_found t r =
    cond_both (dots r) 1 0 (λ n. Part (Fractional r) t r (part_if_any n t r))
    (λ e. dotted t r e)
    (λ e. record { more = []; is = sym (append-nil t); ok = (no_fraction, λ x. absurd (both_ways _ e x)); whole = refl })

-- an exponent, where there is one
powered : (t r : List ℕ) → is_e (get_or r 0 0) ≡ true → is_digit (get_or r 1 0) ≡ true → Part Exponent t r (part 1 t r)
powered t [] e d = absurd (both_ways false refl e)
powered t (a ∷ []) e d = not_none d
powered t (a ∷ c ∷ s) e d = record {
  more = a ∷ digits (c ∷ s);
  is = refl;
  ok = rw (digits_first c s d) (bare_exponent e d (digits_are s));
  whole = ap {B = List ℕ} (λ t. a ∷ t) (digits_whole (c ∷ s));
}

power_signed : (t r : List ℕ) → is_e (get_or r 0 0) ≡ true → is_sign (get_or r 1 0) ≡ true → is_digit (get_or r 2 0) ≡ true → Part Exponent t r (part 2 t r)
power_signed t [] e g d = absurd (both_ways false refl e)
power_signed t (a ∷ []) e g d = absurd (both_ways false refl g)
power_signed t (a ∷ b ∷ []) e g d = not_none d
power_signed t (a ∷ b ∷ c ∷ s) e g d = record {
  more = a ∷ b ∷ digits (c ∷ s);
  is = refl;
  ok = rw (digits_first c s d) (signed_exponent e g d (digits_are s));
  whole = ap {B = List ℕ} (λ t. a ∷ b ∷ t) (digits_whole (c ∷ s));
}

exponent_found : (t r : List ℕ) → Part Exponent t r (with_exponent (t, r))
unfolding exponent_length
exponent_found t r =
    let P : ℕ → Type 0 = λ n. Part Exponent t r (part_if_any n t r) in
    let none : Part Exponent t r (t, r) = record { more = []; is = sym (append-nil t); ok = no_exponent; whole = refl } in
    cond_both (is_e (get_or r 0 0)) _ _ P
    (λ e. cond_both (is_digit (get_or r 1 0)) _ _ P (λ d. powered t r e d) (λ _.
    cond_both (is_sign (get_or r 1 0) && is_digit (get_or r 2 0)) _ _ P (λ x. let p = and_parts _ _ x in power_signed t r e p.0 p.1) (λ _. none)))
    (λ _. none)

-- the sign, and what comes behind it
Front : List ℕ → ℕ → Type 0
Front s n = Sign (take n s) × ((is_digit (get_or (drop n s) 0 0) || dots (drop n s)) ≡ true)

sign_found : (s : List ℕ) → Counts true s → Front s (sign_length (get_or s 0 0))
unfolding Front dots starts_number sign_length is_digit
sign_found s h =
    cond_both (is_sign (get_or s 0 0)) 1 0 (Front s)
    (λ e. signed_front s e h)
    (λ e. (unsigned, plain (rw e at h)))
  where
    plain : {b : Bool} → (b || false) ≡ true → b ≡ true
    plain h = ⊎_elim (λ x. x) (λ x. absurd (both_ways false refl x)) (or_cases _ _ h)

    signed_front : (s : List ℕ) → is_sign (get_or s 0 0) ≡ true → Counts true s → Front s 1
    signed_front [] e h = absurd (both_ways false refl e)
    signed_front (a ∷ s) e h = (signed e, rw (told_apart is_sign a 46 e refl, e, no_digit_sign a e) at h)
      where
        no_digit_sign : (a : ℕ) → is_sign a ≡ true → is_digit a ≡ false
        no_digit_sign a h = grind (arith, nat_tests)

-- digits stand before or behind the dot
some_digits : (s f : List ℕ) → (is_digit (get_or s 0 0) || dots s) ≡ true → (dots (past_digits s) ≡ true → 0 < length f) → 0 < length (digits s ++ f)
unfolding dots is_digit
some_digits s f h k = ⊎_elim (λ d. before s d) (λ d. behind d) (or_cases _ _ h)
  where
    before : (s : List ℕ) → is_digit (get_or s 0 0) ≡ true → 0 < length (digits s ++ f)
    before [] d = not_none d
    before (c ∷ s) d = rw (digits_first c s d) (omega arith)

    behind : dots s ≡ true → 0 < length (digits s ++ f)
    behind d =
        let z : get_or s 0 0 ≡ 46 = eqb-true (get_or s 0 0) 46 (and_parts _ _ d).0 in
        let n : is_digit (get_or s 0 0) ≡ false = ap is_digit z in
        let x = no_digit s n in
        rw x.0 (k (rw x.1 d))

joined : (g d f e s s1 r1 r2 r3 : List ℕ) → g ++ s1 ≡ s → d ++ r1 ≡ s1 → f ++ r2 ≡ r1 → e ++ r3 ≡ r2 → (g ++ (d ++ (f ++ e))) ++ r3 ≡ s
joined g d f e s s1 r1 r2 r3 a b c k = simp append_assoc (rw (k, c, b) a)

-- what is read as a number is one, and is cut off the front
pub number_found : (s : List ℕ) → Counts true s → Numeral (number_at s).0 × ((number_at s).0 ++ (number_at s).1 ≡ s)
unfolding number_at Front Fractional
number_found s c =
    let n = sign_length (get_or s 0 0) in
    let w = sign_found s c in
    let s1 = drop n s in
    let g = take n s in
    let d = digits s1 in
    let a = fraction_found (g ++ d) (past_digits s1) in
    let p = with_fraction (g ++ d, past_digits s1) in
    let b = exponent_found p.0 p.1 in
    let e : (number_at s).0 ≡ g ++ (d ++ (a.more ++ b.more)) = b.is ∙ ap (λ x. x ++ b.more) a.is ∙ simp append_assoc in (
      subst Numeral (sym e) (parts d w.0 (digits_are s1) a.ok.0 b.ok (some_digits s1 a.more w.1 a.ok.1)),
      ap (λ x. x ++ (number_at s).1) e ∙ joined g d a.more b.more s s1 (past_digits s1) p.1 (number_at s).1 (take-append-drop n s) (digits_whole s1) a.whole b.whole,
    )

pub number_some : (t : List ℕ) → Numeral t → 0 < length t
number_some t (parts [] unsigned dd no_fraction ee l) = absurd (omega arith)
number_some t (parts [] unsigned dd (fractional h k) ee l) = omega arith
number_some t (parts (c ∷ d) unsigned dd ff ee l) = omega arith
number_some t (parts d (signed p) dd ff ee l) = omega arith
