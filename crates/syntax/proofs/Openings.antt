-- How spelled names and numbers begin, whatever follows them.
use Rattle.std.proofs.Common.{◌≡◌, ℕ, ◌<◌, Bool, true, false, ◌||◌, eqb, List, [], ◌∷◌, ◌++◌, length, get_or, sym, refl, subst, append_assoc, arith, ◌∙◌}
use Rattle.std.proofs.lemmas.Bool.Decides.{nat_tests}
use Rattle.std.proofs.lemmas.Bool.{both_ways, eqb-true}
use Rattle.std.proofs.Math.Bool.{and-true}
use Rattle.codepoint.specs.Classes.{is_digit, is_ident, is_ident_start}
use Rattle.codepoint.specs.Starts.{is_valid_escape, starts_ident, starts_number}
use Rattle.syntax.specs.declared.place.Treatment.{Treatment}
use Rattle.syntax.specs.Numbers.{is_sign}
use Rattle.syntax.specs.Places.{escaped_from, identifier, treatment, unit_behind}
use Rattle.syntax.proofs.Formed.{Numeral}
use Rattle.syntax.proofs.Formed.Sign.{signed, unsigned}
use Rattle.syntax.proofs.Formed.Fraction.{fractional, no_fraction}
use Rattle.syntax.proofs.Formed.Numeral.{parts}
use Rattle.syntax.proofs.Spelt.{KeptIdent, Spelt, ident_spelt, inner, spelt_opens, unit_spelt, weaker}

-- what is asked of the first three code points
abbrev pub Starts : Bool → List ℕ → Type 0
Starts b s = starts_ident (get_or s 0 0) (get_or s 1 0) (get_or s 2 0) ≡ b

abbrev pub Counts : Bool → List ℕ → Type 0
Counts b s = starts_number (get_or s 0 0) (get_or s 1 0) (get_or s 2 0) ≡ b

pub escape_any : (c : ℕ) → (c ≡ 10 → ⊥) → is_valid_escape 92 c ≡ true
unfolding is_valid_escape
escape_any c h = grind (arith, nat_tests)

-- an ident code point that is neither a digit nor `-`
start_of : (c : ℕ) → is_ident c ≡ true → is_digit c ≡ false → eqb c 45 ≡ false → is_ident_start c ≡ true
unfolding is_ident
start_of c h d e = plainly (is_ident_start c) (rw (d, e) at h)
  where
    plainly : (b : Bool) → (b || false || false) ≡ true → b ≡ true
    plainly true h = refl
    plainly false h = h

-- a name begins in one of five ways
pub data NameLike : List ℕ → Type 0 where
  start : {c : ℕ} {s : List ℕ} → is_ident_start c ≡ true → NameLike (c ∷ s)
  escaped_start : {c : ℕ} {s : List ℕ} → (c ≡ 10 → ⊥) → NameLike (92 ∷ c ∷ s)
  dash_start : {c : ℕ} {s : List ℕ} → is_ident_start c ≡ true → NameLike (45 ∷ c ∷ s)
  dash_escape : {c : ℕ} {s : List ℕ} → (c ≡ 10 → ⊥) → NameLike (45 ∷ 92 ∷ c ∷ s)
  dashes : {s : List ℕ} → NameLike (45 ∷ 45 ∷ s)

module _ (how : ℕ → ℕ → Treatment) (r : List ℕ) where
  -- behind a `-`
  second_opens : (d : ℕ) (t : List ℕ) → ((i c : ℕ) → Spelt (KeptIdent (45 ∷ d ∷ t) i c) c (how i c)) → NameLike (45 ∷ (escaped_from how 1 (d ∷ t) ++ r))
  unfolding escaped_from
  second_opens d t spelt =
      rw append_assoc (spelt_opens (λ s. NameLike (45 ∷ s)) _ (λ _ _. dash_escape)
      (λ k. split (eqb d 45) refl (sym (and-true (is_digit d)) ∙ k.no_leading_digit) k.ident) (spelt 1 d))
    where
      split : {u : List ℕ} (b : Bool) → eqb d 45 ≡ b → is_digit d ≡ false → is_ident d ≡ true → NameLike (45 ∷ d ∷ u)
      split true e n i = rw (eqb-true d 45 e) dashes
      split false e n i = dash_start (start_of d i n e)

  first_opens : (c : ℕ) (t : List ℕ) → ((i d : ℕ) → Spelt (KeptIdent (c ∷ t) i d) d (how i d)) → (b : Bool) → eqb c 45 ≡ b → KeptIdent (c ∷ t) 0 c
      → NameLike (c ∷ (escaped_from how 1 t ++ r))
  first_opens c [] spelt true e k = absurd (both_ways true (rw e at k.no_lone_hyphen) refl)
  first_opens c (d ∷ t) spelt true e k =
      let z = eqb-true c 45 e in
      let second = second_opens d t (subst (λ x. (i c : ℕ) → Spelt (KeptIdent (x ∷ d ∷ t) i c) c (how i c)) z spelt) in
      subst (λ x. NameLike (x ∷ (escaped_from how 1 (d ∷ t) ++ r))) (sym z) second
  first_opens c t spelt false e k = start (start_of c k.ident (sym (and-true (is_digit c)) ∙ k.no_leading_digit) e)

  name_opens : (t : List ℕ) → ((i c : ℕ) → Spelt (KeptIdent t i c) c (how i c)) → 0 < length t → NameLike (escaped_from how 0 t ++ r)
  unfolding escaped_from
  name_opens [] spelt l = absurd (omega arith)
  name_opens (c ∷ t) spelt l = rw append_assoc (spelt_opens NameLike _ (λ _ _. escaped_start) (first_opens c t spelt (eqb c 45) refl) (spelt 0 c))

pub ident_opens : (t r : List ℕ) → 0 < length t → NameLike (inner identifier t ++ r)
ident_opens t r l = name_opens (treatment identifier t) r t (ident_spelt t) l

pub unit_opens : (n t r : List ℕ) → 0 < length t → NameLike (inner (unit_behind n) t ++ r)
unit_opens n t r l = name_opens (treatment (unit_behind n) t) r t (λ i c. weaker (λ k. k.kept) (unit_spelt n t i c)) l

-- a number begins in one of four ways
pub data NumberLike : List ℕ → Type 0 where
  digit_first : {c : ℕ} {s : List ℕ} → is_digit c ≡ true → NumberLike (c ∷ s)
  dot_digit : {c : ℕ} {s : List ℕ} → is_digit c ≡ true → NumberLike (46 ∷ c ∷ s)
  sign_digit : {a c : ℕ} {s : List ℕ} → is_sign a ≡ true → is_digit c ≡ true → NumberLike (a ∷ c ∷ s)
  sign_dot : {a c : ℕ} {s : List ℕ} → is_sign a ≡ true → is_digit c ≡ true → NumberLike (a ∷ 46 ∷ c ∷ s)

pub number_opens : (t r : List ℕ) → Numeral t → NumberLike (t ++ r)
number_opens t r (parts [] unsigned dd no_fraction ee l) = absurd (omega arith)
number_opens t r (parts [] unsigned dd (fractional h k) ee l) = dot_digit h
number_opens t r (parts (c ∷ d) unsigned dd ff ee l) = digit_first dd.0
number_opens t r (parts [] (signed p) dd no_fraction ee l) = absurd (omega arith)
number_opens t r (parts [] (signed p) dd (fractional h k) ee l) = sign_dot p h
number_opens t r (parts (c ∷ d) (signed p) dd ff ee l) = sign_digit p dd.0
