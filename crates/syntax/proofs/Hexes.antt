-- The hex digits of a code point, with a space behind them, read back as that code point.
use Rattle.std.proofs.Common.{◌≡◌, ℕ, zero, suc, ◌+◌, ◌-◌, ◌*◌, ◌/◌, ◌%◌, ◌<◌, ◌≤◌, true, false, eqb, ltb, List, [], ◌∷◌, ◌++◌, length, sym, refl, ap, ◌∙◌, subst, append_assoc, arith, length-append}
use Rattle.std.proofs.lemmas.Bool.Decides.{nat_tests}
use Rattle.std.proofs.lemmas.Bool.{cond_both, ltb-false, ltb-true}
use Rattle.codepoint.specs.Classes.{hex_value, is_hex_digit, is_scalar_value, is_whitespace}
use Rattle.syntax.specs.Rules.{Step}
use Rattle.syntax.specs.Rules.Step.{give}
use Rattle.syntax.specs.Escapes.{escape, escape_value, gave, hex_escape}
use Rattle.syntax.specs.Lawful.{is_text_point}
use Rattle.syntax.specs.Places.{hex, hex_digit, hex_digits}
use Rattle.syntax.specs.Laws.{HexHasNoLeadingZero, HexReadsBack}
use Rattle.syntax.proofs.Takes.{Takes, takes_step}
use Rattle.syntax.proofs.EscapeRules.{escape_hex, escape_plain, hex_more}

hex_digit_is_hex : (d : ℕ) → d < 16 → is_hex_digit (hex_digit d) ≡ true
unfolding is_hex_digit hex_digit
hex_digit_is_hex d h = grind (arith, nat_tests)

hex_digit_value : (d : ℕ) → d < 16 → hex_value (hex_digit d) ≡ d
unfolding hex_value hex_digit
hex_digit_value d h = grind (arith, nat_tests)

hex_digit_no_newline : (d : ℕ) → d < 16 → hex_digit d ≡ 10 → ⊥
unfolding hex_digit
hex_digit_no_newline d h = grind (arith, nat_tests)

-- digits begin with a digit, whatever number they are of
record BeginsHex (w : List ℕ) : Type 0 where
  digit : ℕ
  others : List ℕ
  small : digit < 16
  is : w ≡ hex_digit digit ∷ others

begins_more : {w : List ℕ} (u : List ℕ) → BeginsHex w → BeginsHex (w ++ u)
begins_more u b = record { digit = b.digit; others = b.others ++ u; small = b.small; is = ap (λ w. w ++ u) b.is }

digits_begin : (k v : ℕ) → BeginsHex (hex_digits (suc k) v)
unfolding hex_digits
digits_begin zero v =
    cond_both (ltb v 16) _ _ BeginsHex
    (λ e. record { digit = v; others = []; small = ltb-true v 16 e; is = refl })
    (λ _. record { digit = v % 16; others = []; small = omega arith; is = refl })
digits_begin (suc k) v =
    let b = digits_begin k (v / 16) in
    cond_both (ltb v 16) _ _ BeginsHex
    (λ e. record { digit = v; others = []; small = ltb-true v 16 e; is = refl })
    (λ _. begins_more _ b)

digits_few : (k v : ℕ) → length (hex_digits k v) ≤ k
unfolding hex_digits
digits_few zero v = omega arith
digits_few (suc k) v =
    let n = digits_few k (v / 16) in
    cond_both (ltb v 16) (hex_digit v ∷ []) (hex_digits k (v / 16) ++ (hex_digit (v % 16) ∷ [])) (λ w. length w ≤ suc k)
    (λ _. omega arith)
    (λ _. simp length-append (omega arith))

-- the numbers that k hex digits can spell
capacity : ℕ → ℕ
capacity zero = 1
capacity (suc k) = capacity k * 16

-- digits are read one by one, and make up the number
digits_read : (k d n v m p : ℕ) (s : List ℕ) → v < capacity k → m ≡ length (hex_digits k v) + d → p ≡ length (hex_digits k v) + n
    → hex_escape m 0 n (hex_digits k v ++ s) ≡ hex_escape d v p s
unfolding hex_digits capacity
digits_read zero d n v m p s l em ep =
    let a : m ≡ d = omega arith in
    let b : p ≡ n = omega arith in
    let c : v ≡ 0 = omega arith in
    rw (a, b, c) refl
digits_read (suc k) d n v m p s l em ep =
    cond_both (ltb v 16) (hex_digit v ∷ []) (hex_digits k (v / 16) ++ (hex_digit (v % 16) ∷ [])) (λ w. m ≡ length w + d → p ≡ length w + n → hex_escape m 0 n (w ++ s) ≡ hex_escape d v p s)
    (λ e em ep.
    let small = ltb-true v 16 e in
    let a : m ≡ suc d = omega arith in
    let b : suc n ≡ p = omega arith in
    let c : 0 * 16 + hex_value (hex_digit v) ≡ v = omega (arith, hex_digit_value v small) in
    ap (λ x. hex_escape x 0 n (hex_digit v ∷ s)) a ∙ hex_more _ s d 0 n (hex_digit_is_hex v small) ∙ (λ i. hex_escape d (c i) (b i) s))
    (λ e em ep.
    let w = hex_digits k (v / 16) in
    let small : v % 16 < 16 = omega arith in
    let more = ltb-false v 16 e in
    let sized : length (w ++ (hex_digit (v % 16) ∷ [])) ≡ length w + 1 = simp length-append in
    let a : m ≡ length w + suc d = omega arith in
    let b : suc (length w + n) ≡ p = omega arith in
    let c : v / 16 * 16 + hex_value (hex_digit (v % 16)) ≡ v = omega (arith, hex_digit_value (v % 16) small) in
    rw append_assoc
    (digits_read k (suc d) n (v / 16) m (length w + n) (hex_digit (v % 16) ∷ s) (omega arith) a refl
    ∙ hex_more _ s d (v / 16) _ (hex_digit_is_hex (v % 16) small) ∙ (λ i. hex_escape d (c i) (b i) s)))
    em ep

-- the space behind them belongs to the escape
spaced : (d v n : ℕ) (r : List ℕ) → hex_escape d v n (32 ∷ r) ≡ (escape_value v, suc n)
unfolding hex_escape is_hex_digit is_whitespace
spaced zero v n r = refl
spaced (suc d) v n r = refl

text_point_value : (c : ℕ) → is_text_point c ≡ true → (escape_value c ≡ c) × (c ≤ 0x10ffff)
unfolding is_text_point is_scalar_value escape_value
text_point_value c h = (grind (arith, nat_tests), grind (arith, nat_tests))

pub hex_reads_back : HexReadsBack
unfolding capacity
hex_reads_back c r h =
    let w = hex_digits 6 c in
    let b = digits_begin 5 c in
    let few = digits_few 6 c in
    let v = text_point_value c h in
    let first : escape (w ++ (32 ∷ r)) ≡ hex_escape 6 0 0 (w ++ (32 ∷ r)) =
    subst (λ x. escape (x ++ (32 ∷ r)) ≡ hex_escape 6 0 0 (x ++ (32 ∷ r))) (sym b.is) (escape_hex _ _ (hex_digit_is_hex b.digit b.small)) in
    let count : suc (length w + 0) ≡ length w + 1 = omega arith in
    first ∙ digits_read 6 (6 - length w) 0 c 6 (length w + 0) (32 ∷ r) (omega arith) (omega arith) refl ∙ spaced _ c _ r ∙ (λ i. (v.0 i, count i))

-- a number other than 0 begins with a digit other than 0
begins_with_some : (k v : ℕ) → 0 < v → v < capacity k → (d : ℕ) × (u : List ℕ) × (0 < d) × (d < 16) × (hex_digits k v ≡ hex_digit d ∷ u)
unfolding hex_digits capacity
begins_with_some zero v p l = absurd (omega arith)
begins_with_some (suc k) v p l =
    cond_both (ltb v 16) _ _ (λ w. (d : ℕ) × (u : List ℕ) × (0 < d) × (d < 16) × (w ≡ hex_digit d ∷ u))
    (λ e. (v, [], p, ltb-true v 16 e, refl))
    (λ e.
    let more = ltb-false v 16 e in
    let b = begins_with_some k (v / 16) (omega arith) (omega arith) in
    (b.0, b.1 ++ (hex_digit (v % 16) ∷ []), b.2, b.3, ap (λ w. w ++ (hex_digit (v % 16) ∷ [])) b.4))

no_zero : (d : ℕ) → 0 < d → d < 16 → eqb (hex_digit d) 48 ≡ false
unfolding hex_digit
no_zero d p l = grind (arith, nat_tests)

text_point_positive : (c : ℕ) → is_text_point c ≡ true → 0 < c
unfolding is_text_point
text_point_positive c h = grind (arith, nat_tests)

pub hex_has_no_leading_zero : HexHasNoLeadingZero
unfolding capacity
hex_has_no_leading_zero c h =
    let v = text_point_value c h in
    let b = begins_with_some 6 c (text_point_positive c h) (omega arith) in
    rw b.4 (no_zero b.0 b.2 b.3)

-- a rule that has escapes: behind a backslash, with no newline next, it takes an escape
abbrev pub Escaping : (List ℕ → Step ℕ) → Type 0
Escaping f = (c : ℕ) (s : List ℕ) → (c ≡ 10 → ⊥) → f (92 ∷ c ∷ s) ≡ gave (escape (c ∷ s))

module _ (f : List ℕ → Step ℕ) (esc : Escaping f) where
  escaping_hex : (w u : List ℕ) → BeginsHex w → f (92 ∷ (w ++ u)) ≡ gave (escape (w ++ u))
  escaping_hex w u b = rw b.is (esc _ _ (hex_digit_no_newline b.digit b.small))

  -- so it takes the hex of a code point whole
  pub takes_hex : (c : ℕ) → is_text_point c ≡ true → Takes f (hex c) (c ∷ [])
  unfolding hex
  takes_hex c h =
      let w = hex_digits 6 c in
      let sized : length w + 1 ≡ length (w ++ (32 ∷ [])) = simp length-append in
      takes_step f 92 _ _ (λ r. rw append_assoc (escaping_hex w _ (digits_begin 5 c) ∙ ap gave (hex_reads_back c r h) ∙ ap (give (c ∷ [])) sized))

  -- and a backslash with what is neither a hex digit nor a newline
  pub takes_backslash : (c : ℕ) → (c ≡ 10 → ⊥) → is_hex_digit c ≡ false → Takes f (92 ∷ c ∷ []) (c ∷ [])
  takes_backslash c h k = takes_step f 92 _ _ (λ r. esc _ _ h ∙ ap gave (escape_plain c r k))

-- a hex opens as a backslash with no newline behind it
pub hex_opens : (P : List ℕ → Type 0) → ((c : ℕ) (s : List ℕ) → (c ≡ 10 → ⊥) → P (92 ∷ c ∷ s)) → (c : ℕ) (u : List ℕ) → P (hex c ++ u)
unfolding hex
hex_opens P p c u =
    let b = digits_begin 5 c in
    rw append_assoc (rw b.is (p _ _ (hex_digit_no_newline b.digit b.small)))
