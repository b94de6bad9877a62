-- How each place treats a code point, and what follows for a text spelled there.
use Rattle.std.proofs.Common.{◌≡◌, ℕ, ◌+◌, Bool, true, false, not, ◌&&◌, eqb, List, [], ◌∷◌, ◌++◌, length, codes, refl, ⊎_elim, append_assoc, arith}
use Rattle.std.proofs.lemmas.Bool.Decides.{nat_tests}
use Rattle.std.proofs.lemmas.Bool.{and_cases, and_parts, cond_both, eqb-true, not-false, not-true}
use Rattle.codepoint.specs.Classes.{is_digit, is_hex_digit, is_ident, is_ident_start, is_letter}
use Rattle.syntax.specs.declared.place.Treatment.{Treatment}
use Rattle.syntax.specs.declared.place.Treatment.TheVariants.{Backslash, Hex, Stay}
use Rattle.syntax.specs.Points.{is_one_of}
use Rattle.syntax.specs.Rules.{Step}
use Rattle.syntax.specs.Numbers.{has_exponent}
use Rattle.syntax.specs.Lawful.{is_text_point}
use Rattle.syntax.specs.Places.{Place, escaped, escaped_from, identifier, is_control, is_leading, looks_like_exponent, loose, quoted_string, spelled_in, treatment, unit_behind, url}
use Rattle.syntax.proofs.Formed.{Text}
use Rattle.syntax.proofs.Takes.{Takes, takes_more, takes_none}
use Rattle.syntax.proofs.Hexes.{Escaping, hex_opens, takes_backslash, takes_hex}

-- the treatment of a code point c: where it stays, K is known of it
pub data Spelt (K : Type 0) (c : ℕ) : Treatment → Type 0 where
  stays : is_control c ≡ false → K → Spelt K c Stay
  slashed : is_control c ≡ false → is_hex_digit c ≡ false → Spelt K c Backslash
  hexed : Spelt K c Hex

pub weaker : {K L : Type 0} {c : ℕ} {x : Treatment} → (K → L) → Spelt K c x → Spelt L c x
weaker f (stays n k) = stays n (f k)
weaker f (slashed n h) = slashed n h
weaker f hexed = hexed

no_newline : (c : ℕ) → is_control c ≡ false → c ≡ 10 → ⊥
unfolding is_control
no_newline c n e = grind (arith, nat_tests)

-- what opens as a backslash with no newline behind it, and as the code point where that stays, opens so in any case
pub spelt_opens : {K : Type 0} {c : ℕ} {x : Treatment} (P : List ℕ → Type 0) (u : List ℕ) → ((d : ℕ) (s : List ℕ) → (d ≡ 10 → ⊥) → P (92 ∷ d ∷ s))
    → (K → P (c ∷ u)) → Spelt K c x → P (escaped x c ++ u)
spelt_opens P u p q (stays n k) = q k
spelt_opens {K} {c} P u p q (slashed n h) = p c u (no_newline c n)
spelt_opens {K} {c} P u p q hexed = hex_opens P p c u

-- a rule with escapes takes each code point whole, if it takes those that stay
module _ (f : List ℕ → Step ℕ) (esc : Escaping f) where
  takes_spelt : {K : Type 0} {c : ℕ} {x : Treatment} → is_text_point c ≡ true → (is_control c ≡ false → K → Takes f (c ∷ []) (c ∷ [])) → Spelt K c x
      → Takes f (escaped x c) (c ∷ [])
  takes_spelt h keeps (stays n k) = keeps n k
  takes_spelt {K} {c} h keeps (slashed n k) = takes_backslash f esc c (no_newline c n) k
  takes_spelt {K} {c} h keeps hexed = takes_hex f esc c h

  -- so it takes a text whole
  module _ (K : ℕ → ℕ → Type 0) (how : ℕ → ℕ → Treatment) (spelt : (i c : ℕ) → Spelt (K i c) c (how i c))
      (keeps : (i c : ℕ) → is_text_point c ≡ true → is_control c ≡ false → K i c → Takes f (c ∷ []) (c ∷ [])) where
    pub takes_text : (i : ℕ) (t : List ℕ) → Text t → Takes f (escaped_from how i t) t
    unfolding escaped_from
    takes_text i [] h = takes_none f
    takes_text i (c ∷ t) h = takes_more f (takes_spelt h.0 (keeps i c h.0) (spelt i c)) (takes_text (i + 1) t h.1)

-- identifiers: no leading digit stays, and no `-` that is alone
pub record KeptIdent (text : List ℕ) (i c : ℕ) : Type 0 where
  pub ident : is_ident c ≡ true
  pub no_leading_digit : (is_digit c && is_leading text i) ≡ false
  pub no_lone_hyphen : (eqb c 45 && eqb (length text) 1) ≡ false

hex_is_ident : (c : ℕ) → is_ident c ≡ false → is_hex_digit c ≡ false
unfolding is_ident is_ident_start is_letter is_digit is_hex_digit
hex_is_ident c h = grind (arith, nat_tests)

no_hex_slashed : (c : ℕ) (b : Bool) → (is_ident c && not (eqb c 45 && b)) ≡ false → is_hex_digit c ≡ false
unfolding is_hex_digit
no_hex_slashed c b h =
    ⊎_elim (hex_is_ident c)
    (λ e. let p = and_parts (eqb c 45) b (not-false _ e) in rw (eqb-true c 45 p.0) refl)
    (and_cases (is_ident c) _ h)

ident_treats : (text : List ℕ) (i c : ℕ) → is_control c ≡ false → Spelt (KeptIdent text i c) c (identifier.treats text i c)
unfolding identifier
ident_treats text i c n =
    let P : Treatment → Type 0 = Spelt (KeptIdent text i c) c in
    cond_both (is_digit c && is_leading text i) _ _ P (λ _. hexed) (λ d.
    cond_both (is_ident c && not (eqb c 45 && eqb (length text) 1)) _ _ P
    (λ e. let p = and_parts (is_ident c) _ e in stays n (record { ident = p.0; no_leading_digit = d; no_lone_hyphen = not-true _ p.1 }))
    (λ e. slashed n (no_hex_slashed c _ e)))

pub ident_spelt : (text : List ℕ) (i c : ℕ) → Spelt (KeptIdent text i c) c (treatment identifier text i c)
unfolding treatment
ident_spelt text i c = cond_both (is_control c) _ _ (Spelt (KeptIdent text i c) c) (λ _. hexed) (ident_treats text i c)

-- units: nor does a first `e` that looks like an exponent
pub record KeptUnit (number text : List ℕ) (i c : ℕ) : Type 0 where
  pub kept : KeptIdent text i c
  pub no_exponent : (eqb i 0 && not (has_exponent number) && looks_like_exponent text) ≡ false

unit_treats : (number text : List ℕ) (i c : ℕ) → is_control c ≡ false → Spelt (KeptUnit number text i c) c ((unit_behind number).treats text i c)
unfolding unit_behind
unit_treats number text i c n =
    cond_both (eqb i 0 && not (has_exponent number) && looks_like_exponent text) _ _ (Spelt (KeptUnit number text i c) c) (λ _. hexed)
    (λ e. weaker (λ k. record { kept = k; no_exponent = e }) (ident_treats text i c n))

pub unit_spelt : (number text : List ℕ) (i c : ℕ) → Spelt (KeptUnit number text i c) c (treatment (unit_behind number) text i c)
unfolding treatment
unit_spelt number text i c = cond_both (is_control c) _ _ (Spelt (KeptUnit number text i c) c) (λ _. hexed) (unit_treats number text i c)

-- loose hashes
pub loose_spelt : (text : List ℕ) (i c : ℕ) → Spelt (is_ident c ≡ true) c (treatment loose text i c)
unfolding treatment loose
loose_spelt text i c =
    let P : Treatment → Type 0 = Spelt (is_ident c ≡ true) c in
    cond_both (is_control c) _ _ P (λ _. hexed) (λ n. cond_both (is_ident c) _ _ P (λ e. stays n e) (λ e. slashed n (hex_is_ident c e)))

-- strings and urls: what gets a backslash is no hex digit
quoted_no_hex : (c : ℕ) → is_one_of (codes "\"\\") c ≡ true → is_hex_digit c ≡ false
unfolding is_hex_digit
quoted_no_hex c h = grind (arith, nat_tests)

pub string_spelt : (text : List ℕ) (i c : ℕ) → Spelt (is_one_of (codes "\"\\") c ≡ false) c (treatment quoted_string text i c)
unfolding treatment quoted_string
string_spelt text i c =
    let P : Treatment → Type 0 = Spelt (is_one_of (codes "\"\\") c ≡ false) c in
    cond_both (is_control c) _ _ P (λ _. hexed) (λ n. cond_both (is_one_of (codes "\"\\") c) _ _ P (λ e. slashed n (quoted_no_hex c e)) (λ e. stays n e))

url_no_hex : (c : ℕ) → is_one_of (codes " \"'()\\") c ≡ true → is_hex_digit c ≡ false
unfolding is_hex_digit
url_no_hex c h = grind (arith, nat_tests)

pub url_spelt : (text : List ℕ) (i c : ℕ) → Spelt (is_one_of (codes " \"'()\\") c ≡ false) c (treatment url text i c)
unfolding treatment url
url_spelt text i c =
    let P : Treatment → Type 0 = Spelt (is_one_of (codes " \"'()\\") c ≡ false) c in
    cond_both (is_control c) _ _ P (λ _. hexed) (λ n. cond_both (is_one_of (codes " \"'()\\") c) _ _ P (λ e. slashed n (url_no_hex c e)) (λ e. stays n e))

-- what is spelled between the opening and the closing
abbrev pub inner : Place → List ℕ → List ℕ
inner p t = escaped_from (treatment p t) 0 t

pub spelled_before : (p : Place) (t r : List ℕ) → spelled_in p t ++ r ≡ p.opening ++ (inner p t ++ (p.closing ++ r))
unfolding spelled_in
spelled_before p t r = simp append_assoc

pub ident_before : (t r : List ℕ) → spelled_in identifier t ++ r ≡ inner identifier t ++ r
unfolding identifier
ident_before t r = spelled_before identifier t r

pub unit_before : (n t r : List ℕ) → spelled_in (unit_behind n) t ++ r ≡ inner (unit_behind n) t ++ r
unfolding unit_behind
unit_before n t r = spelled_before (unit_behind n) t r

pub loose_before : (t r : List ℕ) → spelled_in loose t ++ r ≡ inner loose t ++ r
unfolding loose
loose_before t r = spelled_before loose t r
