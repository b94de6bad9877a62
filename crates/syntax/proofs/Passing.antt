-- What is written passes preprocessing as it is.
use Rattle.std.proofs.Common.{◌≡◌, ℕ, zero, suc, ◌+◌, ◌/◌, ◌%◌, ◌<◌, Bool, true, false, cond, ltb, List, [], ◌∷◌, codes, refl, arith}
use Rattle.std.proofs.lemmas.Bool.Decides.{nat_tests}
use Rattle.std.proofs.lemmas.Bool.{cond_both, ltb-true}
use Rattle.codepoint.specs.Classes.{is_digit, is_ident, is_non_printable, is_scalar_value}
use Rattle.stream.specs.Preprocess.{AllPreprocessed, is_preprocessed}
use Rattle.syntax.specs.declared.kind.Kind.{Kind}
use Rattle.syntax.specs.declared.neighbour.Left.{Left}
use Rattle.syntax.specs.declared.place.Treatment.{Treatment}
use Rattle.syntax.specs.declared.waiting.Waiting.{Waiting}
use Rattle.syntax.specs.declared.waiting.Waiting.TheVariants.{AfterBackslash, AfterUrl, AfterUrlWhitespace, Free}
use Rattle.syntax.specs.Points.{is_one_of}
use Rattle.syntax.specs.Tokens.{TokenValue, bare}
use Rattle.syntax.specs.Numbers.{is_e, is_sign}
use Rattle.syntax.specs.Lawful.{is_delim_mark, is_text_point}
use Rattle.syntax.specs.Turn.{waiting_after}
use Rattle.syntax.specs.Places.{escaped, escaped_from, hex, hex_digit, hex_digits, identifier, is_control, loose, quoted_string, spelled_in, treatment, unit_behind, url}
use Rattle.syntax.specs.Spelling.{spelled}
use Rattle.syntax.specs.Neighbours.{apart, left_of, right_of}
use Rattle.syntax.specs.Written.{Each, added, comment, written, written_from}
use Rattle.syntax.proofs.Formed.{Digits, Exponent, Formed, Fraction, Mono, Numeral, Sign, Text}
use Rattle.syntax.proofs.Formed.Sign.{signed, unsigned}
use Rattle.syntax.proofs.Formed.Fraction.{fractional, no_fraction}
use Rattle.syntax.proofs.Formed.Exponent.{bare_exponent, no_exponent, signed_exponent}
use Rattle.syntax.proofs.Formed.Numeral.{parts}
use Rattle.syntax.proofs.Formed.Mono.{close_curly, close_round, close_square, colon, comma, open_curly, open_round, open_square, semicolon}
use Rattle.syntax.proofs.Spelt.{KeptIdent, KeptUnit, Spelt, ident_spelt, loose_spelt, string_spelt, unit_spelt, url_spelt}
use Rattle.syntax.proofs.Spelt.Spelt.{hexed, slashed, stays}
use Rattle.syntax.proofs.Tried.{holds_below, implied, implies}
use Rattle.syntax.proofs.Signs.{mark_small}
use Rattle.syntax.proofs.Inputs.{input_append}
use Rattle.syntax.proofs.Formed as formed

hex_input : (d : ℕ) → d < 16 → is_preprocessed (hex_digit d) ≡ true
unfolding is_preprocessed is_scalar_value hex_digit
hex_input d h = grind (arith, nat_tests)

digits_input : (k v : ℕ) → AllPreprocessed (hex_digits k v)
unfolding hex_digits
digits_input zero v = tt
digits_input (suc k) v =
    let n = digits_input k (v / 16) in
    cond_both (ltb v 16) _ _ AllPreprocessed
    (λ e. (hex_input v (ltb-true v 16 e), tt))
    (λ _. input_append _ _ n (hex_input (v % 16) (omega arith), tt))

hex_written : (c : ℕ) → AllPreprocessed (hex c)
unfolding hex is_preprocessed is_scalar_value
hex_written c = (refl, input_append _ _ (digits_input 6 c) (refl, tt))

plain_input : (c : ℕ) → is_text_point c ≡ true → is_control c ≡ false → is_preprocessed c ≡ true
unfolding is_preprocessed is_text_point is_scalar_value is_control
plain_input c h k = grind (arith, nat_tests)

backslash_input : is_preprocessed 92 ≡ true
unfolding is_preprocessed is_scalar_value
backslash_input = refl

escaped_input : {K : Type 0} {c : ℕ} {x : Treatment} → is_text_point c ≡ true → Spelt K c x → AllPreprocessed (escaped x c)
escaped_input {K} {c} h (stays n k) = (plain_input c h n, tt)
escaped_input {K} {c} h (slashed n k) = (backslash_input, (plain_input c h n, tt))
escaped_input {K} {c} h hexed = hex_written c

text_input : (K : ℕ → ℕ → Type 0) (how : ℕ → ℕ → Treatment) → ((i c : ℕ) → Spelt (K i c) c (how i c)) → (i : ℕ) (t : List ℕ) → Text t
    → AllPreprocessed (escaped_from how i t)
unfolding escaped_from
text_input K how spelt i [] h = tt
text_input K how spelt i (c ∷ t) h = input_append _ _ (escaped_input h.0 (spelt i c)) (text_input K how spelt (i + 1) t h.1)

ident_input : (t : List ℕ) → Text t → AllPreprocessed (spelled_in identifier t)
unfolding spelled_in identifier
ident_input t h = input_append _ _ (text_input (KeptIdent t) (treatment identifier t) (ident_spelt t) 0 t h) tt

unit_input : (n t : List ℕ) → Text t → AllPreprocessed (spelled_in (unit_behind n) t)
unfolding spelled_in unit_behind
unit_input n t h = input_append _ _ (text_input (KeptUnit n t) (treatment (unit_behind n) t) (unit_spelt n t) 0 t h) tt

loose_input : (t : List ℕ) → Text t → AllPreprocessed (spelled_in loose t)
unfolding spelled_in loose
loose_input t h = input_append _ _ (text_input (λ i c. is_ident c ≡ true) (treatment loose t) (loose_spelt t) 0 t h) tt

string_input : (t : List ℕ) → Text t → AllPreprocessed (spelled_in quoted_string t)
unfolding spelled_in quoted_string is_preprocessed is_scalar_value
string_input t h = (refl, input_append _ _ (text_input (λ i c. is_one_of (codes "\"\\") c ≡ false) (treatment quoted_string t) (string_spelt t) 0 t h) (refl, tt))

url_input : (t : List ℕ) → Text t → AllPreprocessed (spelled_in url t)
unfolding spelled_in url is_preprocessed is_scalar_value
url_input t h = (refl, (refl, (refl, (refl, input_append _ _ (text_input (λ i c. is_one_of (codes " \"'()\\") c ≡ false) (treatment url t) (url_spelt t) 0 t h) (refl, tt)))))

-- numbers
digit_input : (c : ℕ) → is_digit c ≡ true → is_preprocessed c ≡ true
unfolding is_preprocessed is_scalar_value is_digit
digit_input c h = grind (arith, nat_tests)

sign_input : (c : ℕ) → is_sign c ≡ true → is_preprocessed c ≡ true
unfolding is_preprocessed is_scalar_value
sign_input c h = grind (arith, nat_tests)

e_input : (c : ℕ) → is_e c ≡ true → is_preprocessed c ≡ true
unfolding is_preprocessed is_scalar_value
e_input c h = grind (arith, nat_tests)

all_digits_input : (d : List ℕ) → Digits d → AllPreprocessed d
all_digits_input [] h = tt
all_digits_input (c ∷ d) h = (digit_input c h.0, all_digits_input d h.1)

signs_input : (g : List ℕ) → Sign g → AllPreprocessed g
signs_input g unsigned = tt
signs_input g (signed {a} p) = (sign_input a p, tt)

fraction_input : (f : List ℕ) → Fraction f → AllPreprocessed f
unfolding is_preprocessed is_scalar_value
fraction_input f no_fraction = tt
fraction_input f (fractional {c} {d} h k) = (refl, (digit_input c h, all_digits_input d k))

exponent_input : (e : List ℕ) → Exponent e → AllPreprocessed e
exponent_input e no_exponent = tt
exponent_input e (bare_exponent {a} {c} {d} p h k) = (e_input a p, (digit_input c h, all_digits_input d k))
exponent_input e (signed_exponent {a} {b} {c} {d} p q h k) = (e_input a p, (sign_input b q, (digit_input c h, all_digits_input d k)))

number_input : (t : List ℕ) → Numeral t → AllPreprocessed t
number_input t (parts {g} d {f} {e} gg dd ff ee l) =
    input_append _ _ (signs_input g gg) (input_append _ _ (all_digits_input d dd) (input_append _ _ (fraction_input f ff) (exponent_input e ee)))

marks_input : holds_below 128 (implies is_delim_mark is_preprocessed) ≡ true
unfolding holds_below is_delim_mark is_non_printable is_preprocessed is_scalar_value
marks_input = refl

mark_input : (m : ℕ) → is_delim_mark m ≡ true → is_preprocessed m ≡ true
mark_input m h = implied is_delim_mark is_preprocessed marks_input m (mark_small m h) h

mono_input : {k : Kind} {c : ℕ} (w : Waiting) → Mono k c → AllPreprocessed (spelled w (bare k))
unfolding spelled is_preprocessed is_scalar_value
mono_input w colon = (refl, tt)
mono_input w semicolon = (refl, tt)
mono_input w comma = (refl, tt)
mono_input w open_square = (refl, tt)
mono_input w close_square = (refl, tt)
mono_input w open_round = (refl, tt)
mono_input w close_round = (refl, tt)
mono_input w open_curly = (refl, tt)
mono_input w close_curly = (refl, tt)

pub spelled_input : {p : TokenValue} (l : Formed p) (w : Waiting) → AllPreprocessed (spelled w p)
unfolding spelled is_preprocessed is_scalar_value
spelled_input (formed.Formed.ident {t} n) w = ident_input t n.0
spelled_input (formed.Formed.function {t} n) w = input_append _ _ (ident_input t n.0) (refl, tt)
spelled_input (formed.Formed.at_keyword {t} n) w = (refl, ident_input t n.0)
spelled_input (formed.Formed.hash {t} n) w = (refl, ident_input t n.0)
spelled_input (formed.Formed.loose_hash {t} n l) w = (refl, loose_input t n)
spelled_input (formed.Formed.string {t} n) w = string_input t n
spelled_input (formed.Formed.url {t} n) w = url_input t n
spelled_input (formed.Formed.delim {m} k) w = (mark_input m k, tt)
spelled_input (formed.Formed.number {t} n) w = number_input t n
spelled_input (formed.Formed.percentage {t} n) w = input_append _ _ (number_input t n) (refl, tt)
spelled_input (formed.Formed.dimension {t} {u} n k) w = input_append _ _ (number_input t n) (unit_input t u k.0)
spelled_input formed.Formed.white Free = (refl, tt)
spelled_input formed.Formed.white AfterBackslash = (refl, tt)
spelled_input formed.Formed.white AfterUrl = (refl, tt)
spelled_input formed.Formed.white AfterUrlWhitespace = (refl, tt)
spelled_input formed.Formed.cdo w = (refl, (refl, (refl, (refl, tt))))
spelled_input formed.Formed.cdc w = (refl, (refl, (refl, tt)))
spelled_input (formed.Formed.mono m) w = mono_input w m

comment_input : (b : Bool) → AllPreprocessed (cond b comment [])
unfolding is_preprocessed is_scalar_value
comment_input true = (refl, (refl, (refl, (refl, tt))))
comment_input false = tt

written_from_input : (l : Left) (w : Waiting) (ts : List TokenValue) → Each Formed ts → AllPreprocessed (written_from l w ts)
unfolding written_from added
written_from_input l w [] h = tt
written_from_input l w (t ∷ ts) h =
    input_append _ _ (input_append _ _ (comment_input (apart l (right_of t))) (spelled_input h.0 w)) (written_from_input (left_of t) (waiting_after w t) ts h.1)

pub written_input : (ts : List TokenValue) → Each Formed ts → AllPreprocessed (written ts)
unfolding written
written_input ts h = written_from_input Left.Other Free ts h
