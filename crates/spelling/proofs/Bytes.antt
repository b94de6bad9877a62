-- The bytes of code points, one after another.
use Rattle.std.proofs.Common.{◌≡◌, ℕ, ◌<◌, Bool, true, ◌&&◌, ltb, List, [], ◌∷◌, ◌++◌, sym, refl, ap, ◌∙◌, append_assoc, append-nil, arith}
use Rattle.std.proofs.lemmas.Bool.Decides.{nat_tests}
use Rattle.codepoint.specs.Classes.{is_scalar_value}
use Rattle.codepoint.specs.Utf8.{utf8, bytes_of}
use Rattle.codepoint.proofs.Encoding.{scalar_has_its_bytes, one_byte}

pub bytes_append : (s t : List ℕ) → bytes_of (s ++ t) ≡ bytes_of s ++ bytes_of t
unfolding bytes_of
bytes_append [] t = refl
bytes_append (c ∷ s) t = ap (λ l. utf8 c ++ l) (bytes_append s t) ∙ sym (append_assoc (utf8 c) (bytes_of s) (bytes_of t))

pub bytes_none : [] ≡ bytes_of []
unfolding bytes_of
bytes_none = refl

pub bytes_one : (c : ℕ) → utf8 c ≡ bytes_of (c ∷ [])
unfolding bytes_of
bytes_one c = sym (append-nil (utf8 c))

abbrev is_ascii : List ℕ → Bool
is_ascii [] = true
is_ascii (c ∷ s) = ltb c 0x80 && is_ascii s

ascii_scalar : (c : ℕ) → c < 0x80 → is_scalar_value c ≡ true
unfolding is_scalar_value
ascii_scalar c h = grind (arith, nat_tests)

ascii_one : (c : ℕ) → c < 0x80 → c ∷ [] ≡ utf8 c
ascii_one c h = sym (scalar_has_its_bytes c (ascii_scalar c h) ∙ one_byte c h)

-- ASCII text is its own bytes
pub bytes_ascii : (s : List ℕ) → is_ascii s ≡ true → s ≡ bytes_of s
unfolding bytes_of
bytes_ascii [] h = refl
bytes_ascii (c ∷ s) h =
    let first : c < 0x80 = grind (arith, nat_tests) in
    let rest : is_ascii s ≡ true = grind (arith, nat_tests) in
    ap (λ l. c ∷ l) (bytes_ascii s rest) ∙ ap (λ l. l ++ bytes_of s) (ascii_one c first)
