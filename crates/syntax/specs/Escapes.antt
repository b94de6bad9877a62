-- Escapes and identifiers. Past the end of a list stands 0, which is no code point after preprocessing.
use Rattle.std.specs.Prelude.{ℕ, zero, suc, ◌+◌, ◌*◌, true, false, cond, ◌||◌, List, [], ◌∷◌, ◌==◌, nat_lt, slice_index}
use Rattle.codepoint.specs.Classes.{is_ident, is_hex_digit, is_whitespace, hex_value, is_surrogate}
use Rattle.codepoint.specs.Starts.{is_valid_escape}
use Rattle.syntax.specs.Points.{replacement}
use Rattle.syntax.specs.Rules.{Step}
use Rattle.syntax.specs.Rules.Step.{halt, give}

-- what the number of an escape gives: U+FFFD for zero, a surrogate or more than U+10FFFF
unfoldable pub escape_value : ℕ → ℕ
escape_value v = cond (v == 0 || is_surrogate v || nat_lt 0x10ffff v) replacement v

-- at most d more hex digits of a number that is v so far, n code points in; then one whitespace, if there is one:
-- what the escape gives, and how many code points it takes
unfoldable pub hex_escape : ℕ → ℕ → ℕ → List ℕ → ℕ × ℕ
hex_escape d v n [] = (escape_value v, n)
hex_escape zero v n (c ∷ s) = (escape_value v, cond (is_whitespace c) (suc n) n)
hex_escape (suc d) v n (c ∷ s) =
    elim (is_hex_digit c) [
      | true ↦ hex_escape d (v * 16 + hex_value c) (suc n) s
      | false ↦ (escape_value v, cond (is_whitespace c) (suc n) n)
    ]

-- an escape, from behind its backslash: U+FFFD at the end, the number of one to six hex digits, or the code point itself
unfoldable pub escape : List ℕ → ℕ × ℕ
escape [] = (replacement, 0)
escape (c ∷ s) = elim (is_hex_digit c) [ true ↦ hex_escape 6 0 0 (c ∷ s) | false ↦ (c, 1) ]

abbrev pub gave : ℕ × ℕ → Step ℕ
gave e = give (e.0 ∷ []) e.1

-- an identifier takes ident code points and escapes while they come
unfoldable pub in_ident : List ℕ → Step ℕ
in_ident [] = halt
in_ident (c ∷ s) =
    elim (is_ident c) [ true ↦ give (c ∷ []) 0 | false ↦ elim (is_valid_escape c (slice_index s 0)) [ true ↦ gave (escape s) | false ↦ halt ] ]
