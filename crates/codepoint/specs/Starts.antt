-- What two or three code points begin. 0 is the end of the input: preprocessing leaves no U+0000.
use Rattle.std.specs.Prelude.{ℕ, Bool, not, ◌&&◌, ◌||◌, ◌==◌}
use Rattle.codepoint.specs.Classes.{is_digit, is_ident_start}

-- two are a valid escape: `\` and whatever is no newline, the end of the input too
unfoldable pub is_valid_escape : ℕ → ℕ → Bool
is_valid_escape a b = a == 92 && not (b == 10)

-- three start an identifier
unfoldable pub starts_ident : ℕ → ℕ → ℕ → Bool
starts_ident a b c = is_ident_start a || is_valid_escape a b || (a == 45 && (is_ident_start b || b == 45 || is_valid_escape b c))

-- three start a number
unfoldable pub starts_number : ℕ → ℕ → ℕ → Bool
starts_number a b c = is_digit a || (a == 46 && is_digit b) || ((a == 43 || a == 45) && (is_digit b || (b == 46 && is_digit c)))
