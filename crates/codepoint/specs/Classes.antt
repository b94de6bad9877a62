-- The classes of code points, by the standard's names, and the one number that stands for all classes of a code point.
use Rattle.std.specs.Prelude.{◌≡◌, ℕ, ◌+◌, ◌-◌, Bool, cond, not, ◌&&◌, ◌||◌, Some, None, Option, ◌==◌, nat_le}

-- a ≤ c ≤ b
abbrev pub within : ℕ → ℕ → ℕ → Bool
within a b c = nat_le a c && nat_le c b

unfoldable pub is_newline : ℕ → Bool
is_newline c = c == 10

-- newline, tab and space
unfoldable pub is_whitespace : ℕ → Bool
is_whitespace c = c == 10 || c == 9 || c == 32

unfoldable pub is_digit : ℕ → Bool
is_digit c = within 48 57 c

unfoldable pub is_hex_digit : ℕ → Bool
is_hex_digit c = within 48 57 c || within 97 102 c || within 65 70 c

unfoldable pub is_letter : ℕ → Bool
is_letter c = within 97 122 c || within 65 90 c

-- a letter, `_` or anything that is not ASCII
unfoldable pub is_ident_start : ℕ → Bool
is_ident_start c = is_letter c || c == 95 || nat_le 128 c

-- ident-start, a digit or `-`
unfoldable pub is_ident : ℕ → Bool
is_ident c = is_ident_start c || is_digit c || c == 45

unfoldable pub is_non_printable : ℕ → Bool
is_non_printable c = nat_le c 8 || c == 11 || within 14 31 c || c == 127

abbrev pub is_surrogate : ℕ → Bool
is_surrogate c = within 0xd800 0xdfff c

-- what UTF-8 can encode
unfoldable pub is_scalar_value : ℕ → Bool
is_scalar_value c = nat_le c 0x10ffff && not (is_surrogate c)

-- the value of a hex digit
unfoldable pub hex_value : ℕ → ℕ
hex_value c = cond (nat_le c 57) (c - 48) (cond (nat_le c 70) (c - 65 + 10) (c - 97 + 10))

unfoldable pub hex_value_if_any : ℕ → Option ℕ
hex_value_if_any c = cond (is_hex_digit c) (Some (hex_value c)) None

-- the signs that are tokens of a kind of their own, by that kind's number; 0 for any other code point
abbrev pub sign_number : ℕ → ℕ
sign_number c =
    cond (c == 58) 16 (cond (c == 59) 17 (cond (c == 44) 18 (cond (c == 91) 19 (cond (c == 93) 20 (cond (c == 40) 21 (cond (c == 41) 22 (cond (c == 123) 23 (cond (c == 125) 24 0))))))))

-- the class number: 1 newline, 2 tab and space, 3 `-`, 4 digits, 5 the letters that are hex digits, 6 the other letters,
-- 7 the other ident-start code points, 8 non-printable, 16 to 24 the signs, 0 all else
unfoldable pub class_number : ℕ → ℕ
class_number c =
    cond (nat_le 128 c) 7
    (cond (c == 10) 1
    (cond (c == 9 || c == 32) 2
    (cond (c == 45) 3
    (cond (within 48 57 c) 4
    (cond (within 97 102 c || within 65 70 c) 5
    (cond (within 97 122 c || within 65 90 c) 6
    (cond (c == 95) 7
    (cond (is_non_printable c) 8 (sign_number c)))))))))

-- r is the class number of c, and tells each class
pub record ClassNumber (c r : ℕ) : Type 0 where
  pub number : r ≡ class_number c
  pub newline : is_newline c ≡ (r == 1)
  pub whitespace : is_whitespace c ≡ within 1 2 r
  pub digit : is_digit c ≡ (r == 4)
  pub hex_digit : is_hex_digit c ≡ within 4 5 r
  pub letter : is_letter c ≡ within 5 6 r
  pub ident_start : is_ident_start c ≡ within 5 7 r
  pub ident : is_ident c ≡ within 3 7 r
  pub non_printable : is_non_printable c ≡ (r == 8)
