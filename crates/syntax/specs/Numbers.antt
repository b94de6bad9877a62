-- Numbers as they are spelled: a sign, digits, a fraction, an exponent.
use Rattle.std.specs.Prelude.{ℕ, zero, suc, Bool, false, cond, ◌&&◌, ◌||◌, List, [], ◌∷◌, ◌++◌, take, drop, ◌==◌, slice_index}
use Rattle.codepoint.specs.Classes.{is_digit}
use Rattle.syntax.specs.Points.{plus, hyphen, full_stop}
use Rattle.syntax.specs.Rules.{collect, beyond}
use Rattle.syntax.specs.Bodies.{while}

abbrev pub is_sign : ℕ → Bool
is_sign c = c == plus || c == hyphen

-- `e` or `E`
abbrev pub is_e : ℕ → Bool
is_e c = c == 101 || c == 69

abbrev pub digits : List ℕ → List ℕ
digits s = collect (while is_digit) s

abbrev pub past_digits : List ℕ → List ℕ
past_digits s = beyond (while is_digit) s

-- how many code points stand before the digits of each part; 0 where a fraction or an exponent is not there
unfoldable pub sign_length : ℕ → ℕ
sign_length a = cond (is_sign a) 1 0

unfoldable pub fraction_length : ℕ → ℕ → ℕ
fraction_length a b = cond (a == full_stop && is_digit b) 1 0

unfoldable pub exponent_length : ℕ → ℕ → ℕ → ℕ
exponent_length a b c = cond (is_e a) (cond (is_digit b) 1 (cond (is_sign b && is_digit c) 2 0)) 0

-- from what is read so far and what follows it: k code points more and the digits after them
abbrev pub part : ℕ → List ℕ → List ℕ → List ℕ × List ℕ
part k t s = (t ++ (take k s ++ digits (drop k s)), past_digits (drop k s))

-- the same, or nothing if k is 0
abbrev pub part_if_any : ℕ → List ℕ → List ℕ → List ℕ × List ℕ
part_if_any zero t s = (t, s)
part_if_any (suc k) t s = part (suc k) t s

abbrev pub with_fraction : List ℕ × List ℕ → List ℕ × List ℕ
with_fraction p = part_if_any (fraction_length (slice_index p.1 0) (slice_index p.1 1)) p.0 p.1

abbrev pub with_exponent : List ℕ × List ℕ → List ℕ × List ℕ
with_exponent p = part_if_any (exponent_length (slice_index p.1 0) (slice_index p.1 1) (slice_index p.1 2)) p.0 p.1

-- the spelling of the number at the front, and what follows it
unfoldable pub number_at : List ℕ → List ℕ × List ℕ
number_at s = with_exponent (with_fraction (part (sign_length (slice_index s 0)) [] s))

-- a number with an exponent
abbrev pub has_exponent : List ℕ → Bool
has_exponent [] = false
has_exponent (c ∷ t) = is_e c || has_exponent t
