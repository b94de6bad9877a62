-- How texts are spelled: one rule of escaping over the places where a text stands.
use Rattle.std.specs.Prelude.{ℕ, zero, suc, ◌+◌, ◌/◌, ◌%◌, Bool, cond, not, ◌&&◌, ◌||◌, List, [], ◌∷◌, ◌++◌, length, codes, ◌==◌, nat_lt, slice_index}
use Rattle.codepoint.specs.Classes.{within, is_ident, is_digit}
use Rattle.syntax.specs.declared.place.Treatment.{Treatment}
use Rattle.syntax.specs.declared.place.Treatment.TheVariants.{Stay, Backslash, Hex}
use Rattle.syntax.specs.Points.{space, hyphen, backslash, is_one_of}
use Rattle.syntax.specs.Numbers.{is_e, has_exponent}

unfoldable pub hex_digit : ℕ → ℕ
hex_digit d = cond (nat_lt d 10) (d + 48) (d + 87)

-- the hex digits of a number without leading zeros, at most d of them
unfoldable pub hex_digits : ℕ → ℕ → List ℕ
hex_digits zero v = []
hex_digits (suc d) v = cond (nat_lt v 16) (hex_digit v ∷ []) (hex_digits d (v / 16) ++ (hex_digit (v % 16) ∷ []))

-- a code point has at most six
unfoldable pub hex : ℕ → List ℕ
hex c = backslash ∷ (hex_digits 6 c ++ (space ∷ []))

-- how one code point goes out
abbrev pub escaped : Treatment → ℕ → List ℕ
escaped Stay c = c ∷ []
escaped Backslash c = backslash ∷ c ∷ []
escaped Hex c = hex c

-- a place: what opens and closes it, and how it treats the code point c at an index of a text, if c is no control
pub record Place : Type 0 where
  pub opening : List ℕ
  pub closing : List ℕ
  pub treats : List ℕ → ℕ → ℕ → Treatment

unfoldable pub is_control : ℕ → Bool
is_control c = within 0x01 0x1f c || c == 0x7f

-- in each place controls become hex
unfoldable pub treatment : Place → List ℕ → ℕ → ℕ → Treatment
treatment p text i c = cond (is_control c) Hex (p.treats text i c)

-- the code points from index i on, each by its treatment
unfoldable pub escaped_from : (ℕ → ℕ → Treatment) → ℕ → List ℕ → List ℕ
escaped_from how i [] = []
escaped_from how i (c ∷ t) = escaped (how i c) c ++ escaped_from how (i + 1) t

unfoldable pub spelled_in : Place → List ℕ → List ℕ
spelled_in p text = p.opening ++ (escaped_from (treatment p text) 0 text ++ p.closing)

-- an index that comes first, or second after `-`
abbrev pub is_leading : List ℕ → ℕ → Bool
is_leading text i = i == 0 || (i == 1 && slice_index text 0 == hyphen)

-- a leading digit becomes hex; a text that is only `-`, and whatever is no ident code point, gets a backslash
unfoldable pub identifier : Place
identifier = record {
  opening = [];
  closing = [];
  treats = λ text i c. cond (is_digit c && is_leading text i) Hex (cond (is_ident c && not (c == hyphen && length text == 1)) Stay Backslash);
}

-- the text of a hash that starts no identifier
unfoldable pub loose : Place
loose = record { opening = []; closing = []; treats = λ text i c. cond (is_ident c) Stay Backslash }

unfoldable pub quoted_string : Place
quoted_string = record {
  opening = codes "\"";
  closing = codes "\"";
  treats = λ text i c. cond (is_one_of (codes "\"\\") c) Backslash Stay;
}

unfoldable pub url : Place
url = record {
  opening = codes "url(";
  closing = codes ")";
  treats = λ text i c. cond (is_one_of (codes " \"'()\\") c) Backslash Stay;
}

-- what would be read as the exponent of the number before it
abbrev pub looks_like_exponent : List ℕ → Bool
looks_like_exponent unit = is_e (slice_index unit 0) && (is_digit (slice_index unit 1) || (slice_index unit 1 == hyphen && is_digit (slice_index unit 2)))

-- a unit stands as an identifier does; behind a number without exponent a first `e` that looks like one becomes hex
unfoldable pub unit_behind : List ℕ → Place
unit_behind number = record {
  opening = [];
  closing = [];
  treats = λ unit i c. cond (i == 0 && not (has_exponent number) && looks_like_exponent unit) Hex (identifier.treats unit i c);
}
