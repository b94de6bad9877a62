-- UTF-8: the bytes of code points, and the code points of bytes.
use Rattle.std.specs.Prelude.{◌≡◌, ℕ, zero, suc, ◌+◌, ◌-◌, ◌*◌, ◌/◌, ◌%◌, Bool, true, cond, ◌&&◌, List, [], ◌∷◌, ◌++◌, length, Some, None, Option, ◌==◌, nat_le, nat_lt}
use Rattle.codepoint.specs.declared.utf8.Decoded.{Decoded}
use Rattle.codepoint.specs.declared.utf8.Decoded.TheVariants.{Empty, Point, IllFormed}
use Rattle.codepoint.specs.Classes.{within, is_scalar_value}

-- a trailing byte carries six bits
abbrev pub trail : ℕ → ℕ
trail x = 0x80 + x % 64

-- the bytes of a scalar value
unfoldable pub scalar_bytes : ℕ → List ℕ
scalar_bytes c =
    cond (nat_lt c 0x80) (c ∷ [])
    (cond (nat_lt c 0x800) ((0xc0 + c / 64) ∷ trail c ∷ [])
    (cond (nat_lt c 0x10000) ((0xe0 + c / 64 / 64) ∷ trail (c / 64) ∷ trail c ∷ [])
    ((0xf0 + c / 64 / 64 / 64) ∷ trail (c / 64 / 64) ∷ trail (c / 64) ∷ trail c ∷ [])))

-- the bytes of a code point; what is no scalar value has those of U+FFFD
unfoldable pub utf8 : ℕ → List ℕ
utf8 c = scalar_bytes (cond (is_scalar_value c) c 0xfffd)

unfoldable pub bytes_of : List ℕ → List ℕ
bytes_of [] = []
bytes_of (c ∷ s) = utf8 c ++ bytes_of s

-- The table of well-formed sequences, by their first byte:
--   00–7F alone; C2–DF with one trailing byte, E0–EF with two, F0–F4 with three.
-- A trailing byte is 80–BF; right after E0 it is A0–BF, after ED 80–9F, after F0 90–BF, after F4 80–8F.
abbrev pub is_trailing : ℕ → Bool
is_trailing b = within 0x80 0xbf b

abbrev pub lowest_after : ℕ → ℕ
lowest_after a = cond (a == 0xe0) 0xa0 (cond (a == 0xf0) 0x90 0x80)

abbrev pub highest_after : ℕ → ℕ
highest_after a = cond (a == 0xed) 0x9f (cond (a == 0xf4) 0x8f 0xbf)

abbrev pub is_second : ℕ → ℕ → Bool
is_second a b = within (lowest_after a) (highest_after a) b

-- the number of a first byte's bits and six more
abbrev pub joined : ℕ → ℕ → ℕ
joined v b = v * 64 + (b - 0x80)

abbrev pub two_bytes : ℕ → List ℕ → Decoded
two_bytes a [] = IllFormed
two_bytes a (b ∷ r) = cond (is_trailing b) (Point (joined (a - 0xc0) b) 2) IllFormed

abbrev pub three_bytes : ℕ → List ℕ → Decoded
three_bytes a [] = IllFormed
three_bytes a (b ∷ []) = IllFormed
three_bytes a (b ∷ c ∷ r) = cond (is_second a b && is_trailing c) (Point (joined (joined (a - 0xe0) b) c) 3) IllFormed

abbrev pub four_bytes : ℕ → List ℕ → Decoded
four_bytes a [] = IllFormed
four_bytes a (b ∷ []) = IllFormed
four_bytes a (b ∷ c ∷ []) = IllFormed
four_bytes a (b ∷ c ∷ d ∷ r) =
    cond (is_second a b && (is_trailing c && is_trailing d)) (Point (joined (joined (joined (a - 0xf0) b) c) d) 4) IllFormed

-- the code point that bytes begin with, and how many bytes it has
unfoldable pub decoded : List ℕ → Decoded
decoded [] = Empty
decoded (a ∷ r) =
    cond (nat_le a 0x7f) (Point a 1)
    (cond (within 0xc2 0xdf a) (two_bytes a r)
    (cond (within 0xe0 0xef a) (three_bytes a r)
    (cond (within 0xf0 0xf4 a) (four_bytes a r) IllFormed)))

-- what a first code point of n bytes at offset `at` goes on with
abbrev pub point_then : ℕ → Decoded → (ℕ → List (ℕ × ℕ)) → List (ℕ × ℕ)
point_then at Empty next = []
point_then at (Point c n) next = (c, at) ∷ next (n - 1)
point_then at IllFormed next = []

-- the code points of bytes, each with its offset, up to the first ill-formed sequence;
-- `skip` bytes still belong to the code point before, and the bytes begin at offset `at`
unfoldable pub points_from : ℕ → ℕ → List ℕ → List (ℕ × ℕ)
points_from skip at [] = []
points_from (suc skip) at (b ∷ bs) = points_from skip (at + 1) bs
points_from zero at (b ∷ bs) = point_then at (decoded (b ∷ bs)) (λ skip. points_from skip (at + 1) bs)

abbrev pub ill_formed_then : ℕ → Decoded → (ℕ → Option ℕ) → Option ℕ
ill_formed_then at Empty next = None
ill_formed_then at (Point c n) next = next (n - 1)
ill_formed_then at IllFormed next = Some at

-- where the first ill-formed sequence begins, if there is one
unfoldable pub ill_formed_from : ℕ → ℕ → List ℕ → Option ℕ
ill_formed_from skip at [] = None
ill_formed_from (suc skip) at (b ∷ bs) = ill_formed_from skip (at + 1) bs
ill_formed_from zero at (b ∷ bs) = ill_formed_then at (decoded (b ∷ bs)) (λ skip. ill_formed_from skip (at + 1) bs)

abbrev pub code_points_of : List (ℕ × ℕ) → List ℕ
code_points_of [] = []
code_points_of (p ∷ ps) = p.0 ∷ code_points_of ps

abbrev pub AllScalar : List ℕ → Type 0
AllScalar [] = Unit {0}
AllScalar (c ∷ s) = (is_scalar_value c ≡ true) × AllScalar s

-- bytes begin with the encoding of the scalar value c, which has n bytes
abbrev pub BeginsWith : List ℕ → ℕ → ℕ → Type 0
BeginsWith bs c n = (is_scalar_value c ≡ true) × (n ≡ length (utf8 c)) × ((rest : List ℕ) × (bs ≡ utf8 c ++ rest))

-- bytes begin with a well-formed sequence exactly when they begin with the encoding of a scalar value,
-- and decoding then gives that value and the number of its bytes
pub record WellFormedIsEncoded : Type 0 where
  pub only_encodings : (bs : List ℕ) (c n : ℕ) → decoded bs ≡ Point c n → BeginsWith bs c n
  pub every_encoding : (c : ℕ) (rest : List ℕ) → is_scalar_value c ≡ true → decoded (utf8 c ++ rest) ≡ Point c (length (utf8 c))

-- encoded scalar values decode to themselves, to the end of their bytes
abbrev pub DecodesBack : Type 0
DecodesBack =
    (s : List ℕ) (at : ℕ) → AllScalar s
    → (code_points_of (points_from 0 at (bytes_of s)) ≡ s) × (ill_formed_from 0 at (bytes_of s) ≡ None)

-- so no two lists of scalar values have the same bytes
abbrev pub BytesTellApart : Type 0
BytesTellApart = (s t : List ℕ) → AllScalar s → AllScalar t → bytes_of s ≡ bytes_of t → s ≡ t
