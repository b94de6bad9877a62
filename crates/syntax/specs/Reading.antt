-- The next token of a list of preprocessed code points.
use Rattle.std.specs.Prelude.{◌≡◌, ℕ, ◌+◌, Bool, true, false, cond, ◌&&◌, ◌||◌, List, [], ◌∷◌, length, drop, ◌==◌, slice_index, slice_index_or}
use Rattle.codepoint.specs.Classes.{within, is_ident, is_whitespace}
use Rattle.codepoint.specs.Starts.{is_valid_escape, starts_ident, starts_number}
use Rattle.syntax.specs.declared.kind.Kind.{Kind}
use Rattle.syntax.specs.declared.kind.Kind.TheVariants.{Ident, Function, AtKeyword, Hash, QuotedString, BadString, Url, BadUrl, Delim, Number, Percentage, Dimension, Whitespace, Cdo, Cdc, Colon, Semicolon, Comma, OpenSquare, CloseSquare, OpenRound, CloseRound, OpenCurly, CloseCurly}
use Rattle.syntax.specs.Kinds.{same_kind, is_bad_kind}
use Rattle.syntax.specs.Tokens.{TokenValue, tok}
use Rattle.syntax.specs.Points.{newline, exclamation, number_sign, percent, left_paren, right_paren, hyphen, less_than, greater_than, commercial_at}
use Rattle.syntax.specs.Rules.{collect, beyond}
use Rattle.syntax.specs.Escapes.{in_ident}
use Rattle.syntax.specs.Bodies.{past_whitespace, in_extra_whitespace, in_string, is_quote, in_url, in_remnants, past_comments}
use Rattle.syntax.specs.Numbers.{number_at}

-- a token as it is found: what was collected for its text and its unit, also where it turned bad, and what follows it
pub record Found : Type 0 where
  pub kind : Kind
  pub mark : ℕ
  pub text : List ℕ
  pub unit : List ℕ
  pub rest : List ℕ

abbrev pub found : Kind → ℕ → List ℕ → List ℕ → Found
found k m t r = record { kind = k; mark = m; text = t; unit = []; rest = r }

abbrev pub found_bare : Kind → List ℕ → Found
found_bare k r = found k 0 [] r

-- the first three code points start an identifier
abbrev pub ident_comes : List ℕ → Bool
ident_comes s = starts_ident (slice_index s 0) (slice_index s 1) (slice_index s 2)

-- a quote comes first, or whitespace and then a quote
abbrev pub quote_comes : List ℕ → Bool
quote_comes s = is_quote (slice_index s 0) || (is_whitespace (slice_index s 0) && is_quote (slice_index s 1))

-- a string with text t, and r behind it: a newline makes it bad, and is not taken
unfoldable pub end_string : List ℕ → List ℕ → Found
end_string t r = elim (slice_index r 0 == newline) [ true ↦ found BadString 0 t r | false ↦ found QuotedString 0 t (drop 1 r) ]

unfoldable pub string_at : ℕ → List ℕ → Found
string_at q s = end_string (collect (in_string q) s) (beyond (in_string q) s)

-- a number with text t, and r behind it
unfoldable pub end_number : List ℕ → List ℕ → Found
end_number t r =
    elim (ident_comes r) [
      | true ↦ record { kind = Dimension; mark = 0; text = t; unit = collect in_ident r; rest = beyond in_ident r }
      | false ↦ elim (slice_index r 0 == percent) [ true ↦ found Percentage 0 t (drop 1 r) | false ↦ found Number 0 t r ]
    ]

unfoldable pub numeric_at : List ℕ → Found
numeric_at s = end_number (number_at s).0 (number_at s).1

-- a url with text t, and r behind its whitespace: it ends at `)` or the end, and anything else makes it bad
unfoldable pub end_url : List ℕ → List ℕ → Found
end_url t r =
    elim (slice_index_or r 0 right_paren == right_paren) [ true ↦ found Url 0 t (drop 1 r) | false ↦ found BadUrl 0 t (drop 1 (beyond in_remnants r)) ]

unfoldable pub url_at : List ℕ → Found
url_at s = end_url (collect in_url s) (past_whitespace (beyond in_url s))

-- behind the `(` of a function t that is named url, and all its whitespace but one
unfoldable pub url_or_function : List ℕ → List ℕ → Found
url_or_function t s = elim (quote_comes s) [ true ↦ found Function 0 t s | false ↦ url_at (past_whitespace s) ]

abbrev pub lower_case : ℕ → ℕ
lower_case c = cond (within 65 90 c) (c + 32) c

-- `url` in any ASCII case
abbrev pub is_url : List ℕ → Bool
is_url t = length t == 3 && lower_case (slice_index t 0) == 117 && lower_case (slice_index t 1) == 114 && lower_case (slice_index t 2) == 108

-- a name with text t, and r behind it
unfoldable pub end_name : List ℕ → List ℕ → Found
end_name t r =
    elim (slice_index r 0 == left_paren) [
      | false ↦ found Ident 0 t r
      | true ↦ elim (is_url t) [ false ↦ found Function 0 t (drop 1 r) | true ↦ url_or_function t (beyond in_extra_whitespace (drop 1 r)) ]
    ]

unfoldable pub ident_like_at : List ℕ → Found
ident_like_at s = end_name (collect in_ident s) (beyond in_ident s)

abbrev pub name_at : Kind → ℕ → List ℕ → Found
name_at k m s = found k m (collect in_ident s) (beyond in_ident s)

-- the kind of a sign that is a token of its own; of any other code point Delim
abbrev pub sign_kind : ℕ → Kind
sign_kind c =
    cond (c == 58) Colon
    (cond (c == 59) Semicolon
    (cond (c == 44) Comma
    (cond (c == 91) OpenSquare
    (cond (c == 93) CloseSquare
    (cond (c == 40) OpenRound
    (cond (c == 41) CloseRound
    (cond (c == 123) OpenCurly
    (cond (c == 125) CloseCurly Delim))))))))

unfoldable pub sign_at : ℕ → List ℕ → Found
sign_at a s = elim (same_kind (sign_kind a) Delim) [ true ↦ found Delim a [] s | false ↦ found_bare (sign_kind a) s ]

-- what the first four code points decide
pub data Branch : Type 0 where
  whitespace quote hash at number cdc cdo name sign : Branch

unfoldable pub branch : ℕ → ℕ → ℕ → ℕ → Branch
branch a b c d =
    cond (is_whitespace a) whitespace
    (cond (is_quote a) quote
    (cond (a == number_sign && (is_ident b || is_valid_escape b c)) hash
    (cond (a == commercial_at && starts_ident b c d) at
    (cond (starts_number a b c) number
    (cond (a == hyphen && b == hyphen && c == greater_than) cdc
    (cond (a == less_than && b == exclamation && c == hyphen && d == hyphen) cdo
    (cond (starts_ident a b c) name sign)))))))

-- the token whose first code point is a, with s behind that
unfoldable pub found_by : Branch → ℕ → List ℕ → Found
found_by whitespace a s = found_bare Whitespace (past_whitespace s)
found_by quote a s = string_at a s
found_by hash a s = name_at Hash (cond (ident_comes s) 1 0) s
found_by at a s = name_at AtKeyword 0 s
found_by number a s = numeric_at (a ∷ s)
found_by cdc a s = found_bare Cdc (drop 2 s)
found_by cdo a s = found_bare Cdo (drop 3 s)
found_by name a s = ident_like_at (a ∷ s)
found_by sign a s = sign_at a s

abbrev pub found_at : ℕ → List ℕ → Found
found_at a s = found_by (branch a (slice_index s 0) (slice_index s 1) (slice_index s 2)) a s

-- the end, or a token and what follows it
pub data Next : Type 0 where
  end : Next
  token : TokenValue → List ℕ → Next

-- a bad token has no text
unfoldable pub token_of : Found → TokenValue
token_of f = tok f.kind f.mark (cond (is_bad_kind f.kind) [] f.text) f.unit

abbrev pub told : Found → Next
told f = token (token_of f) f.rest

-- the next token, where no comment stands
unfoldable pub next_at : List ℕ → Next
next_at [] = end
next_at (a ∷ s) = told (found_at a s)

unfoldable pub next : List ℕ → Next
next s = next_at (past_comments s)

-- reading a list to its end gives these tokens
abbrev pub Yields : List ℕ → List TokenValue → Type 0
Yields s [] = next s ≡ end
Yields s (t ∷ ts) = (r : List ℕ) × (next s ≡ token t r) × Yields r ts
