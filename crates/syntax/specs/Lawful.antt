-- Lawful tokens, in the words of their meaning and as a test.
use Rattle.std.specs.Prelude.{◌≡◌, ℕ, Bool, true, false, cond, not, ◌&&◌, ◌||◌, List, [], ◌∷◌, codes, ◌==◌, slice_index}
use Rattle.codepoint.specs.Classes.{is_digit, is_non_printable, is_scalar_value}
use Rattle.codepoint.specs.Starts.{starts_number}
use Rattle.stream.specs.Preprocess.{AllPreprocessed}
use Rattle.syntax.specs.declared.kind.Kind.{Kind}
use Rattle.syntax.specs.declared.kind.Kind.TheVariants.{Ident, Function, AtKeyword, Hash, QuotedString, BadString, Url, BadUrl, Delim, Number, Percentage, Dimension, Whitespace, Cdo, Cdc, Colon, Semicolon, Comma, OpenSquare, CloseSquare, OpenRound, CloseRound, OpenCurly, CloseCurly}
use Rattle.syntax.specs.Points.{hyphen, is_one_of}
use Rattle.syntax.specs.Tokens.{TokenValue, is_bad}
use Rattle.syntax.specs.Numbers.{number_at}
use Rattle.syntax.specs.Reading.{next, token}

-- some input yields the token, and it is not bad
pub record Lawful (t : TokenValue) : Type 0 where
  pub input : List ℕ
  pub rest : List ℕ
  pub preprocessed : AllPreprocessed input
  pub yields : next input ≡ token t rest
  pub not_bad : is_bad t ≡ false

-- the code points that a text may have: scalar values but U+0000
unfoldable pub is_text_point : ℕ → Bool
is_text_point c = is_scalar_value c && not (c == 0)

abbrev pub is_empty : List ℕ → Bool
is_empty [] = true
is_empty (c ∷ t) = false

abbrev pub is_text : List ℕ → Bool
is_text [] = true
is_text (c ∷ t) = is_text_point c && is_text t

abbrev pub is_name : List ℕ → Bool
is_name t = is_text t && not (is_empty t)

-- the text of a hash that can start no identifier: a digit first, or `-` alone or before a digit
abbrev pub is_loose : List ℕ → Bool
is_loose [] = false
is_loose (c ∷ t) = is_digit c || (c == hyphen && (is_empty t || is_digit (slice_index t 0)))

-- a number starts the text, and takes the whole of it
abbrev pub is_number : List ℕ → Bool
is_number t = starts_number (slice_index t 0) (slice_index t 1) (slice_index t 2) && is_empty (number_at t).1

-- the code points that no rule of reading takes for anything else
unfoldable pub is_delim_mark : ℕ → Bool
is_delim_mark m = (is_non_printable m && not (m == 0)) || is_one_of (codes "!#$%&*+-./<=>?@\\^`|~") m

abbrev pub is_hash : ℕ → List ℕ → Bool
is_hash m t = cond (m == 1) (is_name t) (m == 0 && is_text t && is_loose t)

abbrev pub is_bare : ℕ → List ℕ → List ℕ → Bool
is_bare m t u = m == 0 && is_empty t && is_empty u

-- what mark, text and unit a token of each kind has
abbrev pub fits : Kind → ℕ → List ℕ → List ℕ → Bool
fits Ident m t u = m == 0 && is_name t && is_empty u
fits Function m t u = m == 0 && is_name t && is_empty u
fits AtKeyword m t u = m == 0 && is_name t && is_empty u
fits Hash m t u = is_hash m t && is_empty u
fits QuotedString m t u = m == 0 && is_text t && is_empty u
fits BadString m t u = false
fits Url m t u = m == 0 && is_text t && is_empty u
fits BadUrl m t u = false
fits Delim m t u = is_delim_mark m && is_empty t && is_empty u
fits Number m t u = m == 0 && is_number t && is_empty u
fits Percentage m t u = m == 0 && is_number t && is_empty u
fits Dimension m t u = m == 0 && is_number t && is_name u
fits Whitespace m t u = is_bare m t u
fits Cdo m t u = is_bare m t u
fits Cdc m t u = is_bare m t u
fits Colon m t u = is_bare m t u
fits Semicolon m t u = is_bare m t u
fits Comma m t u = is_bare m t u
fits OpenSquare m t u = is_bare m t u
fits CloseSquare m t u = is_bare m t u
fits OpenRound m t u = is_bare m t u
fits CloseRound m t u = is_bare m t u
fits OpenCurly m t u = is_bare m t u
fits CloseCurly m t u = is_bare m t u

unfoldable pub is_lawful : TokenValue → Bool
is_lawful t = fits t.kind t.mark t.text t.unit
