-- Between which neighbours a comment stands.
use Rattle.std.specs.Prelude.{ℕ, Bool, true, false, cond, ◌&&◌, ◌||◌, List, [], ◌∷◌, length, ◌==◌, slice_index, slice_index_or}
use Rattle.syntax.specs.declared.kind.Kind.TheVariants.{Ident, Function, AtKeyword, Hash, Url, Number, Percentage, Dimension, Whitespace, Cdc, OpenRound}
use Rattle.syntax.specs.declared.neighbour.Left.{Left}
use Rattle.syntax.specs.declared.neighbour.Right.{Right}
use Rattle.syntax.specs.Points.{exclamation, number_sign, percent, asterisk, plus, hyphen, full_stop, slash, less_than, greater_than, commercial_at}
use Rattle.syntax.specs.Tokens.{TokenValue, is_kind, is_delim}

-- the text `--`
abbrev pub is_dashes : List ℕ → Bool
is_dashes t = length t == 2 && slice_index t 0 == hyphen && slice_index t 1 == hyphen

-- a token as the left neighbour
unfoldable pub left_of : TokenValue → Left
left_of t =
    cond (is_kind Ident t) (cond (is_dashes t.text) Left.Dashes Left.Ident)
    (cond (is_kind AtKeyword t || is_kind Hash t || is_kind Dimension t || is_delim number_sign t || is_delim hyphen t) Left.Name
    (cond (is_kind Number t) Left.Number
    (cond (is_delim commercial_at t) Left.At
    (cond (is_delim full_stop t || is_delim plus t) Left.DotOrPlus
    (cond (is_delim less_than t) Left.Less
    (cond (is_delim slash t) Left.Slash
    (cond (is_kind Whitespace t) Left.Whitespace Left.Other)))))))

-- a token as the right neighbour
unfoldable pub right_of : TokenValue → Right
right_of t =
    cond (is_kind Ident t || is_kind Function t || is_kind Url t || is_kind Cdc t) Right.Name
    (cond (is_kind Number t || is_kind Percentage t || is_kind Dimension t) Right.Numeric
    (cond (is_delim hyphen t) Right.Hyphen
    (cond (is_kind OpenRound t) Right.Paren
    (cond (is_delim greater_than t) Right.Greater
    (cond (is_delim percent t) Right.Percent
    (cond (is_delim exclamation t) Right.Exclamation
    (cond (is_delim asterisk t) Right.Asterisk Right.Other)))))))

abbrev pub row_of : Left → ℕ
row_of Left.Ident = 0
row_of Left.Dashes = 1
row_of Left.Name = 2
row_of Left.Number = 3
row_of Left.At = 4
row_of Left.DotOrPlus = 5
row_of Left.Less = 6
row_of Left.Slash = 7
row_of Left.Whitespace = 8
row_of Left.Other = 9

abbrev pub column_of : Right → ℕ
column_of Right.Name = 0
column_of Right.Numeric = 1
column_of Right.Hyphen = 2
column_of Right.Paren = 3
column_of Right.Greater = 4
column_of Right.Percent = 5
column_of Right.Exclamation = 6
column_of Right.Asterisk = 7
column_of Right.Other = 8

-- a comment stands, or none
abbrev X : Bool
X = true

abbrev o : Bool
o = false

-- a row for each left neighbour; columns: name, numeric, `-`, `(`, `>`, `%`, `!`, `*`, any other
abbrev pub matrix : List (List Bool)
matrix =
    (X ∷ X ∷ X ∷ X ∷ o ∷ o ∷ o ∷ o ∷ o ∷ [])  -- Ident
    ∷ (X ∷ X ∷ X ∷ X ∷ X ∷ o ∷ o ∷ o ∷ o ∷ [])  -- Dashes
    ∷ (X ∷ X ∷ X ∷ o ∷ o ∷ o ∷ o ∷ o ∷ o ∷ [])  -- Name
    ∷ (X ∷ X ∷ o ∷ o ∷ o ∷ X ∷ o ∷ o ∷ o ∷ [])  -- Number
    ∷ (X ∷ o ∷ o ∷ o ∷ o ∷ o ∷ o ∷ o ∷ o ∷ [])  -- At
    ∷ (o ∷ X ∷ o ∷ o ∷ o ∷ o ∷ o ∷ o ∷ o ∷ [])  -- DotOrPlus
    ∷ (o ∷ o ∷ o ∷ o ∷ o ∷ o ∷ X ∷ o ∷ o ∷ [])  -- Less
    ∷ (o ∷ o ∷ o ∷ o ∷ o ∷ o ∷ o ∷ X ∷ o ∷ [])  -- Slash
    ∷ (o ∷ o ∷ o ∷ o ∷ o ∷ o ∷ o ∷ o ∷ o ∷ [])  -- Whitespace
    ∷ (o ∷ o ∷ o ∷ o ∷ o ∷ o ∷ o ∷ o ∷ o ∷ [])  -- Other
    ∷ []

unfoldable pub apart : Left → Right → Bool
apart l r = slice_index_or (slice_index_or matrix (row_of l) []) (column_of r) false
