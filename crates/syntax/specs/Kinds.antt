-- The kinds of tokens by number.
use Rattle.std.specs.Prelude.{ℕ, Bool, ◌||◌, ◌==◌}
use Rattle.syntax.specs.declared.kind.Kind.{Kind}
use Rattle.syntax.specs.declared.kind.Kind.TheVariants.{Ident, Function, AtKeyword, Hash, QuotedString, BadString, Url, BadUrl, Delim, Number, Percentage, Dimension, Whitespace, Cdo, Cdc, Colon, Semicolon, Comma, OpenSquare, CloseSquare, OpenRound, CloseRound, OpenCurly, CloseCurly}

abbrev pub number_of : Kind → ℕ
number_of Ident = 1
number_of Function = 2
number_of AtKeyword = 3
number_of Hash = 4
number_of QuotedString = 5
number_of BadString = 6
number_of Url = 7
number_of BadUrl = 8
number_of Delim = 9
number_of Number = 10
number_of Percentage = 11
number_of Dimension = 12
number_of Whitespace = 13
number_of Cdo = 14
number_of Cdc = 15
number_of Colon = 16
number_of Semicolon = 17
number_of Comma = 18
number_of OpenSquare = 19
number_of CloseSquare = 20
number_of OpenRound = 21
number_of CloseRound = 22
number_of OpenCurly = 23
number_of CloseCurly = 24

abbrev pub same_kind : Kind → Kind → Bool
same_kind k j = number_of k == number_of j

-- a bad string or a bad url
abbrev pub is_bad_kind : Kind → Bool
is_bad_kind k = same_kind k BadString || same_kind k BadUrl
