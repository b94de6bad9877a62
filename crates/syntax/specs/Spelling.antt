-- How one token is spelled.
use Rattle.std.specs.Prelude.{ℕ, cond, List, [], ◌∷◌, ◌++◌, codes, ◌==◌}
use Rattle.syntax.specs.declared.kind.Kind.{Kind}
use Rattle.syntax.specs.declared.kind.Kind.TheVariants.{Ident, Function, AtKeyword, Hash, QuotedString, BadString, Url, BadUrl, Delim, Number, Percentage, Dimension, Whitespace, Cdo, Cdc, Colon, Semicolon, Comma, OpenSquare, CloseSquare, OpenRound, CloseRound, OpenCurly, CloseCurly}
use Rattle.syntax.specs.declared.waiting.Waiting.{Waiting}
use Rattle.syntax.specs.declared.waiting.Waiting.TheVariants.{Free, AfterBackslash, AfterUrl, AfterUrlWhitespace}
use Rattle.syntax.specs.Points.{newline, space}
use Rattle.syntax.specs.Tokens.{TokenValue}
use Rattle.syntax.specs.Places.{Place, spelled_in, identifier, loose, quoted_string, url, unit_behind}

-- whitespace is one space, but a newline behind a delim `\`
abbrev pub blank : Waiting → ℕ
blank Free = space
blank AfterBackslash = newline
blank AfterUrl = space
blank AfterUrlWhitespace = space

abbrev pub hash_place : ℕ → Place
hash_place mark = cond (mark == 1) identifier loose

-- by kind; a bad token is never written
abbrev pub spelled_as : Kind → Waiting → ℕ → List ℕ → List ℕ → List ℕ
spelled_as Ident w m t u = spelled_in identifier t
spelled_as Function w m t u = spelled_in identifier t ++ codes "("
spelled_as AtKeyword w m t u = codes "@" ++ spelled_in identifier t
spelled_as Hash w m t u = codes "#" ++ spelled_in (hash_place m) t
spelled_as QuotedString w m t u = spelled_in quoted_string t
spelled_as BadString w m t u = []
spelled_as Url w m t u = spelled_in url t
spelled_as BadUrl w m t u = []
spelled_as Delim w m t u = m ∷ []
spelled_as Number w m t u = t
spelled_as Percentage w m t u = t ++ codes "%"
spelled_as Dimension w m t u = t ++ spelled_in (unit_behind t) u
spelled_as Whitespace w m t u = blank w ∷ []
spelled_as Cdo w m t u = codes "<!--"
spelled_as Cdc w m t u = codes "-->"
spelled_as Colon w m t u = codes ":"
spelled_as Semicolon w m t u = codes ";"
spelled_as Comma w m t u = codes ","
spelled_as OpenSquare w m t u = codes "["
spelled_as CloseSquare w m t u = codes "]"
spelled_as OpenRound w m t u = codes "("
spelled_as CloseRound w m t u = codes ")"
spelled_as OpenCurly w m t u = codes "{"
spelled_as CloseCurly w m t u = codes "}"

-- a token that comes where w is awaited
unfoldable pub spelled : Waiting → TokenValue → List ℕ
spelled w t = spelled_as t.kind w t.mark t.text t.unit
