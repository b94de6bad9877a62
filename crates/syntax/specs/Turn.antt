-- Which token is in turn, by what is awaited.
use Rattle.std.specs.Prelude.{◌≡◌, Bool, true, false, cond, ◌&&◌, ◌||◌, List, [], ◌∷◌}
use Rattle.syntax.specs.declared.kind.Kind.TheVariants.{Function, QuotedString, BadString, Whitespace}
use Rattle.syntax.specs.declared.waiting.Waiting.{Waiting}
use Rattle.syntax.specs.declared.waiting.Waiting.TheVariants.{Free, AfterBackslash, AfterUrl, AfterUrlWhitespace}
use Rattle.syntax.specs.Points.{backslash}
use Rattle.syntax.specs.Tokens.{TokenValue, bare, is_kind, is_delim}
use Rattle.syntax.specs.Reading.{is_url}

-- behind a delim `\` whitespace; behind a function named url a string, or one whitespace and then a string
abbrev pub is_in_turn : Waiting → TokenValue → Bool
is_in_turn Free t = true
is_in_turn AfterBackslash t = is_kind Whitespace t
is_in_turn AfterUrl t = is_kind Whitespace t || is_kind QuotedString t
is_in_turn AfterUrlWhitespace t = is_kind QuotedString t

abbrev pub is_after_url : Waiting → Bool
is_after_url Free = false
is_after_url AfterBackslash = false
is_after_url AfterUrl = true
is_after_url AfterUrlWhitespace = false

abbrev pub is_url_function : TokenValue → Bool
is_url_function t = is_kind Function t && is_url t.text

-- what is awaited behind a token that came where w was awaited
abbrev pub waiting_after : Waiting → TokenValue → Waiting
waiting_after w t =
    cond (is_delim backslash t) AfterBackslash
    (cond (is_url_function t) AfterUrl
    (cond (is_kind Whitespace t && is_after_url w) AfterUrlWhitespace Free))

-- each token is in turn, and nothing is awaited at the end
abbrev pub InTurn : Waiting → List TokenValue → Type 0
InTurn w [] = w ≡ Free
InTurn w (t ∷ ts) = (is_in_turn w t ≡ true) × InTurn (waiting_after w t) ts

-- reading may give a bad string where a string is in turn: it counts as one
abbrev pub mended : TokenValue → TokenValue
mended t = cond (is_kind BadString t) (bare QuotedString) t
