-- How tokens are written one after another, and which lists of tokens may be.
use Rattle.std.specs.Prelude.{◌≡◌, ℕ, ◌+◌, Bool, false, cond, ◌&&◌, List, [], ◌∷◌, ◌++◌, codes}
use Rattle.codepoint.specs.Utf8.{bytes_of}
use Rattle.syntax.specs.declared.kind.Kind.TheVariants.{Whitespace}
use Rattle.syntax.specs.declared.neighbour.Left.{Left}
use Rattle.syntax.specs.declared.waiting.Waiting.{Waiting}
use Rattle.syntax.specs.declared.waiting.Waiting.TheVariants.{Free}
use Rattle.syntax.specs.Tokens.{TokenValue, is_kind}
use Rattle.syntax.specs.Lawful.{Lawful}
use Rattle.syntax.specs.Turn.{waiting_after, InTurn}
use Rattle.syntax.specs.Neighbours.{left_of, right_of, apart}
use Rattle.syntax.specs.Spelling.{spelled}

abbrev pub comment : List ℕ
comment = codes "/**/"

-- the comment, where one is due between a left neighbour and a token
abbrev pub gap : Left → TokenValue → List ℕ
gap l t = cond (apart l (right_of t)) comment []

-- what a token adds behind a left neighbour, where w is awaited
unfoldable pub added : Left → Waiting → TokenValue → List ℕ
added l w t = gap l t ++ spelled w t

-- tokens behind a left neighbour, where w is awaited
unfoldable pub written_from : Left → Waiting → List TokenValue → List ℕ
written_from l w [] = []
written_from l w (t ∷ ts) = added l w t ++ written_from (left_of t) (waiting_after w t) ts

-- the code points, and the bytes, of a list of tokens: no neighbour stands before the first, and nothing is awaited
unfoldable pub written : List TokenValue → List ℕ
written ts = written_from Left.Other Free ts

abbrev pub written_bytes : List TokenValue → List ℕ
written_bytes ts = bytes_of (written ts)

-- how many comments stand in it
abbrev pub comments_from : Left → List TokenValue → ℕ
comments_from l [] = 0
comments_from l (t ∷ ts) = cond (apart l (right_of t)) 1 0 + comments_from (left_of t) ts

abbrev pub comments_in : List TokenValue → ℕ
comments_in ts = comments_from Left.Other ts

-- what holds of each of a list
abbrev pub Each : {A : Type 0} → (A → Type 0) → List A → Type 0
Each P [] = Unit {0}
Each P (x ∷ xs) = P x × Each P xs

-- no whitespace directly after whitespace
abbrev pub NoDoubleWhitespace : List TokenValue → Type 0
NoDoubleWhitespace [] = Unit {0}
NoDoubleWhitespace (p ∷ []) = Unit {0}
NoDoubleWhitespace (p ∷ q ∷ ts) = ((is_kind Whitespace p && is_kind Whitespace q) ≡ false) × NoDoubleWhitespace (q ∷ ts)

-- tokens with whitespace directly after whitespace left out; the flag tells whether whitespace came last
unfoldable pub collapsed_after : Bool → List TokenValue → List TokenValue
collapsed_after white [] = []
collapsed_after white (t ∷ ts) =
    cond (white && is_kind Whitespace t) (collapsed_after white ts) (t ∷ collapsed_after (is_kind Whitespace t) ts)

abbrev pub collapsed : List TokenValue → List TokenValue
collapsed ts = collapsed_after false ts

-- what a writer may be given, up to its end
pub record Fit (ts : List TokenValue) : Type 0 where
  pub lawful : Each Lawful ts
  pub in_turn : InTurn Free ts
  pub single_whitespace : NoDoubleWhitespace ts
