-- Writing one token after another: what a writer has to remember of the tokens so far, and what one more adds.
use Rattle.std.specs.Prelude.{◌≡◌, ◌+◌, Bool, true, false, cond, ◌&&◌, List, [], ◌∷◌, ◌++◌, ◌==◌}
use Rattle.syntax.specs.declared.kind.Kind.TheVariants.{Whitespace}
use Rattle.syntax.specs.declared.neighbour.Left.{Left}
use Rattle.syntax.specs.declared.waiting.Waiting.{Waiting}
use Rattle.syntax.specs.declared.waiting.Waiting.TheVariants.{Free}
use Rattle.syntax.specs.Tokens.{TokenValue, is_kind}
use Rattle.syntax.specs.Lawful.{Lawful}
use Rattle.syntax.specs.Turn.{is_in_turn, waiting_after}
use Rattle.syntax.specs.Neighbours.{left_of, right_of, row_of, apart}
use Rattle.syntax.specs.Written.{Each, NoDoubleWhitespace, added, written, comments_in, Fit}

-- the left neighbour, and what is awaited, behind some tokens
abbrev pub left_behind : Left → List TokenValue → Left
left_behind l [] = l
left_behind l (t ∷ ts) = left_behind (left_of t) ts

abbrev pub waiting_behind : Waiting → List TokenValue → Waiting
waiting_behind w [] = w
waiting_behind w (t ∷ ts) = waiting_behind (waiting_after w t) ts

abbrev pub left_now : List TokenValue → Left
left_now ts = left_behind Left.Other ts

abbrev pub waiting_now : List TokenValue → Waiting
waiting_now ts = waiting_behind Free ts

-- whitespace is the one left neighbour that whitespace may not follow
abbrev pub is_whitespace_left : Left → Bool
is_whitespace_left l = row_of l == row_of Left.Whitespace

-- each token is in turn, and something may be awaited at the end
abbrev pub SoFarInTurn : Waiting → List TokenValue → Type 0
SoFarInTurn w [] = Unit {0}
SoFarInTurn w (t ∷ ts) = (is_in_turn w t ≡ true) × SoFarInTurn (waiting_after w t) ts

-- tokens that a writer has accepted
pub record Accepted (ts : List TokenValue) : Type 0 where
  pub lawful : Each Lawful ts
  pub in_turn : SoFarInTurn Free ts
  pub single_whitespace : NoDoubleWhitespace ts

-- a token that it may accept next
pub record MayFollow (ts : List TokenValue) (t : TokenValue) : Type 0 where
  pub lawful : Lawful t
  pub in_turn : is_in_turn (waiting_now ts) t ≡ true
  pub single_whitespace : (is_whitespace_left (left_now ts) && is_kind Whitespace t) ≡ false

-- what accepting it makes of all that
pub record Followed (ts : List TokenValue) (t : TokenValue) : Type 0 where
  pub accepts : Accepted (ts ++ t ∷ [])
  pub writes : written (ts ++ t ∷ []) ≡ written ts ++ added (left_now ts) (waiting_now ts) t
  pub counts : comments_in (ts ++ t ∷ []) ≡ comments_in ts + cond (apart (left_now ts) (right_of t)) 1 0
  pub awaits : waiting_now (ts ++ t ∷ []) ≡ waiting_after (waiting_now ts) t
  pub neighbours : left_now (ts ++ t ∷ []) ≡ left_of t

abbrev pub PutAddsOneToken : Type 0
PutAddsOneToken = (ts : List TokenValue) (t : TokenValue) → Accepted ts → MayFollow ts t → Followed ts t

-- a writer begins with nothing accepted, and may finish where nothing is awaited
abbrev pub AcceptedMayFinish : Type 0
AcceptedMayFinish = Accepted [] × ((ts : List TokenValue) → Accepted ts → waiting_now ts ≡ Free → Fit ts)
