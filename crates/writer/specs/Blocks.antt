-- The tokens that open and close blocks.
use Rattle.std.specs.Prelude.{ℕ, Bool, cond, ◌||◌, ◌==◌}
use Rattle.syntax.specs.declared.kind.Kind.{Kind}
use Rattle.syntax.specs.declared.kind.Kind.TheVariants.{Function, OpenSquare, CloseSquare, OpenRound, CloseRound, OpenCurly, CloseCurly}
use Rattle.syntax.specs.Kinds.{number_of, same_kind}
use Rattle.syntax.specs.Tokens.{TokenValue, bare}

abbrev pub opens_block : Kind → Bool
opens_block k = same_kind k Function || same_kind k OpenSquare || same_kind k OpenRound || same_kind k OpenCurly

-- a function or a bracket
abbrev pub is_block_sign : Kind → Bool
is_block_sign k = same_kind k CloseSquare || same_kind k CloseRound || same_kind k CloseCurly || opens_block k

-- the token that closes a block, by the number of its kind
abbrev pub mirror : ℕ → TokenValue
mirror k = cond (k == number_of OpenSquare) (bare CloseSquare) (cond (k == number_of OpenCurly) (bare CloseCurly) (bare CloseRound))
