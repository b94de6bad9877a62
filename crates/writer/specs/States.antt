-- How a writer's state goes on.
use Rattle.std.specs.Prelude.{◌≡◌, ℕ, ◌+◌, ◌-◌, Bool, true, false, cond, Some, None, Option, slice_set}
use Rattle.syntax.specs.declared.kind.Kind.{Kind}
use Rattle.syntax.specs.declared.neighbour.Left.{Left}
use Rattle.syntax.specs.declared.waiting.Waiting.TheVariants.{Free}
use Rattle.syntax.specs.Tokens.{TokenValue}
use Rattle.syntax.specs.Turn.{waiting_after}
use Rattle.syntax.specs.Neighbours.{left_of, right_of, apart}
use Rattle.writer.specs.declared.blocks.Blocks.{Blocks}
use Rattle.writer.specs.declared.state.State.{State}

-- with a block of this kind more
pub record Opened (b : Blocks) (k : Kind) (b' : Blocks) : Type 0 where
  pub deep : b'.depth ≡ b.depth + 1
  pub kinds : b'.kinds ≡ slice_set b.kinds b.depth k

-- without the innermost block
pub record Closed (b b' : Blocks) : Type 0 where
  pub deep : b'.depth ≡ b.depth - 1
  pub kinds : b'.kinds ≡ b.kinds

-- before the first call
pub record Fresh (s : State) : Type 0 where
  pub counted : s.accepted ≡ 0
  pub commented : s.comments ≡ 0
  pub deep : s.blocks.depth ≡ 0
  pub neighbours : s.left ≡ Left.Other
  pub awaits : s.waiting ≡ Free
  pub unstuck : s.stuck ≡ None
  pub going : s.finished ≡ false

-- behind a token, with the blocks b open then
pub record Advanced (s : State) (t : TokenValue) (b : Blocks) (s' : State) : Type 0 where
  pub counted : s'.accepted ≡ s.accepted + 1
  pub commented : s'.comments ≡ s.comments + cond (apart s.left (right_of t)) 1 0
  pub blocks : s'.blocks ≡ b
  pub neighbours : s'.left ≡ left_of t
  pub awaits : s'.waiting ≡ waiting_after s.waiting t
  pub unstuck : s'.stuck ≡ s.stuck
  pub going : s'.finished ≡ s.finished

-- nothing is different but whether the sink refused, or whether it is the end
pub record Halted (s : State) (p : Option ℕ) (f : Bool) (s' : State) : Type 0 where
  pub counted : s'.accepted ≡ s.accepted
  pub commented : s'.comments ≡ s.comments
  pub blocks : s'.blocks ≡ s.blocks
  pub neighbours : s'.left ≡ s.left
  pub awaits : s'.waiting ≡ s.waiting
  pub unstuck : s'.stuck ≡ p
  pub going : s'.finished ≡ f

-- after the sink's refusal at a place
abbrev pub Stopped : State → ℕ → State → Type 0
Stopped s p s' = Halted s (Some p) s.finished s'

-- after finish
abbrev pub Ended : State → State → Type 0
Ended s s' = Halted s s.stuck true s'
