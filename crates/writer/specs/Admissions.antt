-- What a state lets through.
use Rattle.std.specs.Prelude.{◌≡◌, Bool, List, Ok, Err, Result}
use Rattle.refusal.specs.declared.fault.Fault.{Fault}
use Rattle.syntax.specs.Tokens.{TokenValue, value_of}
use Rattle.writer.specs.declared.adding.Admitted.{Admitted}
use Rattle.writer.specs.declared.blocks.Blocks.{Blocks}
use Rattle.writer.specs.declared.state.State.{State}
use Rattle.writer.specs.Refusals.{first_of}

-- the first of the refusals that applies, or else the token over the same state, with such blocks open behind it
abbrev pub Admits : State → List (Bool × Fault) → TokenValue → (Blocks → Type 0) → Result Admitted Fault → Type 0
Admits s refusals t opens (Ok a) = (first_of refusals ≡ Ok tt) × (a.state ≡ s) × (value_of a.token ≡ t) × opens a.blocks
Admits s refusals t opens (Err f) = first_of refusals ≡ Err f
