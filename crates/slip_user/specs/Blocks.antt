-- What a few calls on a writer come to.
use Rattle.std.specs.Prelude.{◌≡◌, ℕ, Bool, List, IfOk, Result}
use Rattle.refusal.specs.declared.fault.Fault.{Fault}
use Rattle.syntax.specs.Tokens.{TokenValue}
use Rattle.writer.specs.declared.writing.Writer.{Writer}
use Rattle.writer.specs.Runs.{Deed, Run, accepted}

-- a run, which has accepted these tokens unless it answers a refusal
pub record Writes {S : Type 0} (held : S → List ℕ) (takes : S → ℕ → Bool) (w : Writer S) (ts : List TokenValue) (r : Result (Unit {0}) Fault) (u : Writer S) : Type 0 where
  pub deeds : List Deed
  pub run : Run held takes w deeds u
  pub accepts : IfOk r (λ _. accepted deeds ≡ ts)
