use Rattle.std.proofs.Common.{ℕ, false, List, length, Result}
use Rattle.refusal.specs.declared.fault.Fault.{Fault}
use Rattle.reader.specs.NextToken.{Model, model_of}
use Rattle.normal.specs.Normalizing.{Transfers}
use Rattle.normal.proofs.normalization.transfer.Given as goal
use Rattle.writer.specs.declared.counts.Counts.{Counts}

-- whatever the transfer comes to from here, it comes to from the beginning
abbrev pub invariant-loop-token : goal.invariant-loop-token
invariant-loop-token g l =
    (r : Result Counts Fault) (m : Model) (cells : List ℕ) (u : _)
    → Transfers g.S.Sink.held g.S.Sink.takes l.after_whitespace (model_of g.P.Source.ahead g.P.Source.ending l.reader) l.cells l.writer r m cells u
    → Transfers g.S.Sink.held g.S.Sink.takes false (model_of g.P.Source.ahead g.P.Source.ending l.initial.reader) l.initial.cells l.initial.writer r m cells u

abbrev pub decreases-loop-token : goal.decreases-loop-token
decreases-loop-token g l = length (model_of g.P.Source.ahead g.P.Source.ending l.reader).ahead.list
