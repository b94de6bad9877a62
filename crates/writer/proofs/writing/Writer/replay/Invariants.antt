use Rattle.std.proofs.Common.{map, drop}
use Rattle.writer.specs.declared.writing.Writer.{Writer}
use Rattle.writer.specs.Runs.{call_of, RunOf}
use Rattle.writer.proofs.writing.Writer.replay.Given as goal

-- a run of the calls that are left, from here, makes one of all the calls, from the beginning
abbrev pub invariant-loop-call : goal.invariant-loop-call
invariant-loop-call g l =
    (u : Writer _) → RunOf g.S.Sink.held g.S.Sink.takes l.self (map call_of (drop l.call-index l.calls)) u
    → RunOf g.S.Sink.held g.S.Sink.takes l.initial.self (map call_of l.calls) u
