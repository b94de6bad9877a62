use Rattle.std.proofs.Common.{drop, Result}
use Rattle.refusal.specs.declared.fault.Fault.{Fault}
use Rattle.stream.specs.Sinks.{Emits}
use Rattle.stream.proofs.emission.emit.Given as goal

-- whatever the rest of the bytes comes to from here, the whole comes to from the beginning
abbrev pub invariant-loop-byte : goal.invariant-loop-byte
invariant-loop-byte g l =
    (r : Result (Unit {0}) Fault) (z : _)
    → Emits g.S.Sink.held g.S.Sink.takes l.sink (drop l.byte-index l.bytes) r z
    → Emits g.S.Sink.held g.S.Sink.takes l.initial.sink l.bytes r z
