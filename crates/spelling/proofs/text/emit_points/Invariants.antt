use Rattle.std.proofs.Common.{drop, Result}
use Rattle.codepoint.specs.Utf8.{bytes_of}
use Rattle.refusal.specs.declared.fault.Fault.{Fault}
use Rattle.stream.specs.Sinks.{Emits}
use Rattle.spelling.proofs.text.emit_points.Given as goal

-- whatever the rest comes to from here, the whole comes to from the loop's beginning
abbrev pub invariant-loop-c : goal.invariant-loop-c
invariant-loop-c g l =
    (r : Result (Unit {0}) Fault) (z : _)
    → Emits g.S.Sink.held g.S.Sink.takes l.sink (bytes_of (drop l.c-index l.points)) r z
    → Emits g.S.Sink.held g.S.Sink.takes l.initial.sink (bytes_of l.points) r z
