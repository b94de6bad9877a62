use Rattle.std.proofs.Common.{◌+◌, length, drop, Result}
use Rattle.codepoint.specs.Utf8.{bytes_of}
use Rattle.refusal.specs.declared.fault.Fault.{Fault}
use Rattle.stream.specs.Sinks.{Emits}
use Rattle.syntax.specs.Places.{treatment, escaped_from}
use Rattle.spelling.proofs.text.emit_escaped.Given as goal

-- whatever the rest of the text comes to from here, the whole comes to from the loop's beginning
abbrev pub invariant-loop-at : goal.invariant-loop-at
invariant-loop-at g l =
    (r : Result (Unit {0}) Fault) (z : _)
    → Emits g.S.Sink.held g.S.Sink.takes l.sink (bytes_of (escaped_from (treatment g.P.SpellingPlace.place l.text) (l.from + length l.yielded) (drop (l.from + length l.yielded) l.text))) r z
    → Emits g.S.Sink.held g.S.Sink.takes l.initial.sink (bytes_of (escaped_from (treatment g.P.SpellingPlace.place l.text) l.from (drop l.from l.text))) r z
