use Rattle.scan.proofs.Hexes.{Sofar}
use Rattle.scan.proofs.escapes.hex_escape.Given as goal

abbrev pub invariant-loop : goal.invariant-loop
invariant-loop g l = Sofar (g.L.Lookahead.rest l.initial.input) l.counter l.value (g.L.Lookahead.rest l.input)
