use Rattle.scan.proofs.Numbering.{Taken}
use Rattle.scan.proofs.number.collect_part.Given as goal

abbrev pub invariant-loop : goal.invariant-loop
invariant-loop g l = Taken l.initial.cells (g.L.Lookahead.rest l.initial.input) l.counter l.cells (g.L.Lookahead.rest l.input)
