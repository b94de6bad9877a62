use Rattle.std.proofs.Common.{length}
use Rattle.scan.proofs.Turns.{Sofar}
use Rattle.scan.proofs.rule.collect.Given as goal

abbrev pub invariant-loop-seen : goal.invariant-loop-seen
invariant-loop-seen g l = Sofar (g.R.Rule.rule l.rule) l.initial.cells (g.L.Lookahead.rest l.initial.input) l.cells (g.L.Lookahead.rest l.input)

abbrev pub decreases-loop-seen : goal.decreases-loop-seen
decreases-loop-seen g l = length (g.L.Lookahead.rest l.input).list
