use Rattle.std.proofs.Common.{length}
use Rattle.syntax.specs.Bodies.{in_comments}
use Rattle.scan.proofs.Turns.{Skipped}
use Rattle.scan.proofs.skipping.skip_comments.Given as goal

abbrev pub invariant-loop-seen : goal.invariant-loop-seen
invariant-loop-seen g l = Skipped in_comments (g.L.Lookahead.rest l.initial.input) (g.L.Lookahead.rest l.input)

abbrev pub decreases-loop-seen : goal.decreases-loop-seen
decreases-loop-seen g l = length (g.L.Lookahead.rest l.input).list
