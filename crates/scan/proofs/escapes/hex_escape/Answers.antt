use Rattle.std.proofs.Common.{ap, ◌∙◌, arith}
use Rattle.lookahead.specs.Ahead.{past}
use Rattle.scan.proofs.Hexes.{digit_turn}
use Rattle.scan.proofs.escapes.hex_escape.Goals as goal

pub loop-preserved : goal.loop-preserved
loop-preserved g c =
    digit_turn _ _ _ _ _ _ _ c.loop.invariant (omega arith) c.peek.ensures.seen c.in-Some.ensures (c.bump.ensures ∙ ap (past 1) c.peek.ensures.same)
