use Rattle.std.proofs.Common.{arith}
use Rattle.lookahead.proofs.Chunks.{moved_has_no_zero}
use Rattle.lookahead.proofs.window.Window.move_to_front.Goals as goal

pub invariant_of-self : goal.invariant_of-self
invariant_of-self g c =
    let w = c.args.self.now in
    record {
      ordered = omega arith;
      inside = omega arith;
      filled = moved_has_no_zero _ _ _ _ w.ordered (omega arith) c.copy_within.ensures.after w.filled;
    }
