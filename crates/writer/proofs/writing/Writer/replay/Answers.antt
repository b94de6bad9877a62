use Rattle.writer.proofs.Replaying.{one_more}
use Rattle.writer.proofs.writing.Writer.replay.Goals as goal

pub loop-call-preserved : goal.loop-call-preserved
loop-call-preserved g c =
    λ u run. c.loop-call.invariant u (one_more c.args.calls.now c.loop-call.call-index _ c.loop-call-test.true c.call.ensures run)
