use Rattle.std.proofs.Common.{◌≡◌, ap, ◌∙◌, arith}
use Rattle.lookahead.specs.Ahead.{past}
use Rattle.scan.proofs.Numbering.{one_taken, part_collected}
use Rattle.scan.proofs.number.collect_part.Goals as goal

pub loop-preserved : goal.loop-preserved
loop-preserved g c =
    one_taken _ _ _ _ _ _ _ _ c.loop.invariant (let n = c.requires in let m = c.loop-test.true in omega arith) c.peek-seen.ensures.seen (c.bump.ensures ∙ ap (past 1) c.peek-seen.ensures.same) c.put.ensures

pub returns : goal.returns
returns g c =
    let n : c.loop.counter ≡ c.args.count = omega arith in
    part_collected _ _ _ _ _ _ _ (rw n at c.loop.invariant) c.collect_digits.ensures
