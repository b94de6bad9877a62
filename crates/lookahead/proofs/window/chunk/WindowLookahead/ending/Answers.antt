use Rattle.std.proofs.Common.{◌<◌, length, sym, ap, ◌∙◌, arith}
use Rattle.lookahead.specs.Ahead.{ending_in_sight}
use Rattle.lookahead.specs.Windows.{chunk_of, points_of}
use Rattle.lookahead.proofs.Chunks.{few_are_all, in_sight, out_of_sight}
use Rattle.lookahead.proofs.window.chunk.WindowLookahead.ending.Goals as goal

pub returns-then-chunk-ge3-clause-told : goal.returns-then-chunk-ge3-clause-told
returns-then-chunk-ge3-clause-told g c =
    let w = c.args.self.now in
    sym (out_of_sight (chunk_of w) (points_of g.S.Source.ahead w.source) _ (omega (arith, ap length c.chunk.ensures.now)))

pub returns-then-chunk-lt3-clause-told : goal.returns-then-chunk-lt3-clause-told
returns-then-chunk-lt3-clause-told g c =
    let w = c.refill-told.new.self in
    let few : length (chunk_of w) < 3 = omega (arith, ap length c.chunk-2.ensures.now) in
    let all = few_are_all g.S.Source.ahead g.S.Source.ending w c.refill-told.result c.refill-told.ensures.now_so few in
    c.transpose.ensures ∙ all.1 ∙ sym (in_sight (chunk_of w) (points_of g.S.Source.ahead w.source) _ few all.0) ∙ ap ending_in_sight c.refill-told.ensures.same

pub returns-else-chunk-lt3-clause-told : goal.returns-else-chunk-lt3-clause-told
returns-else-chunk-lt3-clause-told g c =
    let w = c.refill-told.new.self in
    sym (out_of_sight (chunk_of w) (points_of g.S.Source.ahead w.source) _ (omega (arith, ap length c.chunk-2.ensures.now))) ∙ ap ending_in_sight c.refill-told.ensures.same
