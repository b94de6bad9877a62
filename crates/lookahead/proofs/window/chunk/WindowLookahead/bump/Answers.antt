use Rattle.std.proofs.Common.{◌≡◌, ◌<◌, length, refl, ap, ◌∙◌, arith}
use Rattle.std.proofs.lemmas.Bool.Decides.{nat_tests}
use Rattle.lookahead.specs.Ahead.{past}
use Rattle.lookahead.specs.Windows.{ahead_of, points_of}
use Rattle.lookahead.proofs.Chunks.{passed_one, same}
use Rattle.lookahead.proofs.window.chunk.WindowLookahead.bump.Goals.{then-is_empty, else-is_empty}
use Rattle.lookahead.proofs.window.chunk.WindowLookahead.bump.Goals as goal

pub returns-then-not-is_empty : goal.returns-then-not-is_empty
returns-then-not-is_empty g c =
    let ahead = ahead_of g.S.Source.ahead g.S.Source.ending in
    let w = c.if-is_empty.self in
    let still : ahead w ≡ ahead c.args.self.now = elim c.if-is_empty.branch [
      | then-is_empty b ↦ ap ahead b.self-is ∙ b.refill.ensures.same
      | else-is_empty b ↦ ap ahead b.self-is
    ] in
    let some : 0 < length c.chunk-2.result.now = grind (arith, nat_tests) in
    same _ _ (passed_one w.points (points_of g.S.Source.ahead w.source) w.at w.end (omega (arith, ap length c.chunk-2.ensures.now))) refl ∙ ap (past 1) still
