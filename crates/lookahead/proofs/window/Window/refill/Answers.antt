use Rattle.std.proofs.Common.{refl, ◌∙◌, arith, length-set}
use Rattle.std.proofs.lemmas.List.{take-set}
use Rattle.lookahead.specs.Windows.{points_of}
use Rattle.lookahead.proofs.Chunks.{ended_at, same, source_has_no_zero, still_ahead, still_no_zero, stopped}
use Rattle.lookahead.proofs.window.Window.refill.Goals as goal

pub invariant_of-self : goal.invariant_of-self
invariant_of-self g c =
    let w = c.make_room.new.self in
    let l = c.loop-cell in
    record {
      ordered = omega arith;
      inside = omega (arith, c.make_room.ensures.room, c.max-sight.ensures);
      filled = still_no_zero _ _ _ _ _ _ _ _ _ _ w.ordered (omega (arith, c.make_room.ensures.size)) (omega arith) l.invariant.counted refl l.invariant.handed w.filled (source_has_no_zero g.S.Source.ahead w.source);
    }

pub invariant_of-self-in-Break-1 : goal.invariant_of-self-in-Break-1
invariant_of-self-in-Break-1 g c =
    let w = c.make_room.new.self in
    let l = c.loop-cell in
    record {
      ordered = omega arith;
      inside = omega (arith, c.make_room.ensures.room, c.max-sight.ensures);
      filled = still_no_zero _ _ _ _ _ _ _ _ _ _ w.ordered (omega (arith, c.make_room.ensures.size)) (omega (arith, length-set l.cell-items l.cell-index)) l.invariant.counted (take-set _ _ _) l.invariant.handed w.filled (source_has_no_zero g.S.Source.ahead w.source);
    }

pub returns-in_err-point-clause-same : goal.returns-in_err-point-clause-same
returns-in_err-point-clause-same g c =
    let w = c.make_room.new.self in
    let l = c.loop-cell in
    let told = stopped (points_of g.S.Source.ahead l.source) (points_of g.S.Source.ahead c.next.new.self) _ _ _ c.in_err-point.ensures in
    same _ _ (still_ahead _ _ _ _ _ _ _ _ _ _ w.ordered (omega (arith, c.make_room.ensures.size)) (omega (arith, length-set l.cell-items l.cell-index)) l.invariant.counted (take-set _ _ _) (rw told.0 l.invariant.handed)) (told.1 ∙ l.invariant.ending)
    ∙ c.make_room.ensures.same

pub invariant_of-self-in-End-1 : goal.invariant_of-self-in-End-1
invariant_of-self-in-End-1 g c =
    let w = c.make_room.new.self in
    let l = c.loop-cell in
    record {
      ordered = omega arith;
      inside = omega (arith, c.make_room.ensures.room, c.max-sight.ensures);
      filled = still_no_zero _ _ _ _ _ _ _ _ _ _ w.ordered (omega (arith, c.make_room.ensures.size)) (omega (arith, length-set l.cell-items l.cell-index)) l.invariant.counted (take-set _ _ _) l.invariant.handed w.filled (source_has_no_zero g.S.Source.ahead w.source);
    }

pub returns-in-End-clause-same : goal.returns-in-End-clause-same
returns-in-End-clause-same g c =
    let w = c.make_room.new.self in
    let l = c.loop-cell in
    let told = ended_at (points_of g.S.Source.ahead l.source) (points_of g.S.Source.ahead c.next.new.self) _ _ _ (rw c.in-End.is at c.in_ok-point.ensures) in
    same _ _ (still_ahead _ _ _ _ _ _ _ _ _ _ w.ordered (omega (arith, c.make_room.ensures.size)) (omega (arith, length-set l.cell-items l.cell-index)) l.invariant.counted (take-set _ _ _) (rw told.0 l.invariant.handed)) (told.1 ∙ l.invariant.ending)
    ∙ c.make_room.ensures.same

pub returns-clause-same : goal.returns-clause-same
returns-clause-same g c =
    let w = c.make_room.new.self in
    let l = c.loop-cell in
    same _ _ (still_ahead _ _ _ _ _ _ _ _ _ _ w.ordered (omega (arith, c.make_room.ensures.size)) (omega arith) l.invariant.counted refl l.invariant.handed) l.invariant.ending ∙ c.make_room.ensures.same
