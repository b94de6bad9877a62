use Rattle.std.proofs.Common.{refl, ap, ◌∙◌}
use Rattle.lookahead.specs.Ahead.{past}
use Rattle.scan.proofs.States.{bump_twice}
use Rattle.scan.proofs.Arms.{nothing_left}
use Rattle.scan.proofs.Turns.{turned, gives, turn_put, turn_none, turn_escape, finish_halt, finish_end}
use Rattle.scan.specs.declared.rule.Turn.TheVariants.{Halt, Take, Pass, PassTwo, Escape}
use Rattle.scan.proofs.rule.collect.Goals as goal

pub returns-then-seen-eq-EOF : goal.returns-then-seen-eq-EOF
returns-then-seen-eq-EOF g c =
    finish_end _ _ _ _ _ c.loop-seen.invariant (nothing_left _ _ c.peek-seen.ensures.seen c.peek-seen.ensures.ends c.if-seen-eq-EOF.true) _ c.peek-seen.ensures.same

pub returns-in-Halt : goal.returns-in-Halt
returns-in-Halt g c =
    finish_halt _ _ _ _ _ c.loop-seen.invariant (turned (g.R.Rule.rule c.args.rule.now) (g.L.Lookahead.rest c.loop-seen.input) _ c.peek-seen.ensures.seen c.peek-seen.ensures.ends c.if-seen-eq-EOF.false Halt c.in-Halt.ensures) _ c.peek-seen.ensures.same

pub loop-seen-preserved-in-Take : goal.loop-seen-preserved-in-Take
loop-seen-preserved-in-Take g c =
    turn_put _ _ _ _ _ c.loop-seen.invariant _ 0 (gives _ (g.L.Lookahead.rest c.loop-seen.input) _ c.peek-seen.ensures.seen c.peek-seen.ensures.ends c.if-seen-eq-EOF.false Take c.in-Take.ensures _ 0 refl) _ _ (c.bump.ensures ∙ ap (past 1) c.peek-seen.ensures.same) c.put.ensures

pub loop-seen-preserved-in-Pass : goal.loop-seen-preserved-in-Pass
loop-seen-preserved-in-Pass g c =
    turn_none _ _ _ _ _ c.loop-seen.invariant 0 (gives _ (g.L.Lookahead.rest c.loop-seen.input) _ c.peek-seen.ensures.seen c.peek-seen.ensures.ends c.if-seen-eq-EOF.false Pass c.in-Pass.ensures _ 0 refl) _ (c.bump-in-Pass.ensures ∙ ap (past 1) c.peek-seen.ensures.same)

pub loop-seen-preserved-in-PassTwo : goal.loop-seen-preserved-in-PassTwo
loop-seen-preserved-in-PassTwo g c =
    turn_none _ _ _ _ _ c.loop-seen.invariant 1 (gives _ (g.L.Lookahead.rest c.loop-seen.input) _ c.peek-seen.ensures.seen c.peek-seen.ensures.ends c.if-seen-eq-EOF.false PassTwo c.in-PassTwo.ensures _ 1 refl) _ (bump_twice _ _ _ _ c.peek-seen.ensures.same c.bump-in-PassTwo.ensures c.bump-in-PassTwo-2.ensures)

pub loop-seen-preserved : goal.loop-seen-preserved
loop-seen-preserved g c =
    turn_escape _ _ _ _ _ c.loop-seen.invariant (gives _ (g.L.Lookahead.rest c.loop-seen.input) _ c.peek-seen.ensures.seen c.peek-seen.ensures.ends c.if-seen-eq-EOF.false Escape c.in-Escape.ensures _ _ refl) _ _ _ _ (c.bump-in-Escape.ensures ∙ ap (past 1) c.peek-seen.ensures.same) c.escape-c.ensures.value c.escape-c.ensures.left c.put-in-Escape.ensures
