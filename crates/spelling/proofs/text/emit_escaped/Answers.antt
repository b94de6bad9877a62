use Rattle.std.proofs.Common.{◌≡◌, ℕ, List, length}
use Rattle.std.specs.Iterator.Adapters.{enumerate_count, enumerate_source, enumerate_steps, skip_count, skip_source, skip_steps}
use Rattle.std.specs.Slice.Iter.{iter_rest}
use Rattle.std.proofs.lemmas.Fn.{fronts}
use Rattle.std.proofs.lemmas.Iterator.{YieldsList, YieldsList-from_slice}
use Rattle.std.proofs.lemmas.Iterator.Adapters.{YieldsList-from_skip}
use Rattle.std.proofs.lemmas.Iterator.Consumers.{YieldsList-end, YieldsList-from_enumerate, YieldsList-turn}
use Rattle.syntax.specs.Places.{treatment}
use Rattle.spelling.proofs.Texts.{placed, one_more, none_more, ended}
use Rattle.spelling.proofs.text.emit_escaped.Goals as goal

-- the loop goes over the code points from an index on, each behind its index
road : {s : _} (text : List ℕ) (from : ℕ) → iter_rest (enumerate_source (skip_source s)) ≡ text → enumerate_count (skip_source s) ≡ 0 → skip_count s ≡ from
    → YieldsList (skip_steps (enumerate_steps fronts)) (λ p. (p.0, p.1.now)) s (placed text from)
road text from source zero skipped = YieldsList-from_skip from (YieldsList-from_enumerate (YieldsList-from_slice text source) zero) skipped

pub loop-at-preserved : goal.loop-at-preserved
loop-at-preserved g c = λ r z e.
    let turn = YieldsList-turn (road c.args.text.now c.args.from (cc) (cc) (cc)) c.loop-at.yielded _ c.loop-at.yielded_by _ _ (c.in-Some.at, c.in-Some.c) c.in-Some.is c.next.ensures.steps in
    c.loop-at.invariant r z
    (one_more c.args.text.now c.args.from (treatment g.P.SpellingPlace.place c.args.text.now) c.loop-at.yielded _ c.in-Some.at c.in-Some.c.now c.treated.result turn c.treated.ensures c.in_ok-emit_treated.ensures e)

pub returns-in_err-emit_treated : goal.returns-in_err-emit_treated
returns-in_err-emit_treated g c =
    let turn = YieldsList-turn (road c.args.text.now c.args.from (cc) (cc) (cc)) c.loop-at.yielded _ c.loop-at.yielded_by _ _ (c.in-Some.at, c.in-Some.c) c.in-Some.is c.next.ensures.steps in
    c.loop-at.invariant _ _
    (none_more c.args.text.now c.args.from (treatment g.P.SpellingPlace.place c.args.text.now) c.from_residual.result (length c.loop-at.yielded) c.in-Some.at c.in-Some.c.now c.treated.result turn c.treated.ensures c.from_residual.ensures.1 c.in_err-emit_treated.ensures)

pub returns : goal.returns
returns g c =
    let all = YieldsList-end (road c.args.text.now c.args.from (cc) (cc) (cc)) c.loop-at.yielded _ c.loop-at.yielded_by _ _ c.in-None.is c.next.ensures.steps in
    c.loop-at.invariant _ _ (ended c.args.text.now c.args.from (treatment g.P.SpellingPlace.place c.args.text.now) (length c.loop-at.yielded) all.1)
