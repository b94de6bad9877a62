use Rattle.scan.proofs.Comments.{comments_turn, comments_done}
use Rattle.scan.proofs.skipping.skip_comments.Goals as goal

pub returns-then-seen-ne47 : goal.returns-then-seen-ne47
returns-then-seen-ne47 g c = comments_done _ _ _ c.loop-seen.invariant c.peek-seen.ensures.seen _ c.then-seen-ne47.either c.peek-seen.ensures.same

pub loop-seen-preserved : goal.loop-seen-preserved
loop-seen-preserved g c =
    comments_turn _ _ _ c.loop-seen.invariant c.peek-seen.ensures.seen _ _ _ _ c.if-seen-ne47.false c.if-seen-ne42.false c.peek-seen.ensures.same c.bump.ensures c.bump-in-loop-seen.ensures c.skip_comment.ensures
