use Rattle.scan.proofs.Comments.{comment_past}
use Rattle.scan.proofs.skipping.skip_comment.Goals as goal

pub returns : goal.returns
returns g c = comment_past _ _ _ _ c.skip.ensures c.bump.ensures c.bump-2.ensures
