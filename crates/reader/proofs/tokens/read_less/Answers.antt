use Rattle.std.proofs.Common.{sym}
use Rattle.reader.proofs.Deciding.{less_cdo}
use Rattle.reader.proofs.tokens.read_less.Goals as goal

pub returns-then-is_comment_opening : goal.returns-then-is_comment_opening
returns-then-is_comment_opening g c =
    less_cdo c.peek-seen.ensures.same c.peek-seen.ensures.seen (sym c.if-is_comment_opening.ensures) c.skip_three.ensures c.bare.ensures
