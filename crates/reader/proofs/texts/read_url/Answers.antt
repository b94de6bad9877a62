use Rattle.reader.proofs.Textual.{url_closed, url_is_bad}
use Rattle.reader.proofs.texts.read_url.Goals as goal

pub returns-then-seen-eq41 : goal.returns-then-seen-eq41
returns-then-seen-eq41 g c =
    url_closed c.collect_url.ensures c.skip_whitespace.ensures c.peek-seen.ensures.same c.peek-seen.ensures.seen c.peek-seen.ensures.ends c.filled.ensures c.then-seen-eq41.either c.bump.ensures c.texted.ensures

pub returns : goal.returns
returns g c =
    url_is_bad c.collect_url.ensures c.skip_whitespace.ensures c.peek-seen.ensures.same c.peek-seen.ensures.seen c.peek-seen.ensures.ends c.filled-2.ensures c.if-seen-eq-EOF.false c.if-seen-eq41.false c.skip_remnants.ensures c.bump-2.ensures c.texted-2.ensures
