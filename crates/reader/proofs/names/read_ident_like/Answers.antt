use Rattle.reader.proofs.Identifying.{ident_url, ident_function, ident_plain}
use Rattle.reader.proofs.names.read_ident_like.Goals as goal

pub returns-then-opens_url : goal.returns-then-opens_url
returns-then-opens_url g c =
    ident_url c.hold-held.ensures c.peek-seen.ensures.same c.peek-seen.ensures.seen c.if-opens_url.ensures c.bump.ensures c.read_url_or_function.ensures

pub returns-then-then-eq40 : goal.returns-then-then-eq40
returns-then-then-eq40 g c =
    ident_function c.hold-held.ensures c.peek-seen.ensures.same c.peek-seen.ensures.seen c.if-opens_url.ensures c.put_held.ensures c.collect_name.ensures c.peek-then.ensures.same c.peek-then.ensures.seen c.filled.ensures c.if-then-eq40.true c.bump-then-then-eq40.ensures c.texted.ensures

pub returns : goal.returns
returns g c =
    ident_plain c.hold-held.ensures c.peek-seen.ensures.same c.peek-seen.ensures.seen c.if-opens_url.ensures c.put_held.ensures c.collect_name.ensures c.peek-then.ensures.same c.peek-then.ensures.seen c.filled-2.ensures c.if-then-eq40.false c.texted-2.ensures
