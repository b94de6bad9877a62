use Rattle.std.proofs.Common.{sym}
use Rattle.reader.proofs.Identifying.{begun_plain, begun_escape}
use Rattle.reader.proofs.names.name_one.Goals as goal

pub returns-then-is_ident : goal.returns-then-is_ident
returns-then-is_ident g c =
    begun_plain c.peek-seen.ensures.same c.peek-seen.ensures.seen (sym c.if-is_ident.ensures) c.bump.ensures

pub returns-then-starts_escape : goal.returns-then-starts_escape
returns-then-starts_escape g c =
    begun_escape c.peek-seen.ensures.same c.peek-seen.ensures.seen (sym c.if-is_ident.ensures) (sym c.if-starts_escape.ensures) c.bump-then-starts_escape.ensures c.escape.ensures.value c.escape.ensures.left
