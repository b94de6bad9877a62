use Rattle.std.proofs.Common.{sym}
use Rattle.reader.proofs.Textual.{dimension}
use Rattle.reader.proofs.texts.read_number.Goals as goal

pub returns-then-starts_ident : goal.returns-then-starts_ident
returns-then-starts_ident g c =
    dimension c.collect_number.ensures c.peek-seen.ensures.same c.peek-seen.ensures.seen c.filled-text.ensures (sym c.if-starts_ident.ensures) c.collect_name.ensures c.texted.ensures
