use Rattle.scan.proofs.Turns.{puts_then}
use Rattle.reader.proofs.held.put_held.Goals as goal

pub returns : goal.returns
returns c = puts_then c.put_some.ensures (puts_then c.put_some-2.ensures c.put_some-3.ensures)
