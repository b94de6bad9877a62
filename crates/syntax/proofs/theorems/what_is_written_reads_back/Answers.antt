use Rattle.syntax.proofs.Settling.{written_reads_back}
use Rattle.syntax.proofs.theorems.what_is_written_reads_back.Goals as goal

pub returns : goal.returns
returns c = written_reads_back
