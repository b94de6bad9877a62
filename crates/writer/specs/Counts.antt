-- The numbers that finish answers.
use Rattle.std.specs.Prelude.{ℕ, List, length}
use Rattle.syntax.specs.Tokens.{TokenValue}
use Rattle.syntax.specs.Written.{comments_in}
use Rattle.writer.specs.declared.counts.Counts.{Counts}

abbrev pub counts : ℕ → ℕ → Counts
counts t c = record { tokens = t; comments = c }

-- of tokens, and of the comments that stand between them
abbrev pub counts_of : List TokenValue → Counts
counts_of ts = counts (length ts) (comments_in ts)
