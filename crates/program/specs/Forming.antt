-- What the program makes of a sheet.
use Rattle.std.specs.Prelude.{ℕ, ◌<◌, ◌≤◌, Bool, List, length, Err, Result}
use Rattle.codepoint.specs.Utf8.{points_from}
use Rattle.refusal.specs.declared.fault.Fault.{Fault}
use Rattle.refusal.specs.declared.fault.Fault.TheVariants.{TooLong}
use Rattle.stream.specs.Sources.{byte_ending}
use Rattle.reader.specs.NextToken.{Model}
use Rattle.writer.specs.declared.writing.Writer.{Writer}
use Rattle.normal.specs.Normalizing.{Normalizes}
use Rattle.writer.specs.declared.counts.Counts.{Counts}

-- a sheet that is too long is refused, and sink and cells stay; any other is normalized from its bytes
pub data Forms {S : Type 0} (held : S → List ℕ) (takes : S → ℕ → Bool) (s : S) (sheet cells : List ℕ) : Result Counts Fault → S → List ℕ → Type 0 where
  too_long : 32768 < length sheet → Forms held takes s sheet cells (Err (TooLong 32768)) s cells
  formed : {r : Result Counts Fault} {m' : Model} {cells' : List ℕ} (w' : Writer S) → length sheet ≤ 32768
      → Normalizes held takes (points_from 0 0 sheet) (byte_ending 0 sheet) s cells r m' cells' w' → Forms held takes s sheet cells r w'.sink cells'
