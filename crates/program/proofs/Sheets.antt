-- A sheet that was normalized from its bytes is formed.
use Rattle.std.proofs.Common.{◌≡◌, ℕ, ◌≤◌, Bool, List, length, Result, sym, subst}
use Rattle.codepoint.specs.Utf8.{points_from}
use Rattle.refusal.specs.declared.fault.Fault.{Fault}
use Rattle.stream.specs.Preprocess.{Placed}
use Rattle.stream.specs.Sources.{Ending, byte_ending}
use Rattle.reader.specs.NextToken.{Model}
use Rattle.writer.specs.declared.writing.Writer.{Writer}
use Rattle.normal.specs.Normalizing.{Normalizes}
use Rattle.program.specs.Forming.{Forms}
use Rattle.program.specs.Forming.Forms.{formed}
use Rattle.writer.specs.declared.counts.Counts.{Counts}

pub formed_from_bytes : {S : Type 0} (held : S → List ℕ) (takes : S → ℕ → Bool) {s s' : S} (sheet : List ℕ) {cells cells' : List ℕ} {points : List Placed} {ending : Ending} {r : Result Counts Fault} {m' : Model} {w' : Writer S}
    → length sheet ≤ 32768 → points ≡ points_from 0 0 sheet → ending ≡ byte_ending 0 sheet → s' ≡ w'.sink
    → Normalizes held takes points ending s cells r m' cells' w' → Forms held takes s sheet cells r s' cells'
formed_from_bytes held takes {s} {s'} sheet {cells} {cells'} {points} {ending} {r} {m'} {w'} short p e k n =
    subst (λ x. Forms held takes s sheet cells r x cells') (sym k)
    (formed w' short (subst (λ d. Normalizes held takes (points_from 0 0 sheet) d s cells r m' cells' w') e (subst (λ ps. Normalizes held takes ps ending s cells r m' cells' w') p n)))
