-- What a source means, and what the array source and the byte source hand over.
use Rattle.std.specs.Prelude.{◌≡◌, ℕ, ◌+◌, cond, List, [], ◌∷◌, length, Some, None, Ok, Err, Option, Result, nat_le}
use Rattle.codepoint.specs.Utf8.{ill_formed_from}
use Rattle.refusal.specs.declared.fault.Fault.{Fault}
use Rattle.refusal.specs.declared.fault.Fault.TheVariants.{OutOfRange, IllFormed}
use Rattle.refusal.specs.declared.fault.Layer.TheVariants.{Source}
use Rattle.stream.specs.declared.source.Step.{Step}
use Rattle.stream.specs.declared.source.Step.TheVariants.{Point, End}
use Rattle.refusal.specs.Faults.{layer_of}
use Rattle.stream.specs.Preprocess.{Placed}

-- how a source ends: the end with its place, or a fault
pub data Ending : Type 0 where
  ends : ℕ → Ending
  stops : Fault → Ending

abbrev pub FromSource : Ending → Type 0
FromSource (ends p) = Unit {0}
FromSource (stops f) = layer_of f ≡ Source

-- how an ending is told
abbrev pub told : Ending → Result Step Fault
told (ends p) = Ok (End p)
told (stops f) = Err f

-- next: from what is ahead and the ending to the answer, what is ahead then and the ending then
abbrev pub Hands : List Placed → Ending → Result Step Fault → List Placed → Ending → Type 0
Hands [] e r after e' = (r ≡ told e) × (after ≡ []) × (e' ≡ e)
Hands (p ∷ ps) e r after e' = (r ≡ Ok (Point p)) × (after ≡ ps) × (e' ≡ e)

-- the code points of numbers from index i on, up to the first above U+10FFFF
abbrev pub array_points : ℕ → List ℕ → List Placed
array_points i [] = []
array_points i (x ∷ xs) = cond (nat_le x 0x10ffff) ((x, i) ∷ array_points (i + 1) xs) []

abbrev pub array_ending : ℕ → List ℕ → Ending
array_ending i [] = ends i
array_ending i (x ∷ xs) = cond (nat_le x 0x10ffff) (array_ending (i + 1) xs) (stops (OutOfRange i))

-- bytes from offset i on end at their first ill-formed sequence, or behind the last of them
abbrev pub ending_at : ℕ → Option ℕ → Ending
ending_at last None = ends last
ending_at last (Some p) = stops (IllFormed p)

abbrev pub byte_ending : ℕ → List ℕ → Ending
byte_ending i bs = ending_at (i + length bs) (ill_formed_from 0 i bs)

-- an ending as the answer of a call that reads to it: the end's place, or the fault
abbrev pub ended : Ending → Result ℕ Fault
ended (ends p) = Ok p
ended (stops f) = Err f
