-- A window of code points in front of the preprocessing layer.
use Rattle.std.specs.Prelude.{◌≡◌, ◌≤◌, ℕ, List, [], ◌++◌, length, Some, None, Ok, Err, Option, Result, slice_range}
use Rattle.refusal.specs.declared.fault.Fault.{Fault}
use Rattle.stream.specs.Preprocess.{Placed, behind}
use Rattle.stream.specs.Sources.{Ending}
use Rattle.stream.specs.Sources.Ending.{ends, stops}
use Rattle.stream.specs.declared.preprocess.Preprocess.{Preprocess}
use Rattle.lookahead.specs.declared.window.TheConstants.{SIGHT}
use Rattle.lookahead.specs.declared.window.Window.{Window}
use Rattle.lookahead.specs.Ahead.{Ahead}

-- the code points that the layer hands over
abbrev pub points_of : {S : Type 0} → (S → List Placed) → Preprocess S → List Placed
points_of ahead p = behind p.after_cr (ahead p.below)

-- what lies in the window
abbrev pub chunk_of : {S : Type 0} → Window S → List Placed
chunk_of w = slice_range w.points w.at w.end

-- what is ahead of it: that, and then what is still in the source
abbrev pub ahead_of : {S : Type 0} → (S → List Placed) → (S → Ending) → Window S → Ahead
ahead_of ahead ending w = record { list = chunk_of w ++ points_of ahead w.source; ending = ending w.source.below }

-- three are in sight; or its source has nothing left and told its ending
abbrev pub InSightOrTold : {S : Type 0} → (S → List Placed) → (S → Ending) → Window S → Result (Option ℕ) Fault → Type 0
InSightOrTold ahead ending w (Ok None) = SIGHT ≤ length (chunk_of w)
InSightOrTold ahead ending w (Ok (Some p)) = (points_of ahead w.source ≡ []) × (ending w.source.below ≡ ends p)
InSightOrTold ahead ending w (Err f) = (points_of ahead w.source ≡ []) × (ending w.source.below ≡ stops f)
