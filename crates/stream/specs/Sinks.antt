-- What a sink's take answers and leaves, and what many takes in a row come to.
use Rattle.std.specs.Prelude.{◌≡◌, ℕ, ◌<◌, Bool, false, List, [], ◌∷◌, ◌++◌, length, take, Ok, Err, MatchBool, Result, slice_index}
use Rattle.refusal.specs.declared.fault.Fault.{Fault}
use Rattle.refusal.specs.declared.fault.Fault.TheVariants.{NotTaken}

-- a byte that the sink takes is added at the end, and nothing is said of what it takes then;
-- any other is refused, and changes neither what is held nor what is taken
abbrev pub Takes : {S : Type 0} → (S → List ℕ) → (S → ℕ → Bool) → S → ℕ → Result (Unit {0}) Fault → S → Type 0
Takes held takes s b r s' =
    MatchBool (takes s b)
    ((r ≡ Ok tt) × (held s' ≡ held s ++ b ∷ []))
    ((r ≡ Err (NotTaken (length (held s)))) × (held s' ≡ held s) × (takes s' ≡ takes s))

-- bytes given one after another, each by a take, until one is refused
pub data Emits {S : Type 0} (held : S → List ℕ) (takes : S → ℕ → Bool) : S → List ℕ → Result (Unit {0}) Fault → S → Type 0 where
  done : {s : S} → Emits held takes s [] (Ok tt) s
  next : {s z s' : S} {b : ℕ} {bs : List ℕ} {r : Result (Unit {0}) Fault} → Takes held takes s b (Ok tt) z → Emits held takes z bs r s' → Emits held takes s (b ∷ bs) r s'
  stop : {s s' : S} {b : ℕ} {bs : List ℕ} {f : Fault} → Takes held takes s b (Err f) s' → Emits held takes s (b ∷ bs) (Err f) s'

-- what that comes to: all bytes were taken; or exactly the first k were taken and stay, the sink does not take the one after them,
-- and the fault stands at the number of bytes then held
abbrev pub Outcome : {S : Type 0} → (S → List ℕ) → (S → ℕ → Bool) → S → List ℕ → Result (Unit {0}) Fault → S → Type 0
Outcome held takes s bs (Ok u) s' = held s' ≡ held s ++ bs
Outcome held takes s bs (Err f) s' =
    (k : ℕ) × (k < length bs) × (held s' ≡ held s ++ take k bs) × (takes s' (slice_index bs k) ≡ false) × (f ≡ NotTaken (length (held s')))
