-- Code points that go out one after another, by their bytes.
use Rattle.std.proofs.Common.{◌≡◌, ℕ, Bool, List, [], ◌∷◌, ◌++◌, IsErrAnd, Ok, Err, Result, sym}
use Rattle.codepoint.specs.Utf8.{bytes_of}
use Rattle.refusal.specs.declared.fault.Fault.{Fault}
use Rattle.stream.specs.Sinks.{Emits, done}
use Rattle.stream.proofs.Emitting.{then, short, along, exit}
use Rattle.spelling.proofs.Bytes.{bytes_append, bytes_none, bytes_one}

module _ {S : Type 0} {held : S → List ℕ} {takes : S → ℕ → Bool} where
  -- the same bytes under another name
  pub by : {s z : S} {xs ys : List ℕ} {r : Result (Unit {0}) Fault} → xs ≡ ys → Emits held takes s xs r z → Emits held takes s ys r z
  by e h = along held takes e h

  pub nothing : {s : S} → Emits held takes s (bytes_of []) (Ok tt) s
  nothing = along held takes bytes_none done

  -- one part and then the rest
  pub and_then : {s z s' : S} {r : Result (Unit {0}) Fault} (a b : List ℕ) → Emits held takes s (bytes_of a) (Ok tt) z → Emits held takes z (bytes_of b) r s'
      → Emits held takes s (bytes_of (a ++ b)) r s'
  and_then a b d e = along held takes (sym (bytes_append a b)) (then held takes d e)

  -- a part that was refused, and then nothing, as a `?` answers it
  pub cut_short : {s s' : S} {f : Fault} (r : Result (Unit {0}) Fault) (a b : List ℕ) → IsErrAnd r (λ y. y ≡ f) → Emits held takes s (bytes_of a) (Err f) s'
      → Emits held takes s (bytes_of (a ++ b)) r s'
  cut_short r a b e h = exit held takes r e (along held takes (sym (bytes_append a b)) (short held takes (bytes_of b) h))

  -- one byte and then the rest
  pub byte_then : {s z s' : S} {b : ℕ} {bs : List ℕ} {r : Result (Unit {0}) Fault} → Emits held takes s (b ∷ []) (Ok tt) z → Emits held takes z bs r s' → Emits held takes s (b ∷ bs) r s'
  byte_then d e = then held takes d e

  -- a byte that was refused, and then nothing
  pub byte_refused : {s s' : S} {b : ℕ} {f : Fault} (r : Result (Unit {0}) Fault) (bs : List ℕ) → IsErrAnd r (λ y. y ≡ f) → Emits held takes s (b ∷ []) (Err f) s' → Emits held takes s (b ∷ bs) r s'
  byte_refused r bs e h = exit held takes r e (short held takes bs h)

-- how an emission is put together from its parts, code points or bytes
pub ruleset parts = (nothing, and_then, cut_short, done, byte_then, byte_refused, bytes_one)
