-- The loop over code points that go out as they are.
use Rattle.std.proofs.Common.{◌≡◌, ℕ, ◌+◌, ◌<◌, ◌≤◌, Bool, List, [], ◌∷◌, ◌++◌, length, get_or, drop, IsErrAnd, Ok, Err, Result, sym, ap, add-one, drop-cons}
use Rattle.std.proofs.lemmas.List.{drop_all}
use Rattle.codepoint.specs.Utf8.{utf8, bytes_of}
use Rattle.refusal.specs.declared.fault.Fault.{Fault}
use Rattle.stream.specs.Sinks.{Emits}
use Rattle.spelling.proofs.Bytes.{bytes_one}
use Rattle.spelling.proofs.Emissions.{by, nothing, and_then, cut_short}

front : (xs : List ℕ) (i : ℕ) → i < length xs → (get_or xs i 0 ∷ []) ++ drop (i + 1) xs ≡ drop i xs
front xs i h = rw (drop-cons xs i 0 h, add-one)

module _ {S : Type 0} {held : S → List ℕ} {takes : S → ℕ → Bool} where
  pub point_more : {s z s' : S} {r : Result (Unit {0}) Fault} (xs : List ℕ) (i : ℕ) → i < length xs → Emits held takes s (utf8 (get_or xs i 0)) (Ok tt) z
      → Emits held takes z (bytes_of (drop (i + 1) xs)) r s' → Emits held takes s (bytes_of (drop i xs)) r s'
  point_more xs i h a b = by (ap bytes_of (front xs i h)) (and_then (get_or xs i 0 ∷ []) (drop (i + 1) xs) (by (bytes_one (get_or xs i 0)) a) b)

  pub point_refused : {s s' : S} {f : Fault} (r : Result (Unit {0}) Fault) (xs : List ℕ) (i : ℕ) → i < length xs → IsErrAnd r (λ y. y ≡ f)
      → Emits held takes s (utf8 (get_or xs i 0)) (Err f) s' → Emits held takes s (bytes_of (drop i xs)) r s'
  point_refused r xs i h e a = by (ap bytes_of (front xs i h)) (cut_short r (get_or xs i 0 ∷ []) (drop (i + 1) xs) e (by (bytes_one (get_or xs i 0)) a))

  pub points_ended : {s : S} (xs : List ℕ) (i : ℕ) → length xs ≤ i → Emits held takes s (bytes_of (drop i xs)) (Ok tt) s
  points_ended xs i h = by (ap bytes_of (sym (drop_all i xs h))) nothing
