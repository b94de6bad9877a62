-- The loop over a text.
use Rattle.std.proofs.Common.{◌≡◌, ℕ, ◌+◌, ◌-◌, ◌<◌, Bool, List, [], ◌∷◌, ◌++◌, length, get_or, drop, IsErrAnd, Ok, Err, Result, sym, ap, ◌∙◌, add-one, arith, drop-cons, length-append, length-drop, get_or-drop}
use Rattle.std.specs.List.{enumerate_from}
use Rattle.std.proofs.lemmas.List.{drop_all, get_or_default}
use Rattle.std.proofs.lemmas.List.FromFn.{length-enumerate_from, get_or-enumerate_from}
use Rattle.codepoint.specs.Utf8.{bytes_of}
use Rattle.refusal.specs.declared.fault.Fault.{Fault}
use Rattle.stream.specs.Sinks.{Emits}
use Rattle.syntax.specs.declared.place.Treatment.{Treatment}
use Rattle.syntax.specs.Places.{escaped, escaped_from}
use Rattle.spelling.proofs.Emissions.{by, and_then, cut_short, nothing}

at_index : (how : ℕ → ℕ → Treatment) (xs : List ℕ) (i : ℕ) → i < length xs
    → escaped (how i (get_or xs i 0)) (get_or xs i 0) ++ escaped_from how (i + 1) (drop (i + 1) xs) ≡ escaped_from how i (drop i xs)
unfolding escaped_from
at_index how xs i h = rw (drop-cons xs i 0 h, add-one)

module _ (xs : List ℕ) (from : ℕ) where
  -- the code points from an index on, each behind its index
  abbrev pub placed : List (ℕ × ℕ)
  placed = drop from (enumerate_from 0 xs)

  length-placed : length placed ≡ length xs - from
  length-placed = length-drop from (enumerate_from 0 xs) ∙ ap (λ n. n - from) (length-enumerate_from 0 xs)

  -- the one that comes behind n of them
  abbrev pub ComesNext : ℕ → ℕ → ℕ → Type 0
  ComesNext n at c = (n < length placed) × ((at, c) ≡ get_or placed n (at, c))

  found : (n at c : ℕ) → ComesNext n at c → (from + n < length xs) × (at ≡ from + n) × (c ≡ get_or xs (from + n) 0)
  found n at c (h, e) =
      let within : from + n < length xs = omega (arith, length-placed) in
      let there : ◌≡◌ {A = ℕ × ℕ} (at, c) (0 + (from + n), get_or xs (from + n) c) = e ∙ get_or-drop from (enumerate_from 0 xs) n (at, c) ∙ get_or-enumerate_from 0 xs (from + n) (at, c) within in
      let index : at ≡ 0 + (from + n) = ap (λ p. p.0) there in
      (within, omega arith, ap (λ p. p.1) there ∙ get_or_default xs (from + n) c 0 within)

  in_front : (how : ℕ → ℕ → Treatment) (n at c : ℕ) (T : Treatment) → ComesNext n at c → T ≡ how at c
      → escaped T c ++ escaped_from how (from + n + 1) (drop (from + n + 1) xs) ≡ escaped_from how (from + n) (drop (from + n) xs)
  in_front how n at c T next e = let (within, i, p) = found n at c next in cc (at_index how xs (from + n) within)

  module _ {S : Type 0} {held : S → List ℕ} {takes : S → ℕ → Bool} (how : ℕ → ℕ → Treatment) where
    -- this code point, and then the rest
    pub one_more : {A : Type 0} {s z s' : S} {r : Result (Unit {0}) Fault} (ys : List A) (y : A) (at c : ℕ) (T : Treatment) → ComesNext (length ys) at c → T ≡ how at c
        → Emits held takes s (bytes_of (escaped T c)) (Ok tt) z → Emits held takes z (bytes_of (escaped_from how (from + length (ys ++ y ∷ [])) (drop (from + length (ys ++ y ∷ [])) xs))) r s'
        → Emits held takes s (bytes_of (escaped_from how (from + length ys) (drop (from + length ys) xs))) r s'
    one_more ys y at c T next e a b =
        let behind : from + length (ys ++ y ∷ []) ≡ from + length ys + 1 = omega (arith, length-append ys (y ∷ [])) in
        by (ap bytes_of (in_front how (length ys) at c T next e)) (and_then (escaped T c) (escaped_from how (from + length ys + 1) (drop (from + length ys + 1) xs)) a (rw behind at b))

    -- it was refused
    pub none_more : {s s' : S} {f : Fault} (r : Result (Unit {0}) Fault) (n at c : ℕ) (T : Treatment) → ComesNext n at c → T ≡ how at c
        → IsErrAnd r (λ y. y ≡ f) → Emits held takes s (bytes_of (escaped T c)) (Err f) s'
        → Emits held takes s (bytes_of (escaped_from how (from + n) (drop (from + n) xs))) r s'
    none_more r n at c T next e x a =
        by (ap bytes_of (in_front how n at c T next e)) (cut_short r (escaped T c) (escaped_from how (from + n + 1) (drop (from + n + 1) xs)) x a)

    -- none is left
    pub ended : {s : S} (n : ℕ) → n ≡ length placed → Emits held takes s (bytes_of (escaped_from how (from + n) (drop (from + n) xs))) (Ok tt) s
    unfolding escaped_from
    ended n h = by (ap (λ l. bytes_of (escaped_from how (from + n) l)) (sym (drop_all (from + n) xs (omega (arith, length-placed))))) nothing
