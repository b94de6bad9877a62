-- Laws of emission: one after another is a concatenation; the outcome.
use Rattle.std.proofs.Common.{◌≡◌, ℕ, suc, ◌+◌, ◌<◌, ◌≤◌, Bool, true, false, List, [], ◌∷◌, ◌++◌, length, get_or, take, drop, IsErrAnd, Ok, Err, MatchBool, Result, sym, refl, ap, ◌∙◌, subst, append_assoc, append-nil, add-one, arith, drop-cons}
use Rattle.std.proofs.lemmas.List.{drop_all}
use Rattle.std.proofs.lemmas.Bool.Decides.{nat_tests}
use Rattle.refusal.specs.declared.fault.Fault.{Fault}
use Rattle.refusal.specs.declared.fault.Fault.TheVariants.{NotTaken}
use Rattle.codepoint.specs.Classes.{is_scalar_value}
use Rattle.codepoint.specs.Utf8.{scalar_bytes, utf8}
use Rattle.stream.specs.Sinks.{Takes, Emits, done, next, stop, Outcome}

module _ {S : Type 0} (held : S → List ℕ) (takes : S → ℕ → Bool) where
  -- what follows an emission that went through
  pub then : {s z s' : S} {xs bs : List ℕ} {r : Result (Unit {0}) Fault} → Emits held takes s xs (Ok tt) z → Emits held takes z bs r s' → Emits held takes s (xs ++ bs) r s'
  then done e = e
  then (next t d) e = next t (then d e)

  -- what would follow one that was refused is never offered
  pub short : {s s' : S} {xs : List ℕ} {f : Fault} (bs : List ℕ) → Emits held takes s xs (Err f) s' → Emits held takes s (xs ++ bs) (Err f) s'
  short bs (next t e) = next t (short bs e)
  short bs (stop t) = stop t

  taken : (s z : S) (b : ℕ) → Takes held takes s b (Ok tt) z → held z ≡ held s ++ b ∷ []
  taken s z b h = grind arith

  barred : (s z : S) (b : ℕ) (f : Fault) → Takes held takes s b (Err f) z → (held z ≡ held s) × (takes z b ≡ false) × (f ≡ NotTaken (length (held z)))
  barred s z b f h = at (takes s b) refl h
    where
      at : (v : Bool) → takes s b ≡ v → MatchBool v ((◌≡◌ {A = Result (Unit {0}) Fault} (Err f) (Ok tt)) × (held z ≡ held s ++ b ∷ [])) ((◌≡◌ {A = Result (Unit {0}) Fault} (Err f) (Err (NotTaken (length (held s))))) × (held z ≡ held s) × (takes z ≡ takes s)) → (held z ≡ held s) × (takes z b ≡ false) × (f ≡ NotTaken (length (held z)))
      at true e w = let e0 : ◌≡◌ {A = ℕ} 0 1 = let e1 = w.0 in cc in absurd (omega arith)
      at false e w =
          let same = w.1 in
          let told : f ≡ NotTaken (length (held s)) = let e1 = w.0 in cc in
          (same, ap (λ t. t b) w.2 ∙ e, told ∙ ap (λ l. NotTaken (length l)) (sym same))

  -- the outcome of an emission
  pub outcome : {s s' : S} {bs : List ℕ} (r : Result (Unit {0}) Fault) → Emits held takes s bs r s' → Outcome held takes s bs r s'
  outcome (Ok u) done = sym (append-nil _)
  outcome {s} (Ok u) (next {z = z} {b = b} {bs = rest} t e) =
      outcome (Ok u) e ∙ ap (λ l. l ++ rest) (taken s z b t) ∙ append_assoc (held s) (b ∷ []) rest
  outcome {s} (Err f) (next {z = z} {b = b} {bs = rest} t e) =
      let o = outcome (Err f) e in (
        suc o.0,
        omega (arith, o.1),
        o.2 ∙ ap (λ l. l ++ take o.0 rest) (taken s z b t) ∙ append_assoc (held s) (b ∷ []) (take o.0 rest),
        o.3,
        o.4,
      )
  outcome {s} {s'} (Err f) (stop {b = b} {bs = rest} t) =
      let h = barred s s' b f t in
      (0, omega arith, h.0 ∙ sym (append-nil _), h.1, h.2)

  -- a loop over the bytes: one more, one that is refused, none left
  pub onward : {s z s' : S} (xs : List ℕ) (i : ℕ) {r : Result (Unit {0}) Fault} → i < length xs → Takes held takes s (get_or xs i 0) (Ok tt) z → Emits held takes z (drop (i + 1) xs) r s' → Emits held takes s (drop i xs) r s'
  onward xs i h t e = rw (drop-cons xs i 0 h) (next t (rw add-one at e))

  pub halted : {s s' : S} (xs : List ℕ) (i : ℕ) {f : Fault} → i < length xs → Takes held takes s (get_or xs i 0) (Err f) s' → Emits held takes s (drop i xs) (Err f) s'
  halted xs i h t = rw (drop-cons xs i 0 h) (stop t)

  pub ended : {s : S} (xs : List ℕ) (i : ℕ) → length xs ≤ i → Emits held takes s (drop i xs) (Ok tt) s
  ended xs i h = rw (drop_all i xs h) done

  -- one byte alone
  pub alone : {s s' : S} {b : ℕ} (r : Result (Unit {0}) Fault) → Takes held takes s b r s' → Emits held takes s (b ∷ []) r s'
  alone (Ok u) t = next t done
  alone (Err f) t = stop t

  -- the bytes under another name, and the exit of a `?`
  pub along : {s z : S} {xs ys : List ℕ} {r : Result (Unit {0}) Fault} → xs ≡ ys → Emits held takes s xs r z → Emits held takes s ys r z
  along {s} {z} {xs} {ys} {r} e h = subst (λ l. Emits held takes s l r z) e h

  pub exit : {s z : S} {xs : List ℕ} {f : Fault} (r : Result (Unit {0}) Fault) → IsErrAnd r (λ y. y ≡ f) → Emits held takes s xs (Err f) z → Emits held takes s xs r z
  exit {s} {z} {xs} {f} (Err y) e h = subst (λ v. Emits held takes s xs (Err v) z) (sym e) h
  exit (Ok u) e h = absurd e

-- an ASCII code point is its own byte
pub ascii_alone : (c : ℕ) → c < 0x80 → utf8 c ≡ c ∷ []
unfolding utf8 scalar_bytes is_scalar_value
ascii_alone c h = grind (arith, nat_tests)
