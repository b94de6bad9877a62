-- A unit stands as an identifier does, but for a first `e` that would be read as an exponent.
use Rattle.std.proofs.Common.{◌≡◌, ℕ, ◌+◌, ◌≤◌, Bool, true, false, cond, not, ◌&&◌, eqb, List, [], ◌∷◌, ◌++◌, get_or, drop, sym, refl, ap, ◌∙◌, append-nil, arith}
use Rattle.std.proofs.lemmas.Bool.Decides.{nat_tests}
use Rattle.syntax.specs.declared.place.Treatment.{Treatment}
use Rattle.syntax.specs.declared.place.Treatment.TheVariants.{Hex}
use Rattle.syntax.specs.Numbers.{has_exponent}
use Rattle.syntax.specs.Places.{escaped, escaped_from, hex, identifier, is_control, looks_like_exponent, spelled_in, treatment, unit_behind}

same_from : (how how' : ℕ → ℕ → Treatment) (i : ℕ) (t : List ℕ) → ((j c : ℕ) → i ≤ j → how j c ≡ how' j c) → escaped_from how i t ≡ escaped_from how' i t
unfolding escaped_from
same_from how how' i [] h = refl
same_from how how' i (c ∷ t) h =
    ap (λ k. escaped k c ++ escaped_from how (i + 1) t) (h i c (omega arith))
    ∙ ap (λ l. escaped (how' i c) c ++ l) (same_from how how' (i + 1) t (λ j d k. h j d (omega arith)))

module _ (number unit : List ℕ) where
  -- behind the first code point there is no difference
  later : (j c : ℕ) → 1 ≤ j → treatment (unit_behind number) unit j c ≡ treatment identifier unit j c
  unfolding treatment unit_behind
  later j c h =
      let e : eqb j 0 ≡ false = grind (arith, nat_tests) in
      ap (λ b. cond (is_control c) Hex (cond (b && not (has_exponent number) && looks_like_exponent unit) Hex (identifier.treats unit j c))) e

  -- nor anywhere, unless the unit looks like an exponent
  alike : (not (has_exponent number) && looks_like_exponent unit) ≡ false → (j c : ℕ) → treatment (unit_behind number) unit j c ≡ treatment identifier unit j c
  unfolding treatment unit_behind
  alike e j c = ap (λ b. cond (is_control c) Hex (cond b Hex (identifier.treats unit j c))) (no_other (eqb j 0) (not (has_exponent number)) (looks_like_exponent unit) e)
    where
      no_other : (a b d : Bool) → (b && d) ≡ false → (a && b && d) ≡ false
      no_other true true d h = h
      no_other true false d h = refl
      no_other false true d h = refl
      no_other false false d h = refl

  pub plain_unit : (not (has_exponent number) && looks_like_exponent unit) ≡ false → escaped_from (treatment identifier unit) 0 unit ≡ spelled_in (unit_behind number) unit
  unfolding spelled_in unit_behind
  plain_unit e =
      sym (append-nil (escaped_from (treatment (unit_behind number) unit) 0 unit) ∙ same_from (treatment (unit_behind number) unit) (treatment identifier unit) 0 unit (λ j c h. alike e j c))

hexed : (control exponent : Bool) (h : Treatment) → exponent ≡ true → cond control Hex (cond exponent Hex h) ≡ Hex
hexed true exponent h e = refl
hexed false exponent h e = ap (λ b. cond b Hex h) e

-- the first code point becomes hex, and the rest is as in an identifier
pub hex_unit : (number unit : List ℕ) → (not (has_exponent number) && looks_like_exponent unit) ≡ true
    → hex (get_or unit 0 0) ++ escaped_from (treatment identifier unit) 1 (drop 1 unit) ≡ spelled_in (unit_behind number) unit
unfolding spelled_in unit_behind escaped_from treatment
hex_unit number [] e = absurd (never (not (has_exponent number)) e)
  where
    never : (b : Bool) → (b && false) ≡ true → ⊥
    never true h = let z : ◌≡◌ {A = ℕ} 0 1 = cc in omega arith
    never false h = let z : ◌≡◌ {A = ℕ} 0 1 = cc in omega arith
hex_unit number (c ∷ t) e =
    sym
    (append-nil (escaped_from (treatment (unit_behind number) (c ∷ t)) 0 (c ∷ t))
    ∙ ap (λ k. escaped k c ++ escaped_from (treatment (unit_behind number) (c ∷ t)) 1 t) (hexed (is_control c) (not (has_exponent number) && looks_like_exponent (c ∷ t)) (identifier.treats (c ∷ t) 0 c) e)
    ∙ ap (λ l. hex c ++ l) (same_from (treatment (unit_behind number) (c ∷ t)) (treatment identifier (c ∷ t)) 1 t (λ j d h. later number (c ∷ t) j d h)))
