-- The facts that each source carries: its code points are at most U+10FFFF, and its fault is a source's.
use Rattle.std.specs.Prelude.{◌≡◌, ℕ, ◌+◌, ◌≤◌, Bool, true, false, not, ◌&&◌, ◌||◌, List, [], ◌∷◌, length, Some, None, Option, ◌==◌, nat_le, refl}
use Rattle.std.proofs.Common.{lit≤}
use Rattle.std.proofs.lemmas.Bool.{and_parts, cond_both, leb-true}
use Rattle.codepoint.specs.Classes.{is_scalar_value, is_surrogate}
use Rattle.codepoint.specs.Utf8.{AllScalar, code_points_of, ill_formed_from, points_from}
use Rattle.codepoint.proofs.Utf8Laws.{points_are_scalar}
use Rattle.stream.specs.Preprocess.{AllWithin, Placed, behind, replaced}
use Rattle.stream.specs.Sources.{FromSource, array_ending, array_points, byte_ending, ending_at}

pub array_within : (i : ℕ) (xs : List ℕ) → AllWithin (array_points i xs)
array_within i [] = tt
array_within i (x ∷ xs) = cond_both (nat_le x 0x10ffff) _ _ AllWithin (λ h. (leb-true x 0x10ffff h, array_within (i + 1) xs)) (λ _. tt)

pub array_from_source : (i : ℕ) (xs : List ℕ) → FromSource (array_ending i xs)
array_from_source i [] = tt
array_from_source i (x ∷ xs) = cond_both (nat_le x 0x10ffff) _ _ FromSource (λ _. array_from_source (i + 1) xs) (λ _. refl)

scalar_within : (c : ℕ) → is_scalar_value c ≡ true → c ≤ 0x10ffff
unfolding is_scalar_value
scalar_within c h = leb-true c 0x10ffff (and_parts (nat_le c 0x10ffff) (not (is_surrogate c)) h).0

scalars_within : (ps : List Placed) → AllScalar (code_points_of ps) → AllWithin ps
scalars_within [] h = tt
scalars_within (p ∷ ps) h = (scalar_within p.0 h.0, scalars_within ps h.1)

pub byte_within : (i : ℕ) (bs : List ℕ) → AllWithin (points_from 0 i bs)
byte_within i bs = scalars_within (points_from 0 i bs) (points_are_scalar 0 i bs)

pub byte_from_source : (i : ℕ) (bs : List ℕ) → FromSource (byte_ending i bs)
byte_from_source i bs = by (ill_formed_from 0 i bs)
  where
    by : (o : Option ℕ) → FromSource (ending_at (i + length bs) o)
    by None = tt
    by (Some p) = refl

replaced_within : (c : ℕ) → c ≤ 0x10ffff → replaced c ≤ 0x10ffff
replaced_within c h =
    cond_both (c == 12 || c == 13) 10 _ (λ n. n ≤ 0x10ffff) (λ _. lit≤ tt) (λ _. cond_both (c == 0 || is_surrogate c) 0xfffd c (λ n. n ≤ 0x10ffff) (λ _. lit≤ tt) (λ _. h))

pub behind_within : (cr : Bool) (ps : List Placed) → AllWithin ps → AllWithin (behind cr ps)
behind_within cr [] h = tt
behind_within cr (p ∷ ps) h =
    cond_both (cr && p.0 == 10) _ _ AllWithin (λ _. behind_within false ps h.1) (λ _. (replaced_within p.0 h.0, behind_within (p.0 == 13) ps h.1))
