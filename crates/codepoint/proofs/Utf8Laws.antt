-- Lists of code points and their bytes: decoding gives an encoded list back, and gives nothing but scalar values.
use Rattle.std.proofs.Common.{◌≡◌, ℕ, zero, suc, ◌+◌, ◌-◌, true, cond, ltb, List, [], ◌∷◌, ◌++◌, length, drop, sym, refl, ap, ◌∙◌, add-zero, arith}
use Rattle.std.proofs.lemmas.List.{drop_at}
use Rattle.std.proofs.lemmas.Bool.{cond_both}
use Rattle.codepoint.specs.declared.utf8.Decoded.{Decoded}
use Rattle.codepoint.specs.declared.utf8.Decoded.TheVariants.{Empty, Point, IllFormed}
use Rattle.codepoint.specs.Classes.{is_scalar_value}
use Rattle.codepoint.specs.Utf8.{utf8, scalar_bytes, bytes_of, decoded, point_then, points_from, ill_formed_then, ill_formed_from, code_points_of, AllScalar, DecodesBack, BytesTellApart}
use Rattle.codepoint.proofs.Sequences.{decoded_is_encoding, encoding_decodes}

-- bytes that belong to the code point before are passed over
pub skipped_points : (k at : ℕ) (bs : List ℕ) → points_from k at bs ≡ points_from 0 (at + k) (drop k bs)
unfolding points_from
skipped_points zero at bs = ap (λ i. points_from 0 i bs) (sym (add-zero at))
skipped_points (suc k) at [] = refl
skipped_points (suc k) at (b ∷ bs) =
    let e : at + 1 + k ≡ at + suc k = omega arith in skipped_points k (at + 1) bs ∙ ap (λ i. points_from 0 i (drop k bs)) e

pub skipped_ill_formed : (k at : ℕ) (bs : List ℕ) → ill_formed_from k at bs ≡ ill_formed_from 0 (at + k) (drop k bs)
unfolding ill_formed_from
skipped_ill_formed zero at bs = ap (λ i. ill_formed_from 0 i bs) (sym (add-zero at))
skipped_ill_formed (suc k) at [] = refl
skipped_ill_formed (suc k) at (b ∷ bs) =
    let e : at + 1 + k ≡ at + suc k = omega arith in skipped_ill_formed k (at + 1) bs ∙ ap (λ i. ill_formed_from 0 i (drop k bs)) e

-- a code point, and what is decoded behind its bytes
pub first_point : (at : ℕ) (bs : List ℕ) (c k : ℕ) → decoded bs ≡ Point c (suc k)
    → (points_from 0 at bs ≡ (c, at) ∷ points_from 0 (at + suc k) (drop (suc k) bs)) × (ill_formed_from 0 at bs ≡ ill_formed_from 0 (at + suc k) (drop (suc k) bs))
unfolding points_from ill_formed_from decoded
first_point at [] c k e = let z : ◌≡◌ {A = ℕ} 0 1 = cc in absurd (omega arith)
first_point at (b ∷ bs) c k e =
    let one : suc k - 1 ≡ k = omega arith in
    let far : at + 1 + k ≡ at + suc k = omega arith in (
      ap (λ d. point_then at d (λ skip. points_from skip (at + 1) bs)) e ∙ ap (λ i. (c, at) ∷ points_from i (at + 1) bs) one
          ∙ ap (λ ps. (c, at) ∷ ps) (skipped_points k (at + 1) bs ∙ ap (λ i. points_from 0 i (drop k bs)) far),
      ap (λ d. ill_formed_then at d (λ skip. ill_formed_from skip (at + 1) bs)) e ∙ ap (λ i. ill_formed_from i (at + 1) bs) one
          ∙ skipped_ill_formed k (at + 1) bs ∙ ap (λ i. ill_formed_from 0 i (drop k bs)) far,
    )

-- every encoding has at least one byte
abbrev NotEmpty : List ℕ → Type 0
NotEmpty w = (k : ℕ) × (length w ≡ suc k)

pub encoding_is_not_empty : (c : ℕ) → NotEmpty (utf8 c)
unfolding utf8 scalar_bytes
encoding_is_not_empty c =
    let v = cond (is_scalar_value c) c 0xfffd in
    cond_both (ltb v 0x80) _ _ NotEmpty (λ _. (0, refl)) (λ _.
    cond_both (ltb v 0x800) _ _ NotEmpty (λ _. (1, refl)) (λ _. cond_both (ltb v 0x10000) _ _ NotEmpty (λ _. (2, refl)) (λ _. (3, refl))))

-- one encoded scalar value in front of other bytes
module _ (at c : ℕ) (r : List ℕ) (scalar : is_scalar_value c ≡ true) where
  pub encoded_first : (points_from 0 at (utf8 c ++ r) ≡ (c, at) ∷ points_from 0 (at + length (utf8 c)) r) × (ill_formed_from 0 at (utf8 c ++ r) ≡ ill_formed_from 0 (at + length (utf8 c)) r)
  encoded_first =
      let some = encoding_is_not_empty c in
      let n = some.1 in
      let p = first_point at (utf8 c ++ r) c some.0 (encoding_decodes c r scalar ∙ ap (Point c) n) in
      let d : drop (suc some.0) (utf8 c ++ r) ≡ r = drop_at (utf8 c) r (suc some.0) n in
      (p.0 ∙ rw (d, n) refl, p.1 ∙ rw (d, n) refl)

pub decodes_back : DecodesBack
unfolding bytes_of points_from ill_formed_from
decodes_back [] at h = (refl, refl)
decodes_back (c ∷ s) at h =
    let first = encoded_first at c (bytes_of s) h.0 in
    let rest = decodes_back s (at + length (utf8 c)) h.1 in
    (ap code_points_of first.0 ∙ ap (λ t. c ∷ t) rest.0, first.1 ∙ rest.1)

pub bytes_tell_apart : BytesTellApart
bytes_tell_apart s t h k e =
    sym (decodes_back s 0 h).0 ∙ ap (λ bs. code_points_of (points_from 0 0 bs)) e ∙ (decodes_back t 0 k).0

-- whatever is decoded is a scalar value
pub points_are_scalar : (skip at : ℕ) (bs : List ℕ) → AllScalar (code_points_of (points_from skip at bs))
unfolding points_from
points_are_scalar skip at [] = tt
points_are_scalar (suc skip) at (b ∷ bs) = points_are_scalar skip (at + 1) bs
points_are_scalar zero at (b ∷ bs) = by (decoded (b ∷ bs)) refl (λ k. points_are_scalar k (at + 1) bs)
  where
    by : (d : Decoded) → decoded (b ∷ bs) ≡ d → ((k : ℕ) → AllScalar (code_points_of (points_from k (at + 1) bs)))
        → AllScalar (code_points_of (point_then at d (λ skip. points_from skip (at + 1) bs)))
    by Empty e rest = tt
    by IllFormed e rest = tt
    by (Point c n) e rest = ((decoded_is_encoding (b ∷ bs) c n e).0, rest (n - 1))
