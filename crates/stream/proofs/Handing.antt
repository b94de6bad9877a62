-- What the byte source hands over, by what comes first.
use Rattle.std.proofs.Common.{◌≡◌, ℕ, suc, ◌+◌, ◌≤◌, List, [], ◌∷◌, length, drop, Ok, Err, sym, refl, ap, ◌∙◌, add-zero, arith, length-append, length-drop, drop-drop}
use Rattle.codepoint.specs.declared.utf8.Decoded.{Decoded}
use Rattle.codepoint.specs.declared.utf8.Decoded.TheVariants as decodes
use Rattle.codepoint.specs.Utf8.{decoded, ill_formed_from, ill_formed_then, point_then, points_from}
use Rattle.codepoint.proofs.Sequences.{decoded_is_encoding}
use Rattle.codepoint.proofs.Utf8Laws.{encoding_is_not_empty, first_point}
use Rattle.codepoint.proofs.Decoding.{decoded_is_not_empty}
use Rattle.refusal.specs.declared.fault.Fault.TheVariants.{IllFormed}
use Rattle.stream.specs.declared.source.Step.TheVariants.{Point, End}
use Rattle.stream.specs.Preprocess.{Placed}
use Rattle.stream.specs.Sources.{Ending, Hands, byte_ending, ending_at}

-- a decoded sequence lies within its bytes
pub decoded_fits : (bs : List ℕ) (c n : ℕ) → decoded bs ≡ decodes.Point c n → n ≤ length bs
decoded_fits bs c n e = let p = decoded_is_encoding bs c n e in omega (arith, p.1, simp length-append at (ap length p.2.1))

-- a source with a first code point hands that one over
hands_point : {ps after : List Placed} {q : Placed} {rest : List Placed} {e e' : Ending} → ps ≡ q ∷ rest → after ≡ rest → e' ≡ e → Hands ps e (Ok (Point q)) after e'
hands_point p a k = rw p (refl, a, k)

-- the byte source at offset i, with bs from there on
module _ (i : ℕ) where
  pub bytes_at_end : (bs : List ℕ) → decoded bs ≡ decodes.Empty → Hands (points_from 0 i bs) (byte_ending i bs) (Ok (End i)) (points_from 0 i bs) (byte_ending i bs)
  unfolding points_from ill_formed_from
  bytes_at_end [] e = (ap (λ n. Ok (End n)) (sym (add-zero i)), refl, refl)
  bytes_at_end (b ∷ bs) e = absurd (decoded_is_not_empty b bs e)

  pub bytes_at_ill_formed : (bs : List ℕ) → decoded bs ≡ decodes.IllFormed → Hands (points_from 0 i bs) (byte_ending i bs) (Err (IllFormed i)) (points_from 0 i bs) (byte_ending i bs)
  unfolding points_from ill_formed_from decoded
  bytes_at_ill_formed [] e = let z : ◌≡◌ {A = ℕ} 0 1 = cc in absurd (omega arith)
  bytes_at_ill_formed (b ∷ bs) e = ill_formed (decoded (b ∷ bs)) e
    where
      ill_formed : (d : Decoded) → d ≡ decodes.IllFormed
          → Hands (point_then i d (λ k. points_from k (i + 1) bs)) (ending_at (i + length (b ∷ bs)) (ill_formed_then i d (λ k. ill_formed_from k (i + 1) bs))) (Err (IllFormed i)) (point_then i d (λ k. points_from k (i + 1) bs)) (ending_at (i + length (b ∷ bs)) (ill_formed_then i d (λ k. ill_formed_from k (i + 1) bs)))
      ill_formed d q = rw q (refl, refl, refl)

  handed : (xs : List ℕ) (c k : ℕ) → i + suc k ≤ length xs → decoded (drop i xs) ≡ decodes.Point c (suc k)
      → Hands (points_from 0 i (drop i xs)) (byte_ending i (drop i xs)) (Ok (Point (c, i))) (points_from 0 (i + suc k) (drop (i + suc k) xs)) (byte_ending (i + suc k) (drop (i + suc k) xs))
  handed xs c k h e =
      let p = first_point i (drop i xs) c k e in
      let d : drop (suc k) (drop i xs) ≡ drop (i + suc k) xs = drop-drop (suc k) i xs in
      let l : i + suc k + length (drop (i + suc k) xs) ≡ i + length (drop i xs) = simp length-drop (omega arith) in
      hands_point (p.0 ∙ ap (λ r. (c, i) ∷ points_from 0 (i + suc k) r) d) refl (ap (λ m. ending_at m (ill_formed_from 0 (i + suc k) (drop (i + suc k) xs))) l ∙ ap (ending_at (i + length (drop i xs))) (sym (p.1 ∙ ap (ill_formed_from 0 (i + suc k)) d)))

  pub bytes_at_point : (xs : List ℕ) (c n : ℕ) → i ≤ length xs → decoded (drop i xs) ≡ decodes.Point c n
      → Hands (points_from 0 i (drop i xs)) (byte_ending i (drop i xs)) (Ok (Point (c, i))) (points_from 0 (i + n) (drop (i + n) xs)) (byte_ending (i + n) (drop (i + n) xs))
  bytes_at_point xs c n h e =
      let p = decoded_is_encoding (drop i xs) c n e in
      let some = encoding_is_not_empty c in
      let q : n ≡ suc some.0 = p.1 ∙ some.1 in
      let fits = decoded_fits (drop i xs) c n e in
      rw q (handed xs c some.0 (omega (arith, length-drop i xs)) (rw q at e))
