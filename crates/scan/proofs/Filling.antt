-- Cells that are set one after another.
use Rattle.std.proofs.Common.{◌≡◌, ℕ, suc, ◌+◌, ◌<◌, ◌≤◌, cond, ltb, List, [], ◌∷◌, ◌++◌, length, take, drop, Some, None, sym, refl, ap, ◌∙◌, ⊎_elim, append_assoc, append-nil, add-zero, zero-add, arith, length-append}
use Rattle.std.proofs.Math.Seq.{set-append_seam}
use Rattle.std.proofs.lemmas.Bool.{cases_lt, cond-true, cond-false, lt-ltb, le-ltb}
use Rattle.std.proofs.lemmas.List.{set_past}
use Rattle.scan.specs.Fills.{onto, filled, laid, empty}

-- how many cells a text fills
onto_within : (cap n : ℕ) → n < cap → onto cap (Some n) ≡ Some (n + 1)
onto_within cap n h = cond-true _ _ _ (lt-ltb n cap h)

onto_past : (cap n : ℕ) → cap ≤ n → onto cap (Some n) ≡ None
onto_past cap n h = cond-false _ _ _ (le-ltb n cap h)

filled_none : (cap : ℕ) (t : List ℕ) → filled cap None t ≡ None
unfolding filled
filled_none cap [] = refl
filled_none cap (c ∷ t) = filled_none cap t

filled_some : (cap n : ℕ) (t : List ℕ) → n ≤ cap → filled cap (Some n) t ≡ cond (ltb cap (n + length t)) None (Some (n + length t))
unfolding filled
filled_some cap n [] h = sym (cond-false _ _ _ (le-ltb cap (n + 0) (omega arith)) ∙ ap Some (add-zero n))
filled_some cap n (c ∷ t) h =
    ⊎_elim
    (λ l. ap (λ f. filled cap f t) (onto_within cap n l) ∙ filled_some cap (n + 1) t (omega arith) ∙ ap (λ m. cond (ltb cap m) None (Some m)) (omega arith))
    (λ l. ap (λ f. filled cap f t) (onto_past cap n l) ∙ filled_none cap t ∙ sym (cond-true _ _ _ (lt-ltb cap (n + suc (length t)) (omega arith))))
    (cases_lt n cap)

-- as many as it has code points, if there are so many
pub filled_words : (cap : ℕ) (t : List ℕ) → filled cap empty t ≡ cond (ltb cap (length t)) None (Some (length t))
filled_words cap t = filled_some cap 0 t (omega arith) ∙ ap (λ n. cond (ltb cap n) None (Some n)) (zero-add (length t))

-- a text over the first cells
lay : List ℕ → List ℕ → List ℕ
lay cells [] = cells
lay [] (c ∷ t) = []
lay (x ∷ cells) (c ∷ t) = c ∷ lay cells t

laid_none : (cells t : List ℕ) → laid cells None t ≡ cells
unfolding laid
laid_none cells [] = refl
laid_none cells (c ∷ t) = laid_none cells t

laid_front : (pre cells t : List ℕ) → laid (pre ++ cells) (Some (length pre)) t ≡ pre ++ lay cells t
unfolding laid lay
laid_front pre cells [] = refl
laid_front pre [] (c ∷ t) =
    let n : length (pre ++ []) ≡ length pre = ap length (append-nil pre) in
    (λ i. laid (set_past (pre ++ []) (length pre) c (omega arith) i) (onto_past (length (pre ++ [])) (length pre) (omega arith) i) t)
    ∙ laid_none (pre ++ []) t
laid_front pre (x ∷ cells) (c ∷ t) =
    let n = length-append pre (x ∷ cells) in
    let m : length pre + 1 ≡ length (pre ++ c ∷ []) = omega (arith, length-append pre (c ∷ [])) in
    (λ i. laid ((set-append_seam pre x cells c ∙ sym (append_assoc pre (c ∷ []) cells)) i) ((onto_within (length (pre ++ x ∷ cells)) (length pre) (omega arith) ∙ ap Some m) i) t)
    ∙ laid_front (pre ++ c ∷ []) cells t
    ∙ append_assoc pre (c ∷ []) (lay cells t)

lay_words : (cells t : List ℕ) → lay cells t ≡ take (length cells) t ++ drop (length t) cells
unfolding lay
lay_words [] [] = refl
lay_words (x ∷ cells) [] = refl
lay_words [] (c ∷ t) = refl
lay_words (x ∷ cells) (c ∷ t) = ap {B = List ℕ} (λ s. c ∷ s) (lay_words cells t)

-- what fits of a text stands from the first cell, and the other cells stay
pub laid_words : (cells t : List ℕ) → laid cells empty t ≡ take (length cells) t ++ drop (length t) cells
laid_words cells t = laid_front [] cells t ∙ lay_words cells t
