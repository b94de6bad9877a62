-- What preprocessing leaves, and how a list preprocesses code point by code point.
use Rattle.std.proofs.Common.{◌≡◌, ℕ, ◌≤◌, Bool, true, false, cond, ◌&&◌, eqb, List, [], ◌∷◌, sym, refl, ap, ◌∙◌, arith}
use Rattle.std.proofs.lemmas.Bool.{false≢true}
use Rattle.std.proofs.lemmas.Bool.Decides.{nat_tests}
use Rattle.codepoint.specs.Classes.{is_scalar_value}
use Rattle.codepoint.specs.Utf8.{code_points_of}
use Rattle.stream.specs.Preprocess.{AllPreprocessed, AllWithin, Placed, PreprocessingSettles, behind, is_preprocessed, preprocessed, replaced}

replaced_is_clean : (c : ℕ) → c ≤ 0x10ffff → is_preprocessed (replaced c) ≡ true
unfolding is_preprocessed is_scalar_value
replaced_is_clean c h = grind (arith, nat_tests)

clean_is_not_replaced : (c : ℕ) → is_preprocessed c ≡ true → replaced c ≡ c
unfolding is_preprocessed is_scalar_value
clean_is_not_replaced c h = grind (arith, nat_tests)

clean_is_no_return : (c : ℕ) → is_preprocessed c ≡ true → eqb c 13 ≡ false
unfolding is_preprocessed is_scalar_value
clean_is_no_return c h = grind (arith, nat_tests)

return_is_newline : (c : ℕ) → eqb c 13 ≡ true → replaced c ≡ 10
return_is_newline c h = grind (arith, nat_tests)

newline_is_clean : is_preprocessed 10 ≡ true
unfolding is_preprocessed is_scalar_value
newline_is_clean = refl

pub cleans : (ps : List Placed) → AllWithin ps → AllPreprocessed (code_points_of (preprocessed ps))
unfolding preprocessed
cleans [] h = tt
cleans (p ∷ []) h = (replaced_is_clean p.0 h.0, tt)
cleans (p ∷ q ∷ ps) h = by (eqb p.0 13 && eqb q.0 10) (cleans ps h.1.1) (cleans (q ∷ ps) h.1)
  where
    by : (b : Bool) → AllPreprocessed (code_points_of (preprocessed ps)) → AllPreprocessed (code_points_of (preprocessed (q ∷ ps)))
        → AllPreprocessed (code_points_of (elim b [ true ↦ (10, p.1) ∷ preprocessed ps | false ↦ (replaced p.0, p.1) ∷ preprocessed (q ∷ ps) ]))
    by true j k = (newline_is_clean, j)
    by false j k = (replaced_is_clean p.0 h.0, k)

pub clean_stays : (ps : List Placed) → AllPreprocessed (code_points_of ps) → preprocessed ps ≡ ps
unfolding preprocessed
clean_stays [] h = refl
clean_stays (p ∷ []) h = ap (λ c. (c, p.1) ∷ []) (clean_is_not_replaced p.0 h.0)
clean_stays (p ∷ q ∷ ps) h =
    by (eqb p.0 13) (clean_is_no_return p.0 h.0) ∙ ap (λ c. (c, p.1) ∷ preprocessed (q ∷ ps)) (clean_is_not_replaced p.0 h.0)
    ∙ ap (λ t. p ∷ t) (clean_stays (q ∷ ps) h.1)
  where
    by : (b : Bool) → b ≡ false
        → ◌≡◌ {A = List Placed} (elim (b && eqb q.0 10) [ true ↦ (10, p.1) ∷ preprocessed ps | false ↦ (replaced p.0, p.1) ∷ preprocessed (q ∷ ps) ]) ((replaced p.0, p.1) ∷ preprocessed (q ∷ ps))
    by true e = absurd (false≢true (sym e))
    by false e = refl

pub preprocessing_settles : PreprocessingSettles
preprocessing_settles = record {
  cleans = cleans;
  twice_is_once = λ ps h. clean_stays (preprocessed ps) (cleans ps h);
  clean_stays = clean_stays;
}

-- one code point at a time comes to the same
pub behind_is_preprocessed : (ps : List Placed) → behind false ps ≡ preprocessed ps
unfolding preprocessed
behind_is_preprocessed [] = refl
behind_is_preprocessed (p ∷ []) = refl
behind_is_preprocessed (p ∷ q ∷ ps) = by (eqb p.0 13) refl (eqb q.0 10) (behind_is_preprocessed ps) (behind_is_preprocessed (q ∷ ps))
  where
    by : (b : Bool) → eqb p.0 13 ≡ b → (d : Bool) → behind false ps ≡ preprocessed ps → behind false (q ∷ ps) ≡ preprocessed (q ∷ ps)
        → ◌≡◌ {A = List Placed} ((replaced p.0, p.1) ∷ cond (b && d) (behind false ps) ((replaced q.0, q.1) ∷ behind (eqb q.0 13) ps))
        (elim (b && d) [ true ↦ (10, p.1) ∷ preprocessed ps | false ↦ (replaced p.0, p.1) ∷ preprocessed (q ∷ ps) ])
    by true e true j k = ap (λ c. (c, p.1) ∷ behind false ps) (return_is_newline p.0 e) ∙ ap (λ t. (10, p.1) ∷ t) j
    by true e false j k = ap (λ t. (replaced p.0, p.1) ∷ t) k
    by false e d j k = ap (λ t. (replaced p.0, p.1) ∷ t) k
