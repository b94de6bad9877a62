-- Preprocessing: what becomes of the code points of a source before they are read as tokens.
use Rattle.std.specs.Prelude.{◌≡◌, ℕ, ◌≤◌, Bool, true, false, cond, not, ◌&&◌, ◌||◌, List, [], ◌∷◌, ◌==◌}
use Rattle.codepoint.specs.Classes.{is_surrogate, is_scalar_value}
use Rattle.codepoint.specs.Utf8.{code_points_of}

-- a code point and its place
abbrev pub Placed : Type 0
Placed = ℕ × ℕ

-- what stands for one code point: U+000C and U+000D become a newline, U+0000 and surrogates U+FFFD
abbrev pub replaced : ℕ → ℕ
replaced c = cond (c == 12 || c == 13) 10 (cond (c == 0 || is_surrogate c) 0xfffd c)

-- U+000D with U+000A behind it becomes one newline at the first one's place; every other code point is replaced by itself
unfoldable pub preprocessed : List Placed → List Placed
preprocessed [] = []
preprocessed (p ∷ []) = (replaced p.0, p.1) ∷ []
preprocessed (p ∷ q ∷ ps) =
    elim (p.0 == 13 && q.0 == 10) [
      | true ↦ (10, p.1) ∷ preprocessed ps
      | false ↦ (replaced p.0, p.1) ∷ preprocessed (q ∷ ps)
    ]

-- the same one code point at a time, as the layer works: the flag says that the one before was U+000D
abbrev pub behind : Bool → List Placed → List Placed
behind cr [] = []
behind cr (p ∷ ps) = cond (cr && p.0 == 10) (behind false ps) ((replaced p.0, p.1) ∷ behind (p.0 == 13) ps)

-- the code points that preprocessing lets through as they are: scalar values but U+0000, U+000C and U+000D
unfoldable pub is_preprocessed : ℕ → Bool
is_preprocessed c = is_scalar_value c && not (c == 0 || c == 12 || c == 13)

abbrev pub AllPreprocessed : List ℕ → Type 0
AllPreprocessed [] = Unit {0}
AllPreprocessed (c ∷ s) = (is_preprocessed c ≡ true) × AllPreprocessed s

abbrev pub AllWithin : List Placed → Type 0
AllWithin [] = Unit {0}
AllWithin (p ∷ ps) = (p.0 ≤ 0x10ffff) × AllWithin ps

-- preprocessing leaves no U+0000, U+000C, U+000D and no surrogate; done twice it is as done once;
-- and a list without those code points stays as it is
pub record PreprocessingSettles : Type 0 where
  pub cleans : (ps : List Placed) → AllWithin ps → AllPreprocessed (code_points_of (preprocessed ps))
  pub twice_is_once : (ps : List Placed) → AllWithin ps → preprocessed (preprocessed ps) ≡ preprocessed ps
  pub clean_stays : (ps : List Placed) → AllPreprocessed (code_points_of ps) → preprocessed ps ≡ ps
