-- An input cut into its tokens and the comments between them.
use Rattle.std.specs.Prelude.{◌≡◌, ℕ, ◌+◌, ◌<◌, List, [], ◌∷◌, ◌++◌, map, length}
use Rattle.syntax.specs.Tokens.{TokenValue}
use Rattle.syntax.specs.Reading.{next, end, token, Yields}
use Rattle.syntax.specs.Extents.{before, taken}
use Rattle.syntax.specs.Written.{Each}

-- a token, the comments before it, and the code points that are its own
pub record Piece : Type 0 where
  pub comments : List ℕ
  pub own : List ℕ
  pub value : TokenValue

-- an input, its pieces in order, and the comments behind the last token
abbrev pub Cut : List ℕ → List Piece → List ℕ → Type 0
Cut s [] last = (next s ≡ end) × (s ≡ last) × (length last ≡ before s)
Cut s (p ∷ ps) last =
    (r : List ℕ) × (next s ≡ token p.value r) × (s ≡ p.comments ++ (p.own ++ r))
    × (length p.comments ≡ before s) × (length p.own ≡ taken s) × Cut r ps last

abbrev pub joined : List Piece → List ℕ → List ℕ
joined [] last = last
joined (p ∷ ps) last = p.comments ++ (p.own ++ joined ps last)

abbrev pub length_of : List Piece → ℕ
length_of [] = 0
length_of (p ∷ ps) = length p.comments + length p.own + length_of ps

-- reading takes the whole input, and each code point of it once
pub record TakenWhole (s : List ℕ) : Type 0 where
  pub pieces : List Piece
  pub last : List ℕ
  pub cut : Cut s pieces last
  pub unique : (ps : List Piece) (l : List ℕ) → Cut s ps l → (ps ≡ pieces) × (l ≡ last)
  pub in_order : joined pieces last ≡ s
  pub add_up : length_of pieces + length last ≡ length s
  pub each_takes_some : Each (λ (p : Piece). 0 < length p.own) pieces
  pub tokens : Yields s (map (λ (p : Piece). p.value) pieces)
  pub no_other_tokens : (ts : List TokenValue) → Yields s ts → ts ≡ map (λ (p : Piece). p.value) pieces
