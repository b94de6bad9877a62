-- Beside the next token: how much stands before it, how much it takes, and what is collected of it.
use Rattle.std.specs.Prelude.{ℕ, ◌-◌, List, [], ◌∷◌, ◌++◌, length}
use Rattle.syntax.specs.Bodies.{past_comments}
use Rattle.syntax.specs.Reading.{found_at}

-- how many code points of comments stand before the next token, or before the end
unfoldable pub before : List ℕ → ℕ
before s = length s - length (past_comments s)

-- how many code points the next token takes, behind the comments
abbrev pub taken_at : List ℕ → ℕ
taken_at [] = 0
taken_at (a ∷ s) = length (a ∷ s) - length (found_at a s).rest

unfoldable pub taken : List ℕ → ℕ
taken s = taken_at (past_comments s)

-- its text and then its unit, as far as they were collected: of a bad token what came before it turned bad,
-- and nothing of the name before the `(` of a url or a bad url
abbrev pub collected_at : List ℕ → List ℕ
collected_at [] = []
collected_at (a ∷ s) = (found_at a s).text ++ (found_at a s).unit

unfoldable pub collected : List ℕ → List ℕ
collected s = collected_at (past_comments s)
