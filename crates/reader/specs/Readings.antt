-- Readings: one next_token after another, to the end.
use Rattle.std.specs.Prelude.{◌≡◌, ℕ, List, [], ◌∷◌, take, drop, Ok}
use Rattle.codepoint.specs.Utf8.{code_points_of}
use Rattle.stream.specs.Preprocess.{Placed, preprocessed}
use Rattle.stream.specs.Sources.{Ending}
use Rattle.syntax.specs.Tokens.{TokenValue, tok}
use Rattle.syntax.specs.Reading.{Yields}
use Rattle.reader.specs.declared.answer.Located.{Located}
use Rattle.reader.specs.declared.answer.Next.TheVariants.{Token, End}
use Rattle.reader.specs.NextToken.{Model, NextToken, begun}

-- a token's value, from the cells that hold its text and then its unit
abbrev pub value_in : Located → List ℕ → TokenValue
value_in t cells = tok t.kind t.mark (take t.text cells) (take t.unit (drop t.text cells))

-- calls of next_token, each with its own cells, until one tells the end; what they give, as values.
-- No call is refused: so the cells of each call hold its token's text and unit.
pub data Reading : Model → List TokenValue → Type 0 where
  ended : (m m' : Model) (p : ℕ) (cells cells' : List ℕ) → NextToken m cells (Ok (End p)) cells' m' → Reading m []
  gave : (m m' : Model) (t : Located) (cells cells' : List ℕ) (ts : List TokenValue) → NextToken m cells (Ok (Token t)) cells' m' → Reading m' ts → Reading m (value_in t cells' ∷ ts)

-- a reading over a source gives the tokens of its preprocessed code points, and there are no others
pub record GivesTheTokens (points : List Placed) (ts : List TokenValue) : Type 0 where
  pub yields : Yields (code_points_of (preprocessed points)) ts
  pub no_others : (us : List TokenValue) → Yields (code_points_of (preprocessed points)) us → us ≡ ts

abbrev pub ReadingsGiveTheTokens : {S : Type 0} → (S → List Placed) → (S → Ending) → Type 0
ReadingsGiveTheTokens {S} ahead ending = (s : S) (ts : List TokenValue) → Reading (begun (ahead s) (ending s)) ts → GivesTheTokens (ahead s) ts
