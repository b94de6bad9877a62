-- What normalize does: it reads a token, leaves it out or puts it, and so on to the end.
use Rattle.std.specs.Prelude.{◌≡◌, ℕ, Bool, true, false, ◌&&◌, List, Ok, Err, Result}
use Rattle.refusal.specs.declared.fault.Fault.{Fault}
use Rattle.refusal.specs.declared.fault.Fault.TheVariants.{Outgrown, NotTaken, BadToken, NoRoom}
use Rattle.stream.specs.Preprocess.{Placed}
use Rattle.stream.specs.Sources.{Ending}
use Rattle.stream.specs.Sources.Ending.{stops}
use Rattle.syntax.specs.declared.kind.Kind.TheVariants.{Whitespace}
use Rattle.syntax.specs.Tokens.{TokenValue, is_kind}
use Rattle.reader.specs.declared.answer.Next.TheVariants.{Token, End}
use Rattle.reader.specs.declared.answer.Located.{Located}
use Rattle.reader.specs.NextToken.{Model, NextToken, begun}
use Rattle.reader.specs.Readings.{value_in}
use Rattle.writer.specs.declared.writing.Writer.{Writer}
use Rattle.writer.specs.Writes.{Finishes, New, Puts}
use Rattle.writer.specs.declared.counts.Counts.{Counts}

-- whitespace that comes directly after whitespace
abbrev pub is_repeated : Bool → TokenValue → Bool
is_repeated white t = white && is_kind Whitespace t

-- from a reader, its cells and a writer to the answer, and the same three then; the flag tells whether whitespace came last
pub data Transfers {S : Type 0} (held : S → List ℕ) (takes : S → ℕ → Bool) : Bool → Model → List ℕ → Writer S → Result Counts Fault → Model → List ℕ → Writer S → Type 0 where
  -- the end is answered by finish
  at_the_end : {white : Bool} {m m' : Model} {cells cells' : List ℕ} {w w' : Writer S} {r : Result Counts Fault} (p : ℕ)
      → NextToken m cells (Ok (End p)) cells' m' → Finishes held takes w r w' → Transfers held takes white m cells w r m' cells' w'
  -- a refusal of the reader is the answer
  unread : {white : Bool} {m m' : Model} {cells cells' : List ℕ} {w : Writer S} {f : Fault}
      → NextToken m cells (Err f) cells' m' → Transfers held takes white m cells w (Err f) m' cells' w
  -- repeated whitespace is left out
  left_out : {white : Bool} {m m₁ m' : Model} {cells cells₁ cells' : List ℕ} {w w' : Writer S} {r : Result Counts Fault} (t : Located)
      → NextToken m cells (Ok (Token t)) cells₁ m₁ → is_repeated white (value_in t cells₁) ≡ true
      → Transfers held takes white m₁ cells₁ w r m' cells' w' → Transfers held takes white m cells w r m' cells' w'
  -- any other token is put
  put_on : {white : Bool} {m m₁ m' : Model} {cells cells₁ cells' : List ℕ} {w w₁ w' : Writer S} {r : Result Counts Fault} (t : Located)
      → NextToken m cells (Ok (Token t)) cells₁ m₁ → is_repeated white (value_in t cells₁) ≡ false
      → Puts held takes w (value_in t cells₁) (Ok tt) w₁
      → Transfers held takes (is_kind Whitespace (value_in t cells₁)) m₁ cells₁ w₁ r m' cells' w' → Transfers held takes white m cells w r m' cells' w'
  -- a refusal of put is the answer
  not_put : {white : Bool} {m m₁ : Model} {cells cells₁ : List ℕ} {w w₁ : Writer S} {f : Fault} (t : Located)
      → NextToken m cells (Ok (Token t)) cells₁ m₁ → is_repeated white (value_in t cells₁) ≡ false
      → Puts held takes w (value_in t cells₁) (Err f) w₁ → Transfers held takes white m cells w (Err f) m₁ cells₁ w₁

-- normalize, over a source with these code points and this ending, and over the sink s
pub record Normalizes {S : Type 0} (held : S → List ℕ) (takes : S → ℕ → Bool) (points : List Placed) (ending : Ending) (s : S) (cells : List ℕ) (r : Result Counts Fault) (m' : Model) (cells' : List ℕ) (w' : Writer S) : Type 0 where
  pub first : Writer S
  pub new : New s first
  pub transfers : Transfers held takes false (begun points ending) cells first r m' cells' w'

-- the refusals that normalize can meet: the source's fault, a text that outgrows the cells, a bad token, a million tokens, the sink's
pub data CanRefuse (ending : Ending) : Fault → Type 0 where
  the_sources : {f : Fault} → ending ≡ stops f → CanRefuse ending f
  outgrown : {p : ℕ} → CanRefuse ending (Outgrown p)
  bad_token : {p : ℕ} → CanRefuse ending (BadToken p)
  no_room : {p : ℕ} → CanRefuse ending (NoRoom p)
  not_taken : {p : ℕ} → CanRefuse ending (NotTaken p)
