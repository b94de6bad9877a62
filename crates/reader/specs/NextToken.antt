-- What next_token answers, what it does to the cells, and what it leaves.
use Rattle.std.specs.Prelude.{◌≡◌, ℕ, ◌+◌, cond, List, ◌++◌, length, take, drop, Some, None, Option, Ok, Err, Result, nat_lt, slice_index_or}
use Rattle.refusal.specs.declared.fault.Fault.{Fault}
use Rattle.refusal.specs.declared.fault.Fault.TheVariants.{Outgrown}
use Rattle.stream.specs.Preprocess.{Placed, preprocessed}
use Rattle.stream.specs.Sources.{Ending}
use Rattle.stream.specs.Sources.Ending.{ends, stops}
use Rattle.syntax.specs.Tokens.{TokenValue}
use Rattle.syntax.specs.Reading.{Next as Reached, next}
use Rattle.syntax.specs.Reading.Next.{end, token}
use Rattle.syntax.specs.Extents.{before, taken, collected}
use Rattle.lookahead.specs.Ahead.{Ahead, codes, past}
use Rattle.lookahead.specs.Windows.{ahead_of}
use Rattle.reader.specs.declared.answer.Located.{Located}
use Rattle.reader.specs.declared.answer.Next.{Next}
use Rattle.reader.specs.declared.answer.Next.TheVariants.{Token, End}
use Rattle.reader.specs.declared.reader.Reader.{Reader}

-- a reader: what is ahead of it, and how it ended, none while it goes on
pub record Model : Type 0 where
  pub ahead : Ahead
  pub told : Option (Result ℕ Fault)

abbrev pub model_of : {S : Type 0} → (S → List Placed) → (S → Ending) → Reader S → Model
model_of ahead ending r = record { ahead = ahead_of ahead ending r.window; told = r.told }

-- a new reader over a source
abbrev pub begun : List Placed → Ending → Model
begun points ending = record { ahead = record { list = preprocessed points; ending = ending }; told = None }

-- where the next token's first code point stands
abbrev pub place_of : Ahead → ℕ
place_of v = (slice_index_or v.list (before (codes v)) (0, 0)).1

-- a token as it is given: of its text and its unit the lengths
abbrev pub located : ℕ → TokenValue → Located
located p t = record { kind = t.kind; mark = t.mark; text = length t.text; unit = length t.unit; place = p }

abbrev pub end_answer : Ending → Result Next Fault
end_answer (ends p) = Ok (End p)
end_answer (stops f) = Err f

-- the source's fault takes an answer's place
abbrev pub unless_stopped : Ending → Result Next Fault → Result Next Fault
unless_stopped (ends p) r = r
unless_stopped (stops f) r = Err f

-- with so many cells: the ending where no token is left; the refusal where text and unit outgrow the cells; then the
-- source's fault, where fewer than three code points follow; else the token
unfoldable pub answered : ℕ → Ahead → Reached → Result Next Fault
answered cap v end = end_answer v.ending
answered cap v (token t r) =
    cond (nat_lt cap (length (collected (codes v)))) (Err (Outgrown (place_of v)))
    (cond (nat_lt (length r) 3) (unless_stopped v.ending (Ok (Token (located (place_of v) t)))) (Ok (Token (located (place_of v) t))))

-- what fits of a text stands from the first cell, and the other cells stay
abbrev pub overwritten : List ℕ → List ℕ → List ℕ
overwritten cells t = take (length cells) t ++ drop (length t) cells

-- a reader that goes on
pub record Answers (v : Ahead) (cells0 : List ℕ) (r : Result Next Fault) (cells' : List ℕ) (v' : Ahead) : Type 0 where
  pub answer : r ≡ answered (length cells0) v (next (codes v))
  pub cells : cells' ≡ overwritten cells0 (collected (codes v))
  pub left : v' ≡ past (before (codes v) + taken (codes v)) v

-- the end or a refusal that an answer tells
abbrev pub told_by : Result Next Fault → Option (Result ℕ Fault)
told_by (Ok (Token t)) = None
told_by (Ok (End p)) = Some (Ok p)
told_by (Err f) = Some (Err f)

-- after the end or a refusal the same answer comes for ever, and nothing is touched
abbrev pub NextTokenFrom : Option (Result ℕ Fault) → Ahead → List ℕ → Result Next Fault → List ℕ → Model → Type 0
NextTokenFrom None v cells r cells' m' = Answers v cells r cells' m'.ahead × (m'.told ≡ told_by r)
NextTokenFrom (Some (Ok p)) v cells r cells' m' = (r ≡ Ok (End p)) × (cells' ≡ cells) × (m'.ahead ≡ v) × (m'.told ≡ Some (Ok p))
NextTokenFrom (Some (Err f)) v cells r cells' m' = (r ≡ Err f) × (cells' ≡ cells) × (m'.ahead ≡ v) × (m'.told ≡ Some (Err f))

-- next_token: from a reader and the cells to the answer, the cells then and the reader then
abbrev pub NextToken : Model → List ℕ → Result Next Fault → List ℕ → Model → Type 0
NextToken m = NextTokenFrom m.told m.ahead
