-- The normal-form law, over any two kinds of source and any two kinds of sink: how calls are answered, what bytes and tokens
-- tell of each other, what finished bytes read back as, and that normal forms are settled.
use Rattle.std.specs.Prelude.{◌≡◌, ℕ, ◌<◌, Bool, false, List, [], ◌++◌, length, take, Some, None, Ok, Err, Option, Result, slice_index}
use Rattle.codepoint.specs.Utf8.{code_points_of, points_from}
use Rattle.refusal.specs.declared.fault.Fault.{Fault}
use Rattle.refusal.specs.declared.fault.Fault.TheVariants.{NotTaken}
use Rattle.stream.specs.Preprocess.{Placed, preprocessed}
use Rattle.stream.specs.Sources.{Ending}
use Rattle.stream.specs.Sources.Ending.{ends}
use Rattle.syntax.specs.Reading.{Yields}
use Rattle.syntax.specs.Tokens.{TokenValue}
use Rattle.syntax.specs.Written.{collapsed}
use Rattle.reader.specs.NextToken.{Model, begun}
use Rattle.reader.specs.Readings.{Reading}
use Rattle.writer.specs.declared.state.State.{State}
use Rattle.writer.specs.declared.writing.Writer.{Writer}
use Rattle.writer.specs.Blocks.{mirror}
use Rattle.writer.specs.Refusals.{close_refusals, finish_refusals, first_of, open_refusals, put_refusals}
use Rattle.writer.specs.Runs.{CallValue, Deed, Does, FinishedRun, RunOf, accepted, bytes_beyond}
use Rattle.writer.specs.Runs.Deed.{did_put, did_open, did_close, did_finish}
use Rattle.writer.specs.Writes.{New, bytes_added}
use Rattle.normal.specs.Normalizing.{Normalizes}
use Rattle.writer.specs.declared.counts.Counts.{Counts}
use Rattle.writer.specs.Counts.{counts_of}

-- a call's refusals in their order, the bytes that it is to write, and its refusal, if it was refused
abbrev pub refusals_of : State → Deed → List (Bool × Fault)
refusals_of s (did_put t r) = put_refusals s t
refusals_of s (did_open t r) = open_refusals s t
refusals_of s (did_close d k r) = close_refusals s d k
refusals_of s (did_finish r) = finish_refusals s

abbrev pub bytes_due : State → Deed → List ℕ
bytes_due s (did_put t r) = bytes_added s t
bytes_due s (did_open t r) = bytes_added s t
bytes_due s (did_close d k r) = bytes_added s (mirror k)
bytes_due s (did_finish r) = []

abbrev pub refusal_in : {A : Type 0} → Result A Fault → Option Fault
refusal_in (Ok x) = None
refusal_in (Err f) = Some f

abbrev pub refusal_of : Deed → Option Fault
refusal_of (did_put t r) = refusal_in r
refusal_of (did_open t r) = refusal_in r
refusal_of (did_close d k r) = refusal_in r
refusal_of (did_finish r) = refusal_in r

-- all bytes were written; or exactly the first k, the sink does not take the next, and the refusal stands at the number of bytes held
abbrev pub Written : {S : Type 0} → (S → List ℕ) → (S → ℕ → Bool) → S → List ℕ → Option Fault → S → Type 0
Written held takes s bs None s' = held s' ≡ held s ++ bs
Written held takes s bs (Some f) s' =
    (k : ℕ) × (k < length bs) × (held s' ≡ held s ++ take k bs) × (takes s' (slice_index bs k) ≡ false) × (f ≡ NotTaken (length (held s')))

-- a call is refused by the first rule that applies, and then nothing changes; where none applies, its bytes are written
pub record Answered {S : Type 0} (held : S → List ℕ) (takes : S → ℕ → Bool) (w : Writer S) (d : Deed) (v : Writer S) : Type 0 where
  pub by_rule : (f : Fault) → first_of (refusals_of w.state d) ≡ Err f → (refusal_of d ≡ Some f) × (v ≡ w)
  pub by_sink : first_of (refusals_of w.state d) ≡ Ok tt → Written held takes w.sink (bytes_due w.state d) (refusal_of d) v.sink

-- a source is over bytes: its code points are theirs, and its ending is the end
pub record Over (points : List Placed) (ending : Ending) (bs : List ℕ) : Type 0 where
  pub same_code_points : code_points_of points ≡ code_points_of (points_from 0 0 bs)
  pub place : ℕ
  pub to_the_end : ending ≡ ends place

-- a normalize over the source p and the sink s that was not refused, its answer, and the writer that it left
pub record FinishedNormalize {P S : Type 0} (ahead : P → List Placed) (ending : P → Ending) (held : S → List ℕ) (takes : S → ℕ → Bool) (p : P) (s : S) (answer : Counts) (u : Writer S) : Type 0 where
  pub cells : List ℕ
  pub last : Model
  pub cells_then : List ℕ
  pub normalizes : Normalizes held takes (ahead p) (ending p) s cells (Ok answer) last cells_then u

-- every call of every run is answered by the rules
abbrev pub CallsAreAnswered : {S : Type 0} → (S → List ℕ) → (S → ℕ → Bool) → Type 0
CallsAreAnswered {S} held takes = (w v : Writer S) (d : Deed) → Does held takes w d v → Answered held takes w d v

-- two finished runs share their bytes exactly when they share their accepted tokens
abbrev pub BytesAndTokensAgree : {A B : Type 0} → (A → List ℕ) → (A → ℕ → Bool) → (B → List ℕ) → (B → ℕ → Bool) → Type 0
BytesAndTokensAgree {A} {B} held_a takes_a held_b takes_b =
    (s : A) (ds : List Deed) (u : Writer A) (t : B) (es : List Deed) (y : Writer B) → FinishedRun held_a takes_a s ds u → FinishedRun held_b takes_b t es y
    → (bytes_beyond held_a s u ≡ bytes_beyond held_b t y → accepted ds ≡ accepted es) × (accepted ds ≡ accepted es → bytes_beyond held_a s u ≡ bytes_beyond held_b t y)

-- finished bytes read back: a reading over a source over them gives the accepted tokens, and then the end; and there is one
pub record ReadsBackAs {P : Type 0} (ahead : P → List Placed) (ending : P → Ending) (bs : List ℕ) (ts : List TokenValue) : Type 0 where
  pub gives : (p : P) → Over (ahead p) (ending p) bs → (us : List TokenValue) → Reading (begun (ahead p) (ending p)) us → us ≡ ts
  pub exists : (p : P) → Over (ahead p) (ending p) bs → Reading (begun (ahead p) (ending p)) ts

abbrev pub FinishedBytesReadBack : {P S : Type 0} → (P → List Placed) → (P → Ending) → (S → List ℕ) → (S → ℕ → Bool) → Type 0
FinishedBytesReadBack {P} {S} ahead ending held takes =
    (s : S) (ds : List Deed) (u : Writer S) → FinishedRun held takes s ds u → ReadsBackAs ahead ending (bytes_beyond held s u) (accepted ds)

-- a second normalize over the bytes of a first one changes no byte, and they read back as the first input's tokens, collapsed
pub record Settles {P Q A B : Type 0} (ahead_p : P → List Placed) (ending_p : P → Ending) (ahead_q : Q → List Placed) (ending_q : Q → Ending)
    (held_a : A → List ℕ) (takes_a : A → ℕ → Bool) (held_b : B → List ℕ) (takes_b : B → ℕ → Bool) (p : P) (s : A) (answer : Counts) (u : Writer A) : Type 0 where
  pub input_tokens : List TokenValue
  pub yielded : Yields (code_points_of (preprocessed (ahead_p p))) input_tokens
  pub counted : answer ≡ counts_of (collapsed input_tokens)
  pub second : (q : Q) (t : B) (again : Counts) (y : Writer B) → Over (ahead_q q) (ending_q q) (bytes_beyond held_a s u)
      → FinishedNormalize ahead_q ending_q held_b takes_b q t again y → (bytes_beyond held_b t y ≡ bytes_beyond held_a s u) × (again ≡ answer)
  pub read_back : ReadsBackAs ahead_q ending_q (bytes_beyond held_a s u) (collapsed input_tokens)

abbrev pub NormalFormsAreSettled : {P Q A B : Type 0} → (P → List Placed) → (P → Ending) → (Q → List Placed) → (Q → Ending) → (A → List ℕ) → (A → ℕ → Bool) → (B → List ℕ) → (B → ℕ → Bool) → Type 0
NormalFormsAreSettled {P} {Q} {A} {B} ahead_p ending_p ahead_q ending_q held_a takes_a held_b takes_b =
    (p : P) (s : A) (answer : Counts) (u : Writer A) → FinishedNormalize ahead_p ending_p held_a takes_a p s answer u → Settles ahead_p ending_p ahead_q ending_q held_a takes_a held_b takes_b p s answer u

-- the law, whole
pub record NormalFormLaw {P Q A B : Type 0} (ahead_p : P → List Placed) (ending_p : P → Ending) (ahead_q : Q → List Placed) (ending_q : Q → Ending)
    (held_a : A → List ℕ) (takes_a : A → ℕ → Bool) (held_b : B → List ℕ) (takes_b : B → ℕ → Bool) : Type 0 where
  pub left_answers : CallsAreAnswered held_a takes_a
  pub right_answers : CallsAreAnswered held_b takes_b
  pub decided : BytesAndTokensAgree held_a takes_a held_b takes_b
  pub left_back_by_first : FinishedBytesReadBack ahead_p ending_p held_a takes_a
  pub left_back_by_second : FinishedBytesReadBack ahead_q ending_q held_a takes_a
  pub right_back_by_first : FinishedBytesReadBack ahead_p ending_p held_b takes_b
  pub right_back_by_second : FinishedBytesReadBack ahead_q ending_q held_b takes_b
  pub settled : NormalFormsAreSettled ahead_p ending_p ahead_q ending_q held_a takes_a held_b takes_b

-- a run of these calls, from a new writer over the sink s
pub record RunFrom {S : Type 0} (held : S → List ℕ) (takes : S → ℕ → Bool) (s : S) (calls : List CallValue) (u : Writer S) : Type 0 where
  pub first : Writer S
  pub new : New s first
  pub of_calls : RunOf held takes first calls u
