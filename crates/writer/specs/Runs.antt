-- Runs: calls with their answers, one after another, related by the calls' own relations.
use Rattle.std.specs.Prelude.{◌≡◌, ℕ, Bool, true, List, [], ◌∷◌, map, length, drop, Some, None, Ok, Err, Option, Result}
use Rattle.refusal.specs.declared.fault.Fault.{Fault}
use Rattle.syntax.specs.Tokens.{TokenValue, value_of}
use Rattle.syntax.specs.Written.{written_bytes, Fit}
use Rattle.writer.specs.declared.calls.Call.{Call}
use Rattle.writer.specs.declared.calls.Call.TheVariants.{Put, Open, Close, Finish}
use Rattle.writer.specs.declared.counts.Counts.{Counts}
use Rattle.writer.specs.declared.writing.Writer.{Writer}
use Rattle.writer.specs.declared.writing.Slip.{Slip}
use Rattle.writer.specs.Blocks.{mirror}
use Rattle.writer.specs.Counts.{counts_of}
use Rattle.writer.specs.Writes.{New, Puts, Opens, Closes, Finishes}

-- a call, by value; a slip by its two numbers
pub data CallValue : Type 0 where
  call_put : TokenValue → CallValue
  call_open : TokenValue → CallValue
  call_close : ℕ → ℕ → CallValue
  call_finish : CallValue

abbrev pub call_of : Call → CallValue
call_of (Put t) = call_put (value_of t)
call_of (Open t) = call_open (value_of t)
call_of (Close d k) = call_close d k
call_of Finish = call_finish

-- a call with its answer
pub data Deed : Type 0 where
  did_put : TokenValue → Result (Unit {0}) Fault → Deed
  did_open : TokenValue → Result Slip Fault → Deed
  did_close : ℕ → ℕ → Result (Unit {0}) Fault → Deed
  did_finish : Result Counts Fault → Deed

abbrev pub asked : Deed → CallValue
asked (did_put t r) = call_put t
asked (did_open t r) = call_open t
asked (did_close d k r) = call_close d k
asked (did_finish r) = call_finish

-- a call's answer, without a slip or numbers
abbrev pub answer : Deed → Result (Unit {0}) Fault
answer (did_put t r) = r
answer (did_open t (Ok slip)) = Ok tt
answer (did_open t (Err f)) = Err f
answer (did_close d k r) = r
answer (did_finish (Ok n)) = Ok tt
answer (did_finish (Err f)) = Err f

-- in order, the token of each unrefused put and open and the mirror of each unrefused close
abbrev pub accepted : List Deed → List TokenValue
accepted [] = []
accepted (did_put t (Ok u) ∷ ds) = t ∷ accepted ds
accepted (did_put t (Err f) ∷ ds) = accepted ds
accepted (did_open t (Ok u) ∷ ds) = t ∷ accepted ds
accepted (did_open t (Err f) ∷ ds) = accepted ds
accepted (did_close d k (Ok u) ∷ ds) = mirror k ∷ accepted ds
accepted (did_close d k (Err f) ∷ ds) = accepted ds
accepted (did_finish r ∷ ds) = accepted ds

-- what the unrefused finish answered
abbrev pub finale : List Deed → Option Counts
finale [] = None
finale (did_put t r ∷ ds) = finale ds
finale (did_open t r ∷ ds) = finale ds
finale (did_close d k r ∷ ds) = finale ds
finale (did_finish (Ok n) ∷ ds) = Some n
finale (did_finish (Err f) ∷ ds) = finale ds

abbrev pub Does : {S : Type 0} → (S → List ℕ) → (S → ℕ → Bool) → Writer S → Deed → Writer S → Type 0
Does held takes w (did_put t r) w' = Puts held takes w t r w'
Does held takes w (did_open t r) w' = Opens held takes w t r w'
Does held takes w (did_close d k r) w' = Closes held takes w d k r w'
Does held takes w (did_finish r) w' = Finishes held takes w r w'

-- one call, by value
pub record Makes {S : Type 0} (held : S → List ℕ) (takes : S → ℕ → Bool) (w : Writer S) (call : CallValue) (r : Result (Unit {0}) Fault) (u : Writer S) : Type 0 where
  pub deed : Deed
  pub of_call : asked deed ≡ call
  pub answers : answer deed ≡ r
  pub does : Does held takes w deed u

pub data Run {S : Type 0} (held : S → List ℕ) (takes : S → ℕ → Bool) : Writer S → List Deed → Writer S → Type 0 where
  none : {w : Writer S} → Run held takes w [] w
  more : {w v u : Writer S} {d : Deed} {ds : List Deed} → Does held takes w d v → Run held takes v ds u → Run held takes w (d ∷ ds) u

-- a run of these calls
pub record RunOf {S : Type 0} (held : S → List ℕ) (takes : S → ℕ → Bool) (w : Writer S) (calls : List CallValue) (u : Writer S) : Type 0 where
  pub deeds : List Deed
  pub of_calls : map asked deeds ≡ calls
  pub run : Run held takes w deeds u

-- a run from a new writer that has finished
pub record FinishedRun {S : Type 0} (held : S → List ℕ) (takes : S → ℕ → Bool) (s : S) (ds : List Deed) (u : Writer S) : Type 0 where
  pub first : Writer S
  pub new : New s first
  pub run : Run held takes first ds u
  pub ends : u.state.finished ≡ true

-- its bytes: what the sink holds beyond what it held at the start
abbrev pub bytes_beyond : {S : Type 0} → (S → List ℕ) → S → Writer S → List ℕ
bytes_beyond held s u = drop (length (held s)) (held u.sink)

-- what such a run has accepted, written and answered
pub record WritesItsTokens {S : Type 0} (held : S → List ℕ) (s : S) (ds : List Deed) (u : Writer S) : Type 0 where
  pub fit : Fit (accepted ds)
  pub bytes : bytes_beyond held s u ≡ written_bytes (accepted ds)
  pub answer : finale ds ≡ Some (counts_of (accepted ds))

abbrev pub FinishedRunsWriteTheirTokens : {S : Type 0} → (S → List ℕ) → (S → ℕ → Bool) → Type 0
FinishedRunsWriteTheirTokens {S} held takes = (s : S) (ds : List Deed) (u : Writer S) → FinishedRun held takes s ds u → WritesItsTokens held s ds u
