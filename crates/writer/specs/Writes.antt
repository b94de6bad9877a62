-- What each call of a writer answers and leaves.
use Rattle.std.specs.Prelude.{◌≡◌, ℕ, ◌+◌, Bool, List, Ok, Err, Result}
use Rattle.codepoint.specs.Utf8.{bytes_of}
use Rattle.refusal.specs.declared.fault.Fault.{Fault}
use Rattle.refusal.specs.Faults.{place_of}
use Rattle.stream.specs.Sinks.{Emits}
use Rattle.syntax.specs.Kinds.{number_of}
use Rattle.syntax.specs.Tokens.{TokenValue}
use Rattle.syntax.specs.Written.{added}
use Rattle.writer.specs.declared.blocks.Blocks.{Blocks}
use Rattle.writer.specs.declared.counts.Counts.{Counts}
use Rattle.writer.specs.declared.state.State.{State}
use Rattle.writer.specs.declared.writing.Writer.{Writer}
use Rattle.writer.specs.declared.writing.Slip.{Slip}
use Rattle.writer.specs.Blocks.{mirror}
use Rattle.writer.specs.Counts.{counts}
use Rattle.writer.specs.Refusals.{first_of, put_refusals, open_refusals, close_refusals, finish_refusals}
use Rattle.writer.specs.States.{Fresh, Opened, Closed, Advanced, Stopped, Ended}

-- a writer at its beginning, over a sink
pub record New {S : Type 0} (s : S) (w : Writer S) : Type 0 where
  pub over : w.sink ≡ s
  pub fresh : Fresh w.state

-- the bytes that a token adds, with the comment if one is due
abbrev pub bytes_added : State → TokenValue → List ℕ
bytes_added s t = bytes_of (added s.left s.waiting t)

module _ {S : Type 0} (held : S → List ℕ) (takes : S → ℕ → Bool) where
  -- a token goes out: all its bytes, or those before the one that the sink refused, and then the writer is stuck
  pub data Adds (w : Writer S) (t : TokenValue) (b : Blocks) : Result (Unit {0}) Fault → Writer S → Type 0 where
    whole : {w' : Writer S} → Emits held takes w.sink (bytes_added w.state t) (Ok tt) w'.sink
        → Advanced w.state t b w'.state → Adds w t b (Ok tt) w'
    broken : {w' : Writer S} {f : Fault} → Emits held takes w.sink (bytes_added w.state t) (Err f) w'.sink
        → Stopped w.state (place_of f) w'.state → Adds w t b (Err f) w'

  -- refused by the rules, and then writer and sink are the same; or the token is added
  pub data Puts (w : Writer S) (t : TokenValue) : Result (Unit {0}) Fault → Writer S → Type 0 where
    put_refused : {f : Fault} → first_of (put_refusals w.state t) ≡ Err f → Puts w t (Err f) w
    put_added : {r : Result (Unit {0}) Fault} {w' : Writer S} → first_of (put_refusals w.state t) ≡ Ok tt
        → Adds w t w.state.blocks r w' → Puts w t r w'

  -- the slip has the block's depth, from 1, and the number of its kind
  pub data Opens (w : Writer S) (t : TokenValue) : Result Slip Fault → Writer S → Type 0 where
    open_refused : {f : Fault} → first_of (open_refusals w.state t) ≡ Err f → Opens w t (Err f) w
    opened : {slip : Slip} {b : Blocks} {w' : Writer S} → first_of (open_refusals w.state t) ≡ Ok tt
        → Opened w.state.blocks t.kind b → Adds w t b (Ok tt) w'
        → slip.depth ≡ w.state.blocks.depth + 1 → slip.kind ≡ number_of t.kind → Opens w t (Ok slip) w'
    open_broken : {f : Fault} {b : Blocks} {w' : Writer S} → first_of (open_refusals w.state t) ≡ Ok tt
        → Opened w.state.blocks t.kind b → Adds w t b (Err f) w' → Opens w t (Err f) w'

  -- a slip by its two numbers; the block stays open if its mirror is refused
  pub data Closes (w : Writer S) (d k : ℕ) : Result (Unit {0}) Fault → Writer S → Type 0 where
    close_refused : {f : Fault} → first_of (close_refusals w.state d k) ≡ Err f → Closes w d k (Err f) w
    close_added : {r : Result (Unit {0}) Fault} {b : Blocks} {w' : Writer S} → first_of (close_refusals w.state d k) ≡ Ok tt
        → Closed w.state.blocks b → Adds w (mirror k) b r w' → Closes w d k r w'

  -- the numbers of accepted tokens and of comments
  pub data Finishes (w : Writer S) : Result Counts Fault → Writer S → Type 0 where
    finish_refused : {f : Fault} → first_of (finish_refusals w.state) ≡ Err f → Finishes w (Err f) w
    finished : {w' : Writer S} → first_of (finish_refusals w.state) ≡ Ok tt → w'.sink ≡ w.sink
        → Ended w.state w'.state → Finishes w (Ok (counts w.state.accepted w.state.comments)) w'
