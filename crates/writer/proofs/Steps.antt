-- How each call's relation is made from what its parts ensure.
use Rattle.std.proofs.Common.{◌≡◌, ℕ, Bool, true, false, List, Ok, Err, Result, refl, rules, ◌∙◌}
use Rattle.codepoint.specs.Utf8.{bytes_of}
use Rattle.refusal.specs.declared.fault.Fault.{Fault}
use Rattle.stream.specs.Sinks.{Emits}
use Rattle.syntax.specs.Kinds.{number_of}
use Rattle.syntax.specs.Neighbours.{apart, right_of}
use Rattle.syntax.specs.Spelling.{spelled}
use Rattle.syntax.specs.Tokens.{TokenValue, value_of}
use Rattle.syntax.specs.Written.{comment, added}
use Rattle.spelling.proofs.Bytes.{bytes_ascii}
use Rattle.spelling.proofs.Emissions.{by, and_then, cut_short}
use Rattle.writer.specs.declared.adding.Admitted.{Admitted}
use Rattle.writer.specs.declared.state.State.{State}
use Rattle.writer.specs.declared.writing.Slip.{Slip}
use Rattle.writer.specs.declared.writing.Writer.{Writer}
use Rattle.writer.specs.Admissions.{Admits}
use Rattle.writer.specs.Blocks.{mirror}
use Rattle.writer.specs.Refusals.{open_refusals, close_refusals}
use Rattle.writer.specs.States.{Opened, Closed}
use Rattle.writer.specs.Writes.{bytes_added, Adds, Opens, Closes, whole, broken, put_refused, put_added, open_refused, opened, open_broken, close_refused, close_added, finish_refused, finished}

module _ {S : Type 0} {held : S → List ℕ} {takes : S → ℕ → Bool} where
  -- what the writer's state admitted is added: the blocks are those of the token that was added
  pub opens : {w v : Writer S} {t : TokenValue} {slip : Slip} (a : Admitted) → Adds held takes (record { sink = w.sink; state = a.state }) (value_of a.token) a.blocks (Ok tt) v
      → Admits w.state (open_refusals w.state t) t (Opened w.state.blocks t.kind) (Ok a) → slip.depth ≡ a.blocks.depth → slip.kind ≡ number_of t.kind
      → Opens held takes w t (Ok slip) v
  opens a h m d k = opened m.0 m.3 (search (rules, m, h)) (d ∙ m.3.deep) k

  pub closes : {w v : Writer S} {d k : ℕ} {r : Result (Unit {0}) Fault} (a : Admitted) → Adds held takes (record { sink = w.sink; state = a.state }) (value_of a.token) a.blocks r v
      → Admits w.state (close_refusals w.state d k) (mirror k) (Closed w.state.blocks) (Ok a) → Closes held takes w d k r v
  closes a h m = close_added m.0 m.3 (search (rules, m, h))

  -- a comment is due, and was refused, or went out before the token
  pub comment_refused : {x z : S} {f : Fault} (s : State) (t : TokenValue) → apart s.left (right_of t) ≡ true
      → Emits held takes x comment (Err f) z → Emits held takes x (bytes_added s t) (Err f) z
  unfolding added
  comment_refused {f = f} s t e h = rw e (cut_short (Err f) comment (spelled s.waiting t) refl (by (bytes_ascii comment refl) h))

  pub comment_first : {x y z : S} {r : Result (Unit {0}) Fault} (s : State) (t : TokenValue) → apart s.left (right_of t) ≡ true
      → Emits held takes x comment (Ok tt) y → Emits held takes y (bytes_of (spelled s.waiting t)) r z → Emits held takes x (bytes_added s t) r z
  unfolding added
  comment_first s t e h k = rw e (and_then comment (spelled s.waiting t) (by (bytes_ascii comment refl) h) k)

  pub no_comment : {x z : S} {r : Result (Unit {0}) Fault} (s : State) (t : TokenValue) → apart s.left (right_of t) ≡ false
      → Emits held takes x (bytes_of (spelled s.waiting t)) r z → Emits held takes x (bytes_added s t) r z
  unfolding added
  no_comment s t e h = rw e h

-- the rules of the calls' relations, by which each call's proof is found
pub ruleset steps = (whole, broken, put_refused, put_added, open_refused, opens, open_broken, close_refused, closes, finish_refused, finished)

-- the ways in which a token is added
pub ruleset emitted = (comment_refused, comment_first, no_comment)
