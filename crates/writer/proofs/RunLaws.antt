-- A finished run from a new writer has written its accepted tokens. The induction goes forward over the calls, with
-- what the tokens so far come to; after finish nothing changes, and a stuck writer never finishes.
use Rattle.std.proofs.Common.{◌≡◌, ℕ, ◌+◌, Bool, true, false, cond, ◌&&◌, ◌⊎◌, List, [], ◌∷◌, ◌++◌, length, drop, is_some, Some, Ok, Err, Option, sym, refl, ap, ◌∙◌, subst, append_assoc, append-nil, arith, length-append, inl, inr}
use Rattle.std.proofs.lemmas.Bool.{both_ways}
use lib.Seq.{drop-append_seam}
use Rattle.codepoint.specs.Utf8.{bytes_of}
use Rattle.refusal.specs.declared.fault.Fault.{Fault}
use Rattle.stream.specs.Sinks.{Emits}
use Rattle.stream.proofs.Emitting.{outcome}
use Rattle.syntax.specs.declared.kind.Kind.TheVariants.{Whitespace}
use Rattle.syntax.specs.Tokens.{TokenValue, is_kind}
use Rattle.syntax.specs.Turn.{is_in_turn, waiting_after}
use Rattle.syntax.specs.Neighbours.{apart, right_of}
use Rattle.syntax.specs.Written.{added, written, written_from, written_bytes, comments_in, Fit}
use Rattle.syntax.specs.Puts.{left_now, waiting_now, is_whitespace_left, Accepted, MayFollow, PutAddsOneToken, AcceptedMayFinish}
use Rattle.syntax.specs.Laws.{TestDecidesLawful}
use Rattle.spelling.proofs.Bytes.{bytes_append, bytes_none}
use Rattle.writer.specs.declared.blocks.Blocks.{Blocks}
use Rattle.writer.specs.declared.counts.Counts.{Counts}
use Rattle.writer.specs.declared.state.State.{State}
use Rattle.writer.specs.declared.writing.Writer.{Writer}
use Rattle.writer.specs.Blocks.{mirror}
use Rattle.writer.specs.Counts.{counts, counts_of}
use Rattle.writer.specs.States.{Advanced}
use Rattle.writer.specs.Writes.{bytes_added, Adds, whole, broken, put_refused, put_added, open_refused, opened, open_broken, close_refused, close_added, finish_refused, finished}
use Rattle.writer.specs.Runs.{Deed, did_put, did_open, did_close, did_finish, accepted, finale, Does, Run, none, more, FinishedRunsWriteTheirTokens}
use Rattle.writer.proofs.Admitted.{LetsThrough, put_lets_through, open_lets_through, close_lets_through, finish_lets_end}

-- after finish, and once the sink refused, nothing is let through
abbrev Halts : State → Type 0
Halts s = (s.finished ≡ true) ⊎ (is_some s.stuck ≡ true)

shut : {P : Type 0} (s : State) → Halts s → s.finished ≡ false → is_some s.stuck ≡ false → P
shut s (inl e) going unstuck = absurd (both_ways _ going e)
shut s (inr e) going unstuck = absurd (both_ways _ unstuck e)

barred : {P : Type 0} {s : State} {t : TokenValue} → Halts s → LetsThrough s t → P
barred {s = s} o l = shut s o l.going l.unstuck

module _ {S : Type 0} (held : S → List ℕ) (takes : S → ℕ → Bool) where
  -- from then on every call is refused, and nothing changes
  halted_step : {w v : Writer S} (d : Deed) (ds : List Deed) → Halts w.state → Does held takes w d v → (v ≡ w) × (accepted (d ∷ ds) ≡ accepted ds)
  halted_step (did_put t r) ds o (put_refused h) = (refl, refl)
  halted_step {w} (did_put t r) ds o (put_added h a) = barred o (put_lets_through w.state t h)
  halted_step (did_open t r) ds o (open_refused h) = (refl, refl)
  halted_step {w} (did_open t r) ds o (opened h b a d k) = barred o (open_lets_through w.state t h)
  halted_step {w} (did_open t r) ds o (open_broken h b a) = barred o (open_lets_through w.state t h)
  halted_step (did_close d k r) ds o (close_refused h) = (refl, refl)
  halted_step {w} (did_close d k r) ds o (close_added h b a) = barred o (close_lets_through w.state d k h)
  halted_step (did_finish r) ds o (finish_refused h) = (refl, refl)
  halted_step {w} (did_finish r) ds o (finished h a b) = let l = finish_lets_end w.state h in shut w.state o l.going l.unstuck

  halted_run : (ds : List Deed) {w u : Writer S} → Halts w.state → Run held takes w ds u → (u ≡ w) × (accepted ds ≡ [])
  halted_run [] o none = (refl, refl)
  halted_run (d ∷ ds) o (more e r) =
      let p = halted_step d ds o e in
      let q = halted_run ds (subst (λ x. Halts x.state) (sym p.0) o) r in
      (q.0 ∙ p.0, p.1 ∙ q.1)

  -- so a run that has finished never met a refusing sink
  broken_never_ends : {P : Type 0} {w v u : Writer S} {b : Blocks} {g : Fault} (t : TokenValue) (ds : List Deed) → LetsThrough w.state t → u.state.finished ≡ true
      → Adds held takes w t b (Err g) v → Run held takes v ds u → P
  broken_never_ends {u = u} t ds l f (broken e a) r =
      absurd (both_ways _ (ap (λ x. x.state.finished) (halted_run ds (inr (ap is_some a.unstuck)) r).0 ∙ a.going ∙ l.going) f)

-- what the tokens ts, accepted since the sink was s, come to in a writer that goes on
record SoFar {S : Type 0} (held : S → List ℕ) (s : S) (ts : List TokenValue) (w : Writer S) : Type 0 where
  accepts : Accepted ts
  wrote : held w.sink ≡ held s ++ written_bytes ts
  counted : w.state.accepted ≡ length ts
  commented : w.state.comments ≡ comments_in ts
  neighbours : w.state.left ≡ left_now ts
  awaits : w.state.waiting ≡ waiting_now ts

-- and at its end
record AtEnd {S : Type 0} (held : S → List ℕ) (s : S) (ts : List TokenValue) (answer : Option Counts) (u : Writer S) : Type 0 where
  fit : Fit ts
  wrote : held u.sink ≡ held s ++ written_bytes ts
  answered : answer ≡ Some (counts_of ts)

written_none : written [] ≡ []
unfolding written written_from
written_none = refl

module _ (adds_one : PutAddsOneToken) (may-finish : AcceptedMayFinish) (decides : TestDecidesLawful) {S : Type 0} {held : S → List ℕ} {takes : S → ℕ → Bool} where
  -- one token more
  extended : {s : S} {w v : Writer S} {b : Blocks} (ts : List TokenValue) (t : TokenValue) → SoFar held s ts w → LetsThrough w.state t
      → Emits held takes w.sink (bytes_added w.state t) (Ok tt) v.sink → Advanced w.state t b v.state → SoFar held s (ts ++ t ∷ []) v
  extended {s} {w} {v} ts t so l e a =
      let may : MayFollow ts t =
      record {
        lawful = (decides t).0 l.lawful;
        in_turn = ap (λ x. is_in_turn x t) (sym so.awaits) ∙ l.in_turn;
        single_whitespace = ap (λ x. is_whitespace_left x && is_kind Whitespace t) (sym so.neighbours) ∙ l.single_whitespace;
      } in
      let then = adds_one ts t so.accepts may in
      let more_bytes : bytes_added w.state t ≡ bytes_of (added (left_now ts) (waiting_now ts) t) =
      ap (λ x. bytes_of (added x w.state.waiting t)) so.neighbours ∙ ap (λ x. bytes_of (added (left_now ts) x t)) so.awaits in
      let all-bytes : written_bytes ts ++ bytes_of (added (left_now ts) (waiting_now ts) t) ≡ written_bytes (ts ++ t ∷ []) =
      sym (ap bytes_of then.writes ∙ bytes_append (written ts) (added (left_now ts) (waiting_now ts) t)) in
      record {
        accepts = then.accepts;
        wrote =
            outcome held takes (Ok tt) e ∙ ap (λ h. h ++ bytes_added w.state t) so.wrote ∙ append_assoc (held s) (written_bytes ts) (bytes_added w.state t)
            ∙ ap (λ bs. held s ++ (written_bytes ts ++ bs)) more_bytes ∙ ap (λ bs. held s ++ bs) all-bytes;
        counted = omega (arith, a.counted, so.counted, length-append ts (t ∷ []));
        commented =
            a.commented ∙ ap (λ x. w.state.comments + cond (apart x (right_of t)) 1 0) so.neighbours ∙ ap (λ n. n + cond (apart (left_now ts) (right_of t)) 1 0) so.commented
            ∙ sym then.counts;
        neighbours = a.neighbours ∙ sym then.neighbours;
        awaits = a.awaits ∙ ap (λ x. waiting_after x t) so.awaits ∙ sym then.awaits;
      }

  -- a token that went out whole, and then the rest of the run
  onward : {s : S} {w v u : Writer S} {b : Blocks} {n : Option Counts} (ts : List TokenValue) (t : TokenValue) (rest : List TokenValue) → SoFar held s ts w
      → LetsThrough w.state t → Adds held takes w t b (Ok tt) v
      → (SoFar held s (ts ++ t ∷ []) v → v.state.finished ≡ false → AtEnd held s ((ts ++ t ∷ []) ++ rest) n u) → AtEnd held s (ts ++ (t ∷ rest)) n u
  onward {s} {u = u} {n = n} ts t rest so l (whole e a) go =
      subst (λ xs. AtEnd held s xs n u) (append_assoc ts (t ∷ []) rest) (go (extended ts t so l e a) (a.going ∙ l.going))

  -- a run from a writer that goes on to one that has finished
  through : {s : S} (ts : List TokenValue) (ds : List Deed) {w u : Writer S} → SoFar held s ts w → w.state.finished ≡ false → u.state.finished ≡ true
      → Run held takes w ds u → AtEnd held s (ts ++ accepted ds) (finale ds) u
  through ts [] {w} so g f none = absurd (both_ways _ g f)
  through ts (did_put t (Ok x) ∷ ds) so g f (more (put_added h a) r) =
      onward ts t (accepted ds) so (put_lets_through _ t h) a (λ so' g'. through (ts ++ t ∷ []) ds so' g' f r)
  through ts (did_put t (Err y) ∷ ds) so g f (more (put_refused h) r) = through ts ds so g f r
  through ts (did_put t (Err y) ∷ ds) so g f (more (put_added h a) r) = broken_never_ends held takes t ds (put_lets_through _ t h) f a r
  through ts (did_open t (Ok x) ∷ ds) so g f (more (opened h b a d k) r) =
      onward ts t (accepted ds) so (open_lets_through _ t h) a (λ so' g'. through (ts ++ t ∷ []) ds so' g' f r)
  through ts (did_open t (Err y) ∷ ds) so g f (more (open_refused h) r) = through ts ds so g f r
  through ts (did_open t (Err y) ∷ ds) so g f (more (open_broken h b a) r) = broken_never_ends held takes t ds (open_lets_through _ t h) f a r
  through ts (did_close d k (Ok x) ∷ ds) so g f (more (close_added h b a) r) =
      onward ts (mirror k) (accepted ds) so (close_lets_through _ d k h) a (λ so' g'. through (ts ++ mirror k ∷ []) ds so' g' f r)
  through ts (did_close d k (Err y) ∷ ds) so g f (more (close_refused h) r) = through ts ds so g f r
  through ts (did_close d k (Err y) ∷ ds) so g f (more (close_added h b a) r) = broken_never_ends held takes (mirror k) ds (close_lets_through _ d k h) f a r
  through ts (did_finish (Err y) ∷ ds) so g f (more (finish_refused h) r) = through ts ds so g f r
  through {s} ts (did_finish (Ok x) ∷ ds) {w} {u} so g f (more (finished h sk a) r) =
      let after = halted_run held takes ds (inl a.going) r in
      let at_end : AtEnd held s ts (Some (counts w.state.accepted w.state.comments)) u =
      record {
        fit = may-finish.1 ts so.accepts (sym so.awaits ∙ (finish_lets_end w.state h).awaits);
        wrote = ap (λ x. held x.sink) after.0 ∙ ap held sk ∙ so.wrote;
        answered = ap (λ i. Some (counts i w.state.comments)) so.counted ∙ ap (λ j. Some (counts (length ts) j)) so.commented;
      } in
      subst (λ xs. AtEnd held s xs (Some (counts w.state.accepted w.state.comments)) u) (sym (ap (λ xs. ts ++ xs) after.1 ∙ append-nil ts)) at_end

  pub finished_runs_write_their_tokens : FinishedRunsWriteTheirTokens held takes
  finished_runs_write_their_tokens s ds u r =
      let start = r.new.fresh in
      let nothing : [] ≡ written_bytes [] = bytes_none ∙ ap bytes_of (sym written_none) in
      let so : SoFar held s [] r.first =
      record {
        accepts = may-finish.0;
        wrote = ap held r.new.over ∙ sym (append-nil (held s)) ∙ ap (λ bs. held s ++ bs) nothing;
        counted = start.counted;
        commented = start.commented;
        neighbours = start.neighbours;
        awaits = start.awaits;
      } in
      let at_end = through [] ds so start.going r.ends r.run in
      record {
        fit = at_end.fit;
        bytes = ap (λ bs. drop (length (held s)) bs) at_end.wrote ∙ drop-append_seam (held s) (written_bytes (accepted ds));
        answer = at_end.answered;
      }
