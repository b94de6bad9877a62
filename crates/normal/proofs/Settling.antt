-- The normal-form law, from what finished runs write, what written tokens read back as, and what a transfer has put.
use Rattle.std.proofs.Common.{◌≡◌, ℕ, Bool, List, Some, sym, refl, ap, ◌∙◌, subst}
use Rattle.codepoint.specs.Utf8.{code_points_of, points_from}
use Rattle.stream.specs.Preprocess.{AllPreprocessed, Placed, preprocessed}
use Rattle.stream.specs.Sources.{Ending}
use Rattle.stream.specs.Within.{byte_within}
use Rattle.stream.proofs.Preprocessing.{cleans, clean_stays}
use Rattle.syntax.specs.Tokens.{TokenValue}
use Rattle.syntax.specs.Reading.{Yields}
use Rattle.syntax.specs.Written.{Fit, collapsed, written_bytes}
use Rattle.syntax.proofs.Chains.{yields_once}
use Rattle.syntax.proofs.Collapsing.{collapsed_twice}
use Rattle.syntax.proofs.Putting.{put_adds_one_token, accepted_may_finish}
use Rattle.syntax.proofs.Settling.{written_reads_back, bytes_decide_tokens}
use Rattle.syntax.proofs.Tested.{test_decides_lawful}
use Rattle.reader.proofs.Giving.{reading_gives, reading_exists}
use Rattle.writer.specs.declared.writing.Writer.{Writer}
use Rattle.writer.specs.Runs.{Deed, FinishedRun, WritesItsTokens, accepted, bytes_beyond}
use Rattle.writer.proofs.RunLaws.{finished_runs_write_their_tokens}
use Rattle.normal.specs.Law.{BytesAndTokensAgree, FinishedBytesReadBack, FinishedNormalize, NormalFormLaw, NormalFormsAreSettled, Over, ReadsBackAs}
use Rattle.normal.proofs.Answering.{calls_are_answered}
use Rattle.normal.proofs.Transferring.{came}
use Rattle.writer.specs.declared.counts.Counts.{Counts}
use Rattle.writer.specs.Counts.{counts_of}

-- what a finished run has written
wrote : {S : Type 0} (held : S → List ℕ) (takes : S → ℕ → Bool) (s : S) (ds : List Deed) (u : Writer S) → FinishedRun held takes s ds u → WritesItsTokens held s ds u
wrote held takes s ds u r = finished_runs_write_their_tokens put_adds_one_token accepted_may_finish test_decides_lawful {held = held} {takes = takes} s ds u r

-- a source over the bytes of a fit list has that list's tokens
module _ (points : List Placed) (ending : Ending) (ts : List TokenValue) (fit : Fit ts) (over : Over points ending (written_bytes ts)) where
  same_input : code_points_of (preprocessed points) ≡ code_points_of (preprocessed (points_from 0 0 (written_bytes ts)))
  same_input =
      let bs = written_bytes ts in
      let unchanged = (written_reads_back ts fit).unchanged in
      let clean : AllPreprocessed (code_points_of (points_from 0 0 bs)) = subst (λ ps. AllPreprocessed (code_points_of ps)) unchanged (cleans (points_from 0 0 bs) (byte_within 0 bs)) in
      ap code_points_of (clean_stays points (subst AllPreprocessed (sym over.same_code_points) clean)) ∙ over.same_code_points ∙ ap code_points_of (sym unchanged)

  yields_over : Yields (code_points_of (preprocessed points)) ts
  yields_over = subst (λ s. Yields s ts) (sym same_input) (written_reads_back ts fit).yields

-- so it reads back as that list
reads_back : {P : Type 0} (ahead : P → List Placed) (ending : P → Ending) (ts : List TokenValue) → Fit ts → ReadsBackAs ahead ending (written_bytes ts) ts
reads_back ahead ending ts fit = record {
  gives = λ p o us r. yields_once _ us ts (reading_gives (ahead p) (ending p) us r).yields (yields_over (ahead p) (ending p) ts fit o);
  exists = λ p o. reading_exists (ahead p) (ending p) o.place ts o.to_the_end (yields_over (ahead p) (ending p) ts fit o);
}

finished_bytes_read_back : {P S : Type 0} (ahead : P → List Placed) (ending : P → Ending) (held : S → List ℕ) (takes : S → ℕ → Bool) → FinishedBytesReadBack ahead ending held takes
finished_bytes_read_back ahead ending held takes s ds u r =
    let told = wrote held takes s ds u r in
    subst (λ bs. ReadsBackAs ahead ending bs (accepted ds)) (sym told.bytes) (reads_back ahead ending (accepted ds) told.fit)

bytes_and_tokens_agree : {A B : Type 0} (held_a : A → List ℕ) (takes_a : A → ℕ → Bool) (held_b : B → List ℕ) (takes_b : B → ℕ → Bool) → BytesAndTokensAgree held_a takes_a held_b takes_b
bytes_and_tokens_agree held_a takes_a held_b takes_b s ds u t es y r q =
    let a = wrote held_a takes_a s ds u r in
    let b = wrote held_b takes_b t es y q in
    let both = bytes_decide_tokens (accepted ds) (accepted es) a.fit b.fit in
    (λ e. both.0 (sym a.bytes ∙ e ∙ b.bytes), λ e. a.bytes ∙ both.1 e ∙ sym b.bytes)

-- what a finished normalize has read and written
record Normal {P S : Type 0} (ahead : P → List Placed) (held : S → List ℕ) (p : P) (s : S) (n : Counts) (u : Writer S) : Type 0 where
  tokens : List TokenValue
  yields : Yields (code_points_of (preprocessed (ahead p))) tokens
  fit : Fit (collapsed tokens)
  bytes : bytes_beyond held s u ≡ written_bytes (collapsed tokens)
  counts : n ≡ counts_of (collapsed tokens)

normal : {P S : Type 0} (ahead : P → List Placed) (ending : P → Ending) (held : S → List ℕ) (takes : S → ℕ → Bool) (p : P) (s : S) (n : Counts) (u : Writer S)
    → FinishedNormalize ahead ending held takes p s n u → Normal ahead held p s n u
normal ahead ending held takes p s n u f =
    let run = f.normalizes in
    let c = came held takes n refl run.transfers in
    let told = wrote held takes s c.deeds u (record { first = run.first; new = run.new; run = c.run; ends = c.ends }) in
    let all = c.puts_all in
    let counted : Some n ≡ Some (counts_of (accepted c.deeds)) = sym c.answer ∙ told.answer in
    let told-so : n ≡ counts_of (accepted c.deeds) = cc in
    record {
      tokens = c.tokens;
      yields = c.yields;
      fit = subst Fit all told.fit;
      bytes = told.bytes ∙ ap written_bytes all;
      counts = told-so ∙ ap counts_of all;
    }

module _ {P Q A B : Type 0} (ahead_p : P → List Placed) (ending_p : P → Ending) (ahead_q : Q → List Placed) (ending_q : Q → Ending)
    (held_a : A → List ℕ) (takes_a : A → ℕ → Bool) (held_b : B → List ℕ) (takes_b : B → ℕ → Bool) where
  normal_forms_are_settled : NormalFormsAreSettled ahead_p ending_p ahead_q ending_q held_a takes_a held_b takes_b
  normal_forms_are_settled p s n u f =
      let one = normal ahead_p ending_p held_a takes_a p s n u f in
      let ts = one.tokens in
      record {
        input_tokens = ts;
        yielded = one.yields;
        counted = one.counts;
        second = λ q t again y o g.
            let two = normal ahead_q ending_q held_b takes_b q t again y g in
            let over : Over (ahead_q q) (ending_q q) (written_bytes (collapsed ts)) = subst (Over (ahead_q q) (ending_q q)) one.bytes o in
            let same : two.tokens ≡ collapsed ts = yields_once _ two.tokens (collapsed ts) two.yields (yields_over (ahead_q q) (ending_q q) (collapsed ts) one.fit over) in
            let settled : collapsed two.tokens ≡ collapsed ts = ap collapsed same ∙ collapsed_twice ts in
            (two.bytes ∙ ap written_bytes settled ∙ sym one.bytes, two.counts ∙ ap counts_of settled ∙ sym one.counts);
        read_back = subst (λ bs. ReadsBackAs ahead_q ending_q bs (collapsed ts)) (sym one.bytes) (reads_back ahead_q ending_q (collapsed ts) one.fit);
      }

  pub normal_form_law : NormalFormLaw ahead_p ending_p ahead_q ending_q held_a takes_a held_b takes_b
  normal_form_law = record {
    left_answers = calls_are_answered held_a takes_a;
    right_answers = calls_are_answered held_b takes_b;
    decided = bytes_and_tokens_agree held_a takes_a held_b takes_b;
    left_back_by_first = finished_bytes_read_back ahead_p ending_p held_a takes_a;
    left_back_by_second = finished_bytes_read_back ahead_q ending_q held_a takes_a;
    right_back_by_first = finished_bytes_read_back ahead_p ending_p held_b takes_b;
    right_back_by_second = finished_bytes_read_back ahead_q ending_q held_b takes_b;
    settled = normal_forms_are_settled;
  }
