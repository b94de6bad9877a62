-- Every call is answered by the rules: refused by the first that applies, or its bytes go to the sink.
use Rattle.std.proofs.Common.{◌≡◌, ℕ, Bool, List, Some, Ok, Err, Result, sym, refl, ap, ◌∙◌, append-nil, arith}
use Rattle.refusal.specs.declared.fault.Fault.{Fault}
use Rattle.stream.proofs.Emitting.{outcome}
use Rattle.syntax.specs.Tokens.{TokenValue}
use Rattle.writer.specs.declared.blocks.Blocks.{Blocks}
use Rattle.writer.specs.declared.writing.Writer.{Writer}
use Rattle.writer.specs.Refusals.{first_of}
use Rattle.writer.specs.Runs.{Deed}
use Rattle.writer.specs.Runs.Deed.{did_put, did_open, did_close, did_finish}
use Rattle.writer.specs.Writes.{Adds, bytes_added}
use Rattle.writer.specs.Writes.Adds.{whole, broken}
use Rattle.writer.specs.Writes.Puts.{put_refused, put_added}
use Rattle.writer.specs.Writes.Opens.{open_refused, opened, open_broken}
use Rattle.writer.specs.Writes.Closes.{close_refused, close_added}
use Rattle.writer.specs.Writes.Finishes.{finish_refused, finished}
use Rattle.normal.specs.Law.{Answered, CallsAreAnswered, Written, refusal_in, refusal_of, refusals_of, bytes_due}

-- a rule cannot both apply and not apply
apart : {P : Type 0} {r : Result (Unit {0}) Fault} (f : Fault) → r ≡ Err f → r ≡ Ok tt → P
apart f h k = let z : ◌≡◌ {A = ℕ} 0 1 = cc in absurd (omega arith)

same_fault : {r : Result (Unit {0}) Fault} (f g : Fault) → r ≡ Err g → r ≡ Err f → g ≡ f
same_fault f g h k = cc

module _ {S : Type 0} (held : S → List ℕ) (takes : S → ℕ → Bool) where
  adds_written : {w v : Writer S} {b : Blocks} (t : TokenValue) (r : Result (Unit {0}) Fault) → Adds held takes w t b r v
      → Written held takes w.sink (bytes_added w.state t) (refusal_in r) v.sink
  adds_written t (Ok u) (whole e a) = outcome held takes (Ok tt) e
  adds_written t (Err f) (broken e a) = outcome held takes (Err f) e

  -- refused by a rule
  ruled : {w : Writer S} (d : Deed) (g : Fault) → first_of (refusals_of w.state d) ≡ Err g → refusal_of d ≡ Some g → Answered held takes w d w
  ruled d g h e = record { by_rule = λ f k. (e ∙ ap (λ x. Some x) (same_fault f g h k), refl); by_sink = λ k. apart g h k }

  -- let through by all rules
  let_through : {w v : Writer S} (d : Deed) → first_of (refusals_of w.state d) ≡ Ok tt → Written held takes w.sink (bytes_due w.state d) (refusal_of d) v.sink → Answered held takes w d v
  let_through d h x = record { by_rule = λ f k. apart f k h; by_sink = λ k. x }

  pub calls_are_answered : CallsAreAnswered held takes
  calls_are_answered w v (did_put t r) (put_refused {f = f} h) = ruled (did_put t r) f h refl
  calls_are_answered w v (did_put t r) (put_added h a) = let_through (did_put t r) h (adds_written t r a)
  calls_are_answered w v (did_open t r) (open_refused {f = f} h) = ruled (did_open t r) f h refl
  calls_are_answered w v (did_open t r) (opened h b a d k) = let_through (did_open t r) h (adds_written t (Ok tt) a)
  calls_are_answered w v (did_open t r) (open_broken {f = f} h b a) = let_through (did_open t r) h (adds_written t (Err f) a)
  calls_are_answered w v (did_close d k r) (close_refused {f = f} h) = ruled (did_close d k r) f h refl
  calls_are_answered w v (did_close d k r) (close_added h b a) = let_through (did_close d k r) h (adds_written _ r a)
  calls_are_answered w v (did_finish r) (finish_refused {f = f} h) = ruled (did_finish r) f h refl
  calls_are_answered w v (did_finish r) (finished h sk a) = let_through (did_finish r) h (ap held sk ∙ sym (append-nil (held w.sink)))
