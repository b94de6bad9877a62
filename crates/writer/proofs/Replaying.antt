-- Calls given as values: what makes one, and the loop over them.
use Rattle.std.proofs.Common.{ℕ, ◌+◌, ◌<◌, ◌≤◌, Bool, List, [], ◌∷◌, map, length, get_or, drop, Ok, Err, Result, refl, ap, ◌∙◌, add-one, drop-cons}
use Rattle.std.proofs.lemmas.List.{drop_all}
use Rattle.refusal.specs.declared.fault.Fault.{Fault}
use Rattle.syntax.specs.Tokens.{TokenValue}
use Rattle.writer.specs.declared.calls.Call.{Call}
use Rattle.writer.specs.declared.counts.Counts.{Counts}
use Rattle.writer.specs.declared.writing.Slip.{Slip}
use Rattle.writer.specs.declared.writing.Writer.{Writer}
use Rattle.writer.specs.Runs.{Deed, Does, Makes, RunOf, asked, answer, call_of, call_put, call_open, call_close, call_finish, did_put, did_open, did_close, did_finish, more, none}
use Rattle.writer.specs.Writes.{Puts, Opens, Closes, Finishes}

module _ {S : Type 0} {held : S → List ℕ} {takes : S → ℕ → Bool} where
  made : {w v : Writer S} (d : Deed) → Does held takes w d v → Makes held takes w (asked d) (answer d) v
  made d p = record { deed = d; of_call = refl; answers = refl; does = p }

  -- each kind of call, and what it answers without a slip or numbers
  pub made_put : {w v : Writer S} {t : TokenValue} {r : Result (Unit {0}) Fault} → Puts held takes w t r v → Makes held takes w (call_put t) r v
  made_put {t = t} {r = r} = made (did_put t r)

  pub made_open : {w v : Writer S} {t : TokenValue} {slip : Slip} → Opens held takes w t (Ok slip) v → Makes held takes w (call_open t) (Ok tt) v
  made_open {t = t} {slip = slip} = made (did_open t (Ok slip))

  pub refused_open : {w v : Writer S} {t : TokenValue} {f : Fault} → Opens held takes w t (Err f) v → Makes held takes w (call_open t) (Err f) v
  refused_open {t = t} {f = f} = made (did_open t (Err f))

  pub made_close : {w v : Writer S} {d k : ℕ} {r : Result (Unit {0}) Fault} → Closes held takes w d k r v → Makes held takes w (call_close d k) r v
  made_close {d = d} {k = k} {r = r} = made (did_close d k r)

  pub made_finish : {w v : Writer S} {n : Counts} → Finishes held takes w (Ok n) v → Makes held takes w call_finish (Ok tt) v
  made_finish {n = n} = made (did_finish (Ok n))

  pub refused_finish : {w v : Writer S} {f : Fault} → Finishes held takes w (Err f) v → Makes held takes w call_finish (Err f) v
  refused_finish {f = f} = made (did_finish (Err f))

  -- the call at index i, and then the calls behind it
  pub one_more : {w v u : Writer S} {r : Result (Unit {0}) Fault} (cs : List Call) (i : ℕ) (x : Call) → i < length cs → Makes held takes w (call_of (get_or cs i x)) r v
      → RunOf held takes v (map call_of (drop (i + 1) cs)) u → RunOf held takes w (map call_of (drop i cs)) u
  one_more cs i x h made run =
      record {
        deeds = made.deed ∷ run.deeds;
        of_calls = ap (λ a. a ∷ map asked run.deeds) made.of_call ∙ ap (λ l. call_of (get_or cs i x) ∷ l) run.of_calls ∙ rw (add-one, drop-cons cs i x h);
        run = more made.does run.run;
      }

  pub none_more : {w : Writer S} (cs : List Call) (i : ℕ) → length cs ≤ i → RunOf held takes w (map call_of (drop i cs)) w
  none_more cs i h = record { deeds = []; of_calls = rw (drop_all i cs h); run = none }

pub ruleset calls_made = (made_put, made_open, refused_open, made_close, made_finish, refused_finish, none_more)
