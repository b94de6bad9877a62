-- A transfer that was not refused has read all tokens, none of them bad, and is a run that put them collapsed and finished.
use Rattle.std.proofs.Common.{◌≡◌, ℕ, Bool, true, false, ◌&&◌, List, [], ◌∷◌, Some, Ok, sym, refl, ap, ◌∙◌, arith, None}
use Rattle.std.proofs.lemmas.Bool.{and_parts, cond-true, cond-false}
use Rattle.std.proofs.lemmas.Bool.Decides.{nat_tests}
use Rattle.syntax.specs.declared.kind.Kind.{Kind}
use Rattle.syntax.specs.declared.kind.Kind.TheVariants.{Whitespace}
use Rattle.syntax.specs.Kinds.{is_bad_kind, same_kind}
use Rattle.syntax.specs.Tokens.{TokenValue, is_bad, is_kind}
use Rattle.syntax.specs.Reading.{Yields}
use Rattle.syntax.specs.Written.{Each, collapsed_after}
use Rattle.syntax.proofs.Tested.{test_decides_lawful}
use Rattle.lookahead.specs.Ahead.{codes}
use Rattle.reader.specs.NextToken.{Model}
use Rattle.reader.specs.Readings.{value_in}
use Rattle.reader.proofs.Giving.{token_step, end_step}
use Rattle.writer.specs.declared.writing.Writer.{Writer}
use Rattle.writer.specs.Runs.{Deed, Run, accepted, finale}
use Rattle.writer.specs.Runs.Deed.{did_put, did_finish}
use Rattle.writer.specs.Runs.Run.{none, more}
use Rattle.writer.specs.Writes.{Finishes, Puts}
use Rattle.writer.specs.Writes.Finishes.{finished}
use Rattle.writer.specs.Writes.Puts.{put_added}
use Rattle.writer.proofs.Admitted.{put_lets_through}
use Rattle.normal.specs.Normalizing.{Transfers}
use Rattle.normal.specs.Normalizing.Transfers.{at_the_end, left_out, put_on}
use Rattle.writer.specs.declared.counts.Counts.{Counts}

pub whitespace_is_good : (k : Kind) → same_kind k Whitespace ≡ true → is_bad_kind k ≡ false
whitespace_is_good k h = grind (arith, nat_tests)

module _ {S : Type 0} (held : S → List ℕ) (takes : S → ℕ → Bool) where
  -- what was put is not bad
  pub put_is_good : {w v : Writer S} (t : TokenValue) → Puts held takes w t (Ok tt) v → is_bad t ≡ false
  put_is_good {w} t (put_added h a) = ((test_decides_lawful t).0 (put_lets_through w.state t h).lawful).not_bad

  -- finish was not refused, so the writer has finished
  finish_ends : {w u : Writer S} (n : Counts) → Finishes held takes w (Ok n) u → u.state.finished ≡ true
  finish_ends n (finished h sk a) = a.going

  -- what a transfer from m and w to u has read and put
  pub record Came (white : Bool) (m : Model) (w u : Writer S) (n : Counts) : Type 0 where
    pub tokens : List TokenValue
    pub yields : Yields (codes m.ahead) tokens
    pub good : Each (λ (t : TokenValue). is_bad t ≡ false) tokens
    pub deeds : List Deed
    pub run : Run held takes w deeds u
    pub puts_all : accepted deeds ≡ collapsed_after white tokens
    pub answer : finale deeds ≡ Some n
    pub ends : u.state.finished ≡ true

  pub came : {white : Bool} {m m' : Model} {cells cells' : List ℕ} {w u : Writer S} (n : Counts) → m.told ≡ None
      → Transfers held takes white m cells w (Ok n) m' cells' u → Came white m w u n
  unfolding collapsed_after
  came {m = m} {m' = m'} {cells = cells} {cells' = cells'} n g (at_the_end p h f) = record {
    tokens = [];
    yields = end_step m m' cells cells' p g h;
    good = tt;
    deeds = did_finish (Ok n) ∷ [];
    run = more f none;
    puts_all = refl;
    answer = refl;
    ends = finish_ends n f;
  }
  came {white} {m} {cells = cells} n g (left_out {m₁ = m₁} {cells₁ = cells₁} t h again rest) =
      let step = token_step m m₁ cells cells₁ t g h in
      let parts = and_parts white (is_kind Whitespace (value_in t cells₁)) again in
      let later = came n step.1 rest in
      record {
        tokens = value_in t cells₁ ∷ later.tokens;
        yields = (codes m₁.ahead, step.0, later.yields);
        good = (whitespace_is_good (value_in t cells₁).kind parts.1, later.good);
        deeds = later.deeds;
        run = later.run;
        puts_all = later.puts_all ∙ sym (cond-true (white && is_kind Whitespace (value_in t cells₁)) _ _ again);
        answer = later.answer;
        ends = later.ends;
      }
  came {white} {m} {cells = cells} n g (put_on {m₁ = m₁} {cells₁ = cells₁} t h single p rest) =
      let step = token_step m m₁ cells cells₁ t g h in
      let later = came n step.1 rest in
      record {
        tokens = value_in t cells₁ ∷ later.tokens;
        yields = (codes m₁.ahead, step.0, later.yields);
        good = (put_is_good (value_in t cells₁) p, later.good);
        deeds = did_put (value_in t cells₁) (Ok tt) ∷ later.deeds;
        run = more p later.run;
        puts_all = ap (λ ts. value_in t cells₁ ∷ ts) later.puts_all ∙ sym (cond-false (white && is_kind Whitespace (value_in t cells₁)) _ _ single);
        answer = later.answer;
        ends = later.ends;
      }
