-- One turn of a transfer, by what next_token answered.
use Rattle.std.proofs.Common.{◌≡◌, ℕ, ◌<◌, Bool, true, false, List, length, Ok, Err, IsErrAnd, Result, sym, refl, ap, ◌∙◌, subst, arith, Option, None, Some}
use Rattle.std.proofs.lemmas.Bool.{and_parts}
use Rattle.refusal.specs.declared.fault.Fault.{Fault}
use Rattle.stream.specs.Preprocess.{Placed}
use Rattle.stream.specs.Sources.{Ending}
use Rattle.syntax.specs.declared.kind.Kind.TheVariants.{Whitespace}
use Rattle.syntax.specs.Tokens.{TokenValue, is_kind}
use Rattle.syntax.proofs.Cutting.{token_leaves_less}
use Rattle.lookahead.specs.Ahead.{Ahead, codes}
use Rattle.scan.proofs.States.{length_codes}
use Rattle.reader.specs.declared.answer.Located.{Located}
use Rattle.reader.specs.declared.answer.Next.{Next}
use Rattle.reader.specs.declared.answer.Next.TheVariants.{Token, End}
use Rattle.reader.specs.NextToken.{Model, NextToken, NextTokenFrom, begun}
use Rattle.reader.specs.Readings.{value_in}
use Rattle.reader.proofs.Giving.{token_step}
use Rattle.writer.specs.declared.writing.Writer.{Writer}
use Rattle.writer.specs.Writes.{Finishes, New, Puts}
use Rattle.normal.specs.Normalizing.{Normalizes, Transfers, is_repeated}
use Rattle.normal.specs.Normalizing.Transfers.{at_the_end, unread, left_out, put_on, not_put}
use Rattle.writer.specs.declared.counts.Counts.{Counts}

-- a reader that gave a token goes on
gave_so_goes : (s : Option (Result ℕ Fault)) (v : Ahead) (cells cells₁ : List ℕ) (t : Located) (m₁ : Model) → NextTokenFrom s v cells (Ok (Token t)) cells₁ m₁ → s ≡ None
gave_so_goes None v cells cells₁ t m₁ h = refl
gave_so_goes (Some (Ok p)) v cells cells₁ t m₁ h = absurd (cc h.0)
gave_so_goes (Some (Err f)) v cells cells₁ t m₁ h = absurd (cc h.0)

-- the same turn, with the answer as it was told apart
so : (m m₁ : Model) (cells cells₁ : List ℕ) {answer r : Result Next Fault} → NextToken m cells answer cells₁ m₁ → answer ≡ r → NextToken m cells r cells₁ m₁
so m m₁ cells cells₁ step e = subst (λ r. NextToken m cells r cells₁ m₁) e step

-- a token leaves less ahead
pub less_ahead : (m m₁ : Model) (cells cells₁ : List ℕ) {answer : Result Next Fault} {t : Located} → NextToken m cells answer cells₁ m₁ → answer ≡ Ok (Token t) → length m₁.ahead.list < length m.ahead.list
less_ahead m m₁ cells cells₁ {t = t} step e =
    let goes = gave_so_goes m.told m.ahead cells cells₁ t m₁ (so m m₁ cells cells₁ step e) in
    let next = (token_step m m₁ cells cells₁ t goes (so m m₁ cells cells₁ step e)).0 in
    let less = token_leaves_less (codes m.ahead) (value_in t cells₁) (codes m₁.ahead) next in
    omega (arith, less, length_codes m.ahead.list, length_codes m₁.ahead.list)

module _ {S : Type 0} {held : S → List ℕ} {takes : S → ℕ → Bool} {white : Bool} {m m₁ : Model} {cells cells₁ : List ℕ} {answer : Result Next Fault} (step : NextToken m cells answer cells₁ m₁) where
  -- refused, as a `?` answers it
  pub stops_here : {w : Writer S} {f : Fault} (r : Result Counts Fault) → IsErrAnd r (λ y. y ≡ f) → answer ≡ Err f → Transfers held takes white m cells w r m₁ cells₁ w
  stops_here (Ok n) h e = absurd h
  stops_here (Err g) h e = unread (so m m₁ cells cells₁ step (e ∙ ap Err (sym h)))

  pub ends_here : {w w' : Writer S} {r : Result Counts Fault} {p : ℕ} → answer ≡ Ok (End p) → Finishes held takes w r w' → Transfers held takes white m cells w r m₁ cells₁ w'
  ends_here {p = p} e f = at_the_end p (so m m₁ cells cells₁ step e) f

  module _ {t : Located} (gave : answer ≡ Ok (Token t)) where
    -- whitespace came before and comes last now
    pub leaves_out : {m' : Model} {cells' : List ℕ} {w w₁ w' : Writer S} {r : Result Counts Fault} {flag : Bool} → true ≡ is_repeated white (value_in t cells₁)
        → flag ≡ is_kind Whitespace (value_in t cells₁) → w₁ ≡ w → Transfers held takes flag m₁ cells₁ w₁ r m' cells' w' → Transfers held takes white m cells w r m' cells' w'
    leaves_out {m'} {cells'} {w} {w₁} {w'} {r} {flag} again last same rest =
        let both = and_parts white (is_kind Whitespace (value_in t cells₁)) (sym again) in
        left_out t (so m m₁ cells cells₁ step gave) (sym again)
        (subst (λ b. Transfers held takes b m₁ cells₁ w r m' cells' w') (last ∙ both.1 ∙ sym both.0) (subst (λ v. Transfers held takes flag m₁ cells₁ v r m' cells' w') same rest))

    module _ {w w₁ : Writer S} {value : TokenValue} (viewed : value ≡ value_in t cells₁) (single : false ≡ is_repeated white (value_in t cells₁)) where
      pub puts_on : {m' : Model} {cells' : List ℕ} {w₂ w' : Writer S} {r : Result Counts Fault} {flag : Bool} → Puts held takes w value (Ok tt) w₁
          → flag ≡ is_kind Whitespace (value_in t cells₁) → w₂ ≡ w₁ → Transfers held takes flag m₁ cells₁ w₂ r m' cells' w' → Transfers held takes white m cells w r m' cells' w'
      puts_on {m'} {cells'} {w₂} {w'} {r} {flag} p last same rest =
          put_on t (so m m₁ cells cells₁ step gave) (sym single) (subst (λ v. Puts held takes w v (Ok tt) w₁) viewed p)
          (subst (λ b. Transfers held takes b m₁ cells₁ w₁ r m' cells' w') last (subst (λ v. Transfers held takes flag m₁ cells₁ v r m' cells' w') same rest))

      pub put_stops : {f : Fault} (r : Result Counts Fault) → IsErrAnd r (λ y. y ≡ f) → Puts held takes w value (Err f) w₁ → Transfers held takes white m cells w r m₁ cells₁ w₁
      put_stops (Ok n) h p = absurd h
      put_stops (Err g) h p =
          not_put t (so m m₁ cells cells₁ step gave) (sym single) (subst (λ v. Puts held takes w v (Err g) w₁) viewed (subst (λ f. Puts held takes w value (Err f) w₁) (sym h) p))

-- a transfer from a new reader into a new writer
pub normalizes : {S : Type 0} {held : S → List ℕ} {takes : S → ℕ → Bool} {points : List Placed} {ending : Ending} {s : S} {m m' : Model} {cells cells' : List ℕ} {w u : Writer S} {r : Result Counts Fault}
    → New s w → m ≡ begun points ending → Transfers held takes false m cells w r m' cells' u → Normalizes held takes points ending s cells r m' cells' u
normalizes {held = held} {takes} {m' = m'} {cells} {cells'} {w} {u} {r} first new h =
    record { first = w; new = first; transfers = subst (λ m. Transfers held takes false m cells w r m' cells' u) new h }
