-- Normalize is refused only for the source's fault, a text that outgrows the cells, a bad token, want of room, or by the sink:
-- what the reader yields is lawful or bad and comes in turn, and the writer that it goes into has no block open.
use Rattle.std.proofs.Common.{◌≡◌, ℕ, ◌+◌, Bool, true, false, cond, not, ◌&&◌, ltb, leb, List, [], ◌∷◌, map, is_some, IfErr, None, Ok, Err, Result, sym, refl, ap, ◌∙◌, subst, inl, inr, ⊎_elim, arith}
use Rattle.std.proofs.lemmas.Bool.{and_parts, and_left, cond-true, cond-false, or_parts, both_ways}
use Rattle.std.proofs.lemmas.Bool.Decides.{nat_tests}
use Rattle.refusal.specs.declared.fault.Fault.{Fault}
use Rattle.refusal.specs.declared.fault.Fault.TheVariants.{BadToken, NoRoom}
use Rattle.codepoint.specs.Utf8.{code_points_of}
use Rattle.stream.specs.Preprocess.{AllWithin, Placed, preprocessed}
use Rattle.stream.specs.Sources.{Ending}
use Rattle.stream.proofs.Emitting.{outcome}
use Rattle.stream.proofs.Preprocessing.{cleans}
use Rattle.syntax.specs.declared.kind.Kind.{Kind}
use Rattle.syntax.specs.declared.kind.Kind.TheVariants.{BadString, Delim, Function, QuotedString, Whitespace}
use Rattle.syntax.specs.declared.waiting.Waiting.{Waiting}
use Rattle.syntax.specs.declared.waiting.Waiting.TheVariants.{Free, AfterUrlWhitespace}
use Rattle.syntax.specs.Kinds.{same_kind}
use Rattle.syntax.specs.Laws.{LawfulOrBad}
use Rattle.syntax.specs.Lawful.{is_lawful}
use Rattle.syntax.specs.Pieces.{Piece}
use Rattle.syntax.specs.Points.{backslash}
use Rattle.syntax.specs.Puts.{is_whitespace_left}
use Rattle.syntax.specs.Reading.{Yields, next}
use Rattle.syntax.specs.Reading.Next.{token}
use Rattle.syntax.specs.Tokens.{TokenValue, bare, is_bad, is_delim, is_kind}
use Rattle.syntax.specs.Turn.{InTurn, is_after_url, is_in_turn, is_url_function, mended, waiting_after}
use Rattle.syntax.specs.Written.{Each}
use Rattle.syntax.proofs.Cutting.{reading_takes_all_once}
use Rattle.syntax.proofs.Turning.{reading_yields_lawful_in_turn}
use Rattle.syntax.proofs.Putting.{whitespace_left}
use Rattle.syntax.proofs.Tested.{test_decides_lawful}
use Rattle.lookahead.specs.Ahead.{codes}
use Rattle.reader.specs.NextToken.{Model, begun}
use Rattle.reader.specs.Readings.{value_in}
use Rattle.reader.proofs.Giving.{end_step, fault_step, token_step}
use Rattle.writer.specs.declared.blocks.Blocks.{Blocks}
use Rattle.writer.specs.declared.state.State.{State}
use Rattle.writer.specs.declared.writing.Writer.{Writer}
use Rattle.writer.specs.Blocks.{is_block_sign}
use Rattle.writer.specs.Refusals.{finish_refusals, first_of, is_free, put_refusals}
use Rattle.writer.specs.States.{Advanced, Fresh}
use Rattle.writer.specs.Writes.{Adds, Puts}
use Rattle.writer.specs.Writes.Adds.{whole, broken}
use Rattle.writer.specs.Writes.Finishes.{finish_refused}
use Rattle.writer.specs.Writes.Puts.{put_refused, put_added}
use Rattle.normal.specs.Normalizing.{CanRefuse, Transfers, is_repeated}
use Rattle.normal.specs.Normalizing.CanRefuse.{the_sources, outgrown, bad_token, no_room, not_taken}
use Rattle.normal.specs.Normalizing.Transfers.{at_the_end, unread, left_out, put_on, not_put}
use Rattle.normal.proofs.Transferring.{put_is_good, whitespace_is_good}
use Rattle.writer.specs.declared.counts.Counts.{Counts}

-- a writer that normalize puts into: no block is open, q is awaited, and the flag tells whether whitespace came last
record Ready (white : Bool) (q : Waiting) (s : State) : Type 0 where
  going : s.finished ≡ false
  unstuck : s.stuck ≡ None
  flat : s.blocks.depth ≡ 0
  awaits : s.waiting ≡ q
  white_so : is_whitespace_left s.left ≡ true → white ≡ true

-- what is awaited behind whitespace stays so behind more of it, where that is in turn
abbrev Stays : Bool → Waiting → Type 0
Stays white q = white ≡ true → (t : TokenValue) → is_kind Whitespace t ≡ true → is_in_turn q t ≡ true → waiting_after q t ≡ q

-- the refusals of put and finish, with the rules that cannot apply passed over
skip : {r : Result (Unit {0}) Fault} (b : Bool) (f : Fault) → b ≡ false → cond b (Err f) r ≡ r
skip b f h = cond-false b (Err f) _ h

none_open : (s : State) → s.blocks.depth ≡ 0 → ltb 0 s.blocks.depth ≡ false
none_open s h = grind (arith, nat_tests)

no_block : (s : State) (b : Bool) → s.blocks.depth ≡ 0 → (ltb 0 s.blocks.depth && b) ≡ false
no_block s b h = and_left _ b (none_open s h)

-- whitespace directly after whitespace does not come
not_repeated : (s : State) (white : Bool) (t : TokenValue) → (is_whitespace_left s.left ≡ true → white ≡ true) → is_repeated white t ≡ false → (is_whitespace_left s.left && is_kind Whitespace t) ≡ false
not_repeated s white t so single = by (is_whitespace_left s.left) so
  where
    by : (b : Bool) → (b ≡ true → white ≡ true) → (b && is_kind Whitespace t) ≡ false
    by true k = ap (λ c. c && is_kind Whitespace t) (sym (k refl)) ∙ single
    by false k = refl

-- a good token has no other refusal of put than want of room
module _ (s : State) (white : Bool) (q : Waiting) (t : TokenValue) (ready : Ready white q s) (single : is_repeated white t ≡ false) where
  good_put : is_bad t ≡ false → is_lawful t ≡ true → is_in_turn q t ≡ true → first_of (put_refusals s t) ≡ cond (leb 1000000 (s.accepted + s.blocks.depth)) (Err (NoRoom s.accepted)) (Ok tt)
  good_put good lawful turn =
      skip s.finished _ ready.going ∙ skip (is_some s.stuck) _ (ap is_some ready.unstuck) ∙ skip (is_bad t) _ good ∙ skip (not (is_lawful t)) _ (ap not lawful)
      ∙ skip (ltb 0 s.blocks.depth && is_block_sign t.kind) _ (no_block s _ ready.flat)
      ∙ skip (not (is_in_turn s.waiting t)) _ (ap (λ x. not (is_in_turn x t)) ready.awaits ∙ ap not turn)
      ∙ skip (is_whitespace_left s.left && is_kind Whitespace t) _ (not_repeated s white t ready.white_so single)

  bad_put : is_bad t ≡ true → first_of (put_refusals s t) ≡ Err (BadToken s.accepted)
  bad_put bad = skip s.finished _ ready.going ∙ skip (is_some s.stuck) _ (ap is_some ready.unstuck) ∙ cond-true (is_bad t) _ _ bad

-- a token that is not bad is lawful where it is lawful or bad, and is its own mended self
lawful_if_good : (t : TokenValue) → LawfulOrBad t → is_bad t ≡ false → is_lawful t ≡ true
lawful_if_good t (inl l) good = (test_decides_lawful t).1 l
lawful_if_good t (inr (inl e)) good = absurd (both_ways (is_bad t) good (ap is_bad e))
lawful_if_good t (inr (inr e)) good = absurd (both_ways (is_bad t) good (ap is_bad e))

good_is_mended : (t : TokenValue) → is_bad t ≡ false → mended t ≡ t
good_is_mended t good = cond-false (is_kind BadString t) (bare QuotedString) t (or_parts (is_kind BadString t) _ good).0

-- so a put is refused for a bad token, for want of room, or by the sink
only_put : (ending : Ending) (s : State) (white : Bool) (q : Waiting) (t : TokenValue) → Ready white q s → is_repeated white t ≡ false → LawfulOrBad t → is_in_turn q (mended t) ≡ true
    → (f : Fault) → first_of (put_refusals s t) ≡ Err f → CanRefuse ending f
only_put ending s white q t ready single lawful turn f h = by (is_bad t) refl
  where
    room : (b : Bool) → ◌≡◌ {A = Result (Unit {0}) Fault} (cond b (Err (NoRoom s.accepted)) (Ok tt)) (Err f) → CanRefuse ending f
    room true e = let k : NoRoom s.accepted ≡ f = cc in subst (CanRefuse ending) k no_room
    room false e = let z : ◌≡◌ {A = ℕ} 0 1 = cc in absurd (omega arith)

    by : (b : Bool) → is_bad t ≡ b → CanRefuse ending f
    by true e =
        let told = bad_put s white q t ready single e in
        let k : BadToken s.accepted ≡ f = cc in
        subst (CanRefuse ending) k bad_token
    by false e =
        let ok = good_put s white q t ready single e (lawful_if_good t lawful e) (ap (is_in_turn q) (sym (good_is_mended t e)) ∙ turn) in
        room _ (sym ok ∙ h)

-- where nothing is awaited, finish is not refused
only_finish : {P : Type 0} (s : State) (white : Bool) → Ready white Free s → (f : Fault) → first_of (finish_refusals s) ≡ Err f → P
only_finish s white ready f h =
    let ok : first_of (finish_refusals s) ≡ Ok tt =
    skip s.finished _ ready.going ∙ skip (is_some s.stuck) _ (ap is_some ready.unstuck)
    ∙ skip (not (is_free s.waiting)) _ (ap (λ x. not (is_free x)) ready.awaits) ∙ skip (ltb 0 s.blocks.depth) _ (none_open s ready.flat) in
    let z : ◌≡◌ {A = ℕ} 0 1 = cc in absurd (omega arith)

-- behind whitespace something is awaited only where it stood behind a function named url
other_kind : (k : Kind) → same_kind k Whitespace ≡ true → (same_kind k Delim ≡ false) × (same_kind k Function ≡ false) × (same_kind k QuotedString ≡ false)
other_kind k h = (grind (arith, nat_tests), grind (arith, nat_tests), grind (arith, nat_tests))

behind_whitespace : (q : Waiting) (t : TokenValue) → is_kind Whitespace t ≡ true → waiting_after q t ≡ cond (is_after_url q) AfterUrlWhitespace Free
behind_whitespace q t h =
    let o = other_kind t.kind h in
    cond-false (is_delim backslash t) _ _ (and_left _ _ o.0) ∙ cond-false (is_url_function t) _ _ (and_left _ _ o.1) ∙ ap (λ b. cond (b && is_after_url q) AfterUrlWhitespace Free) h

stays_behind : (q : Waiting) (t : TokenValue) → Stays (is_kind Whitespace t) (waiting_after q t)
stays_behind q t h = subst (λ x. (u : TokenValue) → is_kind Whitespace u ≡ true → is_in_turn x u ≡ true → waiting_after x u ≡ x) (sym (behind_whitespace q t h)) (by (is_after_url q))
  where
    by : (b : Bool) (u : TokenValue) → is_kind Whitespace u ≡ true → is_in_turn (cond b AfterUrlWhitespace Free) u ≡ true → waiting_after (cond b AfterUrlWhitespace Free) u ≡ cond b AfterUrlWhitespace Free
    by true u k turn = absurd (both_ways (is_kind QuotedString u) (other_kind u.kind k).2 turn)
    by false u k turn = behind_whitespace Free u k

-- behind a token that was put
advanced : {white : Bool} (q : Waiting) (s s' : State) (t : TokenValue) → Ready white q s → Advanced s t s.blocks s' → Ready (is_kind Whitespace t) (waiting_after q t) s'
advanced q s s' t ready a = record {
  going = a.going ∙ ready.going;
  unstuck = a.unstuck ∙ ready.unstuck;
  flat = ap (λ (b : Blocks). b.depth) a.blocks ∙ ready.flat;
  awaits = a.awaits ∙ ap (λ x. waiting_after x t) ready.awaits;
  white_so = λ e. sym (whitespace_left t) ∙ ap is_whitespace_left (sym a.neighbours) ∙ e;
}

-- the next token heads the list of tokens
pub record Headed (v : TokenValue) (r : List ℕ) (ts : List TokenValue) : Type 0 where
  rest : List TokenValue
  is : ts ≡ v ∷ rest
  yields : Yields r rest

headed : (s : List ℕ) (ts : List TokenValue) (v : TokenValue) (r : List ℕ) → Yields s ts → next s ≡ token v r → Headed v r ts
headed s [] v r y e = let z : ◌≡◌ {A = ℕ} 0 1 = cc in absurd (omega arith)
headed s (t ∷ ts) v r y e =
    let n = y.1 in
    let same : t ≡ v = cc in
    let follows : y.0 ≡ r = cc in
    record { rest = ts; is = ap (λ x. x ∷ ts) same; yields = subst (λ x. Yields x ts) follows y.2 }

module _ {S : Type 0} (held : S → List ℕ) (takes : S → ℕ → Bool) where
  -- the sink's refusal
  broken_is_not_taken : {w v : Writer S} {b : Blocks} (ending : Ending) (t : TokenValue) (f : Fault) → Adds held takes w t b (Err f) v → CanRefuse ending f
  broken_is_not_taken ending t f (broken e a) = let o = outcome held takes (Err f) e in subst (CanRefuse ending) (sym o.4) not_taken

  only_these : {white : Bool} {m m' : Model} {cells cells' : List ℕ} {w u : Writer S} (f : Fault) (ts : List TokenValue) (q : Waiting) → m.told ≡ None → Yields (codes m.ahead) ts
      → Each LawfulOrBad ts → InTurn q (map mended ts) → Ready white q w.state → Stays white q
      → Transfers held takes white m cells w (Err f) m' cells' u → CanRefuse m.ahead.ending f
  only_these {white} {m} {m'} {cells} {cells'} {w} f [] q g y each turn ready stays (at_the_end p h (finish_refused rule)) =
      only_finish w.state white (subst (λ x. Ready white x w.state) turn ready) f rule
  only_these {m = m} {m' = m'} {cells = cells} {cells' = cells'} f (t ∷ ts) q g y each turn ready stays (at_the_end p h e) =
      let none = end_step m m' cells cells' p g h in let some = y.1 in let z : ◌≡◌ {A = ℕ} 0 1 = cc in absurd (omega arith)
  only_these {m = m} {m' = m'} {cells = cells} {cells' = cells'} f ts q g y each turn ready stays (unread h) =
      ⊎_elim the_sources (λ o. subst (CanRefuse m.ahead.ending) (sym o.1) outgrown) (fault_step m m' cells cells' f g h)
  only_these {white} {m} {cells = cells} f ts q g y each turn ready stays (left_out {m₁ = m₁} {cells₁ = cells₁} t h again rest) =
      let step = token_step m m₁ cells cells₁ t g h in
      let v = value_in t cells₁ in
      let head = headed (codes m.ahead) ts v (codes m₁.ahead) y step.0 in
      let parts = and_parts white (is_kind Whitespace v) again in
      let e = subst (Each LawfulOrBad) head.is each in
      let i = subst (λ x. InTurn q (map mended x)) head.is turn in
      let same = good_is_mended v (whitespace_is_good v.kind parts.1) in
      let awaits : waiting_after q (mended v) ≡ q = ap (waiting_after q) same ∙ stays parts.0 v parts.1 (ap (is_in_turn q) (sym same) ∙ i.0) in
      subst (λ d. CanRefuse d f) step.2
      (only_these f head.rest q step.1 head.yields e.1 (subst (λ x. InTurn x (map mended head.rest)) awaits i.1) ready stays rest)
  only_these {white} {m} {cells = cells} {w = w} f ts q g y each turn ready stays (put_on {m₁ = m₁} {cells₁ = cells₁} {w₁ = w₁} t h single p rest) =
      let step = token_step m m₁ cells cells₁ t g h in
      let v = value_in t cells₁ in
      let head = headed (codes m.ahead) ts v (codes m₁.ahead) y step.0 in
      let e = subst (Each LawfulOrBad) head.is each in
      let i = subst (λ x. InTurn q (map mended x)) head.is turn in
      let same = good_is_mended v (put_is_good held takes v p) in
      subst (λ d. CanRefuse d f) step.2
      (only_these f head.rest (waiting_after q v) step.1 head.yields e.1 (subst (λ x. InTurn (waiting_after q x) (map mended head.rest)) same i.1) (after p) (stays_behind q v) rest)
    where
      after : {v : TokenValue} → Puts held takes w v (Ok tt) w₁ → Ready (is_kind Whitespace v) (waiting_after q v) w₁.state
      after {v} (put_added rule (whole x a)) = advanced q w.state w₁.state v ready a
  only_these {white} {m} {cells = cells} {w = w} f ts q g y each turn ready stays (not_put {m₁ = m₁} {cells₁ = cells₁} t h single p) =
      let step = token_step m m₁ cells cells₁ t g h in
      let v = value_in t cells₁ in
      let head = headed (codes m.ahead) ts v (codes m₁.ahead) y step.0 in
      let e = subst (Each LawfulOrBad) head.is each in
      let i = subst (λ x. InTurn q (map mended x)) head.is turn in
      by p e.0 i.0
    where
      by : {w₁ : Writer S} → Puts held takes w (value_in t cells₁) (Err f) w₁ → LawfulOrBad (value_in t cells₁) → is_in_turn q (mended (value_in t cells₁)) ≡ true → CanRefuse m.ahead.ending f
      by (put_refused rule) l i = only_put m.ahead.ending w.state white q (value_in t cells₁) ready single l i f rule
      by (put_added rule a) l i = broken_is_not_taken m.ahead.ending (value_in t cells₁) f a

  -- whatever a transfer from a new reader into a new writer answers
  pub only_these_refusals : (points : List Placed) {ending : Ending} → AllWithin points → {m m' : Model} {cells cells' : List ℕ} {w u : Writer S} (r : Result Counts Fault) → m ≡ begun points ending → Fresh w.state
      → Transfers held takes false m cells w r m' cells' u → IfErr r (λ f. CanRefuse ending f)
  only_these_refusals points within (Ok n) new fresh h = tt
  only_these_refusals points within {m' = m'} {cells} {cells'} {w} {u} (Err f) new fresh h =
      let s = code_points_of (preprocessed points) in
      let cut = reading_takes_all_once s in
      let ts = map (λ (p : Piece). p.value) cut.pieces in
      let so = reading_yields_lawful_in_turn s ts (cleans points within) cut.tokens in
      let no-whitespace : is_whitespace_left w.state.left ≡ true → false ≡ true = λ e. ap is_whitespace_left (sym fresh.neighbours) ∙ e in
      let ready : Ready false Free w.state = record { going = fresh.going; unstuck = fresh.unstuck; flat = fresh.deep; awaits = fresh.awaits; white_so = no-whitespace } in
      only_these f ts Free refl cut.tokens so.0 so.1 ready (λ e. absurd (both_ways false refl e)) (subst (λ m. Transfers held takes false m cells w (Err f) m' cells' u) new h)
