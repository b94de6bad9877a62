-- Collapsing keeps what is lawful and in turn, leaves no whitespace after whitespace, and changes nothing where there is none.
use Rattle.std.proofs.Common.{◌≡◌, ℕ, Bool, true, false, ◌&&◌, List, [], ◌∷◌, map, refl, ap, subst, inl, inr}
use Rattle.std.proofs.lemmas.Bool.{and_parts, both_ways, cond_both, cond-false, or_parts}
use Rattle.stream.specs.Preprocess.{AllPreprocessed}
use Rattle.syntax.specs.declared.kind.Kind.TheVariants.{BadString, Delim, Function, Whitespace}
use Rattle.syntax.specs.declared.waiting.Waiting.{Waiting}
use Rattle.syntax.specs.declared.waiting.Waiting.TheVariants.{AfterBackslash, AfterUrl, AfterUrlWhitespace, Free}
use Rattle.syntax.specs.Kinds.{same_kind}
use Rattle.syntax.specs.Tokens.{TokenValue, is_bad, is_delim, is_kind}
use Rattle.syntax.specs.Reading.{Yields}
use Rattle.syntax.specs.Lawful.{Lawful}
use Rattle.syntax.specs.Turn.{InTurn, is_after_url, is_in_turn, is_url_function, mended, waiting_after}
use Rattle.syntax.specs.Written.{Each, Fit, NoDoubleWhitespace, collapsed, collapsed_after}
use Rattle.syntax.specs.Laws.{LawfulOrBad}
use Rattle.syntax.proofs.KindNumbers.{kind_is}
use Rattle.syntax.proofs.Turning.{reading_yields_lawful_in_turn}

collapsed_each : (P : TokenValue → Type 0) (b : Bool) (ts : List TokenValue) → Each P ts → Each P (collapsed_after b ts)
unfolding collapsed_after
collapsed_each P b [] h = tt
collapsed_each P b (t ∷ ts) h =
    let x = collapsed_each P b ts h.1 in
    let y = collapsed_each P (is_kind Whitespace t) ts h.1 in
    cond_both (b && is_kind Whitespace t) _ _ (Each P) (λ _. x) (λ _. (h.0, y))

-- whitespace is not awaited right after whitespace
abbrev Calm : Waiting → Bool → Type 0
Calm Free b = Unit {0}
Calm AfterBackslash b = b ≡ false
Calm AfterUrl b = b ≡ false
Calm AfterUrlWhitespace b = Unit {0}

calm_after : (w : Waiting) (t : TokenValue) → Calm (waiting_after w t) (is_kind Whitespace t)
calm_after w t =
    let P : Waiting → Type 0 = λ v. Calm v (is_kind Whitespace t) in
    cond_both (is_delim 92 t) _ _ P (λ e. ap (λ k. same_kind k Whitespace) (kind_is t.kind Delim (and_parts _ _ e).0)) (λ _.
    cond_both (is_url_function t) _ _ P (λ e. ap (λ k. same_kind k Whitespace) (kind_is t.kind Function (and_parts _ _ e).0)) (λ _.
    cond_both (is_kind Whitespace t && is_after_url w) _ _ P (λ _. tt) (λ _. tt)))

-- so a whitespace that is dropped changes nothing that is awaited
dropped : (w : Waiting) (t : TokenValue) → Calm w true → is_kind Whitespace t ≡ true → is_in_turn w t ≡ true → waiting_after w t ≡ w
dropped Free t c k h = rw (kind_is t.kind Whitespace k) refl
dropped AfterBackslash t c k h = absurd (both_ways true c refl)
dropped AfterUrl t c k h = absurd (both_ways true c refl)
dropped AfterUrlWhitespace t c k h = absurd (both_ways false refl (rw (kind_is t.kind Whitespace k) at h))

collapsed_turn : (w : Waiting) (b : Bool) (ts : List TokenValue) → Calm w b → InTurn w ts → InTurn w (collapsed_after b ts)
unfolding collapsed_after
collapsed_turn w b [] c h = h
collapsed_turn w b (t ∷ ts) c h =
    let x : InTurn (waiting_after w t) ts = h.1 in
    let y = collapsed_turn (waiting_after w t) (is_kind Whitespace t) ts (calm_after w t) x in
    cond_both (b && is_kind Whitespace t) _ _ (InTurn w)
    (λ e. let p = and_parts b (is_kind Whitespace t) e in
    let same = dropped w t (subst (Calm w) p.0 c) p.1 h.0 in
    collapsed_turn w b ts c (subst (λ v. InTurn v ts) same x))
    (λ _. (h.0, y))

-- the first token is no whitespace, if whitespace comes before
Begins : Bool → List TokenValue → Type 0
Begins b [] = Unit {0}
Begins b (t ∷ ts) = (b && is_kind Whitespace t) ≡ false

collapsed_begins : (b : Bool) (ts : List TokenValue) → Begins b (collapsed_after b ts)
unfolding collapsed_after Begins
collapsed_begins b [] = tt
collapsed_begins b (t ∷ ts) = let x = collapsed_begins b ts in cond_both (b && is_kind Whitespace t) _ _ (Begins b) (λ _. x) (λ e. e)

single_first : (t : TokenValue) (us : List TokenValue) → Begins (is_kind Whitespace t) us → NoDoubleWhitespace us → NoDoubleWhitespace (t ∷ us)
unfolding Begins
single_first t [] b h = tt
single_first t (u ∷ us) b h = (b, h)

collapsed_single : (b : Bool) (ts : List TokenValue) → NoDoubleWhitespace (collapsed_after b ts)
unfolding collapsed_after
collapsed_single b [] = tt
collapsed_single b (t ∷ ts) =
    let x = collapsed_single b ts in
    let y = collapsed_single (is_kind Whitespace t) ts in
    cond_both (b && is_kind Whitespace t) _ _ NoDoubleWhitespace (λ _. x) (λ _. single_first t _ (collapsed_begins (is_kind Whitespace t) ts) y)

-- what has no double whitespace is collapsed already
collapsed_same : (b : Bool) (ts : List TokenValue) → Begins b ts → NoDoubleWhitespace ts → collapsed_after b ts ≡ ts
unfolding collapsed_after Begins
collapsed_same b [] h n = refl
collapsed_same b (t ∷ []) h n = rw h refl
collapsed_same b (t ∷ u ∷ us) h n = rw h (ap {B = List TokenValue} (λ x. t ∷ x) (collapsed_same (is_kind Whitespace t) (u ∷ us) n.0 n.1))

front_begins : (ts : List TokenValue) → Begins false ts
unfolding Begins
front_begins [] = tt
front_begins (t ∷ ts) = refl

pub collapsed_twice : (ts : List TokenValue) → collapsed (collapsed ts) ≡ collapsed ts
collapsed_twice ts = collapsed_same false (collapsed ts) (front_begins _) (collapsed_single false ts)

-- an input's tokens, none of them bad, are fit once they are collapsed
lawful_part : (t : TokenValue) → LawfulOrBad t → is_bad t ≡ false → Lawful t
lawful_part t (inl l) h = l
lawful_part t (inr (inl e)) h = absurd (both_ways _ h (ap is_bad e))
lawful_part t (inr (inr e)) h = absurd (both_ways _ h (ap is_bad e))

lawful_parts : (ts : List TokenValue) → Each LawfulOrBad ts → Each (λ (t : TokenValue). is_bad t ≡ false) ts → Each Lawful ts
lawful_parts [] h k = tt
lawful_parts (t ∷ ts) h k = (lawful_part t h.0 k.0, lawful_parts ts h.1 k.1)

nothing_mended : (ts : List TokenValue) → Each (λ (t : TokenValue). is_bad t ≡ false) ts → map mended ts ≡ ts
nothing_mended [] k = refl
nothing_mended (t ∷ ts) k = (λ i. same i ∷ nothing_mended ts k.1 i)
  where
    same : mended t ≡ t
    same = cond-false (is_kind BadString t) _ _ (or_parts (is_kind BadString t) _ k.0).0

pub fit_collapsed : (s : List ℕ) (ts : List TokenValue) → AllPreprocessed s → Yields s ts → Each (λ (t : TokenValue). is_bad t ≡ false) ts → Fit (collapsed ts)
fit_collapsed s ts h y k =
    let o = reading_yields_lawful_in_turn s ts h y in
    record {
      lawful = collapsed_each Lawful false ts (lawful_parts ts o.0 k);
      in_turn = collapsed_turn Free false ts tt (subst (InTurn Free) (nothing_mended ts k) o.1);
      single_whitespace = collapsed_single false ts;
    }
