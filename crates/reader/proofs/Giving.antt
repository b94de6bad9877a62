-- A reading gives the tokens.
use Rattle.std.proofs.Common.{◌≡◌, ℕ, ◌+◌, ◌≤◌, Bool, true, false, cond, ltb, ◌⊎◌, List, [], ◌∷◌, ◌++◌, length, take, drop, Some, None, Ok, Err, Result, sym, refl, ap, ◌∙◌, subst, inl, inr, append_assoc, arith, take_all}
use lib.Seq.{take-append_seam, drop-append_seam}
use Rattle.std.proofs.lemmas.Bool.{cond-false, le-ltb, ltb-false}
use Rattle.std.proofs.lemmas.List.{drop-drop}
use Rattle.codepoint.specs.Utf8.{code_points_of}
use Rattle.refusal.specs.declared.fault.Fault.{Fault}
use Rattle.refusal.specs.declared.fault.Fault.TheVariants.{Outgrown}
use Rattle.stream.specs.Preprocess.{Placed, preprocessed}
use Rattle.stream.specs.Sources.{Ending}
use Rattle.stream.specs.Sources.Ending.{ends, stops}
use Rattle.syntax.specs.Kinds.{is_bad_kind}
use Rattle.syntax.specs.Tokens.{TokenValue, tok}
use Rattle.syntax.specs.Bodies.{in_comments, past_comments}
use Rattle.syntax.specs.Reading.{Found, Next as Reached, Yields, found_at, next, next_at, token_of}
use Rattle.syntax.specs.Reading.Next.{end, token}
use Rattle.syntax.specs.Extents.{before, taken, taken_at, collected, collected_at}
use Rattle.syntax.proofs.Chains.{yields_once}
use Rattle.syntax.proofs.Remains.{left_behind, rest_behind}
use Rattle.lookahead.specs.Ahead.{Ahead, codes, past}
use Rattle.scan.proofs.States.{codes_past}
use Rattle.reader.specs.declared.answer.Located.{Located}
use Rattle.reader.specs.declared.answer.Next.{Next}
use Rattle.reader.specs.declared.answer.Next.TheVariants.{Token, End}
use Rattle.reader.specs.NextToken.{Model, NextToken, NextTokenFrom, answered, begun, end_answer, located, overwritten, place_of, unless_stopped}
use Rattle.reader.specs.Readings.{GivesTheTokens, Reading, value_in}
use Rattle.reader.specs.Readings.Reading.{ended, gave}
use Rattle.reader.proofs.Cutting.{cut_exactly, bad_has_no_unit}

-- a token was given, so there is one, and the cells hold it
record GivenToken (cap : ℕ) (v : Ahead) (n : Reached) (t : Located) : Type 0 where
  value : TokenValue
  rest : List ℕ
  reached : n ≡ token value rest
  is : t ≡ located (place_of v) value
  fits : length (collected (codes v)) ≤ cap

not_ended : (e : Ending) (t : Located) → Ok (Token t) ≡ end_answer e → ⊥
not_ended (ends p) t h = cc h
not_ended (stops f) t h = cc h

not_stopped : (e : Ending) (t u : Located) → Ok (Token t) ≡ unless_stopped e (Ok (Token u)) → t ≡ u
not_stopped (ends p) t u h = cc h
not_stopped (stops f) t u h = absurd (cc h)

token_was_given : (cap : ℕ) (v : Ahead) (n : Reached) (t : Located) → Ok (Token t) ≡ answered cap v n → GivenToken cap v n t
unfolding answered
token_was_given cap v end t h = absurd (not_ended v.ending t h)
token_was_given cap v (token value rest) t h = by (ltb cap (length (collected (codes v)))) refl (ltb (length rest) 3) h
  where
    by : (b : Bool) → ltb cap (length (collected (codes v))) ≡ b → (d : Bool)
        → Ok (Token t) ≡ cond b (Err (Outgrown (place_of v))) (cond d (unless_stopped v.ending (Ok (Token (located (place_of v) value)))) (Ok (Token (located (place_of v) value))))
        → GivenToken cap v (token value rest) t
    by true e d k = absurd (cc k)
    by false e true k = record { value = value; rest = rest; reached = refl; is = not_stopped v.ending t _ k; fits = ltb-false _ _ e }
    by false e false k = record { value = value; rest = rest; reached = refl; is = cc k; fits = ltb-false _ _ e }

-- a text and a unit in the first cells
first_text : (t u x : List ℕ) → take (length t) ((t ++ u) ++ x) ≡ t
first_text t u x = ap (take (length t)) (append_assoc t u x) ∙ take-append_seam t (u ++ x)

then_unit : (t u x : List ℕ) → take (length u) (drop (length t) ((t ++ u) ++ x)) ≡ u
then_unit t u x = ap (λ y. take (length u) (drop (length t) y)) (append_assoc t u x) ∙ ap (take (length u)) (drop-append_seam t (u ++ x)) ∙ take-append_seam u x

cells_hold : (p : ℕ) (f : Found) (x : List ℕ) → (is_bad_kind f.kind ≡ true → f.unit ≡ []) → value_in (located p (token_of f)) ((f.text ++ f.unit) ++ x) ≡ token_of f
unfolding token_of
cells_hold p f x h = by (is_bad_kind f.kind) h
  where
    text : Bool → List ℕ
    text b = cond b [] f.text

    by : (b : Bool) → (b ≡ true → f.unit ≡ []) → tok f.kind f.mark (take (length (text b)) ((f.text ++ f.unit) ++ x)) (take (length f.unit) (drop (length (text b)) ((f.text ++ f.unit) ++ x))) ≡ tok f.kind f.mark (text b) f.unit
    by true k = ap (tok f.kind f.mark []) (ap (λ u. take (length u) ((f.text ++ f.unit) ++ x)) (k refl) ∙ sym (k refl))
    by false k = λ i. tok f.kind f.mark (first_text f.text f.unit x i) (then_unit f.text f.unit x i)

-- the next token of a list, and what follows it
module _ (value : TokenValue) (rest : List ℕ) where
  rest_cut : (p : List ℕ) → next_at p ≡ token value rest → drop (taken_at p) p ≡ rest
  unfolding next_at
  rest_cut [] h = absurd (cc h)
  rest_cut (a ∷ s) h = let b = rest_behind a s in cut_exactly (a ∷ s) (a ∷ b.front) (found_at a s).rest (ap {B = List ℕ} (λ t. a ∷ t) b.whole) ∙ cc h

  value_held : (p : List ℕ) → next_at p ≡ token value rest → (n : ℕ) (x : List ℕ) → value_in (located n value) (collected_at p ++ x) ≡ value
  unfolding next_at
  value_held [] h n x = absurd (cc h)
  value_held (a ∷ s) h n x =
      let e : token_of (found_at a s) ≡ value = cc h in
      subst (λ t. value_in (located n t) (collected_at (a ∷ s) ++ x) ≡ t) e (cells_hold n (found_at a s) x (bad_has_no_unit a s))

  pub rest_follows : (s : List ℕ) → next s ≡ token value rest → drop (before s + taken s) s ≡ rest
  unfolding next before taken
  rest_follows s h =
      let b = left_behind in_comments 0 s in
      sym (drop-drop (taken s) (before s) s) ∙ ap (drop (taken s)) (cut_exactly s b.front (past_comments s) b.whole) ∙ rest_cut (past_comments s) h

  pub value_stands : (s : List ℕ) → next s ≡ token value rest → (n : ℕ) (cells : List ℕ) → length (collected s) ≤ length cells → value_in (located n value) (overwritten cells (collected s)) ≡ value
  unfolding next collected
  value_stands s h n cells le = ap (λ y. value_in (located n value) (y ++ drop (length (collected s)) cells)) (take_all (length cells) (collected s) le) ∙ value_held (past_comments s) h n (drop (length (collected s)) cells)

-- no token was given, so none is there
none_was_given : (cap : ℕ) (v : Ahead) (n : Reached) (p : ℕ) → Ok (End p) ≡ answered cap v n → n ≡ end
unfolding answered
none_was_given cap v end p h = refl
none_was_given cap v (token value rest) p h = absurd (by (ltb cap (length (collected (codes v)))) (ltb (length rest) 3) v.ending h)
  where
    by : (b d : Bool) (e : Ending) → Ok (End p) ≡ cond b (Err (Outgrown (place_of v))) (cond d (unless_stopped e (Ok (Token (located (place_of v) value)))) (Ok (Token (located (place_of v) value)))) → ⊥
    by true d e k = cc k
    by false true (ends q) k = cc k
    by false true (stops f) k = cc k
    by false false e k = cc k

-- from a reader that goes on
going : {m : Model} {cells : List ℕ} {r : Result Next Fault} {cells' : List ℕ} {m' : Model} → m.told ≡ None → NextToken m cells r cells' m' → NextTokenFrom None m.ahead cells r cells' m'
going {m} {cells} {r} {cells'} {m'} e h = subst (λ s. NextTokenFrom s m.ahead cells r cells' m') e h

-- a token that was given is the next one, and what is left follows it
pub token_step : (m m' : Model) (cells cells' : List ℕ) (t : Located) → m.told ≡ None → NextToken m cells (Ok (Token t)) cells' m'
    → (next (codes m.ahead) ≡ token (value_in t cells') (codes m'.ahead)) × (m'.told ≡ None) × (m'.ahead.ending ≡ m.ahead.ending)
token_step m m' cells cells' t e h =
    let g = going {m = m} {m' = m'} e h in
    let a = g.0 in
    let v = m.ahead in
    let w = token_was_given (length cells) v (next (codes v)) t a.answer in
    let is : value_in t cells' ≡ w.value = (λ i. value_in (w.is i) (a.cells i)) ∙ value_stands w.value w.rest (codes v) w.reached (place_of v) cells w.fits in
    let r : codes m'.ahead ≡ w.rest = ap codes a.left ∙ codes_past (before (codes v) + taken (codes v)) v ∙ rest_follows w.value w.rest (codes v) w.reached in
    (w.reached ∙ (λ i. token (sym is i) (sym r i)), g.1, ap (λ x. x.ending) a.left)

-- where the end was told, no token is left
pub end_step : (m m' : Model) (cells cells' : List ℕ) (p : ℕ) → m.told ≡ None → NextToken m cells (Ok (End p)) cells' m' → next (codes m.ahead) ≡ end
end_step m m' cells cells' p e h = none_was_given (length cells) m.ahead (next (codes m.ahead)) p (going {m = m} {m' = m'} e h).0.answer

-- a refusal is the source's fault, or the text outgrew the cells
fault_was_told : (e : Ending) (f : Fault) → Err f ≡ end_answer e → e ≡ stops f
fault_was_told (ends p) f h = absurd (cc h)
fault_was_told (stops g) f h = cc h

refused_as : (cap : ℕ) (v : Ahead) (n : Reached) (f : Fault) → Err f ≡ answered cap v n → (v.ending ≡ stops f) ⊎ ((p : ℕ) × (f ≡ Outgrown p))
unfolding answered
refused_as cap v end f h = inl (fault_was_told v.ending f h)
refused_as cap v (token value rest) f h = by (ltb cap (length (collected (codes v)))) (ltb (length rest) 3) v.ending h
  where
    by : (b d : Bool) (e : Ending) → Err f ≡ cond b (Err (Outgrown (place_of v))) (cond d (unless_stopped e (Ok (Token (located (place_of v) value)))) (Ok (Token (located (place_of v) value))))
        → (e ≡ stops f) ⊎ ((p : ℕ) × (f ≡ Outgrown p))
    by true d e k = inr (place_of v, cc k)
    by false true (ends q) k = absurd (cc k)
    by false true (stops g) k = inl (cc k)
    by false false e k = absurd (cc k)

pub fault_step : (m m' : Model) (cells cells' : List ℕ) (f : Fault) → m.told ≡ None → NextToken m cells (Err f) cells' m' → (m.ahead.ending ≡ stops f) ⊎ ((p : ℕ) × (f ≡ Outgrown p))
fault_step m m' cells cells' f e h = refused_as (length cells) m.ahead (next (codes m.ahead)) f (going {m = m} {m' = m'} e h).0.answer

reading_yields : (m : Model) (ts : List TokenValue) → m.told ≡ None → Reading m ts → Yields (codes m.ahead) ts
reading_yields m us e (ended n m' p cells cells' h) = end_step m m' cells cells' p e h
reading_yields m us e (gave n m' t cells cells' ts h more) =
    let k = token_step m m' cells cells' t e h in (codes m'.ahead, k.0, reading_yields m' ts k.1 more)

pub reading_gives : (points : List Placed) (ending : Ending) (ts : List TokenValue) → Reading (begun points ending) ts → GivesTheTokens points ts
reading_gives points ending ts h =
    let y = reading_yields (begun points ending) ts refl h in
    record { yields = y; no_others = λ us k. yields_once (code_points_of (preprocessed points)) us ts k y }

-- where the source ends with the end, cells that hold each text and unit read the tokens
told_where_it_fits : (v : Ahead) (p : ℕ) (value : TokenValue) (rest : List ℕ) → v.ending ≡ ends p → answered (length (collected (codes v))) v (token value rest) ≡ Ok (Token (located (place_of v) value))
unfolding answered
told_where_it_fits v p value rest e =
    cond-false (ltb (length (collected (codes v))) (length (collected (codes v)))) _ _ (le-ltb _ _ (omega arith)) ∙ by (ltb (length rest) 3) v.ending e
  where
    by : (b : Bool) (d : Ending) → d ≡ ends p → cond b (unless_stopped d (Ok (Token (located (place_of v) value)))) (Ok (Token (located (place_of v) value))) ≡ Ok (Token (located (place_of v) value))
    by true d k = ap (λ x. unless_stopped x (Ok (Token (located (place_of v) value)))) k
    by false d k = refl

told_at_the_end : (cap : ℕ) (v : Ahead) (p : ℕ) → v.ending ≡ ends p → answered cap v end ≡ Ok (End p)
unfolding answered
told_at_the_end cap v p e = ap end_answer e

reading_of : (v : Ahead) (p : ℕ) (ts : List TokenValue) → v.ending ≡ ends p → Yields (codes v) ts → Reading (record { ahead = v; told = None }) ts
reading_of v p [] e y =
    ended _ (record { ahead = past (before (codes v) + taken (codes v)) v; told = Some (Ok p) }) p (collected (codes v)) (overwritten (collected (codes v)) (collected (codes v)))
    (record { answer = sym (ap (answered (length (collected (codes v))) v) y ∙ told_at_the_end _ v p e); cells = refl; left = refl }, refl)
reading_of v p (t ∷ ts) e y =
    let s = codes v in
    let after = past (before s + taken s) v in
    let cells = overwritten (collected s) (collected s) in
    let is : value_in (located (place_of v) t) cells ≡ t = value_stands t y.0 s y.1 (place_of v) (collected s) (omega arith) in
    let r : codes after ≡ y.0 = codes_past (before s + taken s) v ∙ rest_follows t y.0 s y.1 in
    subst (λ x. Reading (record { ahead = v; told = None }) (x ∷ ts)) is
    (gave _ (record { ahead = after; told = None }) (located (place_of v) t) (collected s) cells ts
    (record { answer = sym (ap (answered (length (collected s)) v) y.1 ∙ told_where_it_fits v p t y.0 e); cells = refl; left = refl }, refl)
    (reading_of after p ts e (subst (λ x. Yields x ts) (sym r) y.2)))

pub reading_exists : (points : List Placed) (ending : Ending) (p : ℕ) (ts : List TokenValue) → ending ≡ ends p → Yields (code_points_of (preprocessed points)) ts → Reading (begun points ending) ts
reading_exists points ending p ts e y = reading_of (record { list = preprocessed points; ending = ending }) p ts e y
