-- Writing one token after another.
use Rattle.std.proofs.Common.{◌≡◌, ◌+◌, true, false, cond, ◌&&◌, ◌||◌, List, [], ◌∷◌, ◌++◌, sym, refl, ◌∙◌, ⊎_elim, append_assoc, append-nil, arith}
use Rattle.std.proofs.lemmas.Bool.{both_ways, cases_Bool, cond_both}
use Rattle.syntax.specs.declared.kind.Kind.TheVariants.{AtKeyword, Dimension, Hash, Ident, Number, Whitespace}
use Rattle.syntax.specs.declared.neighbour.Left.{Left}
use Rattle.syntax.specs.declared.waiting.Waiting.{Waiting}
use Rattle.syntax.specs.declared.waiting.Waiting.TheVariants.{Free}
use Rattle.syntax.specs.Tokens.{TokenValue, is_delim, is_kind}
use Rattle.syntax.specs.Lawful.{Lawful}
use Rattle.syntax.specs.Turn.{InTurn, is_in_turn, waiting_after}
use Rattle.syntax.specs.Neighbours.{apart, is_dashes, left_of, right_of}
use Rattle.syntax.specs.Written.{Each, NoDoubleWhitespace, added, comments_from, written, written_from}
use Rattle.syntax.specs.Puts.{AcceptedMayFinish, PutAddsOneToken, SoFarInTurn, is_whitespace_left, left_behind, left_now, waiting_behind}
use Rattle.syntax.proofs.KindNumbers.{kind_is}

-- whitespace is known by its class as a left neighbour
other_left : (t : TokenValue) → is_kind Whitespace t ≡ false → is_whitespace_left (left_of t) ≡ false
unfolding left_of
other_left t e =
    let P : Left → Type 0 = λ l. is_whitespace_left l ≡ false in
    cond_both (is_kind Ident t) _ _ P (λ _. cond_both (is_dashes t.text) _ _ P (λ _. refl) (λ _. refl)) (λ _.
    cond_both (is_kind AtKeyword t || is_kind Hash t || is_kind Dimension t || is_delim 35 t || is_delim 45 t) _ _ P (λ _. refl) (λ _.
    cond_both (is_kind Number t) _ _ P (λ _. refl) (λ _.
    cond_both (is_delim 64 t) _ _ P (λ _. refl) (λ _.
    cond_both (is_delim 46 t || is_delim 43 t) _ _ P (λ _. refl) (λ _.
    cond_both (is_delim 60 t) _ _ P (λ _. refl) (λ _.
    cond_both (is_delim 47 t) _ _ P (λ _. refl) (λ _.
    cond_both (is_kind Whitespace t) _ _ P (λ w. absurd (both_ways _ e w)) (λ _. refl))))))))

pub whitespace_left : (t : TokenValue) → is_whitespace_left (left_of t) ≡ is_kind Whitespace t
unfolding left_of
whitespace_left t = ⊎_elim (λ e. rw (kind_is t.kind Whitespace e) refl) (λ e. other_left t e ∙ sym e) (cases_Bool (is_kind Whitespace t))

module _ (t : TokenValue) where
  push_each : (P : TokenValue → Type 0) (ts : List TokenValue) → Each P ts → P t → Each P (ts ++ t ∷ [])
  push_each P [] h l = (l, tt)
  push_each P (u ∷ ts) h l = (h.0, push_each P ts h.1 l)

  push_turn : (w : Waiting) (ts : List TokenValue) → SoFarInTurn w ts → is_in_turn (waiting_behind w ts) t ≡ true → SoFarInTurn w (ts ++ t ∷ [])
  push_turn w [] h k = (k, tt)
  push_turn w (u ∷ ts) h k = (h.0, push_turn (waiting_after w u) ts h.1 k)

  push_waiting : (w : Waiting) (ts : List TokenValue) → waiting_behind w (ts ++ t ∷ []) ≡ waiting_after (waiting_behind w ts) t
  push_waiting w [] = refl
  push_waiting w (u ∷ ts) = push_waiting (waiting_after w u) ts

  push_left : (l : Left) (ts : List TokenValue) → left_behind l (ts ++ t ∷ []) ≡ left_of t
  push_left l [] = refl
  push_left l (u ∷ ts) = push_left (left_of u) ts

  push_written : (l : Left) (w : Waiting) (ts : List TokenValue) → written_from l w (ts ++ t ∷ []) ≡ written_from l w ts ++ added (left_behind l ts) (waiting_behind w ts) t
  unfolding written_from
  push_written l w [] = append-nil (added l w t)
  push_written l w (u ∷ ts) = rw (push_written (left_of u) (waiting_after w u) ts) (simp append_assoc)

  push_comments : (l : Left) (ts : List TokenValue) → comments_from l (ts ++ t ∷ []) ≡ comments_from l ts + cond (apart (left_behind l ts) (right_of t)) 1 0
  push_comments l [] = omega arith
  push_comments l (u ∷ ts) = let n = push_comments (left_of u) ts in omega arith

  push_single : (u : TokenValue) (ts : List TokenValue) → NoDoubleWhitespace (u ∷ ts)
      → (is_whitespace_left (left_behind (left_of u) ts) && is_kind Whitespace t) ≡ false → NoDoubleWhitespace (u ∷ (ts ++ t ∷ []))
  push_single u [] h k = (rw (whitespace_left u) at k, tt)
  push_single u (v ∷ ts) h k = (h.0, push_single v ts h.1 k)

  push_whitespace : (ts : List TokenValue) → NoDoubleWhitespace ts → (is_whitespace_left (left_now ts) && is_kind Whitespace t) ≡ false → NoDoubleWhitespace (ts ++ t ∷ [])
  push_whitespace [] h k = tt
  push_whitespace (u ∷ ts) h k = push_single u ts h k

pub put_adds_one_token : PutAddsOneToken
unfolding written
put_adds_one_token ts t a m = record {
  accepts = record {
    lawful = push_each t Lawful ts a.lawful m.lawful;
    in_turn = push_turn t Free ts a.in_turn m.in_turn;
    single_whitespace = push_whitespace t ts a.single_whitespace m.single_whitespace;
  };
  writes = push_written t Left.Other Free ts;
  counts = push_comments t Left.Other ts;
  awaits = push_waiting t Free ts;
  neighbours = push_left t Left.Other ts;
}

turn_ends : (w : Waiting) (ts : List TokenValue) → SoFarInTurn w ts → waiting_behind w ts ≡ Free → InTurn w ts
turn_ends w [] h e = e
turn_ends w (t ∷ ts) h e = (h.0, turn_ends (waiting_after w t) ts h.1 e)

pub accepted_may_finish : AcceptedMayFinish
accepted_may_finish = (
  record { lawful = tt; in_turn = tt; single_whitespace = tt },
  λ ts a e. record { lawful = a.lawful; in_turn = turn_ends Free ts a.in_turn e; single_whitespace = a.single_whitespace },
)
