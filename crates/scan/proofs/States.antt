-- What is left behind one thing and another.
use Rattle.std.proofs.Common.{◌≡◌, ℕ, zero, suc, ◌+◌, ◌<◌, List, [], ◌∷◌, ◌++◌, length, drop, sym, refl, ap, ◌∙◌, arith}
use Rattle.std.proofs.Math.Seq.{drop-nil}
use Rattle.std.proofs.lemmas.List.{drop-drop}
pub use Rattle.lookahead.proofs.Chunks.{same}
use Rattle.codepoint.specs.Utf8.{code_points_of}
use Rattle.stream.specs.Preprocess.{Placed}
use Rattle.syntax.specs.Rules.{Step, collect, beyond}
use Rattle.syntax.specs.Rules.Step.{halt, give}
use Rattle.syntax.proofs.Takes.{left_step, out_step, stops_at}
use Rattle.lookahead.specs.Ahead.{Ahead, Left, codes, past}

pub past_past : (m n : ℕ) (s : Ahead) → past m (past n s) ≡ past (n + m) s
past_past m n s = same _ _ (drop-drop m n s.list) refl

pub past_one : (n : ℕ) (s : Ahead) → past n (past 1 s) ≡ past (suc n) s
past_one n s = same _ _ (go s.list) refl
  where
    go : (l : List Placed) → drop n (drop 1 l) ≡ drop (suc n) l
    go [] = drop-nil n
    go (p ∷ l) = refl

pub one_past : (n : ℕ) (s : Ahead) → past 1 (past n s) ≡ past (suc n) s
one_past n s = past_past 1 n s ∙ ap (λ k. past k s) (let e : n + 1 ≡ suc n = omega arith in e)

-- after a look, two bumps
pub bump_twice : (s s0 s1 s2 : Ahead) → s0 ≡ s → s1 ≡ past 1 s0 → s2 ≡ past 1 s1 → s2 ≡ past 2 s
bump_twice s s0 s1 s2 e e1 e2 = e2 ∙ ap (past 1) (e1 ∙ ap (past 1) e) ∙ past_one 1 s

code_points_dropped : (k : ℕ) (ps : List Placed) → code_points_of (drop k ps) ≡ drop k (code_points_of ps)
code_points_dropped zero ps = refl
code_points_dropped (suc k) [] = refl
code_points_dropped (suc k) (p ∷ ps) = code_points_dropped k ps

pub codes_past : (k : ℕ) (s : Ahead) → codes (past k s) ≡ drop k (codes s)
codes_past k s = code_points_dropped k s.list

pub length_codes : (ps : List Placed) → length (code_points_of ps) ≡ length ps
length_codes [] = refl
length_codes (p ∷ ps) = ap suc (length_codes ps)

-- so many were passed over; one thing behind another
pub left_past : (k : ℕ) (w w' : Ahead) → w' ≡ past k w → Left w (drop k (codes w)) w'
left_past k w w' e = record { count = k; passed = e; rest_is = ap codes e ∙ codes_past k w }

pub left_then : {w w' w'' : Ahead} {r s : List ℕ} → Left w r w' → Left w' s w'' → Left w s w''
left_then {w} a b = record {
  count = a.count + b.count;
  passed = b.passed ∙ ap (past b.count) a.passed ∙ past_past b.count a.count w;
  rest_is = b.rest_is;
}

-- the same in other words
pub left_said : {w w' : Ahead} {r s : List ℕ} → r ≡ s → Left w r w' → Left w s w'
left_said e a = record { count = a.count; passed = a.passed; rest_is = a.rest_is ∙ e }

-- a rule gives something at the front of a list
pub record Gives {B : Type 0} (f : List ℕ → Step B) (s : List ℕ) (v : List B) (k : ℕ) : Type 0 where
  pub some : 0 < length s
  pub says : f s ≡ give v k

module _ {B : Type 0} (f : List ℕ → Step B) where
  pub given_first : (s : List ℕ) (v : List B) (k : ℕ) → Gives f s v k → collect f s ≡ v ++ collect f (drop (suc k) s)
  given_first [] v k h = let z = h.some in absurd (omega arith)
  given_first (c ∷ s) v k h = out_step f c s v k h.says

  left_behind : (s : List ℕ) (v : List B) (k : ℕ) → Gives f s v k → beyond f s ≡ beyond f (drop (suc k) s)
  left_behind [] v k h = let z = h.some in absurd (omega arith)
  left_behind (c ∷ s) v k h = left_step f c s v k h.says

  pub stop_out : (s : List ℕ) → f s ≡ halt → collect f s ≡ []
  stop_out s h = (stops_at f s h).0

  pub stop_left : (s : List ℕ) → f s ≡ halt → beyond f s ≡ s
  stop_left s h = (stops_at f s h).1

  -- a turn takes one code point and k more
  module _ (s s' : Ahead) (v : List B) (k : ℕ) (h : Gives f (codes s) v k) (e : s' ≡ past (suc k) s) where
    pub turn_out : collect f (codes s) ≡ v ++ collect f (codes s')
    turn_out = given_first (codes s) v k h ∙ ap (λ t. v ++ collect f t) (sym (ap codes e ∙ codes_past (suc k) s))

    pub turn_left : beyond f (codes s') ≡ beyond f (codes s)
    turn_left = ap (beyond f) (ap codes e ∙ codes_past (suc k) s) ∙ sym (left_behind (codes s) v k h)
