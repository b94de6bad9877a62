-- What a rule takes whole, whatever follows.
use Rattle.std.proofs.Common.{◌≡◌, ℕ, zero, suc, List, [], ◌∷◌, ◌++◌, length, drop, sym, refl, ap, ◌∙◌, append_assoc, append-nil}
use Rattle.syntax.specs.Rules.{Step, gives, leaves, left, out}
use Rattle.syntax.specs.Rules.Step.{give, halt}

module _ {A B : Type 0} (f : List A → Step B) where
  -- the rule takes w, whatever follows it, and gives v
  pub record Takes (w : List A) (v : List B) : Type 0 where
    pub gave : (r : List A) → out f 0 (w ++ r) ≡ v ++ out f 0 r
    pub left_as : (r : List A) → left f 0 (w ++ r) ≡ left f 0 r

  out_past : (w r : List A) → out f (length w) (w ++ r) ≡ out f 0 r
  unfolding out
  out_past [] r = refl
  out_past (x ∷ w) r = out_past w r

  left_past : (w r : List A) → left f (length w) (w ++ r) ≡ left f 0 r
  unfolding left
  left_past [] r = refl
  left_past (x ∷ w) r = left_past w r

  -- a step that takes w
  pub takes_step : (c : A) (w : List A) (v : List B) → ((r : List A) → f (c ∷ (w ++ r)) ≡ give v (length w)) → Takes (c ∷ w) v
  unfolding out left
  takes_step c w v h = record {
    gave = λ r. ap (λ x. gives x (λ k. out f k (w ++ r))) (h r) ∙ ap (λ x. v ++ x) (out_past w r);
    left_as = λ r. ap (λ x. leaves x (c ∷ (w ++ r)) (λ k. left f k (w ++ r))) (h r) ∙ left_past w r;
  }

  pub takes_none : Takes [] []
  takes_none = record { gave = λ r. refl; left_as = λ r. refl }

  pub takes_more : {w w' : List A} {v v' : List B} → Takes w v → Takes w' v' → Takes (w ++ w') (v ++ v')
  takes_more {w} {w'} {v} {v'} a b = record {
    gave = λ r. ap (out f 0) (append_assoc w w' r) ∙ a.gave (w' ++ r) ∙ ap (λ x. v ++ x) (b.gave r) ∙ sym (append_assoc v v' (out f 0 r));
    left_as = λ r. ap (left f 0) (append_assoc w w' r) ∙ a.left_as (w' ++ r) ∙ b.left_as r;
  }

  -- it stops at once
  abbrev pub Stops : List A → Type 0
  Stops r = (out f 0 r ≡ []) × (left f 0 r ≡ r)

  pub stops_at : (r : List A) → f r ≡ halt → Stops r
  unfolding out left
  stops_at [] h = (refl, refl)
  stops_at (c ∷ r) h = (ap (λ x. gives x (λ k. out f k r)) h, ap (λ x. leaves x (c ∷ r) (λ k. left f k r)) h)

  pub takes_all : {w : List A} {v : List B} (r : List A) → Takes w v → Stops r → (out f 0 (w ++ r) ≡ v) × (left f 0 (w ++ r) ≡ r)
  takes_all {w} {v} r a s = (a.gave r ∙ ap (λ x. v ++ x) s.0 ∙ append-nil v, a.left_as r ∙ s.1)

  -- a rule that takes one and k more goes on behind them
  out_skips : (k : ℕ) (s : List A) → out f k s ≡ out f 0 (drop k s)
  unfolding out
  out_skips zero s = refl
  out_skips (suc k) [] = refl
  out_skips (suc k) (c ∷ s) = out_skips k s

  left_skips : (k : ℕ) (s : List A) → left f k s ≡ left f 0 (drop k s)
  unfolding left
  left_skips zero s = refl
  left_skips (suc k) [] = refl
  left_skips (suc k) (c ∷ s) = left_skips k s

  pub out_step : (c : A) (s : List A) (v : List B) (k : ℕ) → f (c ∷ s) ≡ give v k → out f 0 (c ∷ s) ≡ v ++ out f 0 (drop k s)
  unfolding out
  out_step c s v k h = ap (λ x. gives x (λ k. out f k s)) h ∙ ap (λ x. v ++ x) (out_skips k s)

  pub left_step : (c : A) (s : List A) (v : List B) (k : ℕ) → f (c ∷ s) ≡ give v k → left f 0 (c ∷ s) ≡ left f 0 (drop k s)
  unfolding left
  left_step c s v k h = ap (λ x. leaves x (c ∷ s) (λ k. left f k s)) h ∙ left_skips k s
