-- A rule reads the front of a list, and goes on for as long as it takes something.
use Rattle.std.specs.Prelude.{ℕ, zero, suc, List, [], ◌∷◌, ◌++◌}

-- what a rule says of the front of a list: it ends here; or it takes one element and k more, and gives v
pub data Step (B : Type 0) : Type 0 where
  halt : Step B
  give : List B → ℕ → Step B

abbrev pub gives : {B : Type 0} → Step B → (ℕ → List B) → List B
gives halt next = []
gives (give v k) next = v ++ next k

module _ {A B : Type 0} where
  abbrev pub leaves : Step B → List A → (ℕ → List A) → List A
  leaves halt s next = s
  leaves (give v k) s next = next k

  -- what the rule gives from the front of s, once k elements are passed over
  unfoldable pub out : (List A → Step B) → ℕ → List A → List B
  out f k [] = []
  out f zero (c ∷ s) = gives (f (c ∷ s)) (λ k. out f k s)
  out f (suc k) (c ∷ s) = out f k s

  -- what it leaves
  unfoldable pub left : (List A → Step B) → ℕ → List A → List A
  left f k [] = []
  left f zero (c ∷ s) = leaves (f (c ∷ s)) (c ∷ s) (λ k. left f k s)
  left f (suc k) (c ∷ s) = left f k s

  abbrev pub collect : (List A → Step B) → List A → List B
  collect f s = out f 0 s

  abbrev pub beyond : (List A → Step B) → List A → List A
  beyond f s = left f 0 s
