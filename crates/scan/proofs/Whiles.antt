-- One code point after another while a test holds.
use Rattle.std.proofs.Common.{◌≡◌, ℕ, Bool, true, false, List, [], ◌∷◌}
use Rattle.syntax.specs.Bodies.{while}
use Rattle.syntax.specs.Rules.Step.{halt, give}

pub while_takes : (p : ℕ → Bool) (c : ℕ) (s : List ℕ) → p c ≡ true → while p (c ∷ s) ≡ give (c ∷ []) 0
unfolding while
while_takes p c s h = rw (h, while)

pub while_ends : (p : ℕ → Bool) (c : ℕ) (s : List ℕ) → p c ≡ false → while p (c ∷ s) ≡ halt
unfolding while
while_ends p c s h = rw (h, while)
