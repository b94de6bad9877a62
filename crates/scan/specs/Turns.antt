-- What a rule says of the next code points.
use Rattle.std.specs.Prelude.{◌≡◌, ℕ, List, [], ◌∷◌, slice_index}
use Rattle.syntax.specs.Escapes.{escape, gave}
use Rattle.syntax.specs.Rules.{Step}
use Rattle.syntax.specs.Rules.Step.{halt, give}
use Rattle.scan.specs.declared.rule.Turn.{Turn}
use Rattle.scan.specs.declared.rule.Turn.TheVariants.{Halt, Take, Pass, PassTwo, Escape}

-- what a turn does with a code point and the list behind it
abbrev pub step_of : Turn → ℕ → List ℕ → Step ℕ
step_of Halt c s = halt
step_of Take c s = give (c ∷ []) 0
step_of Pass c s = give [] 0
step_of PassTwo c s = give [] 1
step_of Escape c s = gave (escape s)

-- that is what the rule says wherever a comes first and b second, or 0 where nothing does
abbrev pub Says : (List ℕ → Step ℕ) → ℕ → ℕ → Turn → Type 0
Says rule a b t = (s : List ℕ) → b ≡ slice_index s 0 → (b ≡ 0 → s ≡ []) → rule (a ∷ s) ≡ step_of t a s
