use Rattle.std.proofs.Common.{◌≡◌, ℕ, ◌≤◌, List, [], ◌∷◌, length, get_or, refl, ◌∙◌, arith}
use Rattle.codepoint.specs.Classes.{is_digit}
use Rattle.syntax.specs.Lawful.{is_loose}
use Rattle.rules.proofs.lawful.is_loose.Goals as goal

-- behind `-` the second code point decides
by_second : (t : List ℕ) → 2 ≤ length t → get_or t 0 0 ≡ 45 → is_digit (get_or t 1 0) ≡ is_loose t
unfolding is_digit
by_second [] h e = absurd (omega arith)
by_second (c ∷ []) h e = absurd (omega arith)
by_second (c ∷ d ∷ t) h e = rw e refl

pub returns-in-45-2 : goal.returns-in-45-2
returns-in-45-2 c = c.is_digit.ensures ∙ by_second c.args.text.now (omega arith) (omega arith)
