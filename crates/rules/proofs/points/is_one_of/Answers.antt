use Rattle.std.proofs.Common.{eqb, refl, rules, tests}
use Rattle.std.proofs.lemmas.Iterator.{YieldsList-from_slice}
use Rattle.syntax.specs.Points.{is_one_of}
use Rattle.rules.proofs.Tests.{any_by_word}
use Rattle.rules.proofs.points.is_one_of.Goals as goal

pub returns : goal.returns
returns c =
    any_by_word (eqb c.args.c) (λ signs. is_one_of signs c.args.c) refl (λ d ds. refl)
    (YieldsList-from_slice c.args.signs.now cc) c.any.ensures.ran (λ x b q k. search (rules, tests))
