use Rattle.std.proofs.Common.{refl, rules, tests}
use Rattle.std.proofs.lemmas.Iterator.{YieldsList-from_slice}
use Rattle.syntax.specs.Numbers.{is_e, has_exponent}
use Rattle.rules.proofs.Tests.{any_by_word}
use Rattle.spelling.proofs.text.has_exponent.Goals as goal

pub returns : goal.returns
returns c =
    any_by_word is_e has_exponent refl (λ c t. refl)
    (YieldsList-from_slice c.args.number.now cc) c.any.ensures.ran (λ x b q k. search (rules, tests))
