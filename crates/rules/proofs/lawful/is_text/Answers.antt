use Rattle.std.proofs.Common.{refl, rules, tests}
use Rattle.std.proofs.lemmas.Iterator.{YieldsList-from_slice}
use Rattle.syntax.specs.Lawful.{is_text_point, is_text}
use Rattle.rules.proofs.Tests.{all_by_word}
use Rattle.rules.proofs.lawful.is_text.Goals as goal

pub returns : goal.returns
returns c =
    all_by_word is_text_point is_text refl (λ d ds. refl)
    (YieldsList-from_slice c.args.text.now cc) c.all.ensures.ran (λ x b q k. search (rules, tests))
