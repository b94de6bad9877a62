use Rattle.std.proofs.Common.{◌≡◌, length, drop, ap, ◌∙◌, rules, tests, arith}
use Rattle.std.specs.List.{prefix_len}
use Rattle.std.proofs.lemmas.Iterator.{YieldsList-from_slice}
use Rattle.std.proofs.lemmas.Iterator.Consumers.{YieldsList-at, count_from_yields_List}
use Rattle.std.proofs.lemmas.Iterator.Search.{YieldsList-from_take_while}
use Rattle.std.proofs.lemmas.List.Folds.{length-prefix_len}
use Rattle.std.proofs.lemmas.Slice.{between_to_end}
use Rattle.codepoint.specs.Classes.{is_digit}
use Rattle.rules.proofs.Digits.{past_prefix}
use Rattle.rules.proofs.number.past_digits.Goals as goal

pub returns : goal.returns
returns c =
    let text = c.args.text.now in
    let digits : c.count-digits.result ≡ prefix_len is_digit text =
    count_from_yields_List c.take_while.result _ c.count-digits.ensures.ran
    (YieldsList-from_take_while _ is_digit (YieldsList-at c.take_while.ensures.source (YieldsList-from_slice text cc)) c.take_while.ensures.closure c.take_while.ensures.done (λ x b q k. search (rules, tests)))
    ∙ length-prefix_len is_digit text in
    between_to_end text c.count-digits.result (length text) (omega arith) ∙ ap (λ n. drop n text) digits ∙ past_prefix text
