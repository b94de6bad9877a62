use Rattle.scan.proofs.Numbering.{number_collected}
use Rattle.scan.proofs.number.collect_number.Goals as goal

pub returns : goal.returns
returns g c =
    number_collected _ _ _ _ _ _ _ _ _ _ _ _ _ _ _ _ _ c.peek-front.ensures.same c.peek-front.ensures.seen c.sign_length-sign.ensures c.collect_part.ensures c.peek-seen.ensures.same c.peek-seen.ensures.seen c.fraction_length-fraction.ensures c.collect_part_if_any.ensures c.peek-then.ensures.same c.peek-then.ensures.seen c.exponent_length-exponent.ensures c.collect_part_if_any-2.ensures
