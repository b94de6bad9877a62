use Rattle.normal.proofs.Refusing.{only_these_refusals}
use Rattle.normal.proofs.Stepping.{normalizes}
use Rattle.normal.proofs.normalization.normalize.Goals as goal

pub returns-clause-normalizes : goal.returns-clause-normalizes
returns-clause-normalizes g c = normalizes c.new-writer.ensures c.new-reader.ensures c.transfer-answer.ensures

pub returns-clause-refusals : goal.returns-clause-refusals
returns-clause-refusals g c =
    only_these_refusals _ _ _ (g.met.P.Source.within c.args.source) c.transfer-answer.result c.new-reader.ensures c.new-writer.ensures.fresh c.transfer-answer.ensures
