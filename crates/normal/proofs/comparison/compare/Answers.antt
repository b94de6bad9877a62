use Rattle.normal.proofs.Settling.{normal_form_law}
use Rattle.normal.proofs.comparison.compare.Goals as goal

pub returns-clause-law : goal.returns-clause-law
returns-clause-law g c = normal_form_law _ _ _ _ _ _ _ _
