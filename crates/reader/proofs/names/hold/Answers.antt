use Rattle.reader.proofs.Identifying.{holding}
use Rattle.reader.proofs.names.hold.Goals as goal

pub returns : goal.returns
returns g c =
    holding c.name_one.ensures c.name_one-2.ensures c.name_one-3.ensures
