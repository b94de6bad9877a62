use Rattle.std.proofs.Common.{refl}
use Rattle.stream.proofs.Preprocessing.{behind_is_preprocessed}
use Rattle.stream.proofs.preprocess.Preprocess.new.Goals as goal

pub returns : goal.returns
returns g c = record { ahead = behind_is_preprocessed (g.S.Source.ahead c.args.below); ending = refl }
