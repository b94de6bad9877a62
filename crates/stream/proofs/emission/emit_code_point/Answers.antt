use Rattle.std.proofs.Common.{sym}
use Rattle.stream.proofs.Emitting.{along, alone, ascii_alone, outcome}
use Rattle.stream.proofs.emission.emit_code_point.Goals as goal

pub returns-then-c-lt128 : goal.returns-then-c-lt128
returns-then-c-lt128 g c =
    let whole =
    along g.S.Sink.held g.S.Sink.takes (sym (ascii_alone c.args.c c.if-c-lt128.true))
    (alone g.S.Sink.held g.S.Sink.takes c.take.result c.take.ensures) in
    record { steps = whole; outcome = outcome g.S.Sink.held g.S.Sink.takes _ whole }
