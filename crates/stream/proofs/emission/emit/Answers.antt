use Rattle.std.proofs.lemmas.Result.{err_from_is_err_and}
use Rattle.stream.proofs.Emitting.{onward, halted, ended, outcome}
use Rattle.stream.proofs.emission.emit.Goals as goal

pub loop-byte-preserved : goal.loop-byte-preserved
loop-byte-preserved g c = λ r z e.
    c.loop-byte.invariant r z
    (onward g.S.Sink.held g.S.Sink.takes c.args.bytes.now c.loop-byte.byte-index c.loop-byte-test.true c.in_ok-take.ensures e)

pub returns-in_err-take : goal.returns-in_err-take
returns-in_err-take g c =
    let p = err_from_is_err_and c.from_residual.result c.from_residual.ensures.1 in
    let whole =
    c.loop-byte.invariant _ _
    (halted g.S.Sink.held g.S.Sink.takes c.args.bytes.now c.loop-byte.byte-index c.loop-byte-test.true c.in_err-take.ensures) in
    rw (p.1, p.2) record { steps = whole; outcome = outcome g.S.Sink.held g.S.Sink.takes _ whole }

pub returns : goal.returns
returns g c =
    let whole =
    c.loop-byte.invariant _ _
    (ended g.S.Sink.held g.S.Sink.takes c.args.bytes.now c.loop-byte.byte-index c.loop-byte-test.false) in
    record { steps = whole; outcome = outcome g.S.Sink.held g.S.Sink.takes _ whole }
