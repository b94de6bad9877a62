use Rattle.std.proofs.Common.{◌≡◌, Err, sym, ◌∙◌, rules}
use Rattle.std.proofs.lemmas.Result.{err_from_is_err_and}
use Rattle.reader.proofs.Answered.{ended_answers, end_told, fault_told, told_at_zero, outgrown_answers, token_answers, fault_answers}
use Rattle.reader.proofs.answering.answer_next.Goals as goal

pub unwrap-requires : goal.unwrap-requires
unwrap-requires g c =
    rw (told_at_zero c.peek-seen.ensures.same c.peek-seen.ensures.ends c.if-seen-eq-EOF.true c.ending.ensures.told)

pub returns-in_err-end : goal.returns-in_err-end
returns-in_err-end g c =
    let p = err_from_is_err_and c.from_residual.result c.from_residual.ensures.1 in
    let told = told_at_zero c.peek-seen.ensures.same c.peek-seen.ensures.ends c.if-seen-eq-EOF.true c.ending.ensures.told in
    rw (p.1, p.2) (ended_answers c.skip_comments.ensures c.peek-seen.ensures.same c.peek-seen.ensures.ends c.if-seen-eq-EOF.true c.ending.ensures.same (fault_told c.in_err-end.field-0.0 (g.L.Lookahead.rest c.peek-seen.new.self).ending told c.in_err-end.ensures))

pub returns-then-seen-eq-EOF : goal.returns-then-seen-eq-EOF
returns-then-seen-eq-EOF g c =
    let told = told_at_zero c.peek-seen.ensures.same c.peek-seen.ensures.ends c.if-seen-eq-EOF.true c.ending.ensures.told in
    ended_answers c.skip_comments.ensures c.peek-seen.ensures.same c.peek-seen.ensures.ends c.if-seen-eq-EOF.true c.ending.ensures.same (end_told _ _ told c.in_ok-end.ensures)

pub returns-in_err-token : goal.returns-in_err-token
returns-in_err-token g c =
    let refused : c.locate.result ≡ Err c.in_err-token.field-0.0 = c.in_err-token.was in
    let p = err_from_is_err_and c.from_residual-in_err-token.result c.from_residual-in_err-token.ensures.1 in
    rw (p.1, p.2) (outgrown_answers c.skip_comments.ensures c.peek-seen.ensures.same c.peek-seen.ensures.seen c.if-seen-eq-EOF.false c.new-cells.ensures.now c.new-cells.ensures.none c.read_token-read.ensures c.filled.ensures (search rules) c.locate.ensures.fits c.locate.ensures.outgrown refused)

pub returns-in_err-transpose : goal.returns-in_err-transpose
returns-in_err-transpose g c =
    let p = err_from_is_err_and c.from_residual-in_err-transpose.result c.from_residual-in_err-transpose.ensures.1 in
    rw (p.1, p.2) (fault_answers c.skip_comments.ensures c.peek-seen.ensures.same c.peek-seen.ensures.seen c.if-seen-eq-EOF.false c.new-cells.ensures.now c.new-cells.ensures.none c.read_token-read.ensures c.filled.ensures (search rules) c.locate.ensures.fits c.locate.ensures.outgrown c.in_ok-token.was c.ending-2.ensures.same c.ending-2.ensures.told (sym c.in_err-transpose.was ∙ c.transpose.ensures))

pub returns : goal.returns
returns g c =
    token_answers c.skip_comments.ensures c.peek-seen.ensures.same c.peek-seen.ensures.seen c.if-seen-eq-EOF.false c.new-cells.ensures.now c.new-cells.ensures.none c.read_token-read.ensures c.filled.ensures (search rules) c.locate.ensures.fits c.locate.ensures.outgrown c.in_ok-token.was c.ending-2.ensures.same c.ending-2.ensures.told (sym c.in_ok-transpose.was ∙ c.transpose.ensures)
