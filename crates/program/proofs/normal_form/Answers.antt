use Rattle.program.specs.Forming.Forms.{too_long}
use Rattle.program.proofs.Sheets.{formed_from_bytes}
use Rattle.program.proofs.normal_form.Goals as goal

pub returns-then-sheet-gt-INPUT_LIMIT : goal.returns-then-sheet-gt-INPUT_LIMIT
returns-then-sheet-gt-INPUT_LIMIT g c = too_long c.if-sheet-gt-INPUT_LIMIT.true

pub returns : goal.returns
returns g c =
    formed_from_bytes g.S.Sink.held g.S.Sink.takes c.args.sheet.now c.if-sheet-gt-INPUT_LIMIT.false c.new.ensures.ahead c.new.ensures.ending
    c.into_sink.ensures c.normalize-writer.ensures.normalizes
