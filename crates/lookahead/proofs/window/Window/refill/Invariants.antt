use Rattle.std.proofs.Common.{◌≡◌, ◌+◌, ◌++◌, take}
use Rattle.lookahead.specs.Windows.{points_of}
use Rattle.lookahead.proofs.window.Window.refill.Given as goal

-- the cells written so far hold what the source has handed over since
abbrev pub invariant-loop-cell : goal.invariant-loop-cell
invariant-loop-cell g l = record {
  counted : l.end ≡ l.initial.end + l.cell-index;
  handed : take l.cell-index l.cell-items ++ points_of g.S.Source.ahead l.source ≡ points_of g.S.Source.ahead l.initial.source;
  ending : g.S.Source.ending l.source.below ≡ g.S.Source.ending l.initial.source.below;
}
