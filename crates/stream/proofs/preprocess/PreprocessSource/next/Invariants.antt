use Rattle.std.proofs.Common.{◌≡◌, cond}
use Rattle.stream.specs.Preprocess.{behind}
use Rattle.stream.proofs.preprocess.PreprocessSource.next.Given as goal

-- what is ahead, and the ending, stay until a code point is handed over
abbrev pub invariant-loop-step : goal.invariant-loop-step
invariant-loop-step g l =
    (behind l.self.after_cr (g.S.Source.ahead l.self.below) ≡ behind l.initial.self.after_cr (g.S.Source.ahead l.initial.self.below))
    × (g.S.Source.ending l.self.below ≡ g.S.Source.ending l.initial.self.below)

-- only one U+000A is passed over
abbrev pub decreases-loop-step : goal.decreases-loop-step
decreases-loop-step g l = cond l.self.after_cr 1 0
