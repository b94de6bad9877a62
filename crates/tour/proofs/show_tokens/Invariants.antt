use Rattle.std.proofs.Common.{◌≡◌, length}
use Rattle.tour.proofs.show_tokens.Given as goal

abbrev pub invariant-loop : goal.invariant-loop
invariant-loop l = length l.cells ≡ 16
