use Rattle.std.proofs.Common.{Ok, ap, ◌∙◌, rules}
use Rattle.reader.specs.NextToken.{model_of}
use Rattle.normal.proofs.Stepping.{leaves_out, less_ahead, puts_on}
use Rattle.normal.proofs.normalization.transfer.Goals.{then-not-is_repeated+in_ok-put, else-not-is_repeated}
use Rattle.normal.proofs.normalization.transfer.Goals as goal

pub loop-token-smaller : goal.loop-token-smaller
loop-token-smaller g c =
    let m = model_of g.P.Source.ahead g.P.Source.ending c.loop-token.reader in
    let m₁ = model_of g.P.Source.ahead g.P.Source.ending c.next_token.new.self in
    less_ahead m m₁ _ _ c.next_token.ensures (c.in_ok-token.was ∙ ap Ok c.in-Token.is)

pub loop-token-preserved : goal.loop-token-preserved
loop-token-preserved g c = λ r m cells u rest. c.loop-token.invariant r m cells u (elim c.if-not-is_repeated.branch [
  | then-not-is_repeated+in_ok-put w ↦
      puts_on c.next_token.ensures (c.in_ok-token.was ∙ ap Ok c.in-Token.is) w.view.ensures w.if-not-is_repeated.ensures w.in_ok-put.ensures (search rules) w.writer-is rest
  | else-not-is_repeated w ↦
      leaves_out c.next_token.ensures (c.in_ok-token.was ∙ ap Ok c.in-Token.is) w.if-not-is_repeated.ensures (search rules) w.writer-is rest
])
