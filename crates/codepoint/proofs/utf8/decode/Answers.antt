use Rattle.std.proofs.Common.{sym, ◌∙◌, arith, rules}
use Rattle.codepoint.proofs.Decoding.{slice_empty, slice_one, slice_two, slice_three, slice_four, slice_none}
use Rattle.codepoint.proofs.utf8.decode.Goals as goal

pub returns-in-empty : goal.returns-in-empty
returns-in-empty c = sym (slice_empty c.args.bytes.now (search rules))

pub returns-in-len1-up : goal.returns-in-len1-up
returns-in-len1-up c = let e = slice_one c.args.bytes.now (search rules) c.if-a-le127.true in let f = c.from.ensures in cc

pub returns-in-len1-up-2 : goal.returns-in-len1-up-2
returns-in-len1-up-2 c =
    c.decode_two.ensures ∙ sym (slice_two c.args.bytes.now _ c.if-a-ge194.true c.if-a-le223.true (omega arith))

pub returns-in-len1-up-3 : goal.returns-in-len1-up-3
returns-in-len1-up-3 c =
    c.decode_three.ensures ∙ sym (slice_three c.args.bytes.now _ c.if-a-ge224.true c.if-a-le239.true (omega arith))

pub returns-in-len1-up-4 : goal.returns-in-len1-up-4
returns-in-len1-up-4 c =
    c.decode_four.ensures ∙ sym (slice_four c.args.bytes.now _ c.if-a-ge240.true c.if-a-le244.true (omega arith))

pub returns-in_default : goal.returns-in_default
returns-in_default c = sym (slice_none c.args.bytes.now (omega arith) (λ h. omega arith) (λ h. omega arith) (λ h. omega arith))

pub returns-in_default-2 : goal.returns-in_default-2
returns-in_default-2 c = sym (slice_none c.args.bytes.now (omega arith) (λ h. omega arith) (λ h. omega arith) (λ h. omega arith))
