use Rattle.codepoint.proofs.Encoding.{one_byte, two_bytes_lem, three_bytes_lem, four_bytes_lem}
use Rattle.codepoint.proofs.utf8.encode_scalar.Goals as goal

pub returns-then-c-lt128 : goal.returns-then-c-lt128
returns-then-c-lt128 c = let e = one_byte c.args.c c.if-c-lt128.true in cc

pub returns-then-c-lt2048 : goal.returns-then-c-lt2048
returns-then-c-lt2048 c = let e = two_bytes_lem c.args.c c.if-c-lt128.false c.if-c-lt2048.true in cc

pub returns-then-c-lt65536 : goal.returns-then-c-lt65536
returns-then-c-lt65536 c = let e = three_bytes_lem c.args.c c.if-c-lt128.false c.if-c-lt2048.false c.if-c-lt65536.true in cc

pub returns : goal.returns
returns c = let e = four_bytes_lem c.args.c c.if-c-lt128.false c.if-c-lt2048.false c.if-c-lt65536.false in cc
