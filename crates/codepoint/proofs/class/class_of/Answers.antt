-- The rule is computed at 0 to 255 and held to the entries of the source's table; past them it is said once.
use Rattle.std.proofs.Common.{sym, arith}
use Rattle.std.proofs.lemmas.List.FromFn.{get_or-map-range_with_len}
use Rattle.codepoint.specs.Classes.{class_number, is_non_printable}
use Rattle.codepoint.proofs.ClassTable.{beyond_ascii, tells_each_class}
use Rattle.codepoint.proofs.class.class_of.Goals as goal

pub returns-then-c-lt256 : goal.returns-then-c-lt256
unfolding class_number is_non_printable
returns-then-c-lt256 c =
    tells_each_class c.args.c _ (get_or-map-range_with_len class_number 0 256 c.args.c c.args.c 0 c.if-c-lt256.true (omega arith))

pub returns-else-c-lt256 : goal.returns-else-c-lt256
returns-else-c-lt256 c = tells_each_class c.args.c 7 (sym (beyond_ascii c.args.c (omega arith)))
