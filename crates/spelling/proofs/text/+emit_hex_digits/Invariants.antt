use Rattle.spelling.proofs.text.+emit_hex_digits.Given as goal

abbrev pub decreases-emit_hex_digits : goal.decreases-emit_hex_digits
decreases-emit_hex_digits g l = l.most
