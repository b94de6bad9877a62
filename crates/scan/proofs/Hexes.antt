-- The loop over the hex digits of an escape.
use Rattle.std.proofs.Common.{◌≡◌, ℕ, suc, ◌+◌, ◌-◌, ◌*◌, ◌^◌, ◌<◌, ◌≤◌, Bool, true, false, cond, List, [], ◌∷◌, get_or, drop, Some, None, sym, refl, ap, ◌∙◌, arith, add-one}
use Rattle.std.proofs.Math.Nat.{pow-suc, pow-le-pow_right}
use Rattle.std.proofs.lemmas.Bool.{both_ways}
use Rattle.std.proofs.lemmas.Bool.Decides.{nat_tests}
use Rattle.codepoint.specs.Classes.{is_hex_digit, hex_value, hex_value_if_any}
use Rattle.syntax.specs.Escapes.{hex_escape}
use Rattle.syntax.proofs.EscapeRules.{hex_more}
use Rattle.lookahead.specs.declared.ahead.Peek.{Peek}
use Rattle.lookahead.specs.Ahead.{Ahead, codes, past, peeked}
use Rattle.scan.proofs.States.{codes_past, one_past}
use Rattle.scan.proofs.Arms.{first_is}

-- v is the number of the first n digits, and s is ahead; s0 was ahead before them
pub record Sofar (s0 : Ahead) (n v : ℕ) (s : Ahead) : Type 0 where
  pub same : hex_escape (6 - n) v n (codes s) ≡ hex_escape 6 0 0 (codes s0)
  pub at : s ≡ past n s0
  pub small : v < 16 ^ n

-- six digits fit a number of 32 bits
pub five_fit : (n : ℕ) → n < 6 → 16 ^ n ≤ 1048576
five_fit n h = pow-le-pow_right {n = 16} (omega arith) {i = n} {j = 5} (omega arith)

pub hex_is_small : (c : ℕ) → is_hex_digit c ≡ true → hex_value c < 16
unfolding hex_value is_hex_digit
hex_is_small c h = grind (arith, nat_tests)

digit_is : (c h : ℕ) → Some h ≡ hex_value_if_any c → (is_hex_digit c ≡ true) × (h ≡ hex_value c)
unfolding hex_value_if_any
digit_is c h e = by (is_hex_digit c) e
  where
    by : (b : Bool) → Some h ≡ cond b (Some (hex_value c)) None → (b ≡ true) × (h ≡ hex_value c)
    by true e = (refl, cc e)
    by false e = cc e

no_hex : is_hex_digit 0 ≡ false
unfolding is_hex_digit
no_hex = refl

one_more : (n v : ℕ) (m : ℕ) (s : List ℕ) → is_hex_digit (get_or s 0 0) ≡ true → hex_escape (suc m) v n s ≡ hex_escape m (v * 16 + hex_value (get_or s 0 0)) (suc n) (drop 1 s)
one_more n v m [] h = absurd (both_ways _ no_hex h)
one_more n v m (c ∷ s) h = hex_more c s m v n h

pub digit_turn : (s0 s s' : Ahead) (w : Peek) (n v h : ℕ) → Sofar s0 n v s → n < 6 → w ≡ peeked s.list → Some h ≡ hex_value_if_any w.first → s' ≡ past 1 s → Sofar s0 (n + 1) (v * 16 + h) s'
digit_turn s0 s s' w n v h so k seen e p =
    let d = digit_is w.first h e in
    let f = first_is s.list w seen in
    let up : 6 - n ≡ suc (6 - suc n) = omega arith in
    let small = so.small in
    let digit = hex_is_small w.first d.0 in
    rw add-one (record {
      same = rw (d.1, f, p, codes_past 1 s) (sym (one_more n v (6 - suc n) (codes s) (rw f at d.0)) ∙ ap (λ m. hex_escape m v n (codes s)) (sym up) ∙ so.same);
      at = p ∙ ap (past 1) so.at ∙ one_past n s0;
      small = omega (arith, d.1, pow-suc 16 n);
    })
