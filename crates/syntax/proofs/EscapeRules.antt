-- The rule of identifiers and escapes, case by case.
use Rattle.std.proofs.Common.{◌≡◌, ℕ, suc, ◌+◌, ◌*◌, true, false, cond, List, [], ◌∷◌, get_or}
use Rattle.codepoint.specs.Classes.{hex_value, is_hex_digit, is_ident, is_whitespace}
use Rattle.codepoint.specs.Starts.{is_valid_escape}
use Rattle.syntax.specs.Rules.Step.{give, halt}
use Rattle.syntax.specs.Escapes.{escape, escape_value, gave, hex_escape, in_ident}

module _ (c : ℕ) (s : List ℕ) where
  pub hex_more : (d v n : ℕ) → is_hex_digit c ≡ true → hex_escape (suc d) v n (c ∷ s) ≡ hex_escape d (v * 16 + hex_value c) (suc n) s
  unfolding hex_escape
  hex_more d v n h = rw (h, hex_escape)

  pub hex_stops : (d v n : ℕ) → is_hex_digit c ≡ false → hex_escape (suc d) v n (c ∷ s) ≡ (escape_value v, cond (is_whitespace c) (suc n) n)
  unfolding hex_escape
  hex_stops d v n h = rw (h, hex_escape)

  pub escape_hex : is_hex_digit c ≡ true → escape (c ∷ s) ≡ hex_escape 6 0 0 (c ∷ s)
  unfolding escape
  escape_hex h = rw (h, escape)

  pub escape_plain : is_hex_digit c ≡ false → escape (c ∷ s) ≡ (c, 1)
  unfolding escape
  escape_plain h = rw (h, escape)

  pub ident_stays : is_ident c ≡ true → in_ident (c ∷ s) ≡ give (c ∷ []) 0
  unfolding in_ident
  ident_stays h = rw (h, in_ident)

  pub ident_escape : is_ident c ≡ false → is_valid_escape c (get_or s 0 0) ≡ true → in_ident (c ∷ s) ≡ gave (escape s)
  unfolding in_ident
  ident_escape h k = rw (h, k, in_ident)

  pub ident_stops : is_ident c ≡ false → is_valid_escape c (get_or s 0 0) ≡ false → in_ident (c ∷ s) ≡ halt
  unfolding in_ident
  ident_stops h k = rw (h, k, in_ident)
