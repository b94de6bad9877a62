-- The bytes of a scalar value, by the range that it lies in.
use Rattle.std.proofs.Common.{◌≡◌, ℕ, ◌+◌, ◌/◌, ◌<◌, ◌≤◌, true, cond, ltb, [], ◌∷◌, ap, ◌∙◌}
use Rattle.std.proofs.lemmas.Bool.{cond-true, cond-false, lt-ltb, le-ltb}
use Rattle.codepoint.specs.Classes.{is_scalar_value}
use Rattle.codepoint.specs.Utf8.{trail, scalar_bytes, utf8}

-- a scalar value has its own bytes
pub scalar_has_its_bytes : (c : ℕ) → is_scalar_value c ≡ true → utf8 c ≡ scalar_bytes c
unfolding utf8
scalar_has_its_bytes c h = ap scalar_bytes (cond-true (is_scalar_value c) c 0xfffd h)

module _ (c : ℕ) where
  pub one_byte : c < 0x80 → scalar_bytes c ≡ c ∷ []
  unfolding scalar_bytes
  one_byte k = cond-true (ltb c 0x80) _ _ (lt-ltb c 0x80 k)

  pub two_bytes_lem : 0x80 ≤ c → c < 0x800 → scalar_bytes c ≡ (0xc0 + c / 64) ∷ trail c ∷ []
  unfolding scalar_bytes
  two_bytes_lem h k = cond-false (ltb c 0x80) _ _ (le-ltb c 0x80 h) ∙ cond-true (ltb c 0x800) _ _ (lt-ltb c 0x800 k)

  past_two : 0x80 ≤ c → 0x800 ≤ c → scalar_bytes c
      ≡ cond (ltb c 0x10000) ((0xe0 + c / 64 / 64) ∷ trail (c / 64) ∷ trail c ∷ []) ((0xf0 + c / 64 / 64 / 64) ∷ trail (c / 64 / 64) ∷ trail (c / 64) ∷ trail c ∷ [])
  unfolding scalar_bytes
  past_two g h = cond-false (ltb c 0x80) _ _ (le-ltb c 0x80 g) ∙ cond-false (ltb c 0x800) _ _ (le-ltb c 0x800 h)

  pub three_bytes_lem : 0x80 ≤ c → 0x800 ≤ c → c < 0x10000 → scalar_bytes c ≡ (0xe0 + c / 64 / 64) ∷ trail (c / 64) ∷ trail c ∷ []
  three_bytes_lem g h k = past_two g h ∙ cond-true (ltb c 0x10000) _ _ (lt-ltb c 0x10000 k)

  pub four_bytes_lem : 0x80 ≤ c → 0x800 ≤ c → 0x10000 ≤ c → scalar_bytes c ≡ (0xf0 + c / 64 / 64 / 64) ∷ trail (c / 64 / 64) ∷ trail (c / 64) ∷ trail c ∷ []
  four_bytes_lem g h k = past_two g h ∙ cond-false (ltb c 0x10000) _ _ (le-ltb c 0x10000 k)
