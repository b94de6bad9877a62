-- A sequence is well-formed exactly when it encodes a scalar value: row by row of the table, both ways.
use Rattle.std.proofs.Common.{◌≡◌, ℕ, ◌+◌, ◌-◌, ◌/◌, ◌<◌, ◌≤◌, true, ◌&&◌, eqb, leb, List, [], ◌∷◌, ◌++◌, length, sym, refl, ap, ◌∙◌, subst, ⊎_elim, arith}
use Rattle.std.proofs.lemmas.Bool.Decides.{nat_tests}
use Rattle.std.proofs.lemmas.Bool.{cond_both, cases_lt, cases_eq, and_parts, leb-true, cond-true, and_from, le-leb}
use Rattle.codepoint.specs.declared.utf8.Decoded.{Decoded}
use Rattle.codepoint.specs.declared.utf8.Decoded.TheVariants.{Empty, Point, IllFormed}
use Rattle.codepoint.specs.Classes.{within, is_scalar_value}
use Rattle.codepoint.specs.Utf8.{trail, utf8, scalar_bytes, is_trailing, is_second, lowest_after, highest_after, joined, two_bytes, three_bytes, four_bytes, decoded, BeginsWith, WellFormedIsEncoded}
use Rattle.codepoint.proofs.Encoding.{scalar_has_its_bytes, one_byte, two_bytes_lem, three_bytes_lem, four_bytes_lem}
use Rattle.codepoint.proofs.Decoding.{decodes_one, decodes_two, decodes_three, decodes_four}

-- scalar values by their range
is_scalar : (c : ℕ) → c ≤ 0x10ffff → (0xd800 ≤ c → c ≤ 0xdfff → ⊥) → is_scalar_value c ≡ true
unfolding is_scalar_value
is_scalar c h k = grind (arith, nat_tests)

scalar_range : (c : ℕ) → is_scalar_value c ≡ true → (c ≤ 0x10ffff) × (0xd7ff < c → c < 0xe000 → ⊥)
unfolding is_scalar_value
scalar_range c h = (grind (arith, nat_tests), λ a b. grind (arith, nat_tests))

range_parts : (a b c : ℕ) → within a b c ≡ true → (a ≤ c) × (c ≤ b)
range_parts a b c h = let p = and_parts (leb a c) (leb c b) h in (leb-true a c p.0, leb-true c b p.1)

in_range : (a b c : ℕ) → a ≤ c → c ≤ b → within a b c ≡ true
in_range a b c h k = and_from _ _ (le-leb a c h) (le-leb c b k)

-- the second byte of a longer sequence, in plain bounds
pub record Second (a b : ℕ) : Type 0 where
  pub low : 0x80 ≤ b
  pub high : b ≤ 0xbf
  pub after_e0 : a ≡ 0xe0 → 0xa0 ≤ b
  pub after_ed : a ≡ 0xed → b ≤ 0x9f
  pub after_f0 : a ≡ 0xf0 → 0x90 ≤ b
  pub after_f4 : a ≡ 0xf4 → b ≤ 0x8f

second_bounds : (a b : ℕ) → is_second a b ≡ true → Second a b
second_bounds a b h = record {
  low = grind (arith, nat_tests);
  high = grind (arith, nat_tests);
  after_e0 = λ e. grind (arith, nat_tests);
  after_ed = λ e. grind (arith, nat_tests);
  after_f0 = λ e. grind (arith, nat_tests);
  after_f4 = λ e. grind (arith, nat_tests);
}

is_second_lem : (a b : ℕ) → Second a b → is_second a b ≡ true
is_second_lem a b s = in_range (lowest_after a) (highest_after a) b
    (cond_both (eqb a 0xe0) 0xa0 _ (λ n. n ≤ b) (λ e. grind (arith, nat_tests)) (λ _. cond_both (eqb a 0xf0) 0x90 0x80 (λ n. n ≤ b) (λ e. grind (arith, nat_tests)) (λ _. s.low)))
    (cond_both (eqb a 0xed) 0x9f _ (λ n. b ≤ n) (λ e. grind (arith, nat_tests)) (λ _. cond_both (eqb a 0xf4) 0x8f 0xbf (λ n. b ≤ n) (λ e. grind (arith, nat_tests)) (λ _. s.high)))

-- what a decoded sequence is
abbrev Sound : List ℕ → Decoded → Type 0
Sound bs Empty = Unit {0}
Sound bs (Point c n) = BeginsWith bs c n
Sound bs IllFormed = Unit {0}

-- a scalar value's own bytes, with more behind them
begins : (c : ℕ) (w r : List ℕ) → is_scalar_value c ≡ true → scalar_bytes c ≡ w → BeginsWith (w ++ r) c (length w)
begins c w r h e =
    let own = scalar_has_its_bytes c h ∙ e in
    (h, ap length (sym own), (r, ap (λ x. x ++ r) (sym own)))

sound_one : (a : ℕ) (r : List ℕ) → a ≤ 0x7f → Sound (a ∷ r) (Point a 1)
sound_one a r h = begins a (a ∷ []) r (is_scalar a (omega arith) (λ g l. omega arith)) (one_byte a (omega arith))

sound_two : (a : ℕ) (r : List ℕ) → 0xc2 ≤ a → a ≤ 0xdf → Sound (a ∷ r) (two_bytes a r)
sound_two a [] h k = tt
sound_two a (b ∷ r) h k = cond_both (is_trailing b) _ _ (Sound (a ∷ b ∷ r)) found (λ _. tt)
  where
    found : is_trailing b ≡ true → BeginsWith (a ∷ b ∷ r) (joined (a - 0xc0) b) 2
    found t =
        let p = range_parts 0x80 0xbf b t in
        let c = joined (a - 0xc0) b in
        let x : 0xc0 + c / 64 ≡ a = omega arith in
        let y : trail c ≡ b = omega arith in
        begins c (a ∷ b ∷ []) r (is_scalar c (omega arith) (λ g l. omega arith)) (two_bytes_lem c (omega arith) (omega arith) ∙ rw (x, y) refl)

sound_three : (a : ℕ) (r : List ℕ) → 0xe0 ≤ a → a ≤ 0xef → Sound (a ∷ r) (three_bytes a r)
sound_three a [] h k = tt
sound_three a (b ∷ []) h k = tt
sound_three a (b ∷ c ∷ r) h k = cond_both (is_second a b && is_trailing c) _ _ (Sound (a ∷ b ∷ c ∷ r)) found (λ _. tt)
  where
    found : (is_second a b && is_trailing c) ≡ true → BeginsWith (a ∷ b ∷ c ∷ r) (joined (joined (a - 0xe0) b) c) 3
    found t =
        let p = and_parts (is_second a b) (is_trailing c) t in
        let s = second_bounds a b p.0 in
        let q = range_parts 0x80 0xbf c p.1 in
        let v = joined (joined (a - 0xe0) b) c in
        let low : 0x800 ≤ v = ⊎_elim (λ e. let l = s.after_e0 e in omega arith) (λ n. omega arith) (cases_eq a 0xe0) in
        let gap : 0xd800 ≤ v → v ≤ 0xdfff → ⊥ = λ g l. ⊎_elim (λ e. let m = s.after_ed e in omega arith) (λ n. omega arith) (cases_eq a 0xed) in
        let x : 0xe0 + v / 64 / 64 ≡ a = omega arith in
        let y : trail (v / 64) ≡ b = omega arith in
        let z : trail v ≡ c = omega arith in
        begins v (a ∷ b ∷ c ∷ []) r (is_scalar v (omega arith) gap) (three_bytes_lem v (omega arith) low (omega arith) ∙ rw (x, y, z) refl)

sound_four : (a : ℕ) (r : List ℕ) → 0xf0 ≤ a → a ≤ 0xf4 → Sound (a ∷ r) (four_bytes a r)
sound_four a [] h k = tt
sound_four a (b ∷ []) h k = tt
sound_four a (b ∷ c ∷ []) h k = tt
sound_four a (b ∷ c ∷ d ∷ r) h k = cond_both (is_second a b && (is_trailing c && is_trailing d)) _ _ (Sound (a ∷ b ∷ c ∷ d ∷ r)) found (λ _. tt)
  where
    found : (is_second a b && (is_trailing c && is_trailing d)) ≡ true → BeginsWith (a ∷ b ∷ c ∷ d ∷ r) (joined (joined (joined (a - 0xf0) b) c) d) 4
    found t =
        let p = and_parts (is_second a b) _ t in
        let o = and_parts (is_trailing c) (is_trailing d) p.1 in
        let s = second_bounds a b p.0 in
        let q = range_parts 0x80 0xbf c o.0 in
        let u = range_parts 0x80 0xbf d o.1 in
        let v = joined (joined (joined (a - 0xf0) b) c) d in
        let low : 0x10000 ≤ v = ⊎_elim (λ e. let l = s.after_f0 e in omega arith) (λ n. omega arith) (cases_eq a 0xf0) in
        let high : v ≤ 0x10ffff = ⊎_elim (λ e. let l = s.after_f4 e in omega arith) (λ n. omega arith) (cases_eq a 0xf4) in
        let w : 0xf0 + v / 64 / 64 / 64 ≡ a = omega arith in
        let x : trail (v / 64 / 64) ≡ b = omega arith in
        let y : trail (v / 64) ≡ c = omega arith in
        let z : trail v ≡ d = omega arith in
        begins v (a ∷ b ∷ c ∷ d ∷ []) r (is_scalar v high (λ g l. omega arith)) (four_bytes_lem v (omega arith) (omega arith) low ∙ rw (w, x, y, z) refl)

sound : (bs : List ℕ) → Sound bs (decoded bs)
unfolding decoded
sound [] = tt
sound (a ∷ r) =
    cond_both (leb a 0x7f) _ _ (Sound (a ∷ r)) (λ e. sound_one a r (leb-true a 0x7f e)) (λ _.
    cond_both (within 0xc2 0xdf a) _ _ (Sound (a ∷ r)) (λ e. let p = range_parts 0xc2 0xdf a e in sound_two a r p.0 p.1) (λ _.
    cond_both (within 0xe0 0xef a) _ _ (Sound (a ∷ r)) (λ e. let p = range_parts 0xe0 0xef a e in sound_three a r p.0 p.1) (λ _.
    cond_both (within 0xf0 0xf4 a) _ _ (Sound (a ∷ r)) (λ e. let p = range_parts 0xf0 0xf4 a e in sound_four a r p.0 p.1) (λ _. tt))))

-- what decodes, encodes a scalar value
pub decoded_is_encoding : (bs : List ℕ) (c n : ℕ) → decoded bs ≡ Point c n → BeginsWith bs c n
decoded_is_encoding bs c n e = subst (Sound bs) e (sound bs)

-- a scalar value's bytes decode to it, whatever follows
module _ (c : ℕ) (r : List ℕ) where
  back : {w : List ℕ} → scalar_bytes c ≡ w → decoded (w ++ r) ≡ Point c (length w) → decoded (scalar_bytes c ++ r) ≡ Point c (length (scalar_bytes c))
  back e d = rw e d

  back_two : 0x80 ≤ c → c < 0x800 → decoded ((0xc0 + c / 64) ∷ trail c ∷ r) ≡ Point c 2
  back_two h k =
      let a = 0xc0 + c / 64 in
      let v : joined (a - 0xc0) (trail c) ≡ c = omega arith in
      decodes_two a (trail c ∷ r) (omega arith) (omega arith)
      ∙ cond-true (is_trailing (trail c)) _ _ (in_range 0x80 0xbf (trail c) (omega arith) (omega arith)) ∙ ap (λ x. Point x 2) v

  back_three : 0x800 ≤ c → c < 0x10000 → (0xd7ff < c → c < 0xe000 → ⊥) → decoded ((0xe0 + c / 64 / 64) ∷ trail (c / 64) ∷ trail c ∷ r) ≡ Point c 3
  back_three h k s =
      let a = 0xe0 + c / 64 / 64 in
      let b = trail (c / 64) in
      let v : joined (joined (a - 0xe0) b) (trail c) ≡ c = omega arith in
      let low : a ≡ 0xed → b ≤ 0x9f = λ e. ⊎_elim (λ l. omega arith) (λ l. absurd (s (omega arith) (omega arith))) (cases_lt c 0xd800) in
      let ok = is_second_lem a b record { low = omega arith; high = omega arith; after_e0 = λ e. omega arith; after_ed = low; after_f0 = λ e. omega arith; after_f4 = λ e. omega arith } in
      decodes_three a (b ∷ trail c ∷ r) (omega arith) (omega arith)
      ∙ cond-true _ _ _ (and_from _ _ ok (in_range 0x80 0xbf (trail c) (omega arith) (omega arith))) ∙ ap (λ x. Point x 3) v

  back_four : 0x10000 ≤ c → c ≤ 0x10ffff → decoded ((0xf0 + c / 64 / 64 / 64) ∷ trail (c / 64 / 64) ∷ trail (c / 64) ∷ trail c ∷ r) ≡ Point c 4
  back_four h k =
      let a = 0xf0 + c / 64 / 64 / 64 in
      let b = trail (c / 64 / 64) in
      let d = trail (c / 64) in
      let v : joined (joined (joined (a - 0xf0) b) d) (trail c) ≡ c = omega arith in
      let ok = is_second_lem a b record { low = omega arith; high = omega arith; after_e0 = λ e. omega arith; after_ed = λ e. omega arith; after_f0 = λ e. omega arith; after_f4 = λ e. omega arith } in
      decodes_four a (b ∷ d ∷ trail c ∷ r) (omega arith) (omega arith)
      ∙ cond-true _ _ _ (and_from _ _ ok (and_from _ _ (in_range 0x80 0xbf d (omega arith) (omega arith)) (in_range 0x80 0xbf (trail c) (omega arith) (omega arith))))
      ∙ ap (λ x. Point x 4) v

  back_by_range : (c ≤ 0x10ffff) → (0xd7ff < c → c < 0xe000 → ⊥) → decoded (scalar_bytes c ++ r) ≡ Point c (length (scalar_bytes c))
  back_by_range h s =
      ⊎_elim (λ k. back (one_byte c k) (decodes_one c r (omega arith))) (λ j.
      ⊎_elim (λ k. back (two_bytes_lem c j k) (back_two j k)) (λ l.
      ⊎_elim (λ k. back (three_bytes_lem c j l k) (back_three l k s)) (λ m. back (four_bytes_lem c j l m) (back_four m h))
      (cases_lt c 0x10000)) (cases_lt c 0x800)) (cases_lt c 0x80)

  pub encoding_decodes : is_scalar_value c ≡ true → decoded (utf8 c ++ r) ≡ Point c (length (utf8 c))
  encoding_decodes h = let s = scalar_range c h in rw (scalar_has_its_bytes c h) (back_by_range s.0 s.1)

pub well_formed_is_encoded : WellFormedIsEncoded
well_formed_is_encoded = record { only_encodings = decoded_is_encoding; every_encoding = encoding_decodes }
