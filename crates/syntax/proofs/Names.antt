-- Spelled names read back: identifiers, functions, at-keywords and hashes.
use Rattle.std.proofs.Common.{◌≡◌, ℕ, ◌<◌, Bool, true, false, ◌&&◌, eqb, ◌⊎◌, List, [], ◌∷◌, ◌++◌, length, get_or, sym, refl, ap, ◌∙◌, subst, inl, inr, append_assoc, arith}
use Rattle.std.proofs.lemmas.Bool.Decides.{nat_tests}
use Rattle.std.proofs.lemmas.Bool.{and_left, and_right, both_ways, eqb-true, or_from, or_parts}
use Rattle.codepoint.specs.Classes.{is_digit, is_ident, is_ident_start, is_letter, is_whitespace}
use Rattle.codepoint.specs.Starts.{is_valid_escape, starts_ident}
use Rattle.syntax.specs.declared.kind.Kind.TheVariants.{AtKeyword, Function, Hash, Ident}
use Rattle.syntax.specs.declared.place.Treatment.{Treatment}
use Rattle.syntax.specs.Tokens.{texted, tok}
use Rattle.syntax.specs.Rules.{left}
use Rattle.syntax.specs.Escapes.{in_ident}
use Rattle.syntax.specs.Bodies.{in_extra_whitespace}
use Rattle.syntax.specs.Reading.{branch, end_name, found, found_by, ident_like_at, is_url, next, token_of, told, url_or_function}
use Rattle.syntax.specs.Reading.Next.{token}
use Rattle.syntax.specs.Places.{escaped, escaped_from, identifier, is_control, loose, spelled_in, treatment, unit_behind}
use Rattle.syntax.specs.Neighbours.{is_dashes}
use Rattle.syntax.proofs.Formed.{Loose, Text}
use Rattle.syntax.proofs.Formed.Loose.{dash, dash_digit, digit}
use Rattle.syntax.proofs.Takes.{Stops, Takes, stops_at, takes_all, takes_step}
use Rattle.syntax.proofs.EscapeRules.{ident_escape, ident_stays, ident_stops}
use Rattle.syntax.proofs.Hexes.{Escaping}
use Rattle.syntax.proofs.Spelt.{KeptIdent, KeptUnit, ident_before, ident_spelt, inner, loose_before, loose_spelt, spelt_opens, takes_text, unit_spelt}
use Rattle.syntax.proofs.Openings.{NameLike, Starts, ident_opens}
use Rattle.syntax.proofs.Branches.{is_name_first, name_branch, name_first, name_hash, name_starts, next_found, opens_cdc, told_apart}

ident_escaping : Escaping in_ident
unfolding is_ident is_ident_start is_letter is_digit is_valid_escape
ident_escaping c s h = ident_escape 92 (c ∷ s) refl (grind (arith, nat_tests))

ident_takes : (c : ℕ) → is_ident c ≡ true → Takes in_ident (c ∷ []) (c ∷ [])
ident_takes c h = takes_step in_ident c [] (c ∷ []) (λ r. ident_stays c r h)

ident_taken : (t : List ℕ) → Text t → Takes in_ident (inner identifier t) t
ident_taken t h = takes_text in_ident ident_escaping (KeptIdent t) (treatment identifier t) (ident_spelt t) (λ i c _ _ k. ident_takes c k.ident) 0 t h

loose_taken : (t : List ℕ) → Text t → Takes in_ident (inner loose t) t
loose_taken t h = takes_text in_ident ident_escaping (λ i c. is_ident c ≡ true) (treatment loose t) (loose_spelt t) (λ i c _ _ k. ident_takes c k) 0 t h

pub unit_taken : (n t : List ℕ) → Text t → Takes in_ident (inner (unit_behind n) t) t
unit_taken n t h = takes_text in_ident ident_escaping (KeptUnit n t) (treatment (unit_behind n) t) (unit_spelt n t) (λ i c _ _ k. ident_takes c k.kept.ident) 0 t h

-- neither an ident code point nor an escape comes first
pub record Plain (r : List ℕ) : Type 0 where
  pub no_ident : is_ident (get_or r 0 0) ≡ false
  pub no_escape : is_valid_escape (get_or r 0 0) (get_or r 1 0) ≡ false

pub plain_stops : {r : List ℕ} → Plain r → Stops in_ident r
unfolding in_ident
plain_stops {r} h = go r h
  where
    go : (r : List ℕ) → Plain r → Stops in_ident r
    go [] h = stops_at in_ident [] refl
    go (c ∷ r) h = stops_at in_ident (c ∷ r) (ident_stops c r h.no_ident h.no_escape)

-- then nor is it one behind a `-`
pub plain_dash : {r : List ℕ} → Plain r → starts_ident 45 (get_or r 0 0) (get_or r 1 0) ≡ false
unfolding starts_ident is_ident is_valid_escape is_ident_start is_letter
plain_dash {r} h =
    let p = or_parts _ (eqb (get_or r 0 0) 45) h.no_ident in
    let q = or_parts _ (is_digit (get_or r 0 0)) p.0 in
    or_from _ _ (or_from _ _ q.0 p.1) h.no_escape

pub plain_starts : {r : List ℕ} → Plain r → Starts false r
unfolding starts_ident is_ident
plain_starts {r} h =
    let p = or_parts _ (eqb (get_or r 0 0) 45) h.no_ident in
    let q = or_parts _ (is_digit (get_or r 0 0)) p.0 in
    or_from _ _ (or_from _ _ q.0 h.no_escape) (and_left _ _ p.1)

-- what begins as a name, and not as CDC, is read as a name
name_next : (s : List ℕ) → NameLike s → opens_cdc s ≡ false → next s ≡ told (ident_like_at s)
unfolding found_by is_name_first is_ident_start is_letter
name_next [] h k = elim h [ ]
name_next (a ∷ s) h k = next_found a s (and_left _ _ (name_first h 47 refl)) ∙ ap (λ w. told (found_by w a s)) (name_branch h k)

-- only the text `--` before a `>` is spelled as CDC
not_gt : (c : ℕ) → is_ident c ≡ true → eqb c 62 ≡ false
unfolding is_ident is_ident_start is_letter is_digit
not_gt c h = told_apart is_ident c 62 h refl

module _ (text r : List ℕ) where
  how : ℕ → ℕ → Treatment
  how = treatment identifier text

  third_no_gt : (d : ℕ) (t : List ℕ) → (is_dashes (45 ∷ d ∷ t) && eqb (get_or r 0 0) 62) ≡ false → (eqb d 45 && eqb (get_or (escaped_from (how) 2 t ++ r) 0 0) 62) ≡ false
  unfolding escaped_from how
  third_no_gt d [] e = e
  third_no_gt d (x ∷ t) e =
      and_right (eqb d 45) _ (rw append_assoc (spelt_opens (λ s. eqb (get_or s 0 0) 62 ≡ false) _ (λ _ _ _. refl) (λ k. not_gt x k.ident) (ident_spelt text 2 x)))

  second_no_cdc : (d : ℕ) (t : List ℕ) → (is_dashes (45 ∷ d ∷ t) && eqb (get_or r 0 0) 62) ≡ false → opens_cdc (45 ∷ (escaped_from how 1 (d ∷ t) ++ r)) ≡ false
  unfolding escaped_from how opens_cdc
  second_no_cdc d t e =
      rw append_assoc (spelt_opens (λ s. (eqb (get_or s 0 0) 45 && eqb (get_or s 1 0) 62) ≡ false) _ (λ _ _ _. refl) (λ _. third_no_gt d t e) (ident_spelt text 1 d))

first_no_cdc : (c : ℕ) (t r : List ℕ) → (is_dashes (c ∷ t) && eqb (get_or r 0 0) 62) ≡ false → (b : Bool) → eqb c 45 ≡ b → KeptIdent (c ∷ t) 0 c
    → opens_cdc (c ∷ (escaped_from (treatment identifier (c ∷ t)) 1 t ++ r)) ≡ false
unfolding opens_cdc how
first_no_cdc c [] r e true z k = absurd (both_ways true (rw z at k.no_lone_hyphen) refl)
first_no_cdc c (d ∷ t) r e true z k =
    let y = eqb-true c 45 z in
    let P : ℕ → Type 0 = λ x. (is_dashes (x ∷ d ∷ t) && eqb (get_or r 0 0) 62) ≡ false → opens_cdc (x ∷ (escaped_from (treatment identifier (x ∷ d ∷ t)) 1 (d ∷ t) ++ r)) ≡ false in
    subst P (sym y) (second_no_cdc (45 ∷ d ∷ t) r d t) e
first_no_cdc c t r e false z k = rw z refl

no_cdc : (t r : List ℕ) → (is_dashes t && eqb (get_or r 0 0) 62) ≡ false → 0 < length t → opens_cdc (inner identifier t ++ r) ≡ false
unfolding escaped_from opens_cdc
no_cdc [] r e l = absurd (omega arith)
no_cdc (c ∷ t) r e l = rw append_assoc (spelt_opens (λ s. opens_cdc s ≡ false) _ (λ _ _ _. refl) (first_no_cdc c t r e (eqb c 45) refl) (ident_spelt (c ∷ t) 0 c))

-- an identifier
ident_ends : (t r : List ℕ) → eqb (get_or r 0 0) 40 ≡ false → end_name t r ≡ found Ident 0 t r
unfolding end_name
ident_ends t r p = rw (p, end_name) refl

module _ (t : List ℕ) (h : Text t) (l : 0 < length t) where
  as_name : (r : List ℕ) → Stops in_ident r → (is_dashes t && eqb (get_or r 0 0) 62) ≡ false → next (spelled_in identifier t ++ r) ≡ told (end_name t r)
  unfolding ident_like_at
  as_name r s k =
      let b = takes_all in_ident r (ident_taken t h) s in
      rw (ident_before t r) (name_next _ (ident_opens t r l) (no_cdc t r k l) ∙ (λ i. told (end_name (b.0 i) (b.1 i))))

  pub ident_reads : (r : List ℕ) → Plain r → eqb (get_or r 0 0) 40 ≡ false → (is_dashes t && eqb (get_or r 0 0) 62) ≡ false
      → next (spelled_in identifier t ++ r) ≡ token (texted Ident t) r
  unfolding token_of
  ident_reads r s p k = as_name r (plain_stops s) k ∙ ap told (ident_ends t r p)

  -- a function
  as_function : (r : List ℕ) → next ((spelled_in identifier t ++ 40 ∷ []) ++ r) ≡ told (end_name t (40 ∷ r))
  unfolding is_ident is_ident_start is_letter is_digit is_valid_escape
  as_function r = rw append_assoc (as_name (40 ∷ r) (plain_stops (record { no_ident = refl; no_escape = refl })) (and_right (is_dashes t) _ refl))

  pub function_reads : (r : List ℕ) → is_url t ≡ false → next ((spelled_in identifier t ++ 40 ∷ []) ++ r) ≡ token (texted Function t) r
  unfolding end_name token_of
  function_reads r u = as_function r ∙ rw (u, end_name) refl

  -- a function named url, before a quote, or a space and a quote
  pub url_function_reads : (r u : List ℕ) → is_url t ≡ true → (r ≡ 34 ∷ u) ⊎ (r ≡ 32 ∷ 34 ∷ u)
      → next ((spelled_in identifier t ++ 40 ∷ []) ++ r) ≡ token (texted Function t) r
  unfolding end_name url_or_function left in_extra_whitespace is_whitespace token_of
  url_function_reads r u e (inl q) = as_function r ∙ rw (e, end_name, q) refl
  url_function_reads r u e (inr q) = as_function r ∙ rw (e, end_name, q) refl

  -- an at-keyword
  pub at_reads : (r : List ℕ) → Plain r → next (64 ∷ (spelled_in identifier t ++ r)) ≡ token (texted AtKeyword t) r
  unfolding branch found_by is_whitespace token_of
  at_reads r p =
      let b = takes_all in_ident r (ident_taken t h) (plain_stops p) in
      rw (ident_before t r) (next_found 64 _ refl ∙ rw (name_starts (ident_opens t r l)) (λ i. told (found AtKeyword 0 (b.0 i) (b.1 i))))

  -- a hash
  pub hash_reads : (r : List ℕ) → Plain r → next (35 ∷ (spelled_in identifier t ++ r)) ≡ token (tok Hash 1 t []) r
  unfolding branch found_by is_whitespace token_of
  hash_reads r p =
      let b = takes_all in_ident r (ident_taken t h) (plain_stops p) in
      let n = ident_opens t r l in
      rw (ident_before t r) (next_found 35 _ refl ∙ rw (name_hash n, name_starts n) (λ i. told (found Hash 1 (b.0 i) (b.1 i))))

-- a hash whose text starts no identifier
digit_stays : (text : List ℕ) (i c : ℕ) → is_digit c ≡ true → (escaped (treatment loose text i c) c ≡ c ∷ []) × (is_ident c ≡ true) × (is_ident_start c ≡ false)
unfolding treatment loose is_control is_ident is_ident_start is_letter is_digit
digit_stays text i c h = let d = is c h in (rw (no_control c h, d) refl, d, no_start c h)
  where
    is : (c : ℕ) → is_digit c ≡ true → is_ident c ≡ true
    is c h = grind (arith, nat_tests)

    no_control : (c : ℕ) → is_digit c ≡ true → is_control c ≡ false
    no_control c h = grind (arith, nat_tests)

    no_start : (c : ℕ) → is_digit c ≡ true → is_ident_start c ≡ false
    no_start c h = grind (arith, nat_tests)

dash_stays : (text : List ℕ) (i : ℕ) → escaped (treatment loose text i 45) 45 ≡ 45 ∷ []
unfolding treatment loose is_control is_ident is_ident_start is_letter is_digit
dash_stays text i = refl

loose_opens : (t r : List ℕ) → Loose t → Plain r → (is_ident (get_or (inner loose t ++ r) 0 0) ≡ true) × Starts false (inner loose t ++ r)
unfolding escaped_from starts_ident is_ident is_ident_start is_letter is_digit is_valid_escape
loose_opens _ r (digit {c} {t} k) p =
    let s = digit_stays (c ∷ t) 0 c k in
    rw s.0 (s.1, rw (s.2, told_apart is_digit c 92 k refl, told_apart is_digit c 45 k refl) refl)
loose_opens _ r dash p = rw (dash_stays (45 ∷ []) 0) (refl, plain_dash p)
loose_opens _ r (dash_digit {c} {t} k) p =
    let s = digit_stays (45 ∷ c ∷ t) 1 c k in
    rw (dash_stays (45 ∷ c ∷ t) 0, s.0) (refl, rw (s.2, told_apart is_digit c 92 k refl, told_apart is_digit c 45 k refl) refl)

pub loose_hash_reads : (t r : List ℕ) → Text t → Loose t → Plain r → next (35 ∷ (spelled_in loose t ++ r)) ≡ token (texted Hash t) r
unfolding branch found_by is_whitespace token_of
loose_hash_reads t r h l p =
    let b = takes_all in_ident r (loose_taken t h) (plain_stops p) in
    let o = loose_opens t r l p in
    rw (loose_before t r) (next_found 35 _ refl ∙ rw (o.0, o.1) (λ i. told (found Hash 0 (b.0 i) (b.1 i))))
