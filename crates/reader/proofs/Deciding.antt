-- What the first code points decide, by the tests that the code makes.
use Rattle.std.proofs.Common.{◌≡◌, ℕ, Bool, true, false, cond, List, [], ◌∷◌, get_or, drop, sym, refl, ap, ◌∙◌, subst}
use Rattle.std.proofs.lemmas.Bool.{both_ways, ne_eqb}
use Rattle.codepoint.specs.Classes.{is_ident_start, is_letter, is_digit, is_whitespace}
use Rattle.codepoint.specs.Starts.{starts_ident, starts_number, is_valid_escape}
use Rattle.syntax.specs.declared.kind.Kind.TheVariants.{Cdc, Cdo, Delim, Whitespace}
use Rattle.syntax.specs.Kinds.{same_kind}
use Rattle.syntax.specs.Points.{less_than}
use Rattle.syntax.specs.Bodies.{is_quote, past_whitespace}
use Rattle.syntax.specs.Reading.{Branch, Found, branch, found, found_at, found_bare, found_by, ident_comes, ident_like_at, numeric_at, sign_at, sign_kind, string_at}
use Rattle.syntax.specs.Reading.Branch.{whitespace, quote, hash, at, number, cdc, cdo, name, sign}
use Rattle.lookahead.specs.declared.ahead.Peek.{Peek}
use Rattle.lookahead.specs.Ahead.{Ahead, Left, codes, past, peeked}
use Rattle.scan.specs.declared.cells.Cells.{Cells}
use Rattle.scan.proofs.States.{codes_past, left_past, left_said, left_then}
use Rattle.scan.proofs.Arms.{first_is, second_is, third_is}
use Rattle.reader.specs.declared.read.Read.{Read}
use Rattle.reader.specs.Reads.{Reads, at_found, bare_read, found_from, hash_found, is_comment_closing, is_comment_opening, less_found, opens_hash, sign_read}
use Rattle.reader.proofs.Textual.{said, read_behind, bare_reads}

-- `@` and `<`
branch_at : (b c d : ℕ) → branch 64 b c d ≡ cond (starts_ident b c d) at sign
unfolding branch is_whitespace starts_number starts_ident is_digit is_valid_escape is_ident_start is_letter
branch_at b c d = refl

branch_less : (b c d : ℕ) → branch 60 b c d ≡ cond (is_comment_opening b c d) cdo sign
unfolding branch is_whitespace starts_number starts_ident is_digit is_valid_escape is_ident_start is_letter is_comment_opening
branch_less b c d = refl

-- the others, test by test
module _ (a b c d : ℕ) where
  branch_whitespace : is_whitespace a ≡ true → branch a b c d ≡ whitespace
  unfolding branch
  branch_whitespace h = rw h refl

  module _ (nw : is_whitespace a ≡ false) where
    branch_quote : is_quote a ≡ true → branch a b c d ≡ quote
    unfolding branch
    branch_quote h = rw (nw, h) refl

    module _ (nq : is_quote a ≡ false) where
      branch_hash : opens_hash a b c ≡ true → branch a b c d ≡ hash
      unfolding branch opens_hash
      branch_hash h = rw (nw, nq, h) refl

      module _ (nh : opens_hash a b c ≡ false) (na : a ≡ 64 → ⊥) where
        branch_number : starts_number a b c ≡ true → branch a b c d ≡ number
        unfolding branch opens_hash
        branch_number h = rw (nw, nq, nh, ne_eqb a 64 na, h) refl

        module _ (nn : starts_number a b c ≡ false) where
          branch_cdc : is_comment_closing a b c ≡ true → branch a b c d ≡ cdc
          unfolding branch opens_hash is_comment_closing
          branch_cdc h = rw (nw, nq, nh, ne_eqb a 64 na, nn, h) refl

          module _ (nc : is_comment_closing a b c ≡ false) (nl : a ≡ 60 → ⊥) where
            branch_name : starts_ident a b c ≡ true → branch a b c d ≡ name
            unfolding branch opens_hash is_comment_closing
            branch_name h = rw (nw, nq, nh, ne_eqb a 64 na, nn, nc, ne_eqb a 60 nl, h) refl

            branch_sign : starts_ident a b c ≡ false → branch a b c d ≡ sign
            unfolding branch opens_hash is_comment_closing
            branch_sign h = rw (nw, nq, nh, ne_eqb a 64 na, nn, nc, ne_eqb a 60 nl, h) refl

-- one code point on
behind_one : (t : List ℕ) → (get_or (drop 1 t) 0 0 ≡ get_or t 1 0) × (get_or (drop 1 t) 1 0 ≡ get_or t 2 0)
behind_one [] = (refl, refl)
behind_one (c ∷ t) = (refl, refl)

-- neither a number nor an identifier starts at the end
no_number : starts_number 0 0 0 ≡ false
unfolding starts_number is_digit
no_number = refl

no_ident : starts_ident 0 0 0 ≡ false
unfolding starts_ident is_ident_start is_letter is_valid_escape
no_ident = refl

number_there : (t : List ℕ) → starts_number (get_or t 0 0) (get_or t 1 0) (get_or t 2 0) ≡ true → get_or t 0 0 ∷ drop 1 t ≡ t
number_there [] h = absurd (both_ways _ no_number h)
number_there (c ∷ t) h = refl

ident_there : (t : List ℕ) → starts_ident (get_or t 0 0) (get_or t 1 0) (get_or t 2 0) ≡ true → get_or t 0 0 ∷ drop 1 t ≡ t
ident_there [] h = absurd (both_ways _ no_ident h)
ident_there (c ∷ t) h = refl

-- by the branch, what is found
at_is : (s : List ℕ) → found_at 64 s ≡ at_found s
unfolding found_by sign_at
at_is s = ap (λ x. found_by x 64 s) (branch_at _ _ _) ∙ by (ident_comes s)
  where
    by : (b : Bool) → found_by (cond b at sign) 64 s ≡ cond b (found_by at 64 s) (found Delim 64 [] s)
    by true = refl
    by false = refl

less_is : (s : List ℕ) → found_at 60 s ≡ less_found s
unfolding found_by sign_at
less_is s = ap (λ x. found_by x 60 s) (branch_less _ _ _) ∙ by (is_comment_opening (get_or s 0 0) (get_or s 1 0) (get_or s 2 0))
  where
    by : (b : Bool) → found_by (cond b cdo sign) 60 s ≡ cond b (found_bare Cdo (drop 3 s)) (found Delim less_than [] s)
    by true = refl
    by false = refl

-- behind `<`
module _ {s sl : Ahead} {w : Peek} (l : sl ≡ s) (seen : w ≡ peeked s.list) where
  opening_is : (b : Bool) → is_comment_opening w.first w.second w.third ≡ b → less_found (codes s) ≡ cond b (found_bare Cdo (drop 3 (codes s))) (found Delim less_than [] (codes s))
  opening_is b h = ap (λ x. cond x (found_bare Cdo (drop 3 (codes s))) (found Delim less_than [] (codes s))) (sym (ap (λ (t : Peek). is_comment_opening t.first t.second t.third) seen) ∙ h)

  pub less_cdo : {r : Read} {s1 : Ahead} → is_comment_opening w.first w.second w.third ≡ true → s1 ≡ past 3 sl → r ≡ bare_read Cdo 0 → (c0 : Cells) → Reads c0 s (less_found (codes s)) c0 r s1
  less_cdo {r = r} {s1 = s1} h e q c0 = said (opening_is true h) (bare_reads Cdo 0 (left_past 3 s s1 (e ∙ ap (past 3) l)) r q)

-- the whole, by what is seen
module _ {s sl : Ahead} {w : Peek} (l : sl ≡ s) (seen : w ≡ peeked s.list) where
  found_by_lem : (x : Branch) → branch w.first w.second w.third (get_or (drop 1 (codes s)) 2 0) ≡ x → found_from (codes s) ≡ found_by x (get_or (codes s) 0 0) (drop 1 (codes s))
  found_by_lem x h =
      let p = behind_one (codes s) in
      ap (λ v. found_by v (get_or (codes s) 0 0) (drop 1 (codes s))) ((λ i. branch (sym (first_is s.list w seen) i) ((p.0 ∙ sym (second_is s.list w seen)) i) ((p.1 ∙ sym (third_is s.list w seen)) i) (get_or (drop 1 (codes s)) 2 0)) ∙ h)

  behind_first : (s1 : Ahead) → s1 ≡ past 1 sl → codes s1 ≡ drop 1 (codes s)
  behind_first s1 e = ap codes (e ∙ ap (past 1) l) ∙ codes_past 1 s

  -- what is found behind the first code point is read there
  on_from : {c0 c1 : Cells} {r : Read} {s1 s2 : Ahead} {g : Found} → s1 ≡ past 1 sl → found_from (codes s) ≡ g → Reads c0 s1 g c1 r s2 → Reads c0 s (found_from (codes s)) c1 r s2
  on_from e q a = said q (read_behind 1 (e ∙ ap (past 1) l) a)

  pub token_whitespace : {c0 : Cells} {r : Read} {s1 s2 : Ahead} → is_whitespace w.first ≡ true → s1 ≡ past 1 sl → Left s1 (past_whitespace (codes s1)) s2 → r ≡ bare_read Whitespace 0 → Reads c0 s (found_from (codes s)) c0 r s2
  unfolding found_by
  token_whitespace {r = r} {s1 = s1} h e k q =
      said (found_by_lem whitespace (branch_whitespace _ _ _ _ h)) (bare_reads Whitespace 0 (left_said (ap past_whitespace (behind_first s1 e)) (left_then (left_past 1 s s1 (e ∙ ap (past 1) l)) k)) r q)

  pub token_quote : {c0 c1 : Cells} {r : Read} {s1 s2 : Ahead} → is_whitespace w.first ≡ false → is_quote w.first ≡ true → s1 ≡ past 1 sl → Reads c0 s1 (string_at w.first (codes s1)) c1 r s2 → Reads c0 s (found_from (codes s)) c1 r s2
  unfolding found_by
  token_quote {s1 = s1} nw h e a = on_from e (found_by_lem quote (branch_quote _ _ _ _ nw h) ∙ (λ i. string_at (sym (first_is s.list w seen) i) (sym (behind_first s1 e) i))) a

  pub token_hash : {c0 c1 : Cells} {r : Read} {s1 s2 : Ahead} → is_whitespace w.first ≡ false → is_quote w.first ≡ false → opens_hash w.first w.second w.third ≡ true → s1 ≡ past 1 sl → Reads c0 s1 (hash_found (codes s1)) c1 r s2 → Reads c0 s (found_from (codes s)) c1 r s2
  unfolding found_by
  token_hash {s1 = s1} nw nq h e a = on_from e (found_by_lem hash (branch_hash _ _ _ _ nw nq h) ∙ ap hash_found (sym (behind_first s1 e))) a

  pub token_at : {c0 c1 : Cells} {r : Read} {s1 s2 : Ahead} → w.first ≡ 64 → s1 ≡ past 1 sl → Reads c0 s1 (at_found (codes s1)) c1 r s2 → Reads c0 s (found_from (codes s)) c1 r s2
  token_at {s1 = s1} z e a = on_from e (ap (λ x. found_at x (drop 1 (codes s))) (sym (first_is s.list w seen) ∙ z) ∙ at_is (drop 1 (codes s)) ∙ ap at_found (sym (behind_first s1 e))) a

  pub token_less : {c0 : Cells} {r : Read} {s1 s2 : Ahead} → w.first ≡ 60 → s1 ≡ past 1 sl → ((c : Cells) → Reads c s1 (less_found (codes s1)) c r s2) → Reads c0 s (found_from (codes s)) c0 r s2
  token_less {c0 = c0} {s1 = s1} z e a = on_from e (ap (λ x. found_at x (drop 1 (codes s))) (sym (first_is s.list w seen) ∙ z) ∙ less_is (drop 1 (codes s)) ∙ ap less_found (sym (behind_first s1 e))) (a c0)

  pub token_number : {c0 c1 : Cells} {r : Read} {s2 : Ahead} → is_whitespace w.first ≡ false → is_quote w.first ≡ false → opens_hash w.first w.second w.third ≡ false → (w.first ≡ 64 → ⊥) → starts_number w.first w.second w.third ≡ true → Reads c0 sl (numeric_at (codes sl)) c1 r s2 → Reads c0 s (found_from (codes s)) c1 r s2
  unfolding found_by
  token_number {c0 = c0} {c1 = c1} {r = r} {s2 = s2} nw nq nh na h a =
      said (found_by_lem number (branch_number _ _ _ _ nw nq nh na h) ∙ ap numeric_at (number_there (codes s) (sym (ap (λ (t : Peek). starts_number t.first t.second t.third) seen) ∙ h)))
      (subst (λ x. Reads c0 x (numeric_at (codes x)) c1 r s2) l a)

  pub token_cdc : {c0 : Cells} {r : Read} {s1 : Ahead} → is_whitespace w.first ≡ false → is_quote w.first ≡ false → opens_hash w.first w.second w.third ≡ false → (w.first ≡ 64 → ⊥) → starts_number w.first w.second w.third ≡ false → is_comment_closing w.first w.second w.third ≡ true → s1 ≡ past 3 sl → r ≡ bare_read Cdc 0 → Reads c0 s (found_from (codes s)) c0 r s1
  unfolding found_by
  token_cdc {r = r} {s1 = s1} nw nq nh na nn h e q =
      said (found_by_lem cdc (branch_cdc _ _ _ _ nw nq nh na nn h)) (bare_reads Cdc 0 (left_said (three (codes s)) (left_past 3 s s1 (e ∙ ap (past 3) l))) r q)
    where
      three : (t : List ℕ) → drop 3 t ≡ drop 2 (drop 1 t)
      three [] = refl
      three (c ∷ t) = refl

  pub token_name : {c0 c1 : Cells} {r : Read} {s2 : Ahead} → is_whitespace w.first ≡ false → is_quote w.first ≡ false → opens_hash w.first w.second w.third ≡ false → (w.first ≡ 64 → ⊥) → starts_number w.first w.second w.third ≡ false → is_comment_closing w.first w.second w.third ≡ false → (w.first ≡ 60 → ⊥) → starts_ident w.first w.second w.third ≡ true → Reads c0 sl (ident_like_at (codes sl)) c1 r s2 → Reads c0 s (found_from (codes s)) c1 r s2
  unfolding found_by
  token_name {c0 = c0} {c1 = c1} {r = r} {s2 = s2} nw nq nh na nn nc nl h a =
      said (found_by_lem name (branch_name _ _ _ _ nw nq nh na nn nc nl h) ∙ ap ident_like_at (ident_there (codes s) (sym (ap (λ (t : Peek). starts_ident t.first t.second t.third) seen) ∙ h)))
      (subst (λ x. Reads c0 x (ident_like_at (codes x)) c1 r s2) l a)

  pub token_sign : {c0 : Cells} {r : Read} {s1 : Ahead} → is_whitespace w.first ≡ false → is_quote w.first ≡ false → opens_hash w.first w.second w.third ≡ false → (w.first ≡ 64 → ⊥) → starts_number w.first w.second w.third ≡ false → is_comment_closing w.first w.second w.third ≡ false → (w.first ≡ 60 → ⊥) → starts_ident w.first w.second w.third ≡ false → s1 ≡ past 1 sl → r ≡ sign_read w.first → Reads c0 s (found_from (codes s)) c0 r s1
  unfolding found_by sign_at
  token_sign {c0 = c0} {r = r} {s1 = s1} nw nq nh na nn nc nl h e q =
      let rest = drop 1 (codes s) in
      said (found_by_lem sign (branch_sign _ _ _ _ nw nq nh na nn nc nl h) ∙ ap (λ x. sign_at x rest) (sym (first_is s.list w seen)))
      (by (same_kind (sign_kind w.first) Delim) q)
    where
      by : (b : Bool) → r ≡ cond b (bare_read Delim w.first) (bare_read (sign_kind w.first) 0) → Reads c0 s (elim b [ true ↦ found Delim w.first [] (drop 1 (codes s)) | false ↦ found_bare (sign_kind w.first) (drop 1 (codes s)) ]) c0 r s1
      by true k = bare_reads Delim w.first (left_past 1 s s1 (e ∙ ap (past 1) l)) r k
      by false k = bare_reads (sign_kind w.first) 0 (left_past 1 s s1 (e ∙ ap (past 1) l)) r k
