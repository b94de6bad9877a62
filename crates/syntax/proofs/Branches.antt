-- Which branch the first code points decide, where a name or a number begins.
use Rattle.std.proofs.Common.{◌≡◌, ℕ, Bool, true, false, ◌&&◌, ◌||◌, eqb, List, ◌∷◌, get_or, sym, refl, ap, ◌∙◌, arith}
use Rattle.std.proofs.lemmas.Bool.Decides.{nat_tests}
use Rattle.std.proofs.lemmas.Bool.{and_from, both_ways, ne_eqb, or_left, or_right}
use Rattle.std.proofs.Math.Bool.{and-false}
use Rattle.codepoint.specs.Classes.{is_digit, is_ident, is_ident_start, is_letter, is_whitespace}
use Rattle.codepoint.specs.Starts.{is_valid_escape, starts_ident, starts_number}
use Rattle.syntax.specs.Bodies.{in_comments}
use Rattle.syntax.specs.Numbers.{is_sign}
use Rattle.syntax.specs.Reading.{branch, found_at, next, next_at, told}
use Rattle.syntax.specs.Reading.Branch.{name, number}
use Rattle.syntax.proofs.Takes.{stops_at}
use Rattle.syntax.proofs.Openings.{Counts, NameLike, NumberLike, Starts, escape_any}
use Rattle.syntax.proofs.Openings.NameLike.{dash_escape, dash_start, dashes, escaped_start, start}
use Rattle.syntax.proofs.Openings.NumberLike.{digit_first, dot_digit, sign_digit, sign_dot}

-- no test holds of two code points of which one passes and one does not
pub told_apart : (p : ℕ → Bool) (a k : ℕ) → p a ≡ true → p k ≡ false → eqb a k ≡ false
told_apart p a k h e = ne_eqb a k (λ q. both_ways _ e (ap p (sym q) ∙ h))

-- an ident-start code point is no digit
start_no_digit : (a : ℕ) → is_ident_start a ≡ true → is_digit a ≡ false
unfolding is_ident_start is_letter is_digit
start_no_digit a h = grind (arith, nat_tests)

-- the first code point of a name, and of a number
unfoldable pub is_name_first : ℕ → Bool
is_name_first a = is_ident_start a || eqb a 92 || eqb a 45

unfoldable pub is_number_first : ℕ → Bool
is_number_first a = is_digit a || eqb a 46 || is_sign a

module _ {s : List ℕ} (h : NameLike s) where
  name_opens : is_name_first (get_or s 0 0) ≡ true
  unfolding is_name_first is_ident_start is_letter
  name_opens = go h
    where
      go : {s : List ℕ} → NameLike s → is_name_first (get_or s 0 0) ≡ true
      go (start {c} k) = or_left _ (eqb c 45) (or_left _ (eqb c 92) k)
      go (escaped_start k) = refl
      go (dash_start k) = refl
      go (dash_escape k) = refl
      go dashes = refl

  pub name_first : (k : ℕ) → is_name_first k ≡ false → eqb (get_or s 0 0) k ≡ false
  name_first k e = told_apart is_name_first _ k name_opens e

  pub name_no_whitespace : is_whitespace (get_or s 0 0) ≡ false
  unfolding is_whitespace is_name_first is_ident_start is_letter
  name_no_whitespace = rw (name_first 10 refl, name_first 9 refl, name_first 32 refl) refl

pub name_starts : {s : List ℕ} → NameLike s → Starts true s
unfolding starts_ident is_valid_escape is_ident_start is_letter
name_starts (start {c} k) = rw k refl
name_starts (escaped_start {c} k) = rw (escape_any c k) refl
name_starts (dash_start k) = rw k refl
name_starts (dash_escape {c} k) = rw (escape_any c k) refl
name_starts dashes = refl

pub name_counts : {s : List ℕ} → NameLike s → Counts false s
unfolding starts_number is_ident_start is_letter is_digit
name_counts (start {c} k) = rw (start_no_digit c k, told_apart is_ident_start c 46 k refl, told_apart is_ident_start c 43 k refl, told_apart is_ident_start c 45 k refl) refl
name_counts (escaped_start k) = refl
name_counts (dash_start {c} k) = rw (start_no_digit c k, told_apart is_ident_start c 46 k refl) refl
name_counts (dash_escape k) = refl
name_counts dashes = refl

-- behind a `#`
pub name_hash : {s : List ℕ} → NameLike s → (is_ident (get_or s 0 0) || is_valid_escape (get_or s 0 0) (get_or s 1 0)) ≡ true
unfolding is_ident is_ident_start is_letter is_digit
name_hash (start {c} k) = rw k refl
name_hash (escaped_start {c} k) = rw (escape_any c k) refl
name_hash (dash_start k) = refl
name_hash (dash_escape k) = refl
name_hash dashes = refl

unfoldable pub opens_cdc : List ℕ → Bool
opens_cdc s = eqb (get_or s 0 0) 45 && eqb (get_or s 1 0) 45 && eqb (get_or s 2 0) 62

pub name_branch : {s : List ℕ} → NameLike s → opens_cdc s ≡ false → branch (get_or s 0 0) (get_or s 1 0) (get_or s 2 0) (get_or s 3 0) ≡ name
unfolding branch opens_cdc is_name_first is_ident_start is_letter
name_branch {s} h k =
    rw (
      name_no_whitespace h,
      name_first h 34 refl,
      name_first h 39 refl,
      name_first h 35 refl,
      name_first h 64 refl,
      name_counts h,
      k,
      name_first h 60 refl,
      name_starts h,
    ) refl

module _ {s : List ℕ} (h : NumberLike s) where
  number_opens : is_number_first (get_or s 0 0) ≡ true
  unfolding is_number_first is_digit
  number_opens = go h
    where
      go : {s : List ℕ} → NumberLike s → is_number_first (get_or s 0 0) ≡ true
      go (digit_first {c} k) = or_left _ (is_sign c) (or_left _ (eqb c 46) k)
      go (dot_digit k) = refl
      go (sign_digit {a} p k) = or_right (is_digit a || eqb a 46) _ p
      go (sign_dot {a} p k) = or_right (is_digit a || eqb a 46) _ p

  pub number_first : (k : ℕ) → is_number_first k ≡ false → eqb (get_or s 0 0) k ≡ false
  number_first k e = told_apart is_number_first _ k number_opens e

  pub number_no_whitespace : is_whitespace (get_or s 0 0) ≡ false
  unfolding is_whitespace is_number_first is_digit
  number_no_whitespace = rw (number_first 10 refl, number_first 9 refl, number_first 32 refl) refl

digit_no_start : (a : ℕ) → is_digit a ≡ true → is_ident_start a ≡ false
unfolding is_ident_start is_letter is_digit
digit_no_start a h = grind (arith, nat_tests)

sign_no_start : (a : ℕ) → is_sign a ≡ true → is_ident_start a ≡ false
unfolding is_ident_start is_letter
sign_no_start a h = grind (arith, nat_tests)

pub number_starts : {s : List ℕ} → NumberLike s → Starts false s
unfolding starts_ident is_valid_escape is_digit is_ident_start is_letter
number_starts (digit_first {c} k) = rw (digit_no_start c k, told_apart is_digit c 92 k refl, told_apart is_digit c 45 k refl) refl
number_starts (dot_digit k) = refl
number_starts (sign_digit {a} {c} p k) =
    rw (sign_no_start a p, told_apart is_sign a 92 p refl, digit_no_start c k, told_apart is_digit c 92 k refl, told_apart is_digit c 45 k refl) (and-false (eqb a 45))
number_starts (sign_dot {a} {c} p k) = rw (sign_no_start a p, told_apart is_sign a 92 p refl) (and-false (eqb a 45))

pub number_counts : {s : List ℕ} → NumberLike s → Counts true s
unfolding starts_number is_digit
number_counts (digit_first {c} k) = or_left _ _ (or_left _ _ k)
number_counts (dot_digit k) = rw k refl
number_counts (sign_digit {a} {c} p k) = or_right _ _ (and_from _ _ p (or_left _ _ k))
number_counts (sign_dot {a} {c} p k) = or_right _ _ (and_from _ _ p k)

pub number_branch : {s : List ℕ} → NumberLike s → branch (get_or s 0 0) (get_or s 1 0) (get_or s 2 0) (get_or s 3 0) ≡ number
unfolding branch is_number_first is_digit
number_branch {s} h = rw (number_no_whitespace h, number_first h 34 refl, number_first h 39 refl, number_first h 35 refl, number_first h 64 refl, number_counts h) refl

-- where no comment stands, the branch decides the next token
pub next_found : (a : ℕ) (s : List ℕ) → (eqb a 47 && eqb (get_or s 0 0) 42) ≡ false → next (a ∷ s) ≡ told (found_at a s)
unfolding next next_at in_comments
next_found a s h = ap next_at (stops_at in_comments (a ∷ s) (rw (h, in_comments) refl)).1
