-- Whitespace, CDO, CDC, signs and delims read back.
use Rattle.std.proofs.Common.{◌≡◌, ℕ, ◌<◌, Bool, true, false, not, ◌&&◌, ◌||◌, eqb, List, ◌∷◌, get_or, codes, refl, ap, ◌∙◌, ⊎_elim, arith}
use Rattle.std.proofs.lemmas.Bool.Decides.{nat_tests}
use Rattle.std.proofs.lemmas.Bool.{and_left, cases_eq, ne_eqb, not-true, or_cases, or_parts}
use Rattle.codepoint.specs.Classes.{is_digit, is_ident, is_ident_start, is_letter, is_non_printable, is_whitespace}
use Rattle.codepoint.specs.Starts.{is_valid_escape, starts_ident, starts_number}
use Rattle.syntax.specs.declared.kind.Kind.{Kind}
use Rattle.syntax.specs.declared.kind.Kind.TheVariants.{Cdc, Cdo, Delim, Whitespace}
use Rattle.syntax.specs.Points.{is_one_of}
use Rattle.syntax.specs.Tokens.{bare, delim}
use Rattle.syntax.specs.Reading.{branch, found_by, next, sign_at, sign_kind, token, token_of, told}
use Rattle.syntax.specs.Reading.Branch.{sign}
use Rattle.syntax.specs.Lawful.{is_delim_mark}
use Rattle.syntax.proofs.Formed.{Mono}
use Rattle.syntax.proofs.Formed.Mono.{close_curly, close_round, close_square, colon, comma, open_curly, open_round, open_square, semicolon}
use Rattle.syntax.proofs.Openings.{Counts, Starts}
use Rattle.syntax.proofs.Branches.{next_found, told_apart}
use Rattle.syntax.proofs.Names.{Plain, plain_dash}
use Rattle.syntax.proofs.Urls.{whitespace_stops}
use Rattle.syntax.proofs.Tried.{holds_below, implied, implies, one_below}

pub space_reads : (r : List ℕ) → is_whitespace (get_or r 0 0) ≡ false → next (32 ∷ r) ≡ token (bare Whitespace) r
unfolding branch found_by sign_at token_of is_whitespace
space_reads r h = next_found 32 r refl ∙ ap (token (bare Whitespace)) (whitespace_stops r h)

pub line_reads : (r : List ℕ) → is_whitespace (get_or r 0 0) ≡ false → next (10 ∷ r) ≡ token (bare Whitespace) r
unfolding branch found_by sign_at token_of is_whitespace
line_reads r h = next_found 10 r refl ∙ ap (token (bare Whitespace)) (whitespace_stops r h)

pub cdo_reads : (r : List ℕ) → next (60 ∷ 33 ∷ 45 ∷ 45 ∷ r) ≡ token (bare Cdo) r
unfolding branch found_by sign_at token_of is_whitespace starts_number is_digit
cdo_reads r = next_found 60 _ refl

pub cdc_reads : (r : List ℕ) → next (45 ∷ 45 ∷ 62 ∷ r) ≡ token (bare Cdc) r
unfolding branch found_by sign_at token_of is_whitespace starts_number is_digit
cdc_reads r = next_found 45 _ refl

pub mono_reads : {k : Kind} {c : ℕ} (r : List ℕ) → Mono k c → next (c ∷ r) ≡ token (bare k) r
unfolding branch found_by sign_at token_of is_whitespace starts_number starts_ident is_valid_escape is_ident_start is_letter is_digit
mono_reads r colon = next_found 58 r refl
mono_reads r semicolon = next_found 59 r refl
mono_reads r comma = next_found 44 r refl
mono_reads r open_square = next_found 91 r refl
mono_reads r close_square = next_found 93 r refl
mono_reads r open_round = next_found 40 r refl
mono_reads r close_round = next_found 41 r refl
mono_reads r open_curly = next_found 123 r refl
mono_reads r close_curly = next_found 125 r refl

-- a delim is one of eight that look at what follows, or another
unfoldable pub is_other : ℕ → Bool
is_other m = (is_non_printable m && not (eqb m 0)) || is_one_of (codes "!$%&*=>?^`|~") m

pub data Delimiter : ℕ → Type 0 where
  hash : Delimiter 35
  plus : Delimiter 43
  dash : Delimiter 45
  dot : Delimiter 46
  slash : Delimiter 47
  less : Delimiter 60
  at : Delimiter 64
  backslash : Delimiter 92
  other : {m : ℕ} → is_other m ≡ true → Delimiter m

hidden_small : (m : ℕ) → (is_non_printable m && not (eqb m 0)) ≡ true → m < 128
unfolding is_non_printable
hidden_small m h = grind (arith, nat_tests)

pub mark_small : (m : ℕ) → is_delim_mark m ≡ true → m < 128
unfolding is_delim_mark
mark_small m h = ⊎_elim (hidden_small m) (one_below 128 (codes "!#$%&*+-./<=>?@\\^`|~") m refl) (or_cases (is_non_printable m && not (eqb m 0)) _ h)

other_small : (m : ℕ) → is_other m ≡ true → m < 128
unfolding is_other
other_small m h = ⊎_elim (hidden_small m) (one_below 128 (codes "!$%&*=>?^`|~") m refl) (or_cases (is_non_printable m && not (eqb m 0)) _ h)

-- the eight
unfoldable looks_ahead : ℕ → Bool
looks_ahead m = is_one_of (codes "#+-./<@\\") m

marks_split : holds_below 128 (implies is_delim_mark (λ m. looks_ahead m || is_other m)) ≡ true
unfolding holds_below is_delim_mark looks_ahead is_other is_non_printable
marks_split = refl

pub delimiter_of : (m : ℕ) → is_delim_mark m ≡ true → Delimiter m
unfolding looks_ahead
delimiter_of m h =
    ⊎_elim (λ e. rw e hash) (λ n1.
    ⊎_elim (λ e. rw e plus) (λ n2.
    ⊎_elim (λ e. rw e dash) (λ n3.
    ⊎_elim (λ e. rw e dot) (λ n4.
    ⊎_elim (λ e. rw e slash) (λ n5.
    ⊎_elim (λ e. rw e less) (λ n6.
    ⊎_elim (λ e. rw e at) (λ n7.
    ⊎_elim (λ e. rw e backslash) (λ n8.
    other (rw (ne_eqb m 35 n1, ne_eqb m 43 n2, ne_eqb m 45 n3, ne_eqb m 46 n4, ne_eqb m 47 n5, ne_eqb m 60 n6, ne_eqb m 64 n7, ne_eqb m 92 n8) at
    (implied is_delim_mark (λ m. looks_ahead m || is_other m) marks_split m (mark_small m h) h)))
    (cases_eq m 92)) (cases_eq m 64)) (cases_eq m 60)) (cases_eq m 47)) (cases_eq m 46)) (cases_eq m 45)) (cases_eq m 43)) (cases_eq m 35)

-- the other ones are of no class that reading asks for
others_plain : holds_below 128 (implies is_other (λ m. not (is_whitespace m || is_digit m || is_ident_start m))) ≡ true
unfolding holds_below is_other is_non_printable is_whitespace is_digit is_ident_start is_letter
others_plain = refl

module _ (m : ℕ) (h : is_other m ≡ true) where
  other_plain : (is_whitespace m || is_digit m || is_ident_start m) ≡ false
  other_plain = not-true _ (implied is_other (λ m. not (is_whitespace m || is_digit m || is_ident_start m)) others_plain m (other_small m h) h)

  pub other_white : is_whitespace m ≡ false
  other_white = (or_parts (is_whitespace m) (is_digit m) (or_parts _ _ other_plain).0).0

  other_digit : is_digit m ≡ false
  other_digit = (or_parts (is_whitespace m) (is_digit m) (or_parts _ _ other_plain).0).1

  other_start : is_ident_start m ≡ false
  other_start = (or_parts _ (is_ident_start m) other_plain).1

  pub other_not : (k : ℕ) → is_other k ≡ false → eqb m k ≡ false
  other_not k e = told_apart is_other m k h e

  pub other_counts : (b c : ℕ) → starts_number m b c ≡ false
  unfolding starts_number is_other is_non_printable
  other_counts b c = rw (other_digit, other_not 46 refl, other_not 43 refl, other_not 45 refl) refl

  pub other_starts : (b c : ℕ) → starts_ident m b c ≡ false
  unfolding starts_ident is_valid_escape is_other is_non_printable
  other_starts b c = rw (other_start, other_not 92 refl, other_not 45 refl) refl

  pub other_ident : is_ident m ≡ false
  unfolding is_ident is_other is_non_printable
  other_ident = rw (other_start, other_digit, other_not 45 refl) refl

  other_branch : (b c d : ℕ) → branch m b c d ≡ sign
  unfolding branch is_other is_non_printable
  other_branch b c d =
      rw (
        other_white,
        other_not 34 refl,
        other_not 39 refl,
        other_not 35 refl,
        other_not 64 refl,
        other_counts b c,
        other_not 45 refl,
        other_not 60 refl,
        other_starts b c,
      ) refl

  other_kind : sign_kind m ≡ Delim
  unfolding is_other is_non_printable
  other_kind = rw (
    other_not 58 refl,
    other_not 59 refl,
    other_not 44 refl,
    other_not 91 refl,
    other_not 93 refl,
    other_not 40 refl,
    other_not 41 refl,
    other_not 123 refl,
    other_not 125 refl,
  ) refl

  as_sign : (r : List ℕ) → told (found_by sign m r) ≡ token (delim m) r
  unfolding found_by sign_at token_of
  as_sign r = rw (other_kind, found_by, sign_at) refl

  pub other_reads : (r : List ℕ) → next (m ∷ r) ≡ token (delim m) r
  unfolding is_other is_non_printable
  other_reads r = next_found m r (and_left _ _ (other_not 47 refl)) ∙ ap (λ w. told (found_by w m r)) (other_branch _ _ _) ∙ as_sign r

-- a sign before what begins no number
pub sign_counts : (r : List ℕ) → Counts false r → (is_digit (get_or r 0 0) || (eqb (get_or r 0 0) 46 && is_digit (get_or r 1 0))) ≡ false
unfolding starts_number
sign_counts r h = (or_parts _ _ h).0

pub no_digit_counts : (r : List ℕ) → Counts false r → is_digit (get_or r 0 0) ≡ false
no_digit_counts r h = (or_parts (is_digit (get_or r 0 0)) _ (sign_counts r h)).0

pub hash_delim_reads : (r : List ℕ) → Plain r → next (35 ∷ r) ≡ token (delim 35) r
unfolding branch found_by sign_at token_of is_whitespace starts_number starts_ident is_valid_escape is_ident_start is_letter is_digit
hash_delim_reads r p = next_found 35 r refl ∙ rw (p.no_ident, p.no_escape) refl

pub plus_reads : (r : List ℕ) → Counts false r → next (43 ∷ r) ≡ token (delim 43) r
unfolding branch found_by sign_at token_of is_whitespace starts_number starts_ident is_valid_escape is_ident_start is_letter is_digit
plus_reads r c = next_found 43 r refl ∙ rw (sign_counts r c) refl

no_dash : (r : List ℕ) → Plain r → eqb (get_or r 0 0) 45 ≡ false
unfolding is_ident
no_dash r p = (or_parts _ (eqb (get_or r 0 0) 45) p.no_ident).1

pub dash_reads : (r : List ℕ) → Plain r → Counts false r → next (45 ∷ r) ≡ token (delim 45) r
unfolding branch found_by sign_at token_of is_whitespace starts_number is_digit
dash_reads r p c = next_found 45 r refl ∙ rw (sign_counts r c, no_dash r p, plain_dash p) refl

pub dot_reads : (r : List ℕ) → Counts false r → next (46 ∷ r) ≡ token (delim 46) r
unfolding branch found_by sign_at token_of is_whitespace starts_number starts_ident is_valid_escape is_ident_start is_letter is_digit
dot_reads r c = next_found 46 r refl ∙ rw (no_digit_counts r c) refl

pub slash_reads : (r : List ℕ) → eqb (get_or r 0 0) 42 ≡ false → next (47 ∷ r) ≡ token (delim 47) r
unfolding branch found_by sign_at token_of is_whitespace starts_number starts_ident is_valid_escape is_ident_start is_letter is_digit
slash_reads r h = next_found 47 r h

pub less_reads : (r : List ℕ) → eqb (get_or r 0 0) 33 ≡ false → next (60 ∷ r) ≡ token (delim 60) r
unfolding branch found_by sign_at token_of is_whitespace starts_number starts_ident is_valid_escape is_ident_start is_letter is_digit
less_reads r h = next_found 60 r refl ∙ rw h refl

pub at_delim_reads : (r : List ℕ) → Starts false r → next (64 ∷ r) ≡ token (delim 64) r
unfolding branch found_by sign_at token_of is_whitespace starts_number starts_ident is_valid_escape is_ident_start is_letter is_digit
at_delim_reads r h = next_found 64 r refl ∙ rw h refl

pub backslash_reads : (u : List ℕ) → next (92 ∷ 10 ∷ u) ≡ token (delim 92) (10 ∷ u)
unfolding branch found_by sign_at token_of is_whitespace starts_number starts_ident is_valid_escape is_ident_start is_letter is_digit
backslash_reads u = next_found 92 _ refl
