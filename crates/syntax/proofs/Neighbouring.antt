-- How each token begins, and why a comment where the matrix has one gives each token what it needs.
use Rattle.std.proofs.Common.{◌≡◌, ℕ, Bool, true, false, cond, not, ◌&&◌, ◌||◌, eqb, ◌⊎◌, List, [], ◌∷◌, ◌++◌, get_or, codes, sym, refl, ap, ◌∙◌, subst, inl, inr, ⊎_elim, append_assoc}
use Rattle.std.proofs.lemmas.Bool.{and_left, and_right, both_ways, ne_eqb, not-true, or_from, or_parts}
use Rattle.codepoint.specs.Classes.{is_digit, is_ident, is_ident_start, is_letter, is_non_printable, is_whitespace}
use Rattle.codepoint.specs.Starts.{is_valid_escape, starts_ident, starts_number}
use Rattle.syntax.specs.declared.kind.Kind.{Kind}
use Rattle.syntax.specs.declared.kind.Kind.TheVariants.{Cdc, Delim, Semicolon, Whitespace}
use Rattle.syntax.specs.declared.neighbour.Left.{Left}
use Rattle.syntax.specs.declared.neighbour.Right.{Right}
use Rattle.syntax.specs.declared.waiting.Waiting.{Waiting}
use Rattle.syntax.specs.declared.waiting.Waiting.TheVariants.{AfterBackslash, AfterUrl, AfterUrlWhitespace, Free}
use Rattle.syntax.specs.Points.{is_one_of}
use Rattle.syntax.specs.Tokens.{TokenValue, bare, is_kind, tok}
use Rattle.syntax.specs.Reading.{is_url}
use Rattle.syntax.specs.Places.{quoted_string}
use Rattle.syntax.specs.Spelling.{spelled}
use Rattle.syntax.specs.Neighbours.{apart, is_dashes, left_of, right_of}
use Rattle.syntax.specs.Written.{comment}
use Rattle.syntax.proofs.Formed.{Formed, Mono}
use Rattle.syntax.proofs.Formed.Mono.{close_curly, close_round, close_square, colon, comma, open_curly, open_round, open_square, semicolon}
use Rattle.syntax.proofs.Formed.Formed.{at_keyword, cdc, cdo, delim, dimension, function, hash, ident, loose_hash, mono, number, percentage, string, url, white}
use Rattle.syntax.proofs.Spelt.{ident_before, spelled_before}
use Rattle.syntax.proofs.Openings.{Counts, NameLike, NumberLike, Starts, ident_opens, number_opens}
use Rattle.syntax.proofs.Openings.NameLike.{dashes}
use Rattle.syntax.proofs.Branches.{is_name_first, is_number_first, name_counts, name_first, name_no_whitespace, number_first, number_no_whitespace, number_starts, told_apart}
use Rattle.syntax.proofs.Names.{Plain, plain_dash, plain_starts}
use Rattle.syntax.proofs.Signs.{Delimiter, delimiter_of}
use Rattle.syntax.proofs.Followers.{DelimNeeds, Needs, Quoted, mono_spelled}
use Rattle.syntax.proofs.MatrixRows.{covered, covers_row, none_before_other}
use Rattle.syntax.specs.Places as place
use Rattle.syntax.proofs.Signs as signs

-- how a written tail begins, by what the matrix says of its first token: where a left neighbour of some class
-- stands before it with no comment between, it begins as such a neighbour needs
pub record Opens (q : TokenValue) (s : List ℕ) : Type 0 where
  pub plain : apart Left.Name (right_of q) ≡ false → Plain s
  pub nameless : apart Left.At (right_of q) ≡ false → Starts false s
  pub numberless : apart Left.DotOrPlus (right_of q) ≡ false → Counts false s
  pub no_bang : apart Left.Less (right_of q) ≡ false → eqb (get_or s 0 0) 33 ≡ false
  pub no_percent : apart Left.Number (right_of q) ≡ false → eqb (get_or s 0 0) 37 ≡ false
  pub no_paren : apart Left.Ident (right_of q) ≡ false → eqb (get_or s 0 0) 40 ≡ false
  pub no_star : apart Left.Slash (right_of q) ≡ false → eqb (get_or s 0 0) 42 ≡ false
  pub no_gt : apart Left.Dashes (right_of q) ≡ false → eqb (get_or s 0 0) 62 ≡ false
  pub no_white : is_kind Whitespace q ≡ false → is_whitespace (get_or s 0 0) ≡ false

-- as a name
by_name : (q : TokenValue) (s : List ℕ) → right_of q ≡ Right.Name → NameLike s → Opens q s
unfolding is_name_first is_ident_start is_letter apart
by_name q s w h = record {
  plain = λ e. absurd (cc (sym (ap (apart Left.Name) w) ∙ e));
  nameless = λ e. absurd (cc (sym (ap (apart Left.At) w) ∙ e));
  numberless = λ _. name_counts h;
  no_bang = λ _. name_first h 33 refl;
  no_percent = λ _. name_first h 37 refl;
  no_paren = λ _. name_first h 40 refl;
  no_star = λ _. name_first h 42 refl;
  no_gt = λ _. name_first h 62 refl;
  no_white = λ _. name_no_whitespace h;
}

-- as a number
by_number : (q : TokenValue) (s : List ℕ) → right_of q ≡ Right.Numeric → NumberLike s → Opens q s
unfolding is_number_first is_digit apart
by_number q s w h = record {
  plain = λ e. absurd (cc (sym (ap (apart Left.Name) w) ∙ e));
  nameless = λ _. number_starts h;
  numberless = λ e. absurd (cc (sym (ap (apart Left.DotOrPlus) w) ∙ e));
  no_bang = λ _. number_first h 33 refl;
  no_percent = λ _. number_first h 37 refl;
  no_paren = λ _. number_first h 40 refl;
  no_star = λ _. number_first h 42 refl;
  no_gt = λ _. number_first h 62 refl;
  no_white = λ _. number_no_whitespace h;
}

-- with a code point c that begins neither, and may be one of the signs that the matrix names
module _ (q : TokenValue) (c : ℕ) (s : List ℕ) where
  by_first : is_ident c ≡ false → eqb c 92 ≡ false → eqb c 46 ≡ false → eqb c 43 ≡ false → is_whitespace c ≡ false
      → (apart Left.Less (right_of q) ≡ false → eqb c 33 ≡ false) → (apart Left.Number (right_of q) ≡ false → eqb c 37 ≡ false)
      → (apart Left.Ident (right_of q) ≡ false → eqb c 40 ≡ false) → (apart Left.Slash (right_of q) ≡ false → eqb c 42 ≡ false)
      → (apart Left.Dashes (right_of q) ≡ false → eqb c 62 ≡ false) → Opens q (c ∷ s)
  unfolding is_ident is_valid_escape starts_number
  by_first i e d p w a1 a2 a3 a4 a5 =
      let n : Plain (c ∷ s) = record { no_ident = i; no_escape = and_left _ _ e } in
      let k = or_parts _ (eqb c 45) i in
      let g = or_parts _ (is_digit c) k.0 in
      record {
        plain = λ _. n;
        nameless = λ _. plain_starts n;
        numberless = λ _. or_from _ _ (or_from _ _ g.1 (and_left _ _ d)) (and_left _ _ (or_from _ _ p k.1));
        no_bang = a1;
        no_percent = a2;
        no_paren = a3;
        no_star = a4;
        no_gt = a5;
        no_white = λ _. w;
      }

-- with a code point that nothing asks for
unfoldable is_lone : ℕ → Bool
is_lone c = not (is_ident c || is_whitespace c || is_one_of (codes "\\.+!%(*>") c)

by_lone : (q : TokenValue) (c : ℕ) (s : List ℕ) → is_lone c ≡ true → Opens q (c ∷ s)
unfolding is_lone is_ident is_whitespace is_ident_start is_letter is_digit
by_lone q c s h =
    let away : (k : ℕ) → is_lone k ≡ false → eqb c k ≡ false = λ k e. told_apart is_lone c k h e in
    let p = or_parts (is_ident c) (is_whitespace c) (or_parts _ (is_one_of (codes "\\.+!%(*>") c) (not-true _ h)).0 in
    by_first q c s p.0 (away 92 refl) (away 46 refl) (away 43 refl) p.1 (λ _. away 33 refl) (λ _. away 37 refl) (λ _. away 40 refl) (λ _. away 42 refl) (λ _. away 62 refl)

-- a delim begins with its mark; where that could begin a name or a number, what it needs says that it does not
signless : (q : TokenValue) (c : ℕ) (s : List ℕ) → is_one_of (codes "!%(*>") c ≡ false → is_whitespace c ≡ false
    → (apart Left.Name (right_of q) ≡ false → Plain (c ∷ s)) → Starts false (c ∷ s) → Counts false (c ∷ s) → Opens q (c ∷ s)
signless q c s h w p n k = record {
  plain = p;
  nameless = λ _. n;
  numberless = λ _. k;
  no_bang = λ _. (or_parts (eqb c 33) _ h).0;
  no_percent = λ _. (or_parts (eqb c 37) _ (or_parts (eqb c 33) _ h).1).0;
  no_paren = λ _. (or_parts (eqb c 40) _ (or_parts (eqb c 37) _ (or_parts (eqb c 33) _ h).1).1).0;
  no_star = λ _. (or_parts (eqb c 42) _ (or_parts (eqb c 40) _ (or_parts (eqb c 37) _ (or_parts (eqb c 33) _ h).1).1).1).0;
  no_gt = λ _. (or_parts (eqb c 62) _ (or_parts (eqb c 42) _ (or_parts (eqb c 40) _ (or_parts (eqb c 37) _ (or_parts (eqb c 33) _ h).1).1).1).1).0;
  no_white = λ _. w;
}

-- where the matrix sets a class apart from the delim k, a mark that it does not set apart is not k
not_the_sign : (l : Left) (m k : ℕ) → apart l (right_of (tok Delim k [] [])) ≡ true → apart l (right_of (tok Delim m [] [])) ≡ false → eqb m k ≡ false
not_the_sign l m k h e = ne_eqb m k (λ q. both_ways _ e (ap (λ x. apart l (right_of (tok Delim x [] []))) q ∙ h))

delim_opens : {m : ℕ} (d : Delimiter m) (r : List ℕ) → DelimNeeds d r → Opens (tok Delim m [] []) (m ∷ r)
unfolding is_lone starts_ident starts_number is_ident is_whitespace is_ident_start is_letter is_digit is_valid_escape is_non_printable signs.is_other right_of apart
delim_opens signs.Delimiter.hash r n = by_lone _ 35 r refl
delim_opens signs.Delimiter.plus r n = signless _ 43 r refl refl (λ _. record { no_ident = refl; no_escape = refl }) refl (signs.sign_counts r n)
delim_opens signs.Delimiter.dash r n = signless _ 45 r refl refl (λ e. absurd (cc e)) (plain_dash n.0) (signs.sign_counts r n.1)
delim_opens signs.Delimiter.dot r n = signless _ 46 r refl refl (λ _. record { no_ident = refl; no_escape = refl }) refl (or_from _ _ (signs.no_digit_counts r n) refl)
delim_opens signs.Delimiter.slash r n = by_lone _ 47 r refl
delim_opens signs.Delimiter.less r n = by_lone _ 60 r refl
delim_opens signs.Delimiter.at r n = by_lone _ 64 r refl
delim_opens signs.Delimiter.backslash r n = rw n.1 (signless _ 92 _ refl refl (λ _. record { no_ident = refl; no_escape = refl }) refl refl)
delim_opens (signs.Delimiter.other {m} h) r n =
    let away : (k : ℕ) → signs.is_other k ≡ false → eqb m k ≡ false = signs.other_not m h in
    by_first (tok Delim m [] []) m r (signs.other_ident m h) (away 92 refl) (away 46 refl) (away 43 refl) (signs.other_white m h)
    (not_the_sign Left.Less m 33 refl) (not_the_sign Left.Number m 37 refl) (λ _. away 40 refl) (not_the_sign Left.Slash m 42 refl) (not_the_sign Left.Dashes m 62 refl)

mono_opens : {k : Kind} {c : ℕ} (r : List ℕ) → Mono k c → Opens (bare k) (c ∷ r)
unfolding is_lone is_ident is_whitespace is_ident_start is_letter is_digit right_of apart
mono_opens r colon = by_lone _ 58 r refl
mono_opens r semicolon = by_lone _ 59 r refl
mono_opens r comma = by_lone _ 44 r refl
mono_opens r open_square = by_lone _ 91 r refl
mono_opens r close_square = by_lone _ 93 r refl
mono_opens r open_round = by_first _ 40 r refl refl refl refl refl (λ _. refl) (λ _. refl) (λ e. absurd (cc e)) (λ _. refl) (λ _. refl)
mono_opens r close_round = by_lone _ 41 r refl
mono_opens r open_curly = by_lone _ 123 r refl
mono_opens r close_curly = by_lone _ 125 r refl

white_opens : (c : ℕ) (r : List ℕ) → (c ≡ 10) ⊎ (c ≡ 32) → Opens (bare Whitespace) (c ∷ r)
unfolding starts_ident starts_number is_ident is_ident_start is_letter is_digit is_valid_escape
white_opens c r h = record {
  plain = λ _. ⊎_elim (λ e. rw e (record { no_ident = refl; no_escape = refl })) (λ e. rw e (record { no_ident = refl; no_escape = refl })) h;
  nameless = λ _. ⊎_elim (λ e. rw e refl) (λ e. rw e refl) h;
  numberless = λ _. ⊎_elim (λ e. rw e refl) (λ e. rw e refl) h;
  no_bang = λ _. ⊎_elim (λ e. rw e refl) (λ e. rw e refl) h;
  no_percent = λ _. ⊎_elim (λ e. rw e refl) (λ e. rw e refl) h;
  no_paren = λ _. ⊎_elim (λ e. rw e refl) (λ e. rw e refl) h;
  no_star = λ _. ⊎_elim (λ e. rw e refl) (λ e. rw e refl) h;
  no_gt = λ _. ⊎_elim (λ e. rw e refl) (λ e. rw e refl) h;
  no_white = λ e. absurd (cc e);
}

cdc_opens : (r : List ℕ) → Opens (bare Cdc) (45 ∷ 45 ∷ 62 ∷ r)
unfolding right_of
cdc_opens r = by_name _ _ refl dashes

url_name : (s : List ℕ) → NameLike (117 ∷ s)
unfolding is_ident_start is_letter
url_name s = NameLike.start refl

-- how each token begins, where what it needs follows it
pub opens : {q : TokenValue} (l : Formed q) (w : Waiting) (r : List ℕ) → Needs l r → Opens q (spelled w q ++ r)
unfolding spelled quoted_string place.url is_lone is_ident is_whitespace is_ident_start is_letter is_digit right_of
opens (ident {t} n) w r h = by_name _ _ refl (rw (ident_before t r) (ident_opens t r n.1))
opens (function {t} n) w r h = by_name _ _ refl (rw (append_assoc, ident_before t (40 ∷ r)) (ident_opens t _ n.1))
opens (at_keyword n) w r h = by_lone _ 64 _ refl
opens (hash n) w r h = by_lone _ 35 _ refl
opens (loose_hash n l) w r h = by_lone _ 35 _ refl
opens (string {t} n) w r h = rw (spelled_before quoted_string t r) (by_lone _ 34 _ refl)
opens (url {t} n) w r h = rw (spelled_before place.url t r) (by_name _ _ refl (url_name _))
opens (delim {m} k) w r h = delim_opens (delimiter_of m k) r h
opens (number {t} n) w r h = by_number _ _ refl (number_opens t r n)
opens (percentage {t} n) w r h = by_number _ _ refl (rw append_assoc (number_opens t _ n))
opens (dimension {t} {u} n k) w r h = by_number _ _ refl (rw append_assoc (number_opens t _ n))
opens white Free r h = white_opens 32 r (inr refl)
opens white AfterBackslash r h = white_opens 10 r (inl refl)
opens white AfterUrl r h = white_opens 32 r (inr refl)
opens white AfterUrlWhitespace r h = white_opens 32 r (inr refl)
opens cdo w r h = by_lone _ 60 _ refl
opens cdc w r h = cdc_opens r
opens (mono {k} {c} m) w r h = subst (λ x. Opens (bare k) (x ++ r)) (sym (mono_spelled w m)) (mono_opens r m)

-- a comment, and the end, begin as a right neighbour that no row names
abbrev pub quiet : TokenValue
quiet = bare Semicolon

pub comment_opens : (s : List ℕ) → Opens quiet (comment ++ s)
unfolding is_lone is_ident is_whitespace is_ident_start is_letter is_digit
comment_opens s = by_lone quiet 47 _ refl

pub end_opens : Opens quiet []
unfolding starts_ident starts_number is_ident is_ident_start is_letter is_digit is_valid_escape is_whitespace
end_opens = record {
  plain = λ _. record { no_ident = refl; no_escape = refl };
  nameless = λ _. refl;
  numberless = λ _. refl;
  no_bang = λ _. refl;
  no_percent = λ _. refl;
  no_paren = λ _. refl;
  no_star = λ _. refl;
  no_gt = λ _. refl;
  no_white = λ _. refl;
}

pub quiet_near : (l : Left) → apart l (right_of quiet) ≡ false
unfolding right_of
quiet_near l = none_before_other l

-- what a token needs that no matrix gives: the right token in its turn
abbrev pub DelimAwaits : {m : ℕ} → Delimiter m → List ℕ → Type 0
DelimAwaits signs.Delimiter.hash r = Unit {0}
DelimAwaits signs.Delimiter.plus r = Unit {0}
DelimAwaits signs.Delimiter.dash r = Unit {0}
DelimAwaits signs.Delimiter.dot r = Unit {0}
DelimAwaits signs.Delimiter.slash r = Unit {0}
DelimAwaits signs.Delimiter.less r = Unit {0}
DelimAwaits signs.Delimiter.at r = Unit {0}
DelimAwaits signs.Delimiter.backslash r = (u : List ℕ) × (r ≡ 10 ∷ u)
DelimAwaits (signs.Delimiter.other h) r = Unit {0}

abbrev pub Awaits : {p : TokenValue} → Formed p → List ℕ → Type 0
Awaits (ident n) r = Unit {0}
Awaits (function {t} n) r = is_url t ≡ true → Quoted r
Awaits (at_keyword n) r = Unit {0}
Awaits (hash n) r = Unit {0}
Awaits (loose_hash h l) r = Unit {0}
Awaits (string h) r = Unit {0}
Awaits (url h) r = Unit {0}
Awaits (delim {m} h) r = DelimAwaits (delimiter_of m h) r
Awaits (number n) r = Unit {0}
Awaits (percentage n) r = Unit {0}
Awaits (dimension n u) r = Unit {0}
Awaits white r = is_whitespace (get_or r 0 0) ≡ false
Awaits cdo r = Unit {0}
Awaits cdc r = Unit {0}
Awaits (mono k) r = Unit {0}

-- a row of the matrix with no comment before q gives what its left neighbours need
module _ (q : TokenValue) (s : List ℕ) (o : Opens q s) where
  joins : apart Left.Name (right_of q) ≡ false → Plain s × Counts false s
  unfolding covers_row
  joins h = (o.plain h, o.numberless (covered Left.Name Left.DotOrPlus (right_of q) refl h))

  ident_needs : (t : List ℕ) (b : Bool) → is_dashes t ≡ b → apart (cond b Left.Dashes Left.Ident) (right_of q) ≡ false
      → Plain s × (eqb (get_or s 0 0) 40 ≡ false) × ((is_dashes t && eqb (get_or s 0 0) 62) ≡ false)
  unfolding covers_row
  ident_needs t true e h =
      let k = covered Left.Dashes Left.Ident (right_of q) refl h in
      (o.plain (covered Left.Ident Left.Name (right_of q) refl k), o.no_paren k, and_right (is_dashes t) _ (o.no_gt h))
  ident_needs t false e h = (o.plain (covered Left.Ident Left.Name (right_of q) refl h), o.no_paren h, and_left _ _ e)

  delim_needs : {m : ℕ} (d : Delimiter m) → apart (left_of (tok Delim m [] [])) (right_of q) ≡ false → DelimAwaits d s → DelimNeeds d s
  unfolding left_of
  delim_needs signs.Delimiter.hash h a = o.plain h
  delim_needs signs.Delimiter.plus h a = o.numberless h
  delim_needs signs.Delimiter.dash h a = joins h
  delim_needs signs.Delimiter.dot h a = o.numberless h
  delim_needs signs.Delimiter.slash h a = o.no_star h
  delim_needs signs.Delimiter.less h a = o.no_bang h
  delim_needs signs.Delimiter.at h a = o.nameless h
  delim_needs signs.Delimiter.backslash h a = a
  delim_needs (signs.Delimiter.other k) h a = tt

  pub needs : {p : TokenValue} (l : Formed p) → apart (left_of p) (right_of q) ≡ false → Awaits l s → Needs l s
  unfolding left_of covers_row
  needs (ident {t} n) h a = ident_needs t (is_dashes t) refl h
  needs (function n) h a = a
  needs (at_keyword n) h a = o.plain h
  needs (hash n) h a = o.plain h
  needs (loose_hash n l) h a = o.plain h
  needs (string n) h a = tt
  needs (url n) h a = tt
  needs (delim {m} k) h a = delim_needs (delimiter_of m k) h a
  needs (number n) h a = (o.nameless (covered Left.Number Left.At (right_of q) refl h), o.numberless (covered Left.Number Left.DotOrPlus (right_of q) refl h), o.no_percent h)
  needs (percentage n) h a = tt
  needs (dimension n u) h a = joins h
  needs white h a = a
  needs cdo h a = tt
  needs cdc h a = tt
  needs (mono k) h a = tt
