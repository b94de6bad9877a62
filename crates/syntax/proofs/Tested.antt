-- The test of lawfulness tells exactly the tokens that some input yields.
use Rattle.std.proofs.Common.{◌≡◌, ℕ, Bool, true, false, ◌&&◌, ◌||◌, eqb, List, [], ◌∷◌, ◌++◌, get_or, sym, refl, ap, ◌∙◌, subst, inl, ⊎_elim, append-nil, arith}
use Rattle.std.proofs.lemmas.Bool.{and_from, and_parts, both_ways, cond_both, eqb-true, or_cases}
use Rattle.codepoint.specs.Classes.{is_digit, is_ident, is_ident_start, is_letter, is_scalar_value, is_whitespace}
use Rattle.codepoint.specs.Starts.{is_valid_escape, starts_ident, starts_number}
use Rattle.stream.specs.Preprocess.{AllPreprocessed, is_preprocessed}
use Rattle.syntax.specs.declared.kind.Kind.{Kind}
use Rattle.syntax.specs.declared.kind.Kind.TheVariants.{AtKeyword, BadString, BadUrl, Cdc, Cdo, CloseCurly, CloseRound, CloseSquare, Colon, Comma, Delim, Dimension, Function, Hash, Ident, Number, OpenCurly, OpenRound, OpenSquare, Percentage, QuotedString, Semicolon, Url, Whitespace}
use Rattle.syntax.specs.declared.waiting.Waiting.TheVariants.{Free}
use Rattle.syntax.specs.Tokens.{TokenValue, bare, texted, tok}
use Rattle.syntax.specs.Numbers.{exponent_length, number_at}
use Rattle.syntax.specs.Lawful.{Lawful, fits, is_bare, is_delim_mark, is_empty, is_hash, is_lawful, is_loose, is_name, is_number, is_text}
use Rattle.syntax.specs.Spelling.{spelled}
use Rattle.syntax.specs.Neighbours.{left_of}
use Rattle.syntax.specs.Laws.{TestDecidesLawful}
use Rattle.syntax.proofs.Formed.{Formed, Loose, Mono, Name, Numeral, Text, formed_not_bad}
use Rattle.syntax.proofs.Formed.Loose.{dash, dash_digit, digit}
use Rattle.syntax.proofs.Openings.{Counts, number_opens}
use Rattle.syntax.proofs.Branches.{number_counts}
use Rattle.syntax.proofs.Numerics.{number_at_lem}
use Rattle.syntax.proofs.Signs.{Delimiter, delimiter_of}
use Rattle.syntax.proofs.Followers.{DelimNeeds, Needs, reads}
use Rattle.syntax.proofs.Neighbouring.{Awaits, end_opens, needs, quiet, quiet_near}
use Rattle.syntax.proofs.Inputs.{input_append}
use Rattle.syntax.proofs.Counted.{number_found}
use Rattle.syntax.proofs.Turning.{lawful_formed}
use Rattle.syntax.proofs.Passing.{spelled_input}
use Rattle.syntax.proofs.Formed as formed
use Rattle.syntax.proofs.Signs as signs

-- texts
text_tested : (t : List ℕ) → Text t → is_text t ≡ true
text_tested [] h = refl
text_tested (c ∷ t) h = and_from _ _ h.0 (text_tested t h.1)

text_of : (t : List ℕ) → is_text t ≡ true → Text t
text_of [] h = tt
text_of (c ∷ t) h = let p = and_parts _ _ h in (p.0, text_of t p.1)

name_tested : (t : List ℕ) → Name t → is_name t ≡ true
name_tested [] h = absurd (omega arith)
name_tested (c ∷ t) h = and_from _ _ (text_tested (c ∷ t) h.0) refl

name_of : (t : List ℕ) → is_name t ≡ true → Name t
name_of [] h = absurd (both_ways false refl h)
name_of (c ∷ t) h = (text_of (c ∷ t) (and_parts (is_text (c ∷ t)) _ h).0, omega arith)

loose_tested : (t : List ℕ) → Loose t → is_loose t ≡ true
unfolding is_digit
loose_tested t (digit k) = rw k refl
loose_tested t dash = refl
loose_tested t (dash_digit k) = k

loose_of : (t : List ℕ) → is_loose t ≡ true → Loose t
loose_of [] h = absurd (both_ways false refl h)
loose_of (c ∷ t) h = ⊎_elim (λ d. digit d) (λ d. let p = and_parts (eqb c 45) _ d in rw (eqb-true c 45 p.0) (second t p.1)) (or_cases (is_digit c) _ h)
  where
    second : (t : List ℕ) → (is_empty t || is_digit (get_or t 0 0)) ≡ true → Loose (45 ∷ t)
    second [] h = dash
    second (d ∷ t) h = dash_digit h

empty_is : (t : List ℕ) → is_empty t ≡ true → t ≡ []
empty_is [] h = refl
empty_is (c ∷ t) h = absurd (both_ways false refl h)

-- numbers
number_tested : (t : List ℕ) → Numeral t → is_number t ≡ true
unfolding starts_number is_digit exponent_length
number_tested t n =
    let c : Counts true t = subst (Counts true) (append-nil t) (number_counts (number_opens t [] n)) in
    let e : number_at t ≡ (t, []) = subst (λ s. number_at s ≡ (t, [])) (append-nil t) (number_at_lem t [] n (record { numberless = refl; powerless = λ _. refl })) in
    and_from _ _ c (ap (λ p. is_empty p.1) e)

number_of : (t : List ℕ) → is_number t ≡ true → Numeral t
number_of t h =
    let p = and_parts (starts_number (get_or t 0 0) (get_or t 1 0) (get_or t 2 0)) _ h in
    let f = number_found t p.0 in
    let e : (number_at t).0 ≡ t = sym (append-nil _) ∙ ap (λ r. (number_at t).0 ++ r) (sym (empty_is _ p.1)) ∙ f.1 in
    subst Numeral e f.0

-- a well-formed token passes the test
mono_tested : {k : Kind} {c : ℕ} → Mono k c → is_lawful (bare k) ≡ true
unfolding is_lawful
mono_tested formed.Mono.colon = refl
mono_tested formed.Mono.semicolon = refl
mono_tested formed.Mono.comma = refl
mono_tested formed.Mono.open_square = refl
mono_tested formed.Mono.close_square = refl
mono_tested formed.Mono.open_round = refl
mono_tested formed.Mono.close_round = refl
mono_tested formed.Mono.open_curly = refl
mono_tested formed.Mono.close_curly = refl

tested : {t : TokenValue} → Formed t → is_lawful t ≡ true
unfolding is_lawful
tested (formed.Formed.ident {t} n) = and_from _ _ (name_tested t n) refl
tested (formed.Formed.function {t} n) = and_from _ _ (name_tested t n) refl
tested (formed.Formed.at_keyword {t} n) = and_from _ _ (name_tested t n) refl
tested (formed.Formed.hash {t} n) = and_from _ _ (name_tested t n) refl
tested (formed.Formed.loose_hash {t} n l) = and_from _ _ (and_from _ _ (text_tested t n) (loose_tested t l)) refl
tested (formed.Formed.string {t} n) = and_from _ _ (text_tested t n) refl
tested (formed.Formed.url {t} n) = and_from _ _ (text_tested t n) refl
tested (formed.Formed.delim {m} k) = and_from _ _ (and_from _ _ k refl) refl
tested (formed.Formed.number {t} n) = and_from _ _ (number_tested t n) refl
tested (formed.Formed.percentage {t} n) = and_from _ _ (number_tested t n) refl
tested (formed.Formed.dimension {t} {u} n k) = and_from _ _ (number_tested t n) (name_tested u k)
tested formed.Formed.white = refl
tested formed.Formed.cdo = refl
tested formed.Formed.cdc = refl
tested (formed.Formed.mono m) = mono_tested m

-- and what passes is well-formed: a mark of 0, a text with the property that b tells, and no unit
module _ (k : Kind) (m : ℕ) (t u : List ℕ) where
  unmarked : (b : Bool) → (b ≡ true → Formed (texted k t)) → (eqb m 0 && b && is_empty u) ≡ true → Formed (tok k m t u)
  unmarked b f h =
      let p = and_parts (eqb m 0 && b) _ h in
      let q = and_parts (eqb m 0) b p.0 in
      rw (eqb-true m 0 q.0, empty_is u p.1) (f q.1)

  only_kind : Formed (bare k) → is_bare m t u ≡ true → Formed (tok k m t u)
  only_kind f h = unmarked (is_empty t) (λ e. rw (empty_is t e) f) h

hash_of : (m : ℕ) (t : List ℕ) → is_hash m t ≡ true → Formed (tok Hash m t [])
hash_of m t =
    cond_both (eqb m 1) _ _ (λ b. b ≡ true → Formed (tok Hash m t []))
    (λ e h. rw (eqb-true m 1 e) (formed.Formed.hash (name_of t h)))
    (λ _ h.
    let p = and_parts (eqb m 0 && is_text t) _ h in
    let q = and_parts (eqb m 0) _ p.0 in
    rw (eqb-true m 0 q.0) (formed.Formed.loose_hash (text_of t q.1) (loose_of t p.1)))

formed_of : (k : Kind) (m : ℕ) (t u : List ℕ) → fits k m t u ≡ true → Formed (tok k m t u)
formed_of Ident m t u h = unmarked Ident m t u (is_name t) (λ e. formed.Formed.ident (name_of t e)) h
formed_of Function m t u h = unmarked Function m t u (is_name t) (λ e. formed.Formed.function (name_of t e)) h
formed_of AtKeyword m t u h = unmarked AtKeyword m t u (is_name t) (λ e. formed.Formed.at_keyword (name_of t e)) h
formed_of Hash m t u h = let p = and_parts (is_hash m t) _ h in rw (empty_is u p.1) (hash_of m t p.0)
formed_of QuotedString m t u h = unmarked QuotedString m t u (is_text t) (λ e. formed.Formed.string (text_of t e)) h
formed_of BadString m t u h = absurd (both_ways false refl h)
formed_of Url m t u h = unmarked Url m t u (is_text t) (λ e. formed.Formed.url (text_of t e)) h
formed_of BadUrl m t u h = absurd (both_ways false refl h)
formed_of Delim m t u h =
    let p = and_parts (is_delim_mark m && is_empty t) _ h in
    let q = and_parts (is_delim_mark m) _ p.0 in
    rw (empty_is t q.1, empty_is u p.1) (formed.Formed.delim q.0)
formed_of Number m t u h = unmarked Number m t u (is_number t) (λ e. formed.Formed.number (number_of t e)) h
formed_of Percentage m t u h = unmarked Percentage m t u (is_number t) (λ e. formed.Formed.percentage (number_of t e)) h
formed_of Dimension m t u h =
    let p = and_parts (eqb m 0 && is_number t) _ h in
    let q = and_parts (eqb m 0) _ p.0 in
    rw (eqb-true m 0 q.0) (formed.Formed.dimension (number_of t q.1) (name_of u p.1))
formed_of Whitespace m t u h = only_kind Whitespace m t u formed.Formed.white h
formed_of Cdo m t u h = only_kind Cdo m t u formed.Formed.cdo h
formed_of Cdc m t u h = only_kind Cdc m t u formed.Formed.cdc h
formed_of Colon m t u h = only_kind Colon m t u (formed.Formed.mono formed.Mono.colon) h
formed_of Semicolon m t u h = only_kind Semicolon m t u (formed.Formed.mono formed.Mono.semicolon) h
formed_of Comma m t u h = only_kind Comma m t u (formed.Formed.mono formed.Mono.comma) h
formed_of OpenSquare m t u h = only_kind OpenSquare m t u (formed.Formed.mono formed.Mono.open_square) h
formed_of CloseSquare m t u h = only_kind CloseSquare m t u (formed.Formed.mono formed.Mono.close_square) h
formed_of OpenRound m t u h = only_kind OpenRound m t u (formed.Formed.mono formed.Mono.open_round) h
formed_of CloseRound m t u h = only_kind CloseRound m t u (formed.Formed.mono formed.Mono.close_round) h
formed_of OpenCurly m t u h = only_kind OpenCurly m t u (formed.Formed.mono formed.Mono.open_curly) h
formed_of CloseCurly m t u h = only_kind CloseCurly m t u (formed.Formed.mono formed.Mono.close_curly) h

-- each well-formed token is read from some input: its spelling, and what it awaits
Followed : {p : TokenValue} → Formed p → Type 0
Followed l = (r : List ℕ) × Needs l r × AllPreprocessed r

delim_followed : {m : ℕ} (d : Delimiter m) → (r : List ℕ) × DelimNeeds d r × AllPreprocessed r
unfolding starts_ident starts_number is_ident is_ident_start is_letter is_digit is_valid_escape is_preprocessed is_scalar_value
delim_followed signs.Delimiter.hash = ([], record { no_ident = refl; no_escape = refl }, tt)
delim_followed signs.Delimiter.plus = ([], refl, tt)
delim_followed signs.Delimiter.dash = ([], (record { no_ident = refl; no_escape = refl }, refl), tt)
delim_followed signs.Delimiter.dot = ([], refl, tt)
delim_followed signs.Delimiter.slash = ([], refl, tt)
delim_followed signs.Delimiter.less = ([], refl, tt)
delim_followed signs.Delimiter.at = ([], refl, tt)
delim_followed signs.Delimiter.backslash = (10 ∷ [], ([], refl), (refl, tt))
delim_followed (signs.Delimiter.other h) = ([], tt, tt)

-- most may stand at the end
at_end : {p : TokenValue} (l : Formed p) → Awaits l [] → Followed l
unfolding Followed
at_end {p} l a = ([], needs quiet [] end_opens l (quiet_near (left_of p)) a, tt)

followed : {p : TokenValue} (l : Formed p) → Followed l
unfolding Followed is_preprocessed is_scalar_value is_whitespace
followed (formed.Formed.ident n) = at_end (formed.Formed.ident n) tt
followed (formed.Formed.function n) = (34 ∷ 34 ∷ [], λ _. (34 ∷ [], inl refl), (refl, (refl, tt)))
followed (formed.Formed.at_keyword n) = at_end (formed.Formed.at_keyword n) tt
followed (formed.Formed.hash n) = at_end (formed.Formed.hash n) tt
followed (formed.Formed.loose_hash n l) = at_end (formed.Formed.loose_hash n l) tt
followed (formed.Formed.string n) = ([], tt, tt)
followed (formed.Formed.url n) = ([], tt, tt)
followed (formed.Formed.delim {m} k) = delim_followed (delimiter_of m k)
followed (formed.Formed.number n) = at_end (formed.Formed.number n) tt
followed (formed.Formed.percentage n) = ([], tt, tt)
followed (formed.Formed.dimension n k) = at_end (formed.Formed.dimension n k) tt
followed formed.Formed.white = ([], refl, tt)
followed formed.Formed.cdo = ([], tt, tt)
followed formed.Formed.cdc = ([], tt, tt)
followed (formed.Formed.mono m) = ([], tt, tt)

formed_lawful : {t : TokenValue} → Formed t → Lawful t
unfolding Followed
formed_lawful {t} l =
    let f = followed l in
    record {
      input = spelled Free t ++ f.0;
      rest = f.0;
      preprocessed = input_append _ _ (spelled_input l Free) f.2;
      yields = reads l Free f.0 f.1;
      not_bad = formed_not_bad l;
    }

pub test_decides_lawful : TestDecidesLawful
unfolding is_lawful
test_decides_lawful t = (λ h. formed_lawful (formed_of t.kind t.mark t.text t.unit h), λ l. tested (lawful_formed l))
