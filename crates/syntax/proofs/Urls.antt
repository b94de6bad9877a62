-- A spelled url reads back.
use Rattle.std.proofs.Common.{◌≡◌, ℕ, true, false, eqb, List, [], ◌∷◌, ◌++◌, get_or, codes, refl, ap, ◌∙◌, append_assoc, arith}
use Rattle.std.proofs.lemmas.Bool.Decides.{nat_tests}
use Rattle.std.proofs.lemmas.Bool.{ne_eqb}
use Rattle.codepoint.specs.Classes.{is_digit, is_ident, is_ident_start, is_letter, is_non_printable, is_scalar_value, is_whitespace}
use Rattle.codepoint.specs.Starts.{is_valid_escape, starts_ident, starts_number}
use Rattle.syntax.specs.declared.kind.Kind.TheVariants.{Url}
use Rattle.syntax.specs.declared.place.Treatment.{Treatment}
use Rattle.syntax.specs.Points.{is_one_of}
use Rattle.syntax.specs.Tokens.{texted}
use Rattle.syntax.specs.Rules.{beyond, left, out}
use Rattle.syntax.specs.Escapes.{in_ident}
use Rattle.syntax.specs.Bodies.{in_comments, in_extra_whitespace, in_url, is_quote, past_whitespace, while}
use Rattle.syntax.specs.Reading.{branch, end_name, end_url, found_by, ident_like_at, next, next_at, token_of, told, url_at, url_or_function}
use Rattle.syntax.specs.Reading.Next.{token}
use Rattle.syntax.specs.Lawful.{is_text_point}
use Rattle.syntax.specs.Places.{escaped, escaped_from, is_control, spelled_in, treatment, url}
use Rattle.syntax.proofs.Formed.{Text}
use Rattle.syntax.proofs.Takes.{Stops, Takes, stops_at, takes_all, takes_step}
use Rattle.syntax.proofs.Hexes.{Escaping, hex_opens}
use Rattle.syntax.proofs.Spelt.{Spelt, inner, spelled_before, takes_text, url_spelt}
use Rattle.syntax.proofs.Spelt.Spelt.{hexed, slashed, stays}

url_escaping : Escaping in_url
unfolding in_url is_valid_escape
url_escaping c s h = rw (ne_eqb c 10 h, in_url) refl

-- what stays in a url
module _ (c : ℕ) (x : is_text_point c ≡ true) (k : is_control c ≡ false) (h : is_one_of (codes " \"'()\\") c ≡ false) where
  no_white : is_whitespace c ≡ false
  unfolding is_control is_whitespace
  no_white = grind (arith, nat_tests)

  no_hidden : is_non_printable c ≡ false
  unfolding is_text_point is_scalar_value is_control is_non_printable
  no_hidden = grind (arith, nat_tests)

  no_quote : is_quote c ≡ false
  no_quote = grind (arith, nat_tests)

  no_mark : (eqb c 34 ≡ false) × (eqb c 39 ≡ false) × (eqb c 40 ≡ false) × (eqb c 41 ≡ false) × (eqb c 92 ≡ false)
  no_mark = (grind (arith, nat_tests), grind (arith, nat_tests), grind (arith, nat_tests), grind (arith, nat_tests), grind (arith, nat_tests))

  url_keeps : Takes in_url (c ∷ []) (c ∷ [])
  unfolding in_url is_valid_escape
  url_keeps = takes_step in_url c [] (c ∷ []) (λ r. let m = no_mark in rw (m.4, no_white, m.0, m.1, m.2, m.3, m.4, no_hidden, in_url) refl)

url_taken : (t : List ℕ) → Text t → Takes in_url (inner url t) t
url_taken t h = takes_text in_url url_escaping (λ i c. is_one_of (codes " \"'()\\") c ≡ false) (treatment url t) (url_spelt t) (λ i c x n k. url_keeps c x n k) 0 t h

url_stops : (r : List ℕ) → Stops in_url (41 ∷ r)
unfolding in_url is_valid_escape is_whitespace
url_stops r = stops_at in_url (41 ∷ r) refl

-- nothing that is spelled in a url opens with whitespace or a quote
Calm : List ℕ → Type 0
Calm s = (is_whitespace (get_or s 0 0) ≡ false) × (is_quote (get_or s 0 0) ≡ false)

calm : (t r : List ℕ) → Text t → Calm (inner url t ++ 41 ∷ r)
unfolding Calm escaped_from is_whitespace
calm [] r h = (refl, refl)
calm (c ∷ t) r h = rw append_assoc (opens _ (url_spelt (c ∷ t) 0 c))
  where
    opens : {x : Treatment} (u : List ℕ) → Spelt (is_one_of (codes " \"'()\\") c ≡ false) c x → Calm (escaped x c ++ u)
    opens u (stays n k) = (no_white c h.0 n k, no_quote c h.0 n k)
    opens u (slashed n k) = (refl, refl)
    opens u hexed = hex_opens Calm (λ _ _ _. (refl, refl)) c u

pub whitespace_stops : (s : List ℕ) → is_whitespace (get_or s 0 0) ≡ false → past_whitespace s ≡ s
unfolding while
whitespace_stops [] h = (stops_at (while is_whitespace) [] refl).1
whitespace_stops (c ∷ s) h = (stops_at (while is_whitespace) (c ∷ s) (rw (h, while) refl)).1

extra_stops : (s : List ℕ) → is_whitespace (get_or s 0 0) ≡ false → beyond in_extra_whitespace s ≡ s
unfolding in_extra_whitespace
extra_stops [] h = (stops_at in_extra_whitespace [] refl).1
extra_stops (c ∷ s) h = (stops_at in_extra_whitespace (c ∷ s) (rw (h, in_extra_whitespace) refl)).1

-- `url(` opens a url where no whitespace and no quote follows
url_opens : (s : List ℕ) → next (117 ∷ 114 ∷ 108 ∷ 40 ∷ s) ≡ told (url_or_function (117 ∷ 114 ∷ 108 ∷ []) (beyond in_extra_whitespace s))
unfolding next next_at branch found_by ident_like_at end_name out left in_ident in_comments is_whitespace is_digit is_letter is_ident_start is_ident is_valid_escape starts_ident starts_number
url_opens s = refl

url_calm : (t s : List ℕ) → Calm s → url_or_function t s ≡ url_at (past_whitespace s)
unfolding url_or_function Calm
url_calm t s h = rw (h.0, h.1, url_or_function) refl

url_ends : (t r : List ℕ) → told (end_url t (41 ∷ r)) ≡ token (texted Url t) r
unfolding end_url token_of
url_ends t r = refl

no_paren : is_whitespace 41 ≡ false
unfolding is_whitespace
no_paren = refl

pub url_reads : (t r : List ℕ) → Text t → next (spelled_in url t ++ r) ≡ token (texted Url t) r
unfolding url url_at Calm
url_reads t r h =
    let s = inner url t ++ 41 ∷ r in
    let q = calm t r h in
    let b = takes_all in_url (41 ∷ r) (url_taken t h) (url_stops r) in
    let e : past_whitespace (left in_url 0 s) ≡ 41 ∷ r = ap past_whitespace b.1 ∙ whitespace_stops (41 ∷ r) no_paren in
    rw (spelled_before url t r)
    (url_opens s ∙ ap (λ x. told (url_or_function (117 ∷ 114 ∷ 108 ∷ []) x)) (extra_stops s q.0) ∙ ap told (url_calm (117 ∷ 114 ∷ 108 ∷ []) s q)
    ∙ ap (λ x. told (url_at x)) (whitespace_stops s q.0) ∙ (λ i. told (end_url (b.0 i) (e i))) ∙ url_ends t r)
