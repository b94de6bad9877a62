-- What a window shows of a list. Past its end stands 0.
use Rattle.std.proofs.Common.{◌≡◌, ℕ, true, false, List, [], ◌∷◌, get_or, drop, refl, ap, arith}
use Rattle.std.proofs.lemmas.Bool.{both_ways}
use Rattle.codepoint.specs.Utf8.{code_points_of}
use Rattle.codepoint.specs.Classes.{is_ident, is_ident_start, is_letter, is_digit, is_non_printable, is_whitespace}
use Rattle.codepoint.specs.Starts.{is_valid_escape}
use Rattle.stream.specs.Preprocess.{Placed}
use Rattle.syntax.specs.Rules.{Step}
use Rattle.syntax.specs.Rules.Step.{halt}
use Rattle.syntax.specs.Bodies.{ends_url}
use Rattle.syntax.specs.Escapes.{in_ident, escape}
use Rattle.syntax.proofs.EscapeRules.{ident_escape, ident_stays, ident_stops}
use Rattle.lookahead.specs.declared.ahead.Peek.{Peek}
use Rattle.lookahead.specs.Ahead.{EndsAtZero, peeked}
use Rattle.scan.proofs.States.{Gives}

-- past the end the tests fail
no_ident : is_ident 0 ≡ false
unfolding is_ident is_ident_start is_letter is_digit
no_ident = refl

no_escape : is_valid_escape 0 0 ≡ false
unfolding is_valid_escape
no_escape = refl

-- but a url ends there
pub ends_url_lem : ends_url 0 ≡ true
unfolding is_whitespace is_non_printable
ends_url_lem = refl

-- an escape at the front
abbrev pub GivesEscape : (List ℕ → Step ℕ) → List ℕ → Type 0
GivesEscape f t = Gives f t ((escape (drop 1 t)).0 ∷ []) (escape (drop 1 t)).1

-- identifiers
ident_one : (t : List ℕ) → is_ident (get_or t 0 0) ≡ true → Gives in_ident t (get_or t 0 0 ∷ []) 0
ident_one [] h = absurd (both_ways _ no_ident h)
ident_one (c ∷ t) h = record { some = omega arith; says = ident_stays c t h }

ident_esc : (t : List ℕ) → is_ident (get_or t 0 0) ≡ false → is_valid_escape (get_or t 0 0) (get_or t 1 0) ≡ true → GivesEscape in_ident t
ident_esc [] h k = absurd (both_ways _ no_escape k)
ident_esc (c ∷ t) h k = record { some = omega arith; says = ident_escape c t h k }

ident_stop : (t : List ℕ) → is_ident (get_or t 0 0) ≡ false → is_valid_escape (get_or t 0 0) (get_or t 1 0) ≡ false → in_ident t ≡ halt
unfolding in_ident
ident_stop [] h k = refl
ident_stop (c ∷ t) h k = ident_stops c t h k

-- the same by what the window shows
module _ (ps : List Placed) (w : Peek) (seen : w ≡ peeked ps) where
  pub first_is : w.first ≡ get_or (code_points_of ps) 0 0
  first_is = ap (λ (t : Peek). t.first) seen

  pub second_is : w.second ≡ get_or (code_points_of ps) 1 0
  second_is = ap (λ (t : Peek). t.second) seen

  pub third_is : w.third ≡ get_or (code_points_of ps) 2 0
  third_is = ap (λ (t : Peek). t.third) seen

  pub name_one : is_ident w.first ≡ true → Gives in_ident (code_points_of ps) (w.first ∷ []) 0
  name_one h = rw first_is (ident_one (code_points_of ps) (rw first_is at h))

  pub name_escape : is_ident w.first ≡ false → is_valid_escape w.first w.second ≡ true → GivesEscape in_ident (code_points_of ps)
  name_escape h k = ident_esc (code_points_of ps) (rw first_is at h) (rw (first_is, second_is) at k)

  pub name_stop : is_ident w.first ≡ false → is_valid_escape w.first w.second ≡ false → in_ident (code_points_of ps) ≡ halt
  name_stop h k = ident_stop (code_points_of ps) (rw first_is at h) (rw (first_is, second_is) at k)

  -- where the window shows the end
  module _ (ends : EndsAtZero w ps) where
    pub nothing_left : w.first ≡ 0 → code_points_of ps ≡ []
    nothing_left z = ap code_points_of (ends.none z)
