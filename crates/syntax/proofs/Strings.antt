-- A spelled string reads back.
use Rattle.std.proofs.Common.{◌≡◌, ℕ, false, eqb, List, [], ◌∷◌, ◌++◌, codes, refl, ◌∙◌, arith}
use Rattle.std.proofs.lemmas.Bool.Decides.{nat_tests}
use Rattle.std.proofs.lemmas.Bool.{ne_eqb}
use Rattle.codepoint.specs.Classes.{is_whitespace}
use Rattle.syntax.specs.declared.kind.Kind.TheVariants.{QuotedString}
use Rattle.syntax.specs.Points.{is_one_of}
use Rattle.syntax.specs.Tokens.{texted}
use Rattle.syntax.specs.Rules.Step.{give}
use Rattle.syntax.specs.Bodies.{in_string}
use Rattle.syntax.specs.Reading.{branch, end_string, found_by, next, string_at, token_of, told}
use Rattle.syntax.specs.Reading.Next.{token}
use Rattle.syntax.specs.Places.{is_control, quoted_string, spelled_in, treatment}
use Rattle.syntax.proofs.Formed.{Text}
use Rattle.syntax.proofs.Takes.{Stops, Takes, stops_at, takes_all, takes_step}
use Rattle.syntax.proofs.Hexes.{Escaping}
use Rattle.syntax.proofs.Spelt.{inner, spelled_before, string_spelt, takes_text}
use Rattle.syntax.proofs.Branches.{next_found}

string_escaping : Escaping (in_string 34)
unfolding in_string
string_escaping c s h = rw (ne_eqb c 10 h, in_string) refl

string_keeps : (c : ℕ) → is_control c ≡ false → is_one_of (codes "\"\\") c ≡ false → Takes (in_string 34) (c ∷ []) (c ∷ [])
unfolding in_string is_control
string_keeps c k h = takes_step (in_string 34) c [] (c ∷ []) by_end
  where
    quote_no : eqb c 34 ≡ false
    quote_no = grind (arith, nat_tests)

    line_no : eqb c 10 ≡ false
    line_no = grind (arith, nat_tests)

    backslash_no : eqb c 92 ≡ false
    backslash_no = grind (arith, nat_tests)

    by_end : (r : List ℕ) → in_string 34 (c ∷ r) ≡ give (c ∷ []) 0
    by_end [] = rw (quote_no, line_no, backslash_no, in_string) refl
    by_end (d ∷ r) = rw (quote_no, line_no, backslash_no, in_string) refl

string_taken : (t : List ℕ) → Text t → Takes (in_string 34) (inner quoted_string t) t
string_taken t h =
    takes_text (in_string 34) string_escaping (λ i c. is_one_of (codes "\"\\") c ≡ false) (treatment quoted_string t) (string_spelt t) (λ i c _ n k. string_keeps c n k) 0 t h

string_stops : (r : List ℕ) → Stops (in_string 34) (34 ∷ r)
unfolding in_string
string_stops [] = stops_at (in_string 34) _ refl
string_stops (d ∷ r) = stops_at (in_string 34) _ refl

quote_next : (s : List ℕ) → next (34 ∷ s) ≡ told (string_at 34 s)
unfolding branch found_by is_whitespace
quote_next s = next_found 34 s refl

string_ends : (t r : List ℕ) → told (end_string t (34 ∷ r)) ≡ token (texted QuotedString t) r
unfolding end_string token_of
string_ends t r = refl

pub string_reads : (t r : List ℕ) → Text t → next (spelled_in quoted_string t ++ r) ≡ token (texted QuotedString t) r
unfolding quoted_string string_at
string_reads t r h =
    let b = takes_all (in_string 34) (34 ∷ r) (string_taken t h) (string_stops r) in
    rw (spelled_before quoted_string t r) (quote_next _ ∙ (λ i. told (end_string (b.0 i) (b.1 i))) ∙ string_ends t r)
