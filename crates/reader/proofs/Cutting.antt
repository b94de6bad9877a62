-- What is left behind a front, by the lengths; and only a dimension has a unit.
use Rattle.std.proofs.Common.{◌≡◌, ℕ, ◌-◌, true, eqb, List, [], ◌++◌, length, get_or, drop, refl, ap, ◌∙◌, arith, length-append}
use Rattle.std.proofs.Math.Seq.{drop-append_seam}
use Rattle.std.proofs.lemmas.Bool.{both_ways}
use Rattle.syntax.specs.Kinds.{is_bad_kind, same_kind}
use Rattle.syntax.specs.declared.kind.Kind.TheVariants.{Delim}
use Rattle.syntax.specs.Points.{newline, percent, left_paren, right_paren}
use Rattle.syntax.specs.Rules.{beyond}
use Rattle.syntax.specs.Bodies.{in_string, in_url, in_extra_whitespace, past_whitespace}
use Rattle.syntax.specs.Reading.{Branch, Found, branch, found_at, found_by, ident_comes, ident_like_at, end_name, is_url, url_or_function, quote_comes, url_at, end_url, numeric_at, end_number, string_at, end_string, sign_at, sign_kind}
use Rattle.syntax.specs.Reading.Branch.{whitespace, quote, hash, at, number, cdc, cdo, name, sign}
use Rattle.syntax.proofs.Inputs.{either}

pub cut_exactly : {A : Type 0} (s front r : List A) → s ≡ front ++ r → drop (length s - length r) s ≡ r
cut_exactly s front r e =
    let n = ap length e ∙ length-append front r in
    ap (λ k. drop k s) (let d : length s - length r ≡ length front = omega arith in d) ∙ ap (drop (length front)) e ∙ drop-append_seam front r

-- a bad token has no unit
abbrev Bare : Found → Type 0
Bare f = is_bad_kind f.kind ≡ true → f.unit ≡ []

url_bare : (s : List ℕ) → Bare (url_at s)
unfolding url_at end_url
url_bare s = either (eqb (get_or (past_whitespace (beyond in_url s)) 0 right_paren) right_paren) _ _ Bare (λ _ _. refl) (λ _ _. refl)

name_bare : (t s : List ℕ) → Bare (end_name t s)
unfolding end_name url_or_function
name_bare t s =
    either (eqb (get_or s 0 0) left_paren) _ _ Bare
    (λ _. either (is_url t) _ _ Bare (λ _. either (quote_comes (beyond in_extra_whitespace (drop 1 s))) _ _ Bare (λ _ _. refl) (λ _. url_bare _)) (λ _ _. refl))
    (λ _ _. refl)

number_bare : (t s : List ℕ) → Bare (end_number t s)
unfolding end_number
number_bare t s = either (ident_comes s) _ _ Bare (λ _ h. absurd (both_ways _ refl h)) (λ _. either (eqb (get_or s 0 0) percent) _ _ Bare (λ _ _. refl) (λ _ _. refl))

found_by_bare : (x : Branch) (a : ℕ) (s : List ℕ) → Bare (found_by x a s)
unfolding found_by string_at end_string numeric_at ident_like_at sign_at
found_by_bare whitespace a s = λ _. refl
found_by_bare quote a s = either (eqb (get_or (beyond (in_string a) s) 0 0) newline) _ _ Bare (λ _ _. refl) (λ _ _. refl)
found_by_bare hash a s = λ _. refl
found_by_bare at a s = λ _. refl
found_by_bare number a s = number_bare _ _
found_by_bare cdc a s = λ _. refl
found_by_bare cdo a s = λ _. refl
found_by_bare name a s = name_bare _ _
found_by_bare sign a s = either (same_kind (sign_kind a) Delim) _ _ Bare (λ _ _. refl) (λ _ _. refl)

pub bad_has_no_unit : (a : ℕ) (s : List ℕ) → is_bad_kind (found_at a s).kind ≡ true → (found_at a s).unit ≡ []
bad_has_no_unit a s = found_by_bare (branch a (get_or s 0 0) (get_or s 1 0) (get_or s 2 0)) a s
