-- Each token takes at least its first code point, and leaves an end of what came behind that.
use Rattle.std.proofs.Common.{◌≡◌, ℕ, zero, suc, ◌<◌, Bool, true, false, ◌&&◌, ◌||◌, eqb, List, [], ◌∷◌, ◌++◌, length, get_or, drop, sym, refl, ap, ◌∙◌, append_assoc, arith}
use Rattle.std.proofs.lemmas.Bool.{cond_both}
use Rattle.codepoint.specs.Classes.{is_ident, is_whitespace}
use Rattle.codepoint.specs.Starts.{is_valid_escape, starts_ident, starts_number}
use Rattle.syntax.specs.declared.kind.Kind.TheVariants.{Delim}
use Rattle.syntax.specs.Kinds.{same_kind}
use Rattle.syntax.specs.Rules.{Step, beyond, leaves, left}
use Rattle.syntax.specs.Rules.Step.{give, halt}
use Rattle.syntax.specs.Escapes.{in_ident}
use Rattle.syntax.specs.Bodies.{in_extra_whitespace, in_remnants, in_string, in_url, is_quote, while}
use Rattle.syntax.specs.Reading.{Branch, Found, branch, end_name, end_number, end_string, end_url, found_at, found_by, ident_comes, ident_like_at, is_url, numeric_at, quote_comes, sign_at, sign_kind, string_at, url_at, url_or_function}
use Rattle.syntax.proofs.Takes.{left_step}
use Rattle.syntax.proofs.EscapeRules.{ident_escape, ident_stays}
use Rattle.syntax.proofs.Openings.{Counts}
use Rattle.syntax.proofs.Inputs.{either}
use Rattle.syntax.proofs.Counted.{number_found, number_some}
use Rattle.syntax.proofs.Yielded.{starts_some}

-- r is what is left of s behind its front
pub record Behind (s r : List ℕ) : Type 0 where
  pub front : List ℕ
  pub whole : s ≡ front ++ r

behind_none : (s : List ℕ) → Behind s s
behind_none s = record { front = []; whole = refl }

behind_more : {s r : List ℕ} (c : ℕ) → Behind s r → Behind (c ∷ s) r
behind_more c b = record { front = c ∷ b.front; whole = ap {B = List ℕ} (λ t. c ∷ t) b.whole }

behind_then : {s r u : List ℕ} → Behind s r → Behind r u → Behind s u
behind_then {s} {r} {u} a b = record { front = a.front ++ b.front; whole = a.whole ∙ ap (λ x. a.front ++ x) b.whole ∙ sym (append_assoc a.front b.front u) }

drop_behind : (n : ℕ) (s : List ℕ) → Behind s (drop n s)
drop_behind zero s = behind_none s
drop_behind (suc n) [] = behind_none []
drop_behind (suc n) (c ∷ s) = behind_more c (drop_behind n s)

pub left_behind : {B : Type 0} (f : List ℕ → Step B) (k : ℕ) (s : List ℕ) → Behind s (left f k s)
unfolding left
left_behind f k [] = behind_none []
left_behind f (suc k) (c ∷ s) = behind_more c (left_behind f k s)
left_behind {B} f zero (c ∷ s) = go (f (c ∷ s)) (λ k. left_behind f k s)
  where
    go : (x : Step B) → ((k : ℕ) → Behind s (left f k s)) → Behind (c ∷ s) (leaves x (c ∷ s) (λ k. left f k s))
    go halt n = behind_none (c ∷ s)
    go (give v k) n = behind_more c (n k)

module _ (s : List ℕ) where
  dropped : (n : ℕ) (r : List ℕ) → Behind s r → Behind s (drop n r)
  dropped n r b = behind_then b (drop_behind n r)

  passed : {B : Type 0} (f : List ℕ → Step B) (r : List ℕ) → Behind s r → Behind s (beyond f r)
  passed f r b = behind_then b (left_behind f 0 r)

  url_end_behind : (t r : List ℕ) → Behind s r → Behind s (end_url t r).rest
  unfolding end_url
  url_end_behind t r b =
      either (eqb (get_or r 0 41) 41) _ _ (λ (f : Found). Behind s f.rest) (λ _. dropped 1 r b) (λ _. dropped 1 (beyond in_remnants r) (passed in_remnants r b))

  url_behind : (r : List ℕ) → Behind s r → Behind s (url_at r).rest
  unfolding url_at
  url_behind r b = url_end_behind _ _ (passed (while is_whitespace) (beyond in_url r) (passed in_url r b))

  name_end_behind : (t r : List ℕ) → Behind s r → Behind s (end_name t r).rest
  unfolding end_name url_or_function
  name_end_behind t r b =
      let w = beyond in_extra_whitespace (drop 1 r) in
      let x = passed in_extra_whitespace (drop 1 r) (dropped 1 r b) in
      let P : Found → Type 0 = λ f. Behind s f.rest in
      either (eqb (get_or r 0 0) 40) _ _ P
      (λ _. either (is_url t) _ _ P
      (λ _. either (quote_comes w) _ _ P (λ _. x) (λ _. url_behind _ (passed (while is_whitespace) w x)))
      (λ _. dropped 1 r b))
      (λ _. b)

  number_end_behind : (t r : List ℕ) → Behind s r → Behind s (end_number t r).rest
  unfolding end_number
  number_end_behind t r b =
      let P : Found → Type 0 = λ f. Behind s f.rest in
      either (ident_comes r) _ _ P (λ _. passed in_ident r b) (λ _.
      either (eqb (get_or r 0 0) 37) _ _ P (λ _. dropped 1 r b) (λ _. b))

  string_behind : (q : ℕ) → Behind s (string_at q s).rest
  unfolding string_at end_string
  string_behind q =
      let r = passed (in_string q) s (behind_none s) in
      either (eqb (get_or (beyond (in_string q) s) 0 0) 10) _ _ (λ (f : Found). Behind s f.rest) (λ _. r) (λ _. dropped 1 (beyond (in_string q) s) r)

-- a name takes its first code point
ident_takes_first : (a : ℕ) (s : List ℕ) → (is_ident a || is_valid_escape a (get_or s 0 0)) ≡ true → Behind s (beyond in_ident (a ∷ s))
ident_takes_first a s h = go (is_ident a) refl h
  where
    go : (b : Bool) → is_ident a ≡ b → (b || is_valid_escape a (get_or s 0 0)) ≡ true → Behind s (beyond in_ident (a ∷ s))
    go true e k = rw (left_step in_ident a s _ 0 (ident_stays a s e)) (passed s in_ident s (behind_none s))
    go false e k = rw (left_step in_ident a s _ _ (ident_escape a s e k)) (passed s in_ident _ (drop_behind _ s))

-- so does a number
number_takes_first : (a : ℕ) (s t r : List ℕ) → 0 < length t → t ++ r ≡ a ∷ s → Behind s r
number_takes_first a s [] r l e = absurd (omega arith)
number_takes_first a s (c ∷ t) r l e = record { front = t; whole = cc }

number_behind : (a : ℕ) (s : List ℕ) → Counts true (a ∷ s) → Behind s (numeric_at (a ∷ s)).rest
unfolding numeric_at
number_behind a s c =
    let n = number_found (a ∷ s) c in
    number_end_behind s _ _ (number_takes_first a s _ _ (number_some _ n.0) n.1)

sign_behind : (a : ℕ) (s : List ℕ) → Behind s (sign_at a s).rest
unfolding sign_at
sign_behind a s = either (same_kind (sign_kind a) Delim) _ _ (λ (f : Found). Behind s f.rest) (λ _. behind_none s) (λ _. behind_none s)

pub rest_behind : (a : ℕ) (s : List ℕ) → Behind s (found_at a s).rest
unfolding branch found_by ident_like_at
rest_behind a s =
    let b = get_or s 0 0 in
    let c = get_or s 1 0 in
    let d = get_or s 2 0 in
    let P : Branch → Type 0 = λ x. Behind s (found_by x a s).rest in
    let name_rest = passed s in_ident s (behind_none s) in
    cond_both (is_whitespace a) _ _ P (λ _. passed s (while is_whitespace) s (behind_none s)) (λ _.
    cond_both (is_quote a) _ _ P (λ _. string_behind s a) (λ _.
    cond_both (eqb a 35 && (is_ident b || is_valid_escape b c)) _ _ P (λ _. name_rest) (λ _.
    cond_both (eqb a 64 && starts_ident b c d) _ _ P (λ _. name_rest) (λ _.
    cond_both (starts_number a b c) _ _ P (λ e. number_behind a s e) (λ _.
    cond_both (eqb a 45 && eqb b 45 && eqb c 62) _ _ P (λ _. drop_behind 2 s) (λ _.
    cond_both (eqb a 60 && eqb b 33 && eqb c 45 && eqb d 45) _ _ P (λ _. drop_behind 3 s) (λ _.
    cond_both (starts_ident a b c) _ _ P (λ e. name_end_behind s _ _ (ident_takes_first a s (starts_some (a ∷ s) e))) (λ _. sign_behind a s))))))))
