-- Whatever is read is well-formed or bad, and what follows it shows what it awaits.
use Rattle.std.proofs.Common.{◌≡◌, ℕ, ◌<◌, Bool, true, false, cond, not, ◌&&◌, ◌||◌, eqb, leb, ◌⊎◌, List, [], ◌∷◌, length, get_or, drop, sym, refl, inl, inr}
use Rattle.std.proofs.lemmas.Bool.{and_parts, both_ways, cond_both, leb-false, not-false, or_parts}
use Rattle.codepoint.specs.Classes.{is_digit, is_ident, is_ident_start, is_letter, is_non_printable, is_scalar_value, is_whitespace}
use Rattle.codepoint.specs.Starts.{is_valid_escape, starts_ident, starts_number}
use Rattle.stream.specs.Preprocess.{AllPreprocessed, is_preprocessed}
use Rattle.syntax.specs.declared.kind.Kind.{Kind}
use Rattle.syntax.specs.declared.kind.Kind.TheVariants.{AtKeyword, BadString, BadUrl, Delim, Hash}
use Rattle.syntax.specs.Kinds.{same_kind}
use Rattle.syntax.specs.Tokens.{TokenValue, bare, is_delim}
use Rattle.syntax.specs.Rules.{beyond, collect}
use Rattle.syntax.specs.Escapes.{in_ident}
use Rattle.syntax.specs.Bodies.{in_comments, in_extra_whitespace, in_remnants, in_string, in_url, is_quote, while}
use Rattle.syntax.specs.Numbers.{number_at}
use Rattle.syntax.specs.Reading.{Branch, Found, Next, branch, end_name, end_number, end_string, end_url, found_at, found_bare, found_by, ident_comes, ident_like_at, is_url, name_at, next, next_at, numeric_at, quote_comes, sign_at, sign_kind, string_at, token_of, url_at, url_or_function}
use Rattle.syntax.specs.Reading.Next.{end, token}
use Rattle.syntax.specs.Lawful.{is_delim_mark}
use Rattle.syntax.specs.Turn.{is_url_function}
use Rattle.syntax.proofs.Formed.{Formed, Numeral, Text}
use Rattle.syntax.proofs.Openings.{Counts, Starts}
use Rattle.syntax.proofs.Tried.{holds_below, implied, implies}
use Rattle.syntax.proofs.Inputs.{either, ident_texts, input_behind, input_drop, input_left, loose_out, name_some, string_texts, text_out, url_texts}
use Rattle.syntax.proofs.Counted.{number_found}
use Rattle.syntax.proofs.Formed as formed

abbrev pub BadToken : TokenValue → Type 0
BadToken t = (t ≡ bare BadString) ⊎ (t ≡ bare BadUrl)

-- what is known of a token t, and of r behind it
pub record Yielded (t : TokenValue) (r : List ℕ) : Type 0 where
  pub input : AllPreprocessed r
  pub shape : Formed t ⊎ BadToken t
  pub line : is_delim 92 t ≡ true → eqb (get_or r 0 0) 10 ≡ true
  pub quote : is_url_function t ≡ true → quote_comes r ≡ true

abbrev Good : Found → Type 0
Good f = Yielded (token_of f) f.rest

-- most tokens await nothing
plainly : (t : TokenValue) (r : List ℕ) → AllPreprocessed r → Formed t ⊎ BadToken t → is_delim 92 t ≡ false → is_url_function t ≡ false → Yielded t r
plainly t r s l d f = record { input = s; shape = l; line = λ e. absurd (both_ways _ d e); quote = λ e. absurd (both_ways _ f e) }

-- names
pub starts_some : (s : List ℕ) → Starts true s → (is_ident (get_or s 0 0) || is_valid_escape (get_or s 0 0) (get_or s 1 0)) ≡ true
unfolding starts_ident is_ident
starts_some s h = some (is_ident_start a) (is_valid_escape a (get_or s 1 0)) (eqb a 45) _ (is_digit a) h
  where
    a : ℕ
    a = get_or s 0 0

    some : (x e d y g : Bool) → (x || e || (d && y)) ≡ true → (x || g || d || e) ≡ true
    some true e d y g h = refl
    some false e d y true h = refl
    some false e true y false h = refl
    some false true false y false h = refl
    some false false false y false h = h

module _ (s : List ℕ) (h : AllPreprocessed s) where
  name_text : Text (collect in_ident s)
  name_text = text_out in_ident ident_texts 0 s h

  name_rest : AllPreprocessed (beyond in_ident s)
  name_rest = input_left in_ident 0 s h

  good_at : Starts true s → Good (name_at AtKeyword 0 s)
  unfolding token_of
  good_at b = plainly _ _ name_rest (inl (formed.Formed.at_keyword (name_text, name_some s (starts_some s b)))) refl refl

  good_hash : (is_ident (get_or s 0 0) || is_valid_escape (get_or s 0 0) (get_or s 1 0)) ≡ true → Good (name_at Hash (cond (ident_comes s) 1 0) s)
  unfolding token_of
  good_hash b =
      cond_both (ident_comes s) 1 0 (λ m. Good (name_at Hash m s))
      (λ _. plainly _ _ name_rest (inl (formed.Formed.hash (name_text, name_some s b))) refl refl)
      (λ e. plainly _ _ name_rest (inl (formed.Formed.loose_hash name_text (loose_out s b e))) refl refl)

-- urls
good_url_end : (t a : List ℕ) → Text t → AllPreprocessed a → Good (end_url t a)
unfolding end_url token_of
good_url_end t a k h =
    either (eqb (get_or a 0 41) 41) _ _ Good
    (λ _. plainly _ _ (input_drop 1 a h) (inl (formed.Formed.url k)) refl refl)
    (λ _. plainly _ _ (input_drop 1 _ (input_left in_remnants 0 a h)) (inr (inr refl)) refl refl)

good_url : (s : List ℕ) → AllPreprocessed s → Good (url_at s)
unfolding url_at
good_url s h = good_url_end _ _ (text_out in_url url_texts 0 s h) (input_left (while is_whitespace) 0 _ (input_left in_url 0 s h))

good_name_end : (t r : List ℕ) → Text t → 0 < length t → AllPreprocessed r → Good (end_name t r)
unfolding end_name url_or_function token_of
good_name_end t r k l h =
    let w = beyond in_extra_whitespace (drop 1 r) in
    let x = input_left in_extra_whitespace 0 (drop 1 r) (input_drop 1 r h) in
    either (eqb (get_or r 0 0) 40) _ _ Good
    (λ _. either (is_url t) _ _ Good
    (λ _. either (quote_comes w) _ _ Good
    (λ q. record { input = x; shape = inl (formed.Formed.function (k, l)); line = λ e. absurd (cc (sym e)); quote = λ _. q })
    (λ _. good_url _ (input_left (while is_whitespace) 0 w x)))
    (λ u. plainly _ _ (input_drop 1 r h) (inl (formed.Formed.function (k, l))) refl u))
    (λ _. plainly _ _ h (inl (formed.Formed.ident (k, l))) refl refl)

good_name : (s : List ℕ) → AllPreprocessed s → Starts true s → Good (ident_like_at s)
unfolding ident_like_at
good_name s h b = good_name_end _ _ (name_text s h) (name_some s (starts_some s b)) (name_rest s h)

-- numbers
good_number_end : (t r : List ℕ) → Numeral t → AllPreprocessed r → Good (end_number t r)
unfolding end_number token_of
good_number_end t r n h =
    either (ident_comes r) _ _ Good
    (λ b. plainly _ _ (name_rest r h) (inl (formed.Formed.dimension n (name_text r h, name_some r (starts_some r b)))) refl refl)
    (λ _. either (eqb (get_or r 0 0) 37) _ _ Good
    (λ _. plainly _ _ (input_drop 1 r h) (inl (formed.Formed.percentage n)) refl refl)
    (λ _. plainly _ _ h (inl (formed.Formed.number n)) refl refl))

good_number : (s : List ℕ) → AllPreprocessed s → Counts true s → Good (numeric_at s)
unfolding numeric_at
good_number s h c = let n = number_found s c in good_number_end _ _ n.0 (input_behind (number_at s).0 _ (rw n.1 h))

-- strings
good_string : (q : ℕ) (s : List ℕ) → AllPreprocessed s → Good (string_at q s)
unfolding string_at end_string token_of
good_string q s h =
    let r = input_left (in_string q) 0 s h in
    either (eqb (get_or (beyond (in_string q) s) 0 0) 10) _ _ Good
    (λ _. plainly _ _ r (inr (inl refl)) refl refl)
    (λ _. plainly _ _ (input_drop 1 _ r) (inl (formed.Formed.string (text_out (in_string q) (string_texts q) 0 s h))) refl refl)

-- a delim's mark: what no other branch takes
is_left_over : ℕ → Bool
is_left_over a = is_preprocessed a && not (is_whitespace a || is_quote a || is_digit a || is_ident_start a) && same_kind (sign_kind a) Delim

left_over_marks : holds_below 128 (implies is_left_over is_delim_mark) ≡ true
unfolding holds_below is_left_over is_delim_mark is_preprocessed is_scalar_value is_whitespace is_digit is_ident_start is_letter is_non_printable
left_over_marks = refl

small : (a : ℕ) → is_ident_start a ≡ false → a < 128
unfolding is_ident_start
small a h = leb-false 128 a (or_parts _ (leb 128 a) h).1

mark_found : (a : ℕ) → is_preprocessed a ≡ true → is_whitespace a ≡ false → is_quote a ≡ false → is_digit a ≡ false → is_ident_start a ≡ false
    → same_kind (sign_kind a) Delim ≡ true → is_delim_mark a ≡ true
unfolding is_left_over
mark_found a i w q d s k = implied is_left_over is_delim_mark left_over_marks a (small a s) (rw (i, w, q, d, s, k) refl)

-- signs
escapes : (a b c : ℕ) → starts_ident a b c ≡ false → eqb a 92 ≡ true → eqb b 10 ≡ true
unfolding starts_ident is_valid_escape
escapes a b c h e = not-false _ (rw e at (or_parts (is_ident_start a) (is_valid_escape a b) (or_parts _ _ h).0).1)

mono_found : (a : ℕ) (s : List ℕ) → AllPreprocessed s → same_kind (sign_kind a) Delim ≡ false → Good (found_bare (sign_kind a) s)
unfolding token_of
mono_found a s h =
    let P : Kind → Type 0 = λ k. same_kind k Delim ≡ false → Good (found_bare k s) in
    cond_both (eqb a 58) _ _ P (λ _ _. plainly _ s h (inl (formed.Formed.mono formed.Mono.colon)) refl refl) (λ _.
    cond_both (eqb a 59) _ _ P (λ _ _. plainly _ s h (inl (formed.Formed.mono formed.Mono.semicolon)) refl refl) (λ _.
    cond_both (eqb a 44) _ _ P (λ _ _. plainly _ s h (inl (formed.Formed.mono formed.Mono.comma)) refl refl) (λ _.
    cond_both (eqb a 91) _ _ P (λ _ _. plainly _ s h (inl (formed.Formed.mono formed.Mono.open_square)) refl refl) (λ _.
    cond_both (eqb a 93) _ _ P (λ _ _. plainly _ s h (inl (formed.Formed.mono formed.Mono.close_square)) refl refl) (λ _.
    cond_both (eqb a 40) _ _ P (λ _ _. plainly _ s h (inl (formed.Formed.mono formed.Mono.open_round)) refl refl) (λ _.
    cond_both (eqb a 41) _ _ P (λ _ _. plainly _ s h (inl (formed.Formed.mono formed.Mono.close_round)) refl refl) (λ _.
    cond_both (eqb a 123) _ _ P (λ _ _. plainly _ s h (inl (formed.Formed.mono formed.Mono.open_curly)) refl refl) (λ _.
    cond_both (eqb a 125) _ _ P (λ _ _. plainly _ s h (inl (formed.Formed.mono formed.Mono.close_curly)) refl refl) (λ _ e. absurd (both_ways true e refl))))))))))

good_sign : (a : ℕ) (s : List ℕ) → AllPreprocessed (a ∷ s) → is_whitespace a ≡ false → is_quote a ≡ false → starts_number a (get_or s 0 0) (get_or s 1 0) ≡ false
    → starts_ident a (get_or s 0 0) (get_or s 1 0) ≡ false → Good (sign_at a s)
unfolding starts_number starts_ident sign_at token_of
good_sign a s h w q n i =
    either (same_kind (sign_kind a) Delim) _ _ Good
    (λ k. record {
      input = h.1;
      shape = inl (formed.Formed.delim (mark_found a h.0 w q (or_parts (is_digit a) _ (or_parts _ _ n).0).0 (or_parts (is_ident_start a) _ (or_parts _ _ i).0).0 k));
      line = λ e. escapes a (get_or s 0 0) (get_or s 1 0) i e;
      quote = λ e. absurd (both_ways false refl e);
    })
    (mono_found a s h.1)

-- by the first code points
good_found : (a : ℕ) (s : List ℕ) → AllPreprocessed (a ∷ s) → Good (found_at a s)
unfolding branch found_by token_of
good_found a s h =
    let b = get_or s 0 0 in
    let c = get_or s 1 0 in
    let d = get_or s 2 0 in
    let P : Branch → Type 0 = λ x. Good (found_by x a s) in
    cond_both (is_whitespace a) _ _ P (λ _. plainly _ _ (input_left (while is_whitespace) 0 s h.1) (inl formed.Formed.white) refl refl) (λ w.
    cond_both (is_quote a) _ _ P (λ _. good_string a s h.1) (λ q.
    cond_both (eqb a 35 && (is_ident b || is_valid_escape b c)) _ _ P (λ e. good_hash s h.1 (and_parts _ _ e).1) (λ _.
    cond_both (eqb a 64 && starts_ident b c d) _ _ P (λ e. good_at s h.1 (and_parts _ _ e).1) (λ _.
    cond_both (starts_number a b c) _ _ P (λ e. good_number (a ∷ s) h e) (λ n.
    cond_both (eqb a 45 && eqb b 45 && eqb c 62) _ _ P (λ _. plainly _ _ (input_drop 2 s h.1) (inl formed.Formed.cdc) refl refl) (λ _.
    cond_both (eqb a 60 && eqb b 33 && eqb c 45 && eqb d 45) _ _ P (λ _. plainly _ _ (input_drop 3 s h.1) (inl formed.Formed.cdo) refl refl) (λ _.
    cond_both (starts_ident a b c) _ _ P (λ e. good_name (a ∷ s) h e) (λ i. good_sign a s h w q n i))))))))

-- the next token, if there is one
abbrev pub GoodNext : Next → Type 0
GoodNext end = Unit {0}
GoodNext (token t r) = Yielded t r

good_at_first : (s : List ℕ) → AllPreprocessed s → GoodNext (next_at s)
unfolding next_at
good_at_first [] h = tt
good_at_first (a ∷ s) h = good_found a s h

pub good_next : (s : List ℕ) → AllPreprocessed s → GoodNext (next s)
unfolding next
good_next s h = good_at_first _ (input_left in_comments 0 s h)
