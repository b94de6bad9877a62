-- What the rules give from preprocessed input: texts, and preprocessed input that is left.
use Rattle.std.proofs.Common.{◌≡◌, ℕ, zero, suc, ◌+◌, ◌*◌, ◌<◌, Bool, true, false, ◌&&◌, ◌||◌, eqb, List, [], ◌∷◌, ◌++◌, length, get_or, drop, refl, ap, ◌∙◌, inl, inr, arith}
use Rattle.std.proofs.lemmas.Bool.Decides.{nat_tests}
use Rattle.std.proofs.lemmas.Bool.{both_ways, eqb-true, or_cases, or_from, or_left, or_parts, or_right}
use Rattle.codepoint.specs.Classes.{hex_value, is_digit, is_hex_digit, is_ident, is_ident_start, is_letter, is_scalar_value}
use Rattle.codepoint.specs.Starts.{is_valid_escape, starts_ident}
use Rattle.stream.specs.Preprocess.{AllPreprocessed, is_preprocessed}
use Rattle.syntax.specs.Rules.{Step, gives, leaves, left, out}
use Rattle.syntax.specs.Rules.Step.{give, halt}
use Rattle.syntax.specs.Escapes.{escape, escape_value, gave, hex_escape, in_ident}
use Rattle.syntax.specs.Bodies.{ends_url, in_string, in_url}
use Rattle.syntax.specs.Lawful.{is_text_point}
use Rattle.syntax.proofs.Formed.{Loose, Text}
use Rattle.syntax.proofs.Formed.Loose.{dash, dash_digit, digit}
use Rattle.syntax.proofs.Takes.{out_step, stops_at}
use Rattle.syntax.proofs.EscapeRules.{escape_hex, escape_plain, hex_more, hex_stops, ident_escape, ident_stays, ident_stops}

pub input_drop : (n : ℕ) (s : List ℕ) → AllPreprocessed s → AllPreprocessed (drop n s)
input_drop zero s h = h
input_drop (suc n) [] h = h
input_drop (suc n) (c ∷ s) h = input_drop n s h.1

pub input_append : (t s : List ℕ) → AllPreprocessed t → AllPreprocessed s → AllPreprocessed (t ++ s)
input_append [] s h k = k
input_append (c ∷ t) s h k = (h.0, input_append t s h.1 k)

pub input_behind : (t s : List ℕ) → AllPreprocessed (t ++ s) → AllPreprocessed s
input_behind [] s h = h
input_behind (c ∷ t) s h = input_behind t s h.1

-- every rule leaves preprocessed input
pub input_left : {B : Type 0} (f : List ℕ → Step B) (k : ℕ) (s : List ℕ) → AllPreprocessed s → AllPreprocessed (left f k s)
unfolding left
input_left f k [] h = h
input_left f (suc k) (c ∷ s) h = input_left f k s h.1
input_left {B} f zero (c ∷ s) h = go (f (c ∷ s)) (λ k. input_left f k s h.1)
  where
    go : (x : Step B) → ((k : ℕ) → AllPreprocessed (left f k s)) → AllPreprocessed (leaves x (c ∷ s) (λ k. left f k s))
    go halt n = h
    go (give v k) n = n k

-- a rule that gives texts gives a text
abbrev Texts : Step ℕ → Type 0
Texts halt = Unit {0}
Texts (give v k) = Text v

text_append : (t u : List ℕ) → Text t → Text u → Text (t ++ u)
text_append [] u h k = k
text_append (c ∷ t) u h k = (h.0, text_append t u h.1 k)

pub text_out : (f : List ℕ → Step ℕ) → ((s : List ℕ) → AllPreprocessed s → Texts (f s)) → (k : ℕ) (s : List ℕ) → AllPreprocessed s → Text (out f k s)
unfolding out
text_out f t k [] h = tt
text_out f t (suc k) (c ∷ s) h = text_out f t k s h.1
text_out f t zero (c ∷ s) h = go (f (c ∷ s)) (t (c ∷ s) h) (λ k. text_out f t k s h.1)
  where
    go : (x : Step ℕ) → Texts x → ((k : ℕ) → Text (out f k s)) → Text (gives x (λ k. out f k s))
    go halt v n = tt
    go (give w k) v n = text_append w _ v (n k)

-- code points
input_text_point : (c : ℕ) → is_preprocessed c ≡ true → is_text_point c ≡ true
unfolding is_preprocessed is_text_point is_scalar_value
input_text_point c h = grind (arith, nat_tests)

value_is_text_point : (v : ℕ) → is_text_point (escape_value v) ≡ true
unfolding is_text_point is_scalar_value escape_value
value_is_text_point v = grind (arith, nat_tests)

hex_text_point : (d v n : ℕ) (s : List ℕ) → is_text_point (hex_escape d v n s).0 ≡ true
unfolding hex_escape
hex_text_point d v n [] = value_is_text_point v
hex_text_point zero v n (c ∷ s) = value_is_text_point v
hex_text_point (suc d) v n (c ∷ s) = go (is_hex_digit c) refl (hex_text_point d _ _ s)
  where
    go : (b : Bool) → is_hex_digit c ≡ b → is_text_point (hex_escape d (v * 16 + hex_value c) (suc n) s).0 ≡ true → is_text_point (hex_escape (suc d) v n (c ∷ s)).0 ≡ true
    go true e h = ap (λ x. is_text_point x.0) (hex_more c s d v n e) ∙ h
    go false e h = ap (λ x. is_text_point x.0) (hex_stops c s d v n e) ∙ value_is_text_point v

escape_text_point : (s : List ℕ) → AllPreprocessed s → is_text_point (escape s).0 ≡ true
unfolding escape is_text_point is_scalar_value
escape_text_point [] h = refl
escape_text_point (c ∷ s) h = go (is_hex_digit c) refl
  where
    go : (b : Bool) → is_hex_digit c ≡ b → is_text_point (escape (c ∷ s)).0 ≡ true
    go true e = ap (λ x. is_text_point x.0) (escape_hex c s e) ∙ hex_text_point 6 _ _ (c ∷ s)
    go false e = ap (λ x. is_text_point x.0) (escape_plain c s e) ∙ input_text_point c h.0

escape_texts : (s : List ℕ) → AllPreprocessed s → Texts (gave (escape s))
escape_texts s h = (escape_text_point s h, tt)

-- both ways of a choice
pub either : {A : Type 0} (b : Bool) (x y : A) (P : A → Type 0) → (b ≡ true → P x) → (b ≡ false → P y) → P (elim b [ true ↦ x | false ↦ y ])
either true x y P f g = f refl
either false x y P f g = g refl

-- the three rules
pub ident_texts : (s : List ℕ) → AllPreprocessed s → Texts (in_ident s)
unfolding in_ident
ident_texts [] h = tt
ident_texts (c ∷ s) h =
    either (is_ident c) _ _ Texts (λ _. (input_text_point c h.0, tt)) (λ _.
    either (is_valid_escape c (get_or s 0 0)) _ _ Texts (λ _. escape_texts s h.1) (λ _. tt))

pub string_texts : (q : ℕ) (s : List ℕ) → AllPreprocessed s → Texts (in_string q s)
unfolding in_string
string_texts q [] h = tt
string_texts q (c ∷ []) h =
    either (eqb c q || eqb c 10) _ _ Texts (λ _. tt) (λ _.
    either (eqb c 92) _ _ Texts (λ _. tt) (λ _. (input_text_point c h.0, tt)))
string_texts q (c ∷ d ∷ s) h =
    either (eqb c q || eqb c 10) _ _ Texts (λ _. tt) (λ _.
    either (eqb c 92) _ _ Texts
    (λ _. either (eqb d 10) _ _ Texts (λ _. tt) (λ _. escape_texts (d ∷ s) h.1))
    (λ _. (input_text_point c h.0, tt)))

pub url_texts : (s : List ℕ) → AllPreprocessed s → Texts (in_url s)
unfolding in_url
url_texts [] h = tt
url_texts (c ∷ s) h =
    either (is_valid_escape c (get_or s 0 0)) _ _ Texts (λ _. escape_texts s h.1) (λ _.
    either (ends_url c) _ _ Texts (λ _. tt) (λ _. (input_text_point c h.0, tt)))

-- a name has a first code point where an ident code point or an escape comes first
pub name_some : (s : List ℕ) → (is_ident (get_or s 0 0) || is_valid_escape (get_or s 0 0) (get_or s 1 0)) ≡ true → 0 < length (out in_ident 0 s)
unfolding is_ident is_ident_start is_letter is_digit is_valid_escape
name_some [] h = absurd (both_ways false refl h)
name_some (c ∷ s) h = go (is_ident c) refl h
  where
    go : (b : Bool) → is_ident c ≡ b → (b || is_valid_escape c (get_or s 0 0)) ≡ true → 0 < length (out in_ident 0 (c ∷ s))
    go true e k = rw (out_step in_ident c s _ 0 (ident_stays c s e)) (omega arith)
    go false e k = rw (out_step in_ident c s _ _ (ident_escape c s e k)) (omega arith)

-- the text of a hash that starts no identifier
dash_of : (c : ℕ) → is_ident c ≡ true → is_ident_start c ≡ false → is_digit c ≡ false → eqb c 45 ≡ true
unfolding is_ident
dash_of c i n e = rw (n, e) at i

digit_ident : (c : ℕ) → is_digit c ≡ true → is_ident c ≡ true
unfolding is_ident
digit_ident c h = or_left _ _ (or_right (is_ident_start c) _ h)

no_ident : (c : ℕ) → is_ident_start c ≡ false → is_digit c ≡ false → eqb c 45 ≡ false → is_ident c ≡ false
unfolding is_ident
no_ident c n e d = or_from _ _ (or_from _ _ n e) d

none_first : (is_ident 0 || is_valid_escape 0 0) ≡ false
unfolding is_ident is_ident_start is_letter is_digit is_valid_escape
none_first = refl

-- behind a `-`
loose_second : (s : List ℕ) → (is_ident_start (get_or s 0 0) || eqb (get_or s 0 0) 45 || is_valid_escape (get_or s 0 0) (get_or s 1 0)) ≡ false → Loose (45 ∷ out in_ident 0 s)
unfolding out
loose_second [] h = dash
loose_second (c ∷ s) h =
    let p = or_parts _ (is_valid_escape c (get_or s 0 0)) h in
    let q = or_parts (is_ident_start c) (eqb c 45) p.0 in
    go (is_digit c) refl q.0 q.1 p.1
  where
    go : (b : Bool) → is_digit c ≡ b → is_ident_start c ≡ false → eqb c 45 ≡ false → is_valid_escape c (get_or s 0 0) ≡ false → Loose (45 ∷ out in_ident 0 (c ∷ s))
    go true e n d x = rw (out_step in_ident c s _ 0 (ident_stays c s (digit_ident c e))) (dash_digit e)
    go false e n d x = rw (stops_at in_ident (c ∷ s) (ident_stops c s (no_ident c n e d) x)).0 dash

pub loose_out : (s : List ℕ) → (is_ident (get_or s 0 0) || is_valid_escape (get_or s 0 0) (get_or s 1 0)) ≡ true
    → starts_ident (get_or s 0 0) (get_or s 1 0) (get_or s 2 0) ≡ false → Loose (out in_ident 0 s)
unfolding starts_ident
loose_out [] h k = absurd (both_ways _ none_first h)
loose_out (c ∷ s) h k =
    let p = or_parts _ _ k in
    let q = or_parts _ _ p.0 in
    let i : is_ident c ≡ true = first (rw q.1 at h) in
    rw (out_step in_ident c s _ 0 (ident_stays c s i)) (go (is_digit c) refl i q.0 p.1)
  where
    first : (is_ident c || false) ≡ true → is_ident c ≡ true
    first n = elim (or_cases _ _ n) [ inl x ↦ x | inr x ↦ absurd (both_ways false refl x) ]

    go : (b : Bool) → is_digit c ≡ b → is_ident c ≡ true → is_ident_start c ≡ false
        → (eqb c 45 && (is_ident_start (get_or s 0 0) || eqb (get_or s 0 0) 45 || is_valid_escape (get_or s 0 0) (get_or s 1 0))) ≡ false → Loose (c ∷ out in_ident 0 s)
    go true e i n m = digit e
    go false e i n m = let d = dash_of c i n e in rw (eqb-true c 45 d) (loose_second s (rw d at m))
