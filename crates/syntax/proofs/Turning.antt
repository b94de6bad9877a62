-- Reading yields lawful tokens and bad ones, in turn.
use Rattle.std.proofs.Common.{◌≡◌, ℕ, true, false, ◌&&◌, eqb, ◌⊎◌, List, [], ◌∷◌, map, get_or, refl, ap, ◌∙◌, subst, inl, inr, ⊎_elim}
use Rattle.std.proofs.lemmas.Bool.{and_left, and_parts, both_ways, cond_both, eqb-true, or_cases, or_right}
use Rattle.codepoint.specs.Classes.{is_whitespace}
use Rattle.stream.specs.Preprocess.{AllPreprocessed}
use Rattle.syntax.specs.declared.kind.Kind.TheVariants.{BadString, QuotedString, Whitespace}
use Rattle.syntax.specs.declared.waiting.Waiting.{Waiting}
use Rattle.syntax.specs.declared.waiting.Waiting.TheVariants.{AfterBackslash, AfterUrl, AfterUrlWhitespace, Free}
use Rattle.syntax.specs.Tokens.{TokenValue, bare, is_bad, is_delim, is_kind}
use Rattle.syntax.specs.Rules.{beyond}
use Rattle.syntax.specs.Bodies.{in_string, is_quote, past_whitespace}
use Rattle.syntax.specs.Reading.{Next, Yields, branch, end_string, found_by, next, quote_comes, string_at, token_of, told}
use Rattle.syntax.specs.Reading.Branch.{quote}
use Rattle.syntax.specs.Reading.Next.{end, token}
use Rattle.syntax.specs.Lawful.{Lawful}
use Rattle.syntax.specs.Turn.{InTurn, is_in_turn, is_url_function, mended, waiting_after}
use Rattle.syntax.specs.Written.{Each}
use Rattle.syntax.specs.Laws.{LawfulOrBad, ReadingYieldsLawfulInTurn}
use Rattle.syntax.proofs.Formed.{Formed, formed_not_bad}
use Rattle.syntax.proofs.Branches.{next_found, told_apart}
use Rattle.syntax.proofs.Urls.{whitespace_stops}
use Rattle.syntax.proofs.Inputs.{either}
use Rattle.syntax.proofs.Yielded.{BadToken, GoodNext, Yielded, good_next}

-- how the input stands where something is awaited
abbrev Meets : Waiting → List ℕ → Type 0
Meets Free s = Unit {0}
Meets AfterBackslash s = eqb (get_or s 0 0) 10 ≡ true
Meets AfterUrl s = quote_comes s ≡ true
Meets AfterUrlWhitespace s = is_quote (get_or s 0 0) ≡ true

-- what the next token is there
abbrev Turned : Waiting → Next → Type 0
Turned w end = w ≡ Free
Turned w (token t r) = (is_in_turn w (mended t) ≡ true) × Meets (waiting_after w (mended t)) r

quote_no_whitespace : (c : ℕ) → is_quote c ≡ true → is_whitespace c ≡ false
unfolding is_whitespace
quote_no_whitespace c h = rw (told_apart is_quote c 10 h refl, told_apart is_quote c 9 h refl, told_apart is_quote c 32 h refl) refl

-- a quote opens a string, good or bad
quote_branch : (a b c d : ℕ) → is_quote a ≡ true → branch a b c d ≡ quote
unfolding branch
quote_branch a b c d h = rw (quote_no_whitespace a h, h) refl

after_quote : (w : Waiting) → ((t : TokenValue) → is_kind QuotedString t ≡ true → is_in_turn w t ≡ true) → (s : List ℕ) → is_quote (get_or s 0 0) ≡ true → Turned w (next s)
unfolding found_by string_at end_string token_of
after_quote w f [] h = absurd (both_ways false refl h)
after_quote w f (a ∷ s) h =
    rw (next_found a s (and_left _ _ (told_apart is_quote a 47 h refl)), quote_branch a (get_or s 0 0) (get_or s 1 0) (get_or s 2 0) h)
    (either (eqb (get_or (beyond (in_string a) s) 0 0) 10) _ _ (λ x. Turned w (told x))
    (λ _. (f (bare QuotedString) refl, tt))
    (λ _. (f _ refl, tt)))

after_whitespace : (a : ℕ) (s : List ℕ) → is_whitespace a ≡ true → next (a ∷ s) ≡ token (bare Whitespace) (past_whitespace s)
unfolding branch found_by token_of is_whitespace
after_whitespace a s h = next_found a s (and_left _ _ (told_apart is_whitespace a 47 h refl)) ∙ rw h refl

-- where nothing is awaited, the next token shows by itself what it awaits
meets_after : (t : TokenValue) (r : List ℕ) → Yielded t r → Meets (waiting_after Free t) r
meets_after t r g =
    let P : Waiting → Type 0 = λ w. Meets w r in
    cond_both (is_delim 92 t) _ _ P (λ e. g.line e) (λ _.
    cond_both (is_url_function t) _ _ P (λ e. g.quote e) (λ _.
    cond_both (is_kind Whitespace t && false) AfterUrlWhitespace Free P (λ e. absurd (both_ways false refl (and_parts (is_kind Whitespace t) false e).1)) (λ _. tt)))

turned_free : (s : List ℕ) → AllPreprocessed s → Turned Free (next s)
turned_free s h = go (next s) (good_next s h)
  where
    go : (n : Next) → GoodNext n → Turned Free n
    go end g = refl
    go (token t r) g = (refl, cond_both (is_kind BadString t) (bare QuotedString) t (λ x. Meets (waiting_after Free x) r) (λ _. tt) (λ _. meets_after t r g))

turned_line : (s : List ℕ) → eqb (get_or s 0 0) 10 ≡ true → Turned AfterBackslash (next s)
unfolding is_whitespace
turned_line [] m = absurd (both_ways false refl m)
turned_line (a ∷ s) m = rw (after_whitespace a s (rw (eqb-true a 10 m) refl)) (refl, tt)

turned_space : (s : List ℕ) → is_whitespace (get_or s 0 0) ≡ true → is_quote (get_or s 1 0) ≡ true → Turned AfterUrl (next s)
unfolding is_whitespace
turned_space [] m q = absurd (both_ways false refl m)
turned_space (a ∷ s) m q =
    let e : past_whitespace s ≡ s = whitespace_stops s (quote_no_whitespace (get_or s 0 0) q) in
    rw (after_whitespace a s m) (refl, rw e q)

turned : (w : Waiting) (s : List ℕ) → AllPreprocessed s → Meets w s → Turned w (next s)
turned Free s h m = turned_free s h
turned AfterBackslash s h m = turned_line s m
turned AfterUrl s h m =
    ⊎_elim
    (λ q. after_quote AfterUrl (λ t e. or_right (is_kind Whitespace t) _ e) s q)
    (λ q. let p = and_parts (is_whitespace (get_or s 0 0)) _ q in turned_space s p.0 p.1)
    (or_cases (is_quote (get_or s 0 0)) _ m)
turned AfterUrlWhitespace s h m = after_quote AfterUrlWhitespace (λ t e. e) s m

lawful_or_bad : (s r : List ℕ) (t : TokenValue) → AllPreprocessed s → next s ≡ token t r → Formed t ⊎ BadToken t → LawfulOrBad t
lawful_or_bad s r t h e (inl f) = inl (record { input = s; rest = r; preprocessed = h; yields = e; not_bad = formed_not_bad f })
lawful_or_bad s r t h e (inr b) = inr b

in_turn_from : (w : Waiting) (s : List ℕ) (ts : List TokenValue) → AllPreprocessed s → Meets w s → Yields s ts → Each LawfulOrBad ts × InTurn w (map mended ts)
in_turn_from w s [] h m y = (tt, subst (Turned w) y (turned w s h m))
in_turn_from w s (t ∷ ts) h m y =
    let g : Yielded t y.0 = subst GoodNext y.1 (good_next s h) in
    let x = subst (Turned w) y.1 (turned w s h m) in
    let z = in_turn_from (waiting_after w (mended t)) y.0 ts g.input x.1 y.2 in
    ((lawful_or_bad s y.0 t h y.1 g.shape, z.0), (x.0, z.1))

pub reading_yields_lawful_in_turn : ReadingYieldsLawfulInTurn
reading_yields_lawful_in_turn s ts h y = in_turn_from Free s ts h tt y

-- a lawful token is well-formed
bad_is_bad : (t : TokenValue) → BadToken t → is_bad t ≡ true
bad_is_bad t (inl e) = ap is_bad e
bad_is_bad t (inr e) = ap is_bad e

pub lawful_formed : {t : TokenValue} → Lawful t → Formed t
lawful_formed {t} l =
    let g : Yielded t l.rest = subst GoodNext l.yields (good_next l.input l.preprocessed) in
    ⊎_elim (λ f. f) (λ b. absurd (both_ways _ l.not_bad (bad_is_bad t b))) g.shape
