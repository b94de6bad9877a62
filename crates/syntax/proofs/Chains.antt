-- Whatever is written reads back, by induction from the right end.
use Rattle.std.proofs.Common.{◌≡◌, ℕ, Bool, true, false, cond, ◌&&◌, ◌||◌, List, [], ◌∷◌, ◌++◌, get_or, sym, refl, ap, ◌∙◌, subst, inl, inr, ⊎_elim, append_assoc, arith}
use Rattle.std.proofs.lemmas.Bool.{both_ways, cond_both, or_cases, or_left}
use Rattle.codepoint.specs.Classes.{is_whitespace}
use Rattle.syntax.specs.declared.kind.Kind.TheVariants.{Function, QuotedString, Whitespace}
use Rattle.syntax.specs.declared.neighbour.Left.{Left}
use Rattle.syntax.specs.declared.waiting.Waiting.{Waiting}
use Rattle.syntax.specs.declared.waiting.Waiting.TheVariants.{AfterBackslash, AfterUrl, AfterUrlWhitespace, Free}
use Rattle.syntax.specs.Tokens.{TokenValue, delim, is_kind, texted}
use Rattle.syntax.specs.Rules.{left, out}
use Rattle.syntax.specs.Bodies.{in_comment, in_comments}
use Rattle.syntax.specs.Reading.{Yields, is_url, next, next_at}
use Rattle.syntax.specs.Reading.Next.{end, token}
use Rattle.syntax.specs.Turn.{InTurn, waiting_after}
use Rattle.syntax.specs.Places.{quoted_string, spelled_in}
use Rattle.syntax.specs.Spelling.{blank, spelled}
use Rattle.syntax.specs.Neighbours.{apart, left_of, right_of}
use Rattle.syntax.specs.Written.{Each, NoDoubleWhitespace, added, comment, gap, written, written_from}
use Rattle.syntax.proofs.KindNumbers.{kind_is}
use Rattle.syntax.proofs.Formed.{Formed}
use Rattle.syntax.proofs.Takes.{Takes, takes_step}
use Rattle.syntax.proofs.Signs.{Delimiter, delimiter_of}
use Rattle.syntax.proofs.Followers.{Needs, Quoted, reads}
use Rattle.syntax.proofs.MatrixRows.{covers_row, no_comment_behind, none_before_other}
use Rattle.syntax.proofs.Neighbouring.{Awaits, DelimAwaits, Opens, comment_opens, end_opens, needs, opens, quiet, quiet_near}
use Rattle.syntax.proofs.Formed as formed
use Rattle.syntax.proofs.Signs as signs

-- a comment is passed over
comment_takes : Takes in_comments comment []
unfolding in_comments in_comment out
comment_takes = takes_step in_comments 47 _ [] (λ r. refl)

past_comment : (s : List ℕ) → next (comment ++ s) ≡ next s
unfolding next
past_comment s = ap next_at (comment_takes.left_as s)

yields_past : (b : Bool) (s : List ℕ) (ts : List TokenValue) → Yields s ts → Yields (cond b comment [] ++ s) ts
yields_past false s ts h = h
yields_past true s [] h = past_comment s ∙ h
yields_past true s (t ∷ ts) h = (h.0, past_comment s ∙ h.1, h.2)

-- what is written behind a token
abbrev tail : Waiting → TokenValue → List TokenValue → List ℕ
tail w p ts = written_from (left_of p) (waiting_after w p) ts

next_written : (l : Left) (w : Waiting) (q : TokenValue) (qs : List TokenValue) → written_from l w (q ∷ qs) ≡ gap l q ++ (spelled w q ++ tail w q qs)
unfolding written_from added
next_written l w q qs = append_assoc (gap l q) (spelled w q) (tail w q qs)

-- whitespace and strings, by their kind
white_spelled : (w : Waiting) (q : TokenValue) → is_kind Whitespace q ≡ true → spelled w q ≡ blank w ∷ []
unfolding spelled
white_spelled w q h = rw (kind_is q.kind Whitespace h) refl

string_spelled : (w : Waiting) (q : TokenValue) → is_kind QuotedString q ≡ true → (u : List ℕ) × (spelled w q ≡ 34 ∷ u)
unfolding spelled spelled_in quoted_string
string_spelled w q h = rw (kind_is q.kind QuotedString h) (_, refl)

-- no comment stands before them, behind whitespace, or at the very front
no_gap_before : (l : Left) (q : TokenValue) → (is_kind Whitespace q || is_kind QuotedString q) ≡ true → gap l q ≡ []
unfolding right_of
no_gap_before l q h =
    ⊎_elim (λ e. rw (kind_is q.kind Whitespace e, none_before_other l) refl) (λ e. rw (kind_is q.kind QuotedString e, none_before_other l) refl)
    (or_cases (is_kind Whitespace q) _ h)

no_gap_behind_white : (p q : TokenValue) → is_kind Whitespace p ≡ true → gap (left_of p) q ≡ []
unfolding left_of covers_row
no_gap_behind_white p q h = rw (kind_is p.kind Whitespace h, no_comment_behind Left.Whitespace (right_of q) refl) refl

no_gap_in_front : (q : TokenValue) → gap Left.Other q ≡ []
unfolding covers_row
no_gap_in_front q = rw (no_comment_behind Left.Other (right_of q) refl) refl

-- something is awaited, or nothing
is_free : Waiting → Bool
is_free Free = true
is_free AfterBackslash = false
is_free AfterUrl = false
is_free AfterUrlWhitespace = false

awaiting : {A : Type 0} {w : Waiting} → is_free w ≡ false → w ≡ Free → A
unfolding is_free
awaiting h e = absurd (both_ways true (sym (ap is_free e) ∙ h) refl)

-- behind a delim `\` stands a newline
line_behind : (w : Waiting) (ts : List TokenValue) → InTurn w (delim 92 ∷ ts) → (u : List ℕ) × (tail w (delim 92) ts ≡ 10 ∷ u)
unfolding is_free
line_behind w [] h = awaiting refl h.1
line_behind w (q ∷ qs) h =
    let e = h.1.0 in
    let l = left_of (delim 92) in
    (tail AfterBackslash q qs, next_written l AfterBackslash q qs ∙ rw (no_gap_before l q (or_left _ _ e), white_spelled AfterBackslash q e) refl)

-- behind a function named url stands a string, or a space and a string
spaced_behind : (q : TokenValue) (qs : List TokenValue) → is_kind Whitespace q ≡ true → InTurn AfterUrlWhitespace qs
    → Quoted (spelled AfterUrl q ++ written_from (left_of q) AfterUrlWhitespace qs)
unfolding is_free
spaced_behind q [] k n = awaiting refl n
spaced_behind q (z ∷ zs) k n =
    let s = string_spelled AfterUrlWhitespace z n.0 in
    let e = next_written (left_of q) AfterUrlWhitespace z zs in
    (s.0 ++ tail AfterUrlWhitespace z zs, inr (rw (white_spelled AfterUrl q k, e, no_gap_behind_white q z k, s.1) refl))

white_waits : (q : TokenValue) → is_kind Whitespace q ≡ true → waiting_after AfterUrl q ≡ AfterUrlWhitespace
white_waits q k = rw (kind_is q.kind Whitespace k) refl

quoted_behind : (l : Left) (ts : List TokenValue) → InTurn AfterUrl ts → Quoted (written_from l AfterUrl ts)
unfolding is_free
quoted_behind l [] n = awaiting refl n
quoted_behind l (q ∷ qs) n =
    rw (next_written l AfterUrl q qs, no_gap_before l q n.0)
    (⊎_elim (λ k. rw (white_waits q k) (spaced_behind q qs k (rw (white_waits q k) at n.1)))
    (λ k. let s = string_spelled AfterUrl q k in (s.0 ++ tail AfterUrl q qs, inl (ap (λ x. x ++ tail AfterUrl q qs) s.1)))
    (or_cases (is_kind Whitespace q) (is_kind QuotedString q) n.0))

url_waits : (w : Waiting) (t : List ℕ) → is_url t ≡ true → waiting_after w (texted Function t) ≡ AfterUrl
url_waits w t u = rw u refl

quote_behind : (w : Waiting) (t : List ℕ) (ts : List TokenValue) → is_url t ≡ true → InTurn w (texted Function t ∷ ts) → Quoted (tail w (texted Function t) ts)
quote_behind w t ts u h = rw (url_waits w t u) (quoted_behind _ ts (rw (url_waits w t u) at h.1))

delim_awaits : {m : ℕ} (d : Delimiter m) (w : Waiting) (ts : List TokenValue) → InTurn w (delim m ∷ ts) → DelimAwaits d (tail w (delim m) ts)
delim_awaits signs.Delimiter.hash w ts h = tt
delim_awaits signs.Delimiter.plus w ts h = tt
delim_awaits signs.Delimiter.dash w ts h = tt
delim_awaits signs.Delimiter.dot w ts h = tt
delim_awaits signs.Delimiter.slash w ts h = tt
delim_awaits signs.Delimiter.less w ts h = tt
delim_awaits signs.Delimiter.at w ts h = tt
delim_awaits signs.Delimiter.backslash w ts h = line_behind w ts h
delim_awaits (signs.Delimiter.other k) w ts h = tt

awaits : {p : TokenValue} (l : Formed p) (w : Waiting) (ts : List TokenValue) → InTurn w (p ∷ ts)
    → (is_kind Whitespace p ≡ true → is_whitespace (get_or (tail w p ts) 0 0) ≡ false) → Awaits l (tail w p ts)
awaits (formed.Formed.ident n) w ts h k = tt
awaits (formed.Formed.function {t} n) w ts h k = λ u. quote_behind w t ts u h
awaits (formed.Formed.at_keyword n) w ts h k = tt
awaits (formed.Formed.hash n) w ts h k = tt
awaits (formed.Formed.loose_hash n l) w ts h k = tt
awaits (formed.Formed.string n) w ts h k = tt
awaits (formed.Formed.url n) w ts h k = tt
awaits (formed.Formed.delim {m} n) w ts h k = delim_awaits (delimiter_of m n) w ts h
awaits (formed.Formed.number n) w ts h k = tt
awaits (formed.Formed.percentage n) w ts h k = tt
awaits (formed.Formed.dimension n u) w ts h k = tt
awaits formed.Formed.white w ts h k = k refl
awaits formed.Formed.cdo w ts h k = tt
awaits formed.Formed.cdc w ts h k = tt
awaits (formed.Formed.mono n) w ts h k = tt

white_end : (w : Waiting) (p : TokenValue) → is_whitespace (get_or (tail w p []) 0 0) ≡ false
unfolding written_from is_whitespace
white_end w p = refl

white_next : (w : Waiting) (p q : TokenValue) (qs : List TokenValue) → Opens q (spelled (waiting_after w p) q ++ tail (waiting_after w p) q qs)
    → (is_kind Whitespace p && is_kind Whitespace q) ≡ false → is_kind Whitespace p ≡ true → is_whitespace (get_or (tail w p (q ∷ qs)) 0 0) ≡ false
white_next w p q qs o c k = rw (next_written (left_of p) (waiting_after w p) q qs, no_gap_behind_white p q k) (o.no_white (rw k at c))

-- what is written behind a token is what the token needs
tails : (w : Waiting) (p : TokenValue) (ts : List TokenValue) (l : Formed p) → Each Formed ts → InTurn w (p ∷ ts) → NoDoubleWhitespace (p ∷ ts) → Needs l (tail w p ts)
unfolding written_from
tails w p [] l ls t c = needs quiet [] end_opens l (quiet_near (left_of p)) (awaits l w [] t (λ _. white_end w p))
tails w p (q ∷ qs) l ls t c =
    let v = waiting_after w p in
    let n = tails v q qs ls.0 ls.1 t.1 c.1 in
    let s = spelled v q ++ tail v q qs in
    let o : Opens q s = opens ls.0 v (tail v q qs) n in
    let e = next_written (left_of p) v q qs in
    subst (Needs l) (sym e) (cond_both (apart (left_of p) (right_of q)) comment [] (λ x. Awaits l (x ++ s) → Needs l (x ++ s))
    (λ _ a. needs quiet (comment ++ s) (comment_opens s) l (quiet_near (left_of p)) a)
    (λ e a. needs q s o l e a)
    (subst (Awaits l) e (awaits l w (q ∷ qs) t (white_next w p q qs o c.0))))

nothing_next : next [] ≡ end
unfolding next next_at left
nothing_next = refl

-- so each token is read, and then the rest
all_read : (w : Waiting) (p : TokenValue) (ts : List TokenValue) (l : Formed p) → Each Formed ts → InTurn w (p ∷ ts) → NoDoubleWhitespace (p ∷ ts)
    → Yields (spelled w p ++ tail w p ts) (p ∷ ts)
unfolding written_from
all_read w p [] l ls t c = (_, reads l w _ (tails w p [] l ls t c), nothing_next)
all_read w p (q ∷ qs) l ls t c =
    let v = waiting_after w p in
    let rest = yields_past (apart (left_of p) (right_of q)) _ (q ∷ qs) (all_read v q qs ls.0 ls.1 t.1 c.1) in
    (_, reads l w _ (tails w p (q ∷ qs) l ls t c), subst (λ x. Yields x (q ∷ qs)) (sym (next_written (left_of p) v q qs)) rest)

pub formed_reads_back : (ts : List TokenValue) → Each Formed ts → InTurn Free ts → NoDoubleWhitespace ts → Yields (written ts) ts
unfolding written written_from
formed_reads_back [] ls t c = nothing_next
formed_reads_back (p ∷ ts) ls t c =
    let front = next_written Left.Other Free p ts ∙ rw (no_gap_in_front p) refl in
    subst (λ x. Yields x (p ∷ ts)) (sym front) (all_read Free p ts ls.0 ls.1 t c)

-- a list yields one list of tokens
ended : (t : TokenValue) (r : List ℕ) → token t r ≡ end → ⊥
ended t r e = let z : ◌≡◌ {A = ℕ} 0 1 = cc in omega arith

pub yields_once : (s : List ℕ) (ts us : List TokenValue) → Yields s ts → Yields s us → ts ≡ us
yields_once s [] [] h k = refl
yields_once s [] (u ∷ us) h k = absurd (ended u k.0 (sym k.1 ∙ h))
yields_once s (t ∷ ts) [] h k = absurd (ended t h.0 (sym h.1 ∙ k))
yields_once s (t ∷ ts) (u ∷ us) h k =
    let e : token t h.0 ≡ token u k.0 = sym h.1 ∙ k.1 in
    let a : t ≡ u = cc in
    let b : h.0 ≡ k.0 = cc in
    let c = yields_once h.0 ts us h.2 (rw (sym b) at k.2) in
    cc
