-- What must follow a token for it to be read alone.
use Rattle.std.proofs.Common.{◌≡◌, ℕ, Bool, true, false, ◌&&◌, eqb, ◌⊎◌, List, [], ◌∷◌, ◌++◌, get_or, sym, refl, subst}
use Rattle.codepoint.specs.Classes.{is_whitespace}
use Rattle.syntax.specs.declared.kind.Kind.{Kind}
use Rattle.syntax.specs.declared.kind.Kind.TheVariants.{Delim, Function}
use Rattle.syntax.specs.declared.waiting.Waiting.{Waiting}
use Rattle.syntax.specs.declared.waiting.Waiting.TheVariants.{AfterBackslash, AfterUrl, AfterUrlWhitespace, Free}
use Rattle.syntax.specs.Tokens.{TokenValue, bare, texted, tok}
use Rattle.syntax.specs.Reading.{is_url, next}
use Rattle.syntax.specs.Reading.Next.{token}
use Rattle.syntax.specs.Places.{identifier, spelled_in}
use Rattle.syntax.specs.Spelling.{spelled}
use Rattle.syntax.specs.Neighbours.{is_dashes}
use Rattle.syntax.proofs.Formed.{Formed, Mono}
use Rattle.syntax.proofs.Formed.Mono.{close_curly, close_round, close_square, colon, comma, open_curly, open_round, open_square, semicolon}
use Rattle.syntax.proofs.Formed.Formed.{at_keyword, cdc, cdo, delim, dimension, function, hash, ident, loose_hash, mono, number, percentage, string, url, white}
use Rattle.syntax.proofs.Openings.{Counts, Starts}
use Rattle.syntax.proofs.Names.{Plain, at_reads, function_reads, hash_reads, ident_reads, loose_hash_reads, url_function_reads}
use Rattle.syntax.proofs.Strings.{string_reads}
use Rattle.syntax.proofs.Urls.{url_reads}
use Rattle.syntax.proofs.Numerics.{dimension_reads, number_reads, percentage_reads}
use Rattle.syntax.proofs.Signs.{Delimiter, delimiter_of}
use Rattle.syntax.proofs.Signs as signs

-- a quote, or a space and a quote
abbrev pub Quoted : List ℕ → Type 0
Quoted r = (u : List ℕ) × ((r ≡ 34 ∷ u) ⊎ (r ≡ 32 ∷ 34 ∷ u))

-- told by the first three code points
abbrev pub DelimNeeds : {m : ℕ} → Delimiter m → List ℕ → Type 0
DelimNeeds signs.Delimiter.hash r = Plain r
DelimNeeds signs.Delimiter.plus r = Counts false r
DelimNeeds signs.Delimiter.dash r = Plain r × Counts false r
DelimNeeds signs.Delimiter.dot r = Counts false r
DelimNeeds signs.Delimiter.slash r = eqb (get_or r 0 0) 42 ≡ false
DelimNeeds signs.Delimiter.less r = eqb (get_or r 0 0) 33 ≡ false
DelimNeeds signs.Delimiter.at r = Starts false r
DelimNeeds signs.Delimiter.backslash r = (u : List ℕ) × (r ≡ 10 ∷ u)
DelimNeeds (signs.Delimiter.other h) r = Unit {0}

abbrev pub Needs : {p : TokenValue} → Formed p → List ℕ → Type 0
Needs (ident {t} n) r = Plain r × (eqb (get_or r 0 0) 40 ≡ false) × ((is_dashes t && eqb (get_or r 0 0) 62) ≡ false)
Needs (function {t} n) r = is_url t ≡ true → Quoted r
Needs (at_keyword n) r = Plain r
Needs (hash n) r = Plain r
Needs (loose_hash h l) r = Plain r
Needs (string h) r = Unit {0}
Needs (url h) r = Unit {0}
Needs (delim {m} h) r = DelimNeeds (delimiter_of m h) r
Needs (number n) r = Starts false r × Counts false r × (eqb (get_or r 0 0) 37 ≡ false)
Needs (percentage n) r = Unit {0}
Needs (dimension n u) r = Plain r × Counts false r
Needs white r = is_whitespace (get_or r 0 0) ≡ false
Needs cdo r = Unit {0}
Needs cdc r = Unit {0}
Needs (mono k) r = Unit {0}

-- each token reads back before what it needs
delim_reads : {m : ℕ} (d : Delimiter m) (r : List ℕ) → DelimNeeds d r → next (m ∷ r) ≡ token (tok Delim m [] []) r
delim_reads signs.Delimiter.hash r n = signs.hash_delim_reads r n
delim_reads signs.Delimiter.plus r n = signs.plus_reads r n
delim_reads signs.Delimiter.dash r n = signs.dash_reads r n.0 n.1
delim_reads signs.Delimiter.dot r n = signs.dot_reads r n
delim_reads signs.Delimiter.slash r n = signs.slash_reads r n
delim_reads signs.Delimiter.less r n = signs.less_reads r n
delim_reads signs.Delimiter.at r n = signs.at_delim_reads r n
delim_reads signs.Delimiter.backslash r n = rw n.1 (signs.backslash_reads n.0)
delim_reads (signs.Delimiter.other {m} h) r n = signs.other_reads m h r

pub mono_spelled : {k : Kind} {c : ℕ} (w : Waiting) → Mono k c → spelled w (bare k) ≡ c ∷ []
unfolding spelled
mono_spelled w colon = refl
mono_spelled w semicolon = refl
mono_spelled w comma = refl
mono_spelled w open_square = refl
mono_spelled w close_square = refl
mono_spelled w open_round = refl
mono_spelled w close_round = refl
mono_spelled w open_curly = refl
mono_spelled w close_curly = refl

pub reads : {p : TokenValue} (l : Formed p) (w : Waiting) (r : List ℕ) → Needs l r → next (spelled w p ++ r) ≡ token p r
unfolding spelled
reads (ident {t} n) w r h = ident_reads t n.0 n.1 r h.0 h.1 h.2
reads (function {t} n) w r h = go (is_url t) refl
  where
    go : (u : Bool) → is_url t ≡ u → next ((spelled_in identifier t ++ 40 ∷ []) ++ r) ≡ token (texted Function t) r
    go true e = let q = h e in url_function_reads t n.0 n.1 r q.0 e q.1
    go false e = function_reads t n.0 n.1 r e
reads (at_keyword {t} n) w r h = at_reads t n.0 n.1 r h
reads (hash {t} n) w r h = hash_reads t n.0 n.1 r h
reads (loose_hash {t} n l) w r h = loose_hash_reads t r n l h
reads (string {t} n) w r h = string_reads t r n
reads (url {t} n) w r h = url_reads t r n
reads (delim {m} k) w r h = delim_reads (delimiter_of m k) r h
reads (number {t} n) w r h = number_reads t r n h.0 h.1 h.2
reads (percentage {t} n) w r h = percentage_reads t r n
reads (dimension {t} {u} n k) w r h = dimension_reads t u r n k.0 k.1 h.0 h.1
reads white Free r h = signs.space_reads r h
reads white AfterBackslash r h = signs.line_reads r h
reads white AfterUrl r h = signs.space_reads r h
reads white AfterUrlWhitespace r h = signs.space_reads r h
reads cdo w r h = signs.cdo_reads r
reads cdc w r h = signs.cdc_reads r
reads (mono {k} {c} m) w r h = subst (λ x. next (x ++ r) ≡ token (bare k) r) (sym (mono_spelled w m)) (signs.mono_reads r m)
