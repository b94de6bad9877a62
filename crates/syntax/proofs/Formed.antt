-- Lawful tokens as a grammar, so that proofs go by its cases.
use Rattle.std.proofs.Common.{◌≡◌, ℕ, ◌<◌, true, false, List, [], ◌∷◌, ◌++◌, length, refl}
use Rattle.codepoint.specs.Classes.{is_digit}
use Rattle.syntax.specs.declared.kind.Kind.{Kind}
use Rattle.syntax.specs.declared.kind.Kind.TheVariants.{AtKeyword, Cdc, Cdo, CloseCurly, CloseRound, CloseSquare, Colon, Comma, Delim, Dimension, Function, Hash, Ident, Number, OpenCurly, OpenRound, OpenSquare, Percentage, QuotedString, Semicolon, Url, Whitespace}
use Rattle.syntax.specs.Tokens.{TokenValue, bare, is_bad, texted, tok}
use Rattle.syntax.specs.Numbers.{is_e, is_sign}
use Rattle.syntax.specs.Lawful.{is_delim_mark, is_text_point}

-- a text has scalar values other than 0
abbrev pub Text : List ℕ → Type 0
Text [] = Unit {0}
Text (c ∷ t) = (is_text_point c ≡ true) × Text t

abbrev pub Name : List ℕ → Type 0
Name t = Text t × (0 < length t)

-- the text of a hash that starts no identifier
pub data Loose : List ℕ → Type 0 where
  digit : {c : ℕ} {t : List ℕ} → is_digit c ≡ true → Loose (c ∷ t)
  dash : Loose (45 ∷ [])
  dash_digit : {c : ℕ} {t : List ℕ} → is_digit c ≡ true → Loose (45 ∷ c ∷ t)

-- the parts of a number
abbrev pub Digits : List ℕ → Type 0
Digits [] = Unit {0}
Digits (c ∷ t) = (is_digit c ≡ true) × Digits t

pub data Sign : List ℕ → Type 0 where
  unsigned : Sign []
  signed : {a : ℕ} → is_sign a ≡ true → Sign (a ∷ [])

pub data Fraction : List ℕ → Type 0 where
  no_fraction : Fraction []
  fractional : {c : ℕ} {d : List ℕ} → is_digit c ≡ true → Digits d → Fraction (46 ∷ c ∷ d)

pub data Exponent : List ℕ → Type 0 where
  no_exponent : Exponent []
  bare_exponent : {a c : ℕ} {d : List ℕ} → is_e a ≡ true → is_digit c ≡ true → Digits d → Exponent (a ∷ c ∷ d)
  signed_exponent : {a b c : ℕ} {d : List ℕ} → is_e a ≡ true → is_sign b ≡ true → is_digit c ≡ true → Digits d → Exponent (a ∷ b ∷ c ∷ d)

-- a sign, digits, a fraction and an exponent, with digits before or behind the dot
pub data Numeral : List ℕ → Type 0 where
  parts : {g : List ℕ} (d : List ℕ) {f e : List ℕ} → Sign g → Digits d → Fraction f → Exponent e → 0 < length (d ++ f) → Numeral (g ++ (d ++ (f ++ e)))

-- a kind that is one sign
pub data Mono : Kind → ℕ → Type 0 where
  colon : Mono Colon 58
  semicolon : Mono Semicolon 59
  comma : Mono Comma 44
  open_square : Mono OpenSquare 91
  close_square : Mono CloseSquare 93
  open_round : Mono OpenRound 40
  close_round : Mono CloseRound 41
  open_curly : Mono OpenCurly 123
  close_curly : Mono CloseCurly 125

pub data Formed : TokenValue → Type 0 where
  ident : {t : List ℕ} → Name t → Formed (texted Ident t)
  function : {t : List ℕ} → Name t → Formed (texted Function t)
  at_keyword : {t : List ℕ} → Name t → Formed (texted AtKeyword t)
  hash : {t : List ℕ} → Name t → Formed (tok Hash 1 t [])
  loose_hash : {t : List ℕ} → Text t → Loose t → Formed (texted Hash t)
  string : {t : List ℕ} → Text t → Formed (texted QuotedString t)
  url : {t : List ℕ} → Text t → Formed (texted Url t)
  delim : {m : ℕ} → is_delim_mark m ≡ true → Formed (tok Delim m [] [])
  number : {t : List ℕ} → Numeral t → Formed (texted Number t)
  percentage : {t : List ℕ} → Numeral t → Formed (texted Percentage t)
  dimension : {t u : List ℕ} → Numeral t → Name u → Formed (tok Dimension 0 t u)
  white : Formed (bare Whitespace)
  cdo : Formed (bare Cdo)
  cdc : Formed (bare Cdc)
  mono : {k : Kind} {c : ℕ} → Mono k c → Formed (bare k)

mono_not_bad : {k : Kind} {c : ℕ} → Mono k c → is_bad (bare k) ≡ false
mono_not_bad colon = refl
mono_not_bad semicolon = refl
mono_not_bad comma = refl
mono_not_bad open_square = refl
mono_not_bad close_square = refl
mono_not_bad open_round = refl
mono_not_bad close_round = refl
mono_not_bad open_curly = refl
mono_not_bad close_curly = refl

pub formed_not_bad : {t : TokenValue} → Formed t → is_bad t ≡ false
formed_not_bad (ident n) = refl
formed_not_bad (function n) = refl
formed_not_bad (at_keyword n) = refl
formed_not_bad (hash n) = refl
formed_not_bad (loose_hash n l) = refl
formed_not_bad (string n) = refl
formed_not_bad (url n) = refl
formed_not_bad (delim k) = refl
formed_not_bad (number n) = refl
formed_not_bad (percentage n) = refl
formed_not_bad (dimension n k) = refl
formed_not_bad white = refl
formed_not_bad cdo = refl
formed_not_bad cdc = refl
formed_not_bad (mono m) = mono_not_bad m
