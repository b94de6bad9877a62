-- Inputs, their tokens and how these are written, as one table.
use Rattle.std.specs.Prelude.{◌≡◌, ℕ, List, [], ◌∷◌, ◌++◌, codes}
use Rattle.syntax.specs.declared.kind.Kind.TheVariants.{Ident, Function, QuotedString, BadUrl, Number, Dimension, Whitespace, Cdc, Colon, OpenRound, CloseRound, OpenCurly, CloseCurly}
use Rattle.syntax.specs.Points.{newline, exclamation, number_sign, percent, hyphen, full_stop, less_than, greater_than, commercial_at, backslash}
use Rattle.syntax.specs.Tokens.{TokenValue, tok, bare, texted, delim}
use Rattle.syntax.specs.Reading.{Yields}
use Rattle.syntax.specs.Written.{Each, collapsed, written, Fit}

pub record Row : Type 0 where
  pub input : List ℕ
  pub tokens : List TokenValue
  pub form : List ℕ

-- the input yields the tokens, and they are written in that form
abbrev pub Holds : Row → Type 0
Holds r = Yields r.input r.tokens × (written (collapsed r.tokens) ≡ r.form)

abbrev row : List ℕ → List TokenValue → List ℕ → Row
row i ts f = record { input = i; tokens = ts; form = f }

abbrev pub rows : List Row
rows =
    row (codes "and/**/(x)") (texted Ident (codes "and") ∷ bare OpenRound ∷ texted Ident (codes "x") ∷ bare CloseRound ∷ []) (codes "and/**/(x)")
    ∷ row (codes "1\\65 3") (tok Dimension 0 (codes "1") (codes "e3") ∷ []) (codes "1\\65 3")
    ∷ row (codes "--/**/>") (texted Ident (codes "--") ∷ delim greater_than ∷ []) (codes "--/**/>")
    ∷ row (codes "</**/!--a") (delim less_than ∷ delim exclamation ∷ texted Ident (codes "--a") ∷ []) (codes "</**/!--a")
    ∷ row (codes "url( 'a' )") (texted Function (codes "url") ∷ bare Whitespace ∷ texted QuotedString (codes "a") ∷ bare Whitespace ∷ bare CloseRound ∷ []) (codes "url( \"a\" )")
    ∷ row (backslash ∷ newline ∷ newline ∷ codes "a") (delim backslash ∷ bare Whitespace ∷ texted Ident (codes "a") ∷ []) (backslash ∷ newline ∷ codes "a")
    ∷ row (codes "1-->") (tok Dimension 0 (codes "1") (codes "--") ∷ delim greater_than ∷ []) (codes "1-->")
    ∷ row (codes "a+3") (texted Ident (codes "a") ∷ texted Number (codes "+3") ∷ []) (codes "a/**/+3")
    ∷ []

abbrev pub RowsHold : Type 0
RowsHold = Each Holds rows

-- signs, units and names that could run together: what a writer may be given, and its form
abbrev pub mixed : List TokenValue
mixed =
    texted Function (codes "uRl") ∷ bare Whitespace ∷ texted QuotedString (codes "a") ∷ bare CloseRound ∷ delim hyphen ∷ delim full_stop ∷ tok Dimension 0 (codes "5") (codes "e")
    ∷ delim commercial_at ∷ delim hyphen ∷ bare Cdc ∷ delim backslash ∷ bare Whitespace ∷ delim number_sign ∷ tok Dimension 0 (codes "1e3") (codes "e-3") ∷ delim percent ∷ []

abbrev pub MixedRow : Type 0
MixedRow = Fit mixed × (written mixed ≡ codes "uRl( \"a\")-./**/5e@-/**/-->\\" ++ (newline ∷ codes "#/**/1e3e-3%"))

-- a bad url, which has no written form
abbrev pub BadUrlRow : Type 0
BadUrlRow =
    Yields (codes "a{b:url(i j)}")
    (texted Ident (codes "a") ∷ bare OpenCurly ∷ texted Ident (codes "b") ∷ bare Colon ∷ bare BadUrl ∷ bare CloseCurly ∷ [])
