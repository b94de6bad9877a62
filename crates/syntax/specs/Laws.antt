-- The laws of reading and spelling.
use Rattle.std.specs.Prelude.{◌≡◌, ℕ, ◌+◌, true, false, ◌⊎◌, List, ◌∷◌, ◌++◌, map, length, None, Decides, ◌==◌, slice_index}
use Rattle.codepoint.specs.Utf8.{points_from, ill_formed_from, code_points_of}
use Rattle.stream.specs.Preprocess.{Placed, preprocessed, AllPreprocessed, AllWithin}
use Rattle.syntax.specs.declared.kind.Kind.TheVariants.{BadString, BadUrl}
use Rattle.syntax.specs.declared.waiting.Waiting.TheVariants.{Free}
use Rattle.syntax.specs.Points.{space, zero_digit}
use Rattle.syntax.specs.Tokens.{TokenValue, bare, is_bad}
use Rattle.syntax.specs.Escapes.{escape}
use Rattle.syntax.specs.Reading.{token, next, Yields}
use Rattle.syntax.specs.Extents.{collected}
use Rattle.syntax.specs.Lawful.{Lawful, is_text_point, is_lawful}
use Rattle.syntax.specs.Turn.{InTurn, mended}
use Rattle.syntax.specs.Places.{hex_digits}
use Rattle.syntax.specs.Written.{Each, collapsed, written_bytes, Fit}
use Rattle.syntax.specs.Pieces.{TakenWhole}

-- a code point's hex digits and a space are an escape of it
abbrev pub HexReadsBack : Type 0
HexReadsBack = (c : ℕ) (r : List ℕ) → is_text_point c ≡ true → escape (hex_digits 6 c ++ (space ∷ r)) ≡ (c, length (hex_digits 6 c) + 1)

-- the digits have no leading zero
abbrev pub HexHasNoLeadingZero : Type 0
HexHasNoLeadingZero = (c : ℕ) → is_text_point c ≡ true → (slice_index (hex_digits 6 c) 0 == zero_digit) ≡ false

-- what reading yields is lawful or bad, and in turn, where a bad string counts as a string
abbrev pub LawfulOrBad : TokenValue → Type 0
LawfulOrBad t = Lawful t ⊎ ((t ≡ bare BadString) ⊎ (t ≡ bare BadUrl))

abbrev pub ReadingYieldsLawfulInTurn : Type 0
ReadingYieldsLawfulInTurn =
    (s : List ℕ) (ts : List TokenValue) → AllPreprocessed s → Yields s ts → Each LawfulOrBad ts × InTurn Free (map mended ts)

-- the test on a token alone tells whether some input yields it
abbrev pub TestDecidesLawful : Type 0
TestDecidesLawful = (t : TokenValue) → Decides (is_lawful t) (Lawful t)

-- bytes are well-formed to their end, preprocessing changes nothing in them, and they yield the tokens
pub record ReadsBack (bs : List ℕ) (ts : List TokenValue) : Type 0 where
  pub well_formed : ill_formed_from 0 0 bs ≡ None
  pub unchanged : preprocessed (points_from 0 0 bs) ≡ points_from 0 0 bs
  pub yields : Yields (code_points_of (preprocessed (points_from 0 0 bs))) ts

-- what is written reads back as exactly the tokens, and then the end
abbrev pub WrittenReadsBack : Type 0
WrittenReadsBack = (ts : List TokenValue) → Fit ts → ReadsBack (written_bytes ts) ts

-- two lists have the same bytes exactly when they are the same list
abbrev pub BytesDecideTokens : Type 0
BytesDecideTokens =
    (ts us : List TokenValue) → Fit ts → Fit us → (written_bytes ts ≡ written_bytes us → ts ≡ us) × (ts ≡ us → written_bytes ts ≡ written_bytes us)

-- the bytes of an input's collapsed tokens read back as these tokens, and doing it again changes no byte
pub record Settled (ts : List TokenValue) : Type 0 where
  pub reads_back : ReadsBack (written_bytes (collapsed ts)) (collapsed ts)
  pub settles : (us : List TokenValue) → Yields (code_points_of (preprocessed (points_from 0 0 (written_bytes (collapsed ts))))) us
      → written_bytes (collapsed us) ≡ written_bytes (collapsed ts)

abbrev pub NormalFormsSettle : Type 0
NormalFormsSettle =
    (ps : List Placed) (ts : List TokenValue) → AllWithin ps → Yields (code_points_of (preprocessed ps)) ts
    → Each (λ (t : TokenValue). is_bad t ≡ false) ts → Settled ts

-- every input is cut into its tokens and the comments between them, in one way
abbrev pub ReadingTakesAllOnce : Type 0
ReadingTakesAllOnce = (s : List ℕ) → TakenWhole s

-- what is collected of a token that is not bad is its text and its unit
abbrev pub ReadingCollectsTextAndUnit : Type 0
ReadingCollectsTextAndUnit = (s : List ℕ) (t : TokenValue) (r : List ℕ) → next s ≡ token t r → is_bad t ≡ false → collected s ≡ t.text ++ t.unit
