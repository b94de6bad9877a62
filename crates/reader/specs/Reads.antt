-- What reading one token does: what is found, and what of it stands in the cells.
use Rattle.std.specs.Prelude.{◌≡◌, ℕ, Bool, cond, ◌&&◌, ◌||◌, List, [], ◌++◌, length, drop, Option, ◌==◌, slice_index}
use Rattle.codepoint.specs.Classes.{is_ident, is_whitespace}
use Rattle.codepoint.specs.Starts.{is_valid_escape}
use Rattle.syntax.specs.declared.kind.Kind.{Kind}
use Rattle.syntax.specs.declared.kind.Kind.TheVariants.{AtKeyword, Cdo, Delim, Hash}
use Rattle.syntax.specs.Kinds.{same_kind}
use Rattle.syntax.specs.Points.{exclamation, number_sign, hyphen, less_than, greater_than, commercial_at}
use Rattle.syntax.specs.Bodies.{is_quote}
use Rattle.syntax.specs.Reading.{Found, found, found_bare, found_at, ident_comes, name_at, sign_kind}
use Rattle.lookahead.specs.Ahead.{Ahead}
use Rattle.scan.specs.declared.cells.Cells.{Cells}
use Rattle.scan.specs.Fills.{Collects, empty, filled}
use Rattle.reader.specs.declared.read.Read.{Read}

-- the text, then the unit, go into the cells; of cells that were empty it is told how many the text fills
pub record Reads (c : Cells) (w : Ahead) (f : Found) (c' : Cells) (r : Read) (w' : Ahead) : Type 0 where
  pub kind_is : r.kind ≡ f.kind
  pub mark_is : r.mark ≡ f.mark
  pub text_is : c.filled ≡ empty → r.text ≡ filled (length c.cells.now) empty f.text
  pub all_is : Collects c w (f.text ++ f.unit) f.rest c' w'

-- the token at the front of a list
abbrev pub found_from : List ℕ → Found
found_from s = found_at (slice_index s 0) (drop 1 s)

-- what is read without a text
abbrev pub bare_read : Kind → ℕ → Read
bare_read k m = record { kind = k; mark = m; text = empty }

-- with a text
abbrev pub texted_read : Kind → Option ℕ → Read
texted_read k t = record { kind = k; mark = 0; text = t }

abbrev pub sign_read : ℕ → Read
sign_read c = cond (same_kind (sign_kind c) Delim) (bare_read Delim c) (bare_read (sign_kind c) 0)

-- from behind `#`, `@` and `<`
abbrev pub hash_found : List ℕ → Found
hash_found s = name_at Hash (cond (ident_comes s) 1 0) s

abbrev pub at_found : List ℕ → Found
at_found s = cond (ident_comes s) (name_at AtKeyword 0 s) (found Delim commercial_at [] s)

-- `!--`
unfoldable pub is_comment_opening : ℕ → ℕ → ℕ → Bool
is_comment_opening a b c = a == exclamation && b == hyphen && c == hyphen

abbrev pub less_found : List ℕ → Found
less_found s = cond (is_comment_opening (slice_index s 0) (slice_index s 1) (slice_index s 2)) (found_bare Cdo (drop 3 s)) (found Delim less_than [] s)

-- `#` before an ident code point or a valid escape
unfoldable pub opens_hash : ℕ → ℕ → ℕ → Bool
opens_hash a b c = a == number_sign && (is_ident b || is_valid_escape b c)

-- `-->`
unfoldable pub is_comment_closing : ℕ → ℕ → ℕ → Bool
is_comment_closing a b c = a == hyphen && b == hyphen && c == greater_than

-- a quote, or whitespace and a quote
unfoldable pub opens_quote : ℕ → ℕ → Bool
opens_quote a b = is_quote a || (is_whitespace a && is_quote b)
