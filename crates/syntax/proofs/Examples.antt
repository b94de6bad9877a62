-- The table of inputs, tokens and written forms, by computing each row.
use Rattle.std.proofs.Common.{◌≡◌, Bool, true, ◌&&◌, List, [], ◌∷◌, refl}
use Rattle.std.proofs.lemmas.Bool.{and_parts}
use Rattle.codepoint.specs.Classes.{hex_value, is_digit, is_hex_digit, is_ident, is_ident_start, is_letter, is_non_printable, is_scalar_value, is_whitespace}
use Rattle.codepoint.specs.Starts.{is_valid_escape, starts_ident, starts_number}
use Rattle.syntax.specs.Tokens.{TokenValue}
use Rattle.syntax.specs.Rules.{left, out}
use Rattle.syntax.specs.Escapes.{escape, escape_value, hex_escape, in_ident}
use Rattle.syntax.specs.Bodies.{in_comment, in_comments, in_extra_whitespace, in_remnants, in_string, in_url, while}
use Rattle.syntax.specs.Numbers.{exponent_length, fraction_length, number_at, sign_length}
use Rattle.syntax.specs.Reading.{branch, end_name, end_number, end_string, end_url, found_by, ident_like_at, next, next_at, numeric_at, sign_at, string_at, token_of, url_at, url_or_function}
use Rattle.syntax.specs.Lawful.{Lawful, is_delim_mark, is_lawful, is_text_point}
use Rattle.syntax.specs.Places.{escaped_from, hex, hex_digit, hex_digits, identifier, is_control, loose, quoted_string, spelled_in, treatment, unit_behind, url}
use Rattle.syntax.specs.Spelling.{spelled}
use Rattle.syntax.specs.Neighbours.{apart, left_of, right_of}
use Rattle.syntax.specs.Written.{Each, Fit, added, collapsed_after, written, written_from}
use Rattle.syntax.specs.Rows.{BadUrlRow, MixedRow, RowsHold, mixed}
use Rattle.syntax.proofs.Tested.{test_decides_lawful}

pub rows_hold : RowsHold
unfolding is_whitespace is_digit is_hex_digit is_letter is_ident_start is_ident is_non_printable hex_value is_valid_escape starts_ident starts_number out left
    escape_value hex_escape escape in_ident while in_extra_whitespace in_string in_url in_remnants in_comment in_comments sign_length fraction_length
    exponent_length number_at end_string string_at end_number numeric_at end_url url_at url_or_function end_name ident_like_at sign_at branch found_by token_of next_at
    next hex_digit hex_digits hex is_control treatment escaped_from spelled_in identifier loose quoted_string url unit_behind spelled left_of right_of apart
    added written_from written collapsed_after
rows_hold = (
  ((_, refl, (_, refl, (_, refl, (_, refl, refl)))), refl),
  (
    ((_, refl, refl), refl),
    (
      ((_, refl, (_, refl, refl)), refl),
      (
        ((_, refl, (_, refl, (_, refl, refl))), refl),
        (
          ((_, refl, (_, refl, (_, refl, (_, refl, (_, refl, refl))))), refl),
          (
            ((_, refl, (_, refl, (_, refl, refl))), refl),
            (
              ((_, refl, (_, refl, refl)), refl),
              (
                ((_, refl, (_, refl, refl)), refl),
                tt,
              ),
            ),
          ),
        ),
      ),
    ),
  ),
)

pub bad_url_row : BadUrlRow
unfolding is_whitespace is_digit is_hex_digit is_letter is_ident_start is_ident is_non_printable hex_value is_valid_escape starts_ident starts_number out left
    escape_value hex_escape escape in_ident while in_extra_whitespace in_string in_url in_remnants in_comment in_comments sign_length fraction_length
    exponent_length number_at end_string string_at end_number numeric_at end_url url_at url_or_function end_name ident_like_at sign_at branch found_by token_of next_at
    next
bad_url_row = (_, refl, (_, refl, (_, refl, (_, refl, (_, refl, (_, refl, refl))))))

-- tokens that could run together are fit, by the test
all_lawful : List TokenValue → Bool
all_lawful [] = true
all_lawful (t ∷ ts) = is_lawful t && all_lawful ts

all_lawful_lem : (ts : List TokenValue) → all_lawful ts ≡ true → Each Lawful ts
unfolding all_lawful
all_lawful_lem [] h = tt
all_lawful_lem (t ∷ ts) h = let p = and_parts (is_lawful t) _ h in ((test_decides_lawful t).0 p.0, all_lawful_lem ts p.1)

mixed_fit : Fit mixed
unfolding all_lawful is_lawful is_text_point is_scalar_value is_delim_mark is_non_printable is_digit starts_number out left while sign_length fraction_length exponent_length number_at
mixed_fit = record {
  lawful = all_lawful_lem mixed refl;
  in_turn = (refl, (refl, (refl, (refl, (refl, (refl, (refl, (refl, (refl, (refl, (refl, (refl, (refl, (refl, (refl, refl)))))))))))))));
  single_whitespace = (refl, (refl, (refl, (refl, (refl, (refl, (refl, (refl, (refl, (refl, (refl, (refl, (refl, (refl, tt))))))))))))));
}

pub mixed_row : MixedRow
unfolding is_digit is_letter is_ident_start is_ident hex_digit hex_digits hex is_control treatment escaped_from spelled_in identifier loose quoted_string url
    unit_behind spelled left_of right_of apart added written_from written
mixed_row = (mixed_fit, refl)
