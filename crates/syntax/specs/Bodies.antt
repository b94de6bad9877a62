-- The rules of whitespace, strings, urls and comments.
use Rattle.std.specs.Prelude.{ℕ, ◌+◌, Bool, true, false, ◌&&◌, ◌||◌, List, [], ◌∷◌, length, drop, ◌==◌, slice_index}
use Rattle.codepoint.specs.Classes.{is_whitespace, is_non_printable}
use Rattle.codepoint.specs.Starts.{is_valid_escape}
use Rattle.syntax.specs.Points.{newline, quotation, apostrophe, left_paren, right_paren, asterisk, slash, backslash}
use Rattle.syntax.specs.Rules.{Step, collect, beyond}
use Rattle.syntax.specs.Rules.Step.{halt, give}
use Rattle.syntax.specs.Escapes.{escape, gave}

-- one code point after another while a test holds
unfoldable pub while : (ℕ → Bool) → List ℕ → Step ℕ
while p [] = halt
while p (c ∷ s) = elim (p c) [ true ↦ give (c ∷ []) 0 | false ↦ halt ]

abbrev pub past_whitespace : List ℕ → List ℕ
past_whitespace s = beyond (while is_whitespace) s

-- whitespace is taken while two stand next
unfoldable pub in_extra_whitespace : List ℕ → Step ℕ
in_extra_whitespace [] = halt
in_extra_whitespace (c ∷ s) = elim (is_whitespace c && is_whitespace (slice_index s 0)) [ true ↦ give [] 0 | false ↦ halt ]

-- a string goes up to its quote q or a newline; a backslash is dropped with a newline behind it, or alone at the end
unfoldable pub in_string : ℕ → List ℕ → Step ℕ
in_string q [] = halt
in_string q (c ∷ []) =
    elim (c == q || c == newline) [ true ↦ halt | false ↦ elim (c == backslash) [ true ↦ give [] 0 | false ↦ give (c ∷ []) 0 ] ]
in_string q (c ∷ d ∷ s) =
    elim (c == q || c == newline) [
      | true ↦ halt
      | false ↦ elim (c == backslash) [
        | true ↦ elim (d == newline) [ true ↦ give [] 1 | false ↦ gave (escape (d ∷ s)) ]
        | false ↦ give (c ∷ []) 0
      ]
    ]

abbrev pub is_quote : ℕ → Bool
is_quote c = c == quotation || c == apostrophe

abbrev pub ends_url : ℕ → Bool
ends_url c = is_whitespace c || c == quotation || c == apostrophe || c == left_paren || c == right_paren || c == backslash || is_non_printable c

-- a url goes up to whitespace, `)` or what makes it bad
unfoldable pub in_url : List ℕ → Step ℕ
in_url [] = halt
in_url (c ∷ s) =
    elim (is_valid_escape c (slice_index s 0)) [ true ↦ gave (escape s) | false ↦ elim (ends_url c) [ true ↦ halt | false ↦ give (c ∷ []) 0 ] ]

-- the remnants of a bad url go up to the next `)` that is not escaped
unfoldable pub in_remnants : List ℕ → Step ℕ
in_remnants [] = halt
in_remnants (c ∷ s) =
    elim (is_valid_escape c (slice_index s 0)) [ true ↦ give [] 1 | false ↦ elim (c == right_paren) [ true ↦ halt | false ↦ give [] 0 ] ]

-- the inside of a comment goes up to the next `*/`
unfoldable pub in_comment : List ℕ → Step ℕ
in_comment [] = halt
in_comment (c ∷ s) = elim (c == asterisk && slice_index s 0 == slash) [ true ↦ halt | false ↦ give (c ∷ []) 0 ]

-- comment after comment, each `/*` through the next `*/` or the end
unfoldable pub in_comments : List ℕ → Step ℕ
in_comments [] = halt
in_comments (c ∷ s) =
    elim (c == slash && slice_index s 0 == asterisk) [ true ↦ give [] (3 + length (collect in_comment (drop 1 s))) | false ↦ halt ]

abbrev pub past_comments : List ℕ → List ℕ
past_comments s = beyond in_comments s
