-- A kind is known by its number.
use Rattle.std.proofs.Common.{◌≡◌, ℕ, true, cond, eqb, sym, refl, ap, ◌∙◌}
use Rattle.std.proofs.lemmas.Bool.{eqb-true}
use Rattle.syntax.specs.declared.kind.Kind.{Kind}
use Rattle.syntax.specs.declared.kind.Kind.TheVariants.{AtKeyword, BadString, BadUrl, Cdc, Cdo, CloseCurly, CloseRound, CloseSquare, Colon, Comma, Delim, Dimension, Function, Hash, Ident, Number, OpenCurly, OpenRound, OpenSquare, Percentage, QuotedString, Semicolon, Url, Whitespace}
use Rattle.syntax.specs.Kinds.{number_of, same_kind}

kind_at : ℕ → Kind
kind_at n =
    cond (eqb n 1) Ident (cond (eqb n 2) Function (cond (eqb n 3) AtKeyword (cond (eqb n 4) Hash (cond (eqb n 5) QuotedString (cond (eqb n 6) BadString
    (cond (eqb n 7) Url (cond (eqb n 8) BadUrl (cond (eqb n 9) Delim (cond (eqb n 10) Number (cond (eqb n 11) Percentage (cond (eqb n 12) Dimension
    (cond (eqb n 13) Whitespace (cond (eqb n 14) Cdo (cond (eqb n 15) Cdc (cond (eqb n 16) Colon (cond (eqb n 17) Semicolon (cond (eqb n 18) Comma
    (cond (eqb n 19) OpenSquare (cond (eqb n 20) CloseSquare (cond (eqb n 21) OpenRound (cond (eqb n 22) CloseRound (cond (eqb n 23) OpenCurly CloseCurly))))))))))))))))))))))

kind_at_lem : (k : Kind) → kind_at (number_of k) ≡ k
unfolding kind_at
kind_at_lem Ident = refl
kind_at_lem Function = refl
kind_at_lem AtKeyword = refl
kind_at_lem Hash = refl
kind_at_lem QuotedString = refl
kind_at_lem BadString = refl
kind_at_lem Url = refl
kind_at_lem BadUrl = refl
kind_at_lem Delim = refl
kind_at_lem Number = refl
kind_at_lem Percentage = refl
kind_at_lem Dimension = refl
kind_at_lem Whitespace = refl
kind_at_lem Cdo = refl
kind_at_lem Cdc = refl
kind_at_lem Colon = refl
kind_at_lem Semicolon = refl
kind_at_lem Comma = refl
kind_at_lem OpenSquare = refl
kind_at_lem CloseSquare = refl
kind_at_lem OpenRound = refl
kind_at_lem CloseRound = refl
kind_at_lem OpenCurly = refl
kind_at_lem CloseCurly = refl

pub kind_is : (k j : Kind) → same_kind k j ≡ true → k ≡ j
kind_is k j h = sym (kind_at_lem k) ∙ ap kind_at (eqb-true _ _ h) ∙ kind_at_lem j
