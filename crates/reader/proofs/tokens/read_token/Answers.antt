-- By hand, as in this crate's other answers: `using` finds no lemma whose facts are records, such as Reads and Left.
use Rattle.std.proofs.Common.{sym}
use Rattle.reader.proofs.Deciding.{token_whitespace, token_quote, token_hash, token_at, token_number, token_cdc, token_less, token_name, token_sign}
use Rattle.reader.proofs.tokens.read_token.Goals as goal

pub returns-then-is_whitespace : goal.returns-then-is_whitespace
returns-then-is_whitespace g c =
    token_whitespace c.peek-seen.ensures.same c.peek-seen.ensures.seen (sym c.if-is_whitespace.ensures) c.bump.ensures c.skip_whitespace.ensures c.bare.ensures

pub returns-then-is_quote : goal.returns-then-is_quote
returns-then-is_quote g c =
    token_quote c.peek-seen.ensures.same c.peek-seen.ensures.seen (sym c.if-is_whitespace.ensures) (sym c.if-is_quote.ensures) c.bump-then-is_quote.ensures c.read_string.ensures

pub returns-then-opens_hash : goal.returns-then-opens_hash
returns-then-opens_hash g c =
    token_hash c.peek-seen.ensures.same c.peek-seen.ensures.seen (sym c.if-is_whitespace.ensures) (sym c.if-is_quote.ensures) (sym c.if-opens_hash.ensures) c.bump-then-opens_hash.ensures c.read_hash.ensures

pub returns-then-seen-eq64 : goal.returns-then-seen-eq64
returns-then-seen-eq64 g c =
    token_at c.peek-seen.ensures.same c.peek-seen.ensures.seen c.if-seen-eq64.true c.bump-then-seen-eq64.ensures c.read_at.ensures

pub returns-then-starts_number : goal.returns-then-starts_number
returns-then-starts_number g c =
    token_number c.peek-seen.ensures.same c.peek-seen.ensures.seen (sym c.if-is_whitespace.ensures) (sym c.if-is_quote.ensures) (sym c.if-opens_hash.ensures) c.if-seen-eq64.false (sym c.if-starts_number.ensures) c.read_number.ensures

pub returns-then-is_comment_closing : goal.returns-then-is_comment_closing
returns-then-is_comment_closing g c =
    token_cdc c.peek-seen.ensures.same c.peek-seen.ensures.seen (sym c.if-is_whitespace.ensures) (sym c.if-is_quote.ensures) (sym c.if-opens_hash.ensures) c.if-seen-eq64.false (sym c.if-starts_number.ensures) (sym c.if-is_comment_closing.ensures) c.skip_three.ensures c.bare-then-is_comment_closing.ensures

pub returns-then-seen-eq60 : goal.returns-then-seen-eq60
returns-then-seen-eq60 g c =
    token_less c.peek-seen.ensures.same c.peek-seen.ensures.seen c.if-seen-eq60.true c.bump-then-seen-eq60.ensures c.read_less.ensures

pub returns-then-starts_ident : goal.returns-then-starts_ident
returns-then-starts_ident g c =
    token_name c.peek-seen.ensures.same c.peek-seen.ensures.seen (sym c.if-is_whitespace.ensures) (sym c.if-is_quote.ensures) (sym c.if-opens_hash.ensures) c.if-seen-eq64.false (sym c.if-starts_number.ensures) (sym c.if-is_comment_closing.ensures) c.if-seen-eq60.false (sym c.if-starts_ident.ensures) c.read_ident_like.ensures

pub returns : goal.returns
returns g c =
    token_sign c.peek-seen.ensures.same c.peek-seen.ensures.seen (sym c.if-is_whitespace.ensures) (sym c.if-is_quote.ensures) (sym c.if-opens_hash.ensures) c.if-seen-eq64.false (sym c.if-starts_number.ensures) (sym c.if-is_comment_closing.ensures) c.if-seen-eq60.false (sym c.if-starts_ident.ensures) c.bump-2.ensures c.sign.ensures
