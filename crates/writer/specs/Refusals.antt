-- The refusals of each call, in their order: the fault of the first test that holds.
use Rattle.std.specs.Prelude.{ℕ, ◌+◌, ◌-◌, Bool, true, false, cond, not, ◌&&◌, List, [], ◌∷◌, is_some, Ok, Err, Result, ◌==◌, nat_le, nat_lt, slice_get, Some, None, Option}
use Rattle.std.specs.Option.{unwrap_or}
use Rattle.refusal.specs.declared.fault.Fault.{Fault}
use Rattle.refusal.specs.declared.fault.Fault.TheVariants.{NotTaken, Unlawful, BadToken, RepeatedWhitespace, OutOfTurn, NoRoom, BlockOpen, TooDeep, WrongSlip, Unclosed, Finished}
use Rattle.syntax.specs.declared.kind.Kind.{Kind}
use Rattle.syntax.specs.declared.kind.Kind.TheVariants.{Whitespace}
use Rattle.syntax.specs.declared.waiting.Waiting.{Waiting}
use Rattle.syntax.specs.declared.waiting.Waiting.TheVariants.{Free, AfterBackslash, AfterUrl, AfterUrlWhitespace}
use Rattle.syntax.specs.Kinds.{number_of}
use Rattle.syntax.specs.Tokens.{TokenValue, is_kind, is_bad}
use Rattle.syntax.specs.Lawful.{is_lawful}
use Rattle.syntax.specs.Turn.{is_in_turn}
use Rattle.syntax.specs.Puts.{is_whitespace_left}
use Rattle.writer.specs.declared.blocks.Blocks.{Blocks}
use Rattle.writer.specs.declared.state.State.{State}
use Rattle.writer.specs.Blocks.{opens_block, is_block_sign, mirror}

abbrev pub first_of : List (Bool × Fault) → Result (Unit {0}) Fault
first_of [] = Ok tt
first_of ((b, f) ∷ rest) = cond b (Err f) (first_of rest)

-- nothing is awaited
abbrev pub is_free : Waiting → Bool
is_free Free = true
is_free AfterBackslash = false
is_free AfterUrl = false
is_free AfterUrlWhitespace = false

-- a kind, if there is one, has this number
abbrev pub has_number : ℕ → Option Kind → Bool
has_number n None = false
has_number n (Some k) = n == number_of k

-- depth and number are those of the innermost open block
abbrev pub is_innermost : Blocks → ℕ → ℕ → Bool
is_innermost b d n = nat_lt 0 d && (d == b.depth && has_number n (slice_get b.kinds (d - 1)))

-- after finish, and once the sink refused, every call is refused; the latter as it was then
abbrev pub refusals_of_all : State → List (Bool × Fault) → List (Bool × Fault)
refusals_of_all s rest = (s.finished, Finished s.accepted) ∷ (is_some s.stuck, NotTaken (unwrap_or s.stuck 0)) ∷ rest

abbrev pub put_refusals : State → TokenValue → List (Bool × Fault)
put_refusals s t =
    refusals_of_all s (
    (is_bad t, BadToken s.accepted)
    ∷ (not (is_lawful t), Unlawful s.accepted)
    ∷ (nat_lt 0 s.blocks.depth && is_block_sign t.kind, BlockOpen s.accepted)
    ∷ (not (is_in_turn s.waiting t), OutOfTurn s.accepted)
    ∷ (is_whitespace_left s.left && is_kind Whitespace t, RepeatedWhitespace s.accepted)
    ∷ (nat_le 1000000 (s.accepted + s.blocks.depth), NoRoom s.accepted)
    ∷ []
    )

abbrev pub open_refusals : State → TokenValue → List (Bool × Fault)
open_refusals s t =
    refusals_of_all s (
    (not (opens_block t.kind && is_lawful t), Unlawful s.accepted)
    ∷ (not (is_in_turn s.waiting t), OutOfTurn s.accepted)
    ∷ (nat_le 32 s.blocks.depth, TooDeep s.accepted)
    ∷ (nat_le 999999 (s.accepted + s.blocks.depth), NoRoom s.accepted)
    ∷ []
    )

abbrev pub close_refusals : State → ℕ → ℕ → List (Bool × Fault)
close_refusals s d k =
    refusals_of_all s (
    (not (is_innermost s.blocks d k), WrongSlip s.accepted)
    ∷ (not (is_in_turn s.waiting (mirror k)), OutOfTurn s.accepted)
    ∷ []
    )

abbrev pub finish_refusals : State → List (Bool × Fault)
finish_refusals s =
    refusals_of_all s (
    (not (is_free s.waiting), OutOfTurn s.accepted)
    ∷ (nat_lt 0 s.blocks.depth, Unclosed s.accepted)
    ∷ []
    )
