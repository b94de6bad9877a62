-- What the refusals of each call let through.
use Rattle.std.proofs.Common.{◌≡◌, ℕ, Bool, true, false, ◌&&◌, is_some, List, [], ◌∷◌, Ok, refl, arith}
use Rattle.std.proofs.lemmas.Bool.{and_parts, not-false}
use Rattle.std.proofs.lemmas.Bool.Decides.{nat_tests}
use Rattle.refusal.specs.declared.fault.Fault.{Fault}
use Rattle.syntax.specs.declared.kind.Kind.{Kind}
use Rattle.syntax.specs.declared.kind.Kind.TheVariants.{Whitespace}
use Rattle.syntax.specs.declared.waiting.Waiting.{Waiting}
use Rattle.syntax.specs.declared.waiting.Waiting.TheVariants.{Free}
use Rattle.syntax.specs.Kinds.{same_kind}
use Rattle.syntax.specs.Tokens.{TokenValue, is_kind}
use Rattle.syntax.specs.Lawful.{is_lawful}
use Rattle.syntax.specs.Turn.{is_in_turn}
use Rattle.syntax.specs.Puts.{is_whitespace_left}
use Rattle.writer.specs.declared.state.State.{State}
use Rattle.writer.specs.Blocks.{opens_block, mirror}
use Rattle.writer.specs.Refusals.{first_of, is_free, put_refusals, open_refusals, close_refusals, finish_refusals}

-- none of the tests holds
abbrev NoneHolds : List (Bool × Fault) → Type 0
NoneHolds [] = Unit {0}
NoneHolds ((b, f) ∷ rest) = (b ≡ false) × NoneHolds rest

none_holds : (tests : List (Bool × Fault)) → first_of tests ≡ Ok tt → NoneHolds tests
none_holds [] e = tt
none_holds ((true, f) ∷ rest) e = absurd (cc)
none_holds ((false, f) ∷ rest) e = (refl, none_holds rest e)

-- a token that a state lets through
pub record LetsThrough (s : State) (t : TokenValue) : Type 0 where
  pub going : s.finished ≡ false
  pub unstuck : is_some s.stuck ≡ false
  pub lawful : is_lawful t ≡ true
  pub in_turn : is_in_turn s.waiting t ≡ true
  pub single_whitespace : (is_whitespace_left s.left && is_kind Whitespace t) ≡ false

pub put_lets_through : (s : State) (t : TokenValue) → first_of (put_refusals s t) ≡ Ok tt → LetsThrough s t
put_lets_through s t h =
    let all = none_holds (put_refusals s t) h in
    let rest = all.1.1.1 in
    record { going = all.0; unstuck = all.1.0; lawful = not-false _ rest.0; in_turn = not-false _ rest.1.1.0; single_whitespace = rest.1.1.1.0 }

opens_no_whitespace : (k : Kind) (b : Bool) → opens_block k ≡ true → (b && same_kind k Whitespace) ≡ false
opens_no_whitespace k b h = grind (arith, nat_tests)

pub open_lets_through : (s : State) (t : TokenValue) → first_of (open_refusals s t) ≡ Ok tt → LetsThrough s t
open_lets_through s t h =
    let all = none_holds (open_refusals s t) h in
    let rest = all.1.1 in
    let opens = and_parts (opens_block t.kind) (is_lawful t) (not-false _ rest.0) in
    record { going = all.0; unstuck = all.1.0; lawful = opens.1; in_turn = not-false _ rest.1.0; single_whitespace = opens_no_whitespace t.kind (is_whitespace_left s.left) opens.0 }

-- a mirror is lawful, and no whitespace
mirror_is_lawful : (k : ℕ) → is_lawful (mirror k) ≡ true
unfolding is_lawful
mirror_is_lawful k = grind (arith, nat_tests)

mirror_is_no_whitespace : (k : ℕ) (b : Bool) → (b && is_kind Whitespace (mirror k)) ≡ false
mirror_is_no_whitespace k b = grind (arith, nat_tests)

pub close_lets_through : (s : State) (d k : ℕ) → first_of (close_refusals s d k) ≡ Ok tt → LetsThrough s (mirror k)
close_lets_through s d k h =
    let all = none_holds (close_refusals s d k) h in
    record {
      going = all.0;
      unstuck = all.1.0;
      lawful = mirror_is_lawful k;
      in_turn = not-false _ all.1.1.1.0;
      single_whitespace = mirror_is_no_whitespace k (is_whitespace_left s.left);
    }

free : (w : Waiting) → is_free w ≡ true → w ≡ Free
free w e = grind (arith, nat_tests)

-- a state that lets the end through
pub record LetsEnd (s : State) : Type 0 where
  pub going : s.finished ≡ false
  pub unstuck : is_some s.stuck ≡ false
  pub awaits : s.waiting ≡ Free

pub finish_lets_end : (s : State) → first_of (finish_refusals s) ≡ Ok tt → LetsEnd s
finish_lets_end s h =
    let all = none_holds (finish_refusals s) h in
    record { going = all.0; unstuck = all.1.0; awaits = free s.waiting (not-false _ all.1.1.0) }
