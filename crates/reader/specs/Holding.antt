-- The name of an ident-like token, held back until it is known whether it goes into the cells.
use Rattle.std.specs.Prelude.{◌≡◌, ℕ, List, [], ◌++◌, length, None, Option}
use Rattle.std.specs.Option.{option_to_list}
use Rattle.syntax.specs.Rules.{collect, beyond}
use Rattle.syntax.specs.Rules.Step.{halt}
use Rattle.syntax.specs.Escapes.{in_ident}
use Rattle.lookahead.specs.Ahead.{Ahead, codes, past}
use Rattle.reader.specs.declared.held.Held.{Held}

-- one code point of an identifier, if there is one
pub record Begun (w : Ahead) (r : Option ℕ) (w' : Ahead) : Type 0 where
  pub given : collect in_ident (codes w) ≡ option_to_list r ++ collect in_ident (codes w')
  pub same_left : beyond in_ident (codes w') ≡ beyond in_ident (codes w)
  pub stop : r ≡ None → in_ident (codes w) ≡ halt
  pub count : ℕ
  pub passed : w' ≡ past count w

abbrev pub held_text : Held → List ℕ
held_text h = option_to_list h.first ++ (option_to_list h.second ++ option_to_list h.third)

-- up to three code points of an identifier: one of three has ended
pub record Holding (w : Ahead) (h : Held) (w' : Ahead) : Type 0 where
  pub given_so : collect in_ident (codes w) ≡ held_text h ++ collect in_ident (codes w')
  pub left_as : beyond in_ident (codes w') ≡ beyond in_ident (codes w)
  pub short : length (collect in_ident (codes w)) ≡ 3 → collect in_ident (codes w') ≡ []
  pub held_count : ℕ
  pub held_past : w' ≡ past held_count w
