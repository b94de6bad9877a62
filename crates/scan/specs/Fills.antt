-- What stands in a buffer of cells after a text. How many cells are filled is none, once something found no cell.
use Rattle.std.specs.Prelude.{◌≡◌, ℕ, ◌+◌, cond, List, [], ◌∷◌, length, Some, None, Option, nat_lt, slice_set}
use Rattle.lookahead.specs.Ahead.{Ahead, Left}
use Rattle.scan.specs.declared.cells.Cells.{Cells}

-- one code point more, of so many cells
abbrev pub onto : ℕ → Option ℕ → Option ℕ
onto cap None = None
onto cap (Some n) = cond (nat_lt n cap) (Some (n + 1)) None

unfoldable pub filled : ℕ → Option ℕ → List ℕ → Option ℕ
filled cap f [] = f
filled cap f (c ∷ t) = filled cap (onto cap f) t

-- one code point in the next cell; past the end no cell is set
abbrev pub set_next : List ℕ → Option ℕ → ℕ → List ℕ
set_next cells None c = cells
set_next cells (Some n) c = slice_set cells n c

unfoldable pub laid : List ℕ → Option ℕ → List ℕ → List ℕ
laid cells f [] = cells
laid cells f (c ∷ t) = laid (set_next cells f c) (onto (length cells) f) t

abbrev pub empty : Option ℕ
empty = Some 0

-- a text was put into the next cells, which stay the caller's
pub record Puts (c : Cells) (text : List ℕ) (c' : Cells) : Type 0 where
  pub cells : c'.cells.now ≡ laid c.cells.now c.filled text
  pub fill : c'.filled ≡ filled (length c.cells.now) c.filled text
  pub same_cells : c'.cells.ghost_name ≡ c.cells.ghost_name

-- a text was collected into the cells, and rest is left
pub record Collects (c : Cells) (w : Ahead) (text rest : List ℕ) (c' : Cells) (w' : Ahead) : Type 0 where
  pub puts : Puts c text c'
  pub left : Left w rest w'
