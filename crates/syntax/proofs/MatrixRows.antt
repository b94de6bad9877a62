-- What the rows and columns of the matrix say of one another.
use Rattle.std.proofs.Common.{◌≡◌, ℕ, zero, suc, Bool, true, false, not, ◌&&◌, ◌||◌, List, [], ◌∷◌, get_or, refl}
use Rattle.std.proofs.lemmas.Bool.{and_parts, not-true}
use Rattle.syntax.specs.declared.neighbour.Left.{Left}
use Rattle.syntax.specs.declared.neighbour.Right.{Right}
use Rattle.syntax.specs.Neighbours.{apart, column_of, matrix, row_of}

-- where one row has no comment, another that has none but its comments has none
unfoldable pub covers_row : List Bool → List Bool → Bool
covers_row xs [] = true
covers_row [] (y ∷ ys) = not y && covers_row [] ys
covers_row (x ∷ xs) (y ∷ ys) = (x || not y) && covers_row xs ys

covered_at : (xs ys : List Bool) (i : ℕ) → covers_row xs ys ≡ true → get_or xs i false ≡ false → get_or ys i false ≡ false
unfolding covers_row
covered_at xs [] i c h = refl
covered_at [] (y ∷ ys) zero c h = not-true y (and_parts (not y) _ c).0
covered_at [] (y ∷ ys) (suc i) c h = covered_at [] ys i (and_parts (not y) _ c).1 refl
covered_at (x ∷ xs) (y ∷ ys) zero c h = not-true y (rw h at (and_parts (x || not y) _ c).0)
covered_at (x ∷ xs) (y ∷ ys) (suc i) c h = covered_at xs ys i (and_parts (x || not y) _ c).1 h

pub covered : (a b : Left) (r : Right) → covers_row (get_or matrix (row_of a) []) (get_or matrix (row_of b) []) ≡ true → apart a r ≡ false → apart b r ≡ false
unfolding apart
covered a b r c h = covered_at (get_or matrix (row_of a) []) (get_or matrix (row_of b) []) (column_of r) c h

-- a row without comments
pub no_comment_behind : (l : Left) (r : Right) → covers_row [] (get_or matrix (row_of l) []) ≡ true → apart l r ≡ false
unfolding apart
no_comment_behind l r c = covered_at [] (get_or matrix (row_of l) []) (column_of r) c refl

-- the column without comments
pub none_before_other : (l : Left) → apart l Right.Other ≡ false
unfolding apart
none_before_other Left.Ident = refl
none_before_other Left.Dashes = refl
none_before_other Left.Name = refl
none_before_other Left.Number = refl
none_before_other Left.At = refl
none_before_other Left.DotOrPlus = refl
none_before_other Left.Less = refl
none_before_other Left.Slash = refl
none_before_other Left.Whitespace = refl
none_before_other Left.Other = refl
