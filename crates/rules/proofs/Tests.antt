-- What a test of every or of any item of an iterator answers, by a word that goes through a list as the test does.
use Rattle.std.proofs.Common.{◌≡◌, Bool, true, false, ◌||◌, ◌&&◌, List, [], ◌∷◌, Option, refl, ◌∙◌}
use Rattle.std.specs.Fn.{Mut, Called}
use Rattle.std.specs.Iterator.{YieldsThen}
use Rattle.std.specs.List.{FoldsTo, list_all, list_any}
use Rattle.std.specs.Option.{MatchOption}
use Rattle.std.proofs.lemmas.Iterator.{YieldsList}
use Rattle.std.proofs.lemmas.Iterator.Search.{all_from_yields_List, any_from_yields_List}
use Rattle.std.proofs.lemmas.List.Recursion.{same_from_clauses}

module _ {S A B F : Type 0} {steps : S → Option A → S → Type 0} {v : A → B} {g : Mut F (A × Unit {0}) Bool} {s u : S} {f : F} {r : Bool} {all : List B} (test : B → Bool) (word : List B → Bool) where
  pub all_by_word : true ≡ word [] → ((x : B) (xs : List B) → word (x ∷ xs) ≡ (test x && word xs)) → YieldsList steps v s all
      → (xs : List A) × (o : Option A) × (j : F) × YieldsThen steps s xs o u × FoldsTo (λ p x q. Called g p (x, tt) true q) f xs j × MatchOption o (r ≡ true) (λ x. (r ≡ false) × ((h : F) × Called g j (x, tt) false h))
      → ((x : A) (b : Bool) (q : F) → Called g f (x, tt) b q → (q ≡ f) × (b ≡ test (v x))) → r ≡ word all
  all_by_word none more items ran k =
      all_from_yields_List test u f r ran items k
      ∙ same_from_clauses (list_all test) word (λ x b. test x && b) none (λ x xs. refl) more all

  pub any_by_word : false ≡ word [] → ((x : B) (xs : List B) → word (x ∷ xs) ≡ (test x || word xs)) → YieldsList steps v s all
      → (xs : List A) × (o : Option A) × (j : F) × YieldsThen steps s xs o u × FoldsTo (λ p x q. Called g p (x, tt) false q) f xs j × MatchOption o (r ≡ false) (λ x. (r ≡ true) × ((h : F) × Called g j (x, tt) true h))
      → ((x : A) (b : Bool) (q : F) → Called g f (x, tt) b q → (q ≡ f) × (b ≡ test (v x))) → r ≡ word all
  any_by_word none more items ran k =
      any_from_yields_List test u f r ran items k
      ∙ same_from_clauses (list_any test) word (λ x b. test x || b) none (λ x xs. refl) more all
