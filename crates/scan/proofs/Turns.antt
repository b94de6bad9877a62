-- The loops over a rule: what is still to come does to the cells and to the input what the whole does at the start.
use Rattle.std.proofs.Common.{◌≡◌, ℕ, suc, ◌+◌, ◌<◌, List, [], ◌∷◌, ◌++◌, length, get_or, drop, Some, None, Option, sym, refl, ap, ◌∙◌, arith, length-set}
use Rattle.std.proofs.lemmas.List.{drop_all, drop_more}
use Rattle.std.proofs.lemmas.Grind.{get_or_after_one}
use Rattle.syntax.specs.Rules.{Step, out, left, collect, beyond}
use Rattle.syntax.specs.Rules.Step.{halt, give}
use Rattle.syntax.specs.Escapes.{escape}
use Rattle.lookahead.specs.declared.ahead.Peek.{Peek}
use Rattle.lookahead.specs.Ahead.{Ahead, EndsAtZero, Left, codes, past, peeked}
use Rattle.scan.specs.declared.cells.Cells.{Cells}
use Rattle.scan.specs.declared.rule.Turn.{Turn}
use Rattle.scan.specs.Fills.{Collects, Puts, onto, filled, set_next, laid}
use Rattle.scan.specs.Turns.{Says, step_of}
use Rattle.scan.proofs.States.{Gives, turn_out, turn_left, stop_out, stop_left, past_one, past_past, codes_past, length_codes, left_past, left_then}
use Rattle.scan.proofs.Arms.{first_is, second_is}

length_set_next : (cells : List ℕ) (f : Option ℕ) (c : ℕ) → length (set_next cells f c) ≡ length cells
length_set_next cells None c = refl
length_set_next cells (Some n) c = length-set cells n c

-- one text behind another
length_laid : (cells : List ℕ) (f : Option ℕ) (t : List ℕ) → length (laid cells f t) ≡ length cells
unfolding laid
length_laid cells f [] = refl
length_laid cells f (c ∷ t) = length_laid (set_next cells f c) (onto (length cells) f) t ∙ length_set_next cells f c

filled_more : (cap : ℕ) (f : Option ℕ) (t u : List ℕ) → filled cap f (t ++ u) ≡ filled cap (filled cap f t) u
unfolding filled
filled_more cap f [] u = refl
filled_more cap f (c ∷ t) u = filled_more cap (onto cap f) t u

laid_more : (cells : List ℕ) (f : Option ℕ) (t u : List ℕ) → laid cells f (t ++ u) ≡ laid (laid cells f t) (filled (length cells) f t) u
unfolding laid filled
laid_more cells f [] u = refl
laid_more cells f (c ∷ t) u =
    laid_more (set_next cells f c) (onto (length cells) f) t u
    ∙ ap (λ n. laid (laid (set_next cells f c) (onto (length cells) f) t) (filled n (onto (length cells) f) t) u) (length_set_next cells f c)

-- what a further text does behind one that was put
module _ {c : Cells} {t : List ℕ} {c1 : Cells} (p : Puts c t c1) (u : List ℕ) where
  laid_behind : laid c1.cells.now c1.filled u ≡ laid c.cells.now c.filled (t ++ u)
  laid_behind = (λ i. laid (p.cells i) (p.fill i) u) ∙ sym (laid_more c.cells.now c.filled t u)

  filled_behind : filled (length c1.cells.now) c1.filled u ≡ filled (length c.cells.now) c.filled (t ++ u)
  filled_behind =
      let cap = length c.cells.now in
      (λ i. filled (length (p.cells i)) (p.fill i) u) ∙ ap (λ n. filled n (filled cap c.filled t) u) (length_laid c.cells.now c.filled t) ∙ sym (filled_more cap c.filled t u)

-- nothing was put
pub puts_none : (c : Cells) → Puts c [] c
unfolding laid filled
puts_none c = record { cells = refl; fill = refl; same_cells = refl }

-- one text behind another
pub puts_then : {c : Cells} {t : List ℕ} {c1 : Cells} {u : List ℕ} {c2 : Cells} → Puts c t c1 → Puts c1 u c2 → Puts c (t ++ u) c2
puts_then {u = u} a b = record { cells = b.cells ∙ laid_behind a u; fill = b.fill ∙ filled_behind a u; same_cells = b.same_cells ∙ a.same_cells }

-- the same in other words
pub puts_said : {c : Cells} {t u : List ℕ} {c1 : Cells} → t ≡ u → Puts c t c1 → Puts c u c1
puts_said e a = rw e at a

-- one collecting behind another
pub collects_then : {c : Cells} {w : Ahead} {t r : List ℕ} {c1 : Cells} {w1 : Ahead} {u s : List ℕ} {c2 : Cells} {w2 : Ahead} → Collects c w t r c1 w1 → Collects c1 w1 u s c2 w2 → Collects c w (t ++ u) s c2 w2
collects_then a b = record { puts = puts_then a.puts b.puts; left = left_then a.left b.left }

-- the same in other words, from an equal input
pub collects_said : {c : Cells} {w v : Ahead} {t u r s : List ℕ} {c1 : Cells} {w1 : Ahead} → w ≡ v → t ≡ u → r ≡ s → Collects c w t r c1 w1 → Collects c v u s c1 w1
collects_said k e q a = record {
  puts = puts_said e a.puts;
  left = record { count = a.left.count; passed = a.left.passed ∙ ap (past a.left.count) k; rest_is = a.left.rest_is ∙ q };
}

-- one code point was collected
pub one_collected : (c : Cells) (v : ℕ) (c' : Cells) (w w' : Ahead) → w' ≡ past 1 w → Puts c (v ∷ []) c' → Collects c w (v ∷ []) (drop 1 (codes w)) c' w'
one_collected c v c' w w' e p = record { puts = p; left = left_past 1 w w' e }

-- a turn of a rule, by what the window shows
nonempty : (t : List ℕ) → (get_or t 0 0 ≡ 0 → ⊥) → 0 < length t
nonempty [] z = absurd (z refl)
nonempty (c ∷ t) z = omega arith

module _ (f : List ℕ → Step ℕ) (s : Ahead) (w : Peek) (seen : w ≡ peeked s.list) (ends : EndsAtZero w s.list) (more : w.first ≡ 0 → ⊥) (t : Turn) (says : Says f w.first w.second t) where
  some : 0 < length (codes s)
  some = nonempty (codes s) (λ z. more (first_is s.list w seen ∙ z))

  pub turned : f (codes s) ≡ step_of t w.first (drop 1 (codes s))
  turned =
      let front : codes s ≡ w.first ∷ drop 1 (codes s) = drop_more (codes s) 0 0 some ∙ ap (λ a. a ∷ drop 1 (codes s)) (sym (first_is s.list w seen)) in
      ap f front ∙ says (drop 1 (codes s)) (second_is s.list w seen ∙ sym (get_or_after_one (codes s) 0 0)) (λ z. drop_all 1 (codes s) (rw (length_codes s.list) (ends.one z)))

  pub gives : (v : List ℕ) (k : ℕ) → step_of t w.first (drop 1 (codes s)) ≡ give v k → Gives f (codes s) v k
  gives v k e = record { some = some; says = turned ∙ e }

module _ (f : List ℕ → Step ℕ) where
  -- the rule has taken what stands before s
  pub record Skipped (s0 s : Ahead) : Type 0 where
    pub count : ℕ
    pub passed : s ≡ past count s0
    pub same_left : beyond f (codes s) ≡ beyond f (codes s0)

  -- and what it gave stands in the cells
  pub record Sofar (c0 : Cells) (s0 : Ahead) (c : Cells) (s : Ahead) : Type 0 where
    pub same_end : laid c.cells.now c.filled (collect f (codes s)) ≡ laid c0.cells.now c0.filled (collect f (codes s0))
    pub same_fill : filled (length c.cells.now) c.filled (collect f (codes s)) ≡ filled (length c0.cells.now) c0.filled (collect f (codes s0))
    pub same_cells : c.cells.ghost_name ≡ c0.cells.ghost_name
    pub skipped : Skipped s0 s

  module _ (s0 s : Ahead) (h : Skipped s0 s) where
    pub skip_turn : (v : List ℕ) (k : ℕ) → Gives f (codes s) v k → (s' : Ahead) → s' ≡ past (suc k) s → Skipped s0 s'
    skip_turn v k g s' e = record {
      count = h.count + suc k;
      passed = e ∙ ap (past (suc k)) h.passed ∙ past_past (suc k) h.count s0;
      same_left = turn_left f s s' v k g e ∙ h.same_left;
    }

    pub skip_done : beyond f (codes s) ≡ codes s → (s' : Ahead) → s' ≡ s → Left s0 (beyond f (codes s0)) s'
    skip_done g s' e = record { count = h.count; passed = e ∙ h.passed; rest_is = ap codes e ∙ sym g ∙ h.same_left }

  module _ (c0 : Cells) (s0 : Ahead) (c : Cells) (s : Ahead) (h : Sofar c0 s0 c s) where
    -- a turn, and what it gives is put
    pub turn_put : (v : List ℕ) (k : ℕ) → Gives f (codes s) v k → (c' : Cells) (s' : Ahead) → s' ≡ past (suc k) s → Puts c v c' → Sofar c0 s0 c' s'
    turn_put v k g c' s' e p =
        let o = sym (turn_out f s s' v k g e) in
        let t = collect f (codes s') in
        record {
          same_end = laid_behind p t ∙ ap (laid c.cells.now c.filled) o ∙ h.same_end;
          same_fill = filled_behind p t ∙ ap (filled (length c.cells.now) c.filled) o ∙ h.same_fill;
          same_cells = p.same_cells ∙ h.same_cells;
          skipped = skip_turn s0 s h.skipped v k g s' e;
        }

    pub turn_none : (k : ℕ) → Gives f (codes s) [] k → (s' : Ahead) → s' ≡ past (suc k) s → Sofar c0 s0 c s'
    turn_none k g s' e = turn_put [] k g c s' e (puts_none c)

    -- a turn that gives an escape, read from s1
    pub turn_escape : Gives f (codes s) ((escape (drop 1 (codes s))).0 ∷ []) (escape (drop 1 (codes s))).1 → (c' : Cells) (s1 s' : Ahead) (v : ℕ) → s1 ≡ past 1 s → v ≡ (escape (codes s1)).0 → s' ≡ past (escape (codes s1)).1 s1 → Puts c (v ∷ []) c' → Sofar c0 s0 c' s'
    turn_escape g c' s1 s' v e1 ev e p =
        let d : codes s1 ≡ drop 1 (codes s) = ap codes e1 ∙ codes_past 1 s in
        let ev' : v ≡ (escape (drop 1 (codes s))).0 = ev ∙ ap (λ t. (escape t).0) d in
        let e' : s' ≡ past (suc (escape (drop 1 (codes s))).1) s = e ∙ ap (λ t. past (escape t).1 s1) d ∙ ap (past (escape (drop 1 (codes s))).1) e1 ∙ past_one _ s in
        turn_put ((escape (drop 1 (codes s))).0 ∷ []) (escape (drop 1 (codes s))).1 g c' s' e' (puts_said (ap (λ x. x ∷ []) ev') p)

    -- the last turn
    finish : collect f (codes s) ≡ [] → beyond f (codes s) ≡ codes s → (s' : Ahead) → s' ≡ s → Collects c0 s0 (collect f (codes s0)) (beyond f (codes s0)) c s'
    unfolding laid filled
    finish o g s' e = record {
      puts = record {
        cells = sym (ap (laid c.cells.now c.filled) o) ∙ h.same_end;
        fill = sym (ap (filled (length c.cells.now) c.filled) o) ∙ h.same_fill;
        same_cells = h.same_cells;
      };
      left = skip_done s0 s h.skipped g s' e;
    }

    pub finish_halt : f (codes s) ≡ halt → (s' : Ahead) → s' ≡ s → Collects c0 s0 (collect f (codes s0)) (beyond f (codes s0)) c s'
    finish_halt g s' e = finish (stop_out f (codes s) g) (stop_left f (codes s) g) s' e

    pub finish_end : codes s ≡ [] → (s' : Ahead) → s' ≡ s → Collects c0 s0 (collect f (codes s0)) (beyond f (codes s0)) c s'
    unfolding out left
    finish_end n s' e = finish (ap (collect f) n) (ap (beyond f) n ∙ sym n) s' e
