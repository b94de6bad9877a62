-- The parts of a number.
use Rattle.std.proofs.Common.{◌≡◌, ℕ, zero, suc, ◌+◌, ◌<◌, List, [], ◌∷◌, ◌++◌, length, get_or, take, drop, sym, refl, ap, ◌∙◌, append-nil, add-zero}
use Rattle.std.proofs.lemmas.List.{take_more, drop-drop, get_or-drop}
use Rattle.syntax.specs.Numbers.{digits, past_digits, sign_length, fraction_length, exponent_length, part, part_if_any, with_fraction, with_exponent, number_at}
use Rattle.lookahead.specs.declared.ahead.Peek.{Peek}
use Rattle.lookahead.specs.Ahead.{Ahead, codes, past, peeked}
use Rattle.scan.specs.declared.cells.Cells.{Cells}
use Rattle.scan.specs.Fills.{Collects, Puts}
use Rattle.scan.proofs.Turns.{collects_then, collects_said, one_collected}
use Rattle.scan.proofs.Arms.{first_is}

-- the first n code points were collected
abbrev pub Taken : Cells → Ahead → ℕ → Cells → Ahead → Type 0
Taken c0 s0 n c s = Collects c0 s0 (take n (codes s0)) (drop n (codes s0)) c s

pub one_taken : (s0 s s' : Ahead) (n : ℕ) (w : Peek) (c0 c1 c2 : Cells) → Taken c0 s0 n c1 s → n < length (codes s0) → w ≡ peeked s.list → s' ≡ past 1 s → Puts c1 (w.first ∷ []) c2 → Taken c0 s0 (n + 1) c2 s'
one_taken s0 s s' n w c0 c1 c2 a l seen e p =
    let v : w.first ≡ get_or (codes s0) n 0 = first_is s.list w seen ∙ ap (λ t. get_or t 0 0) a.left.rest_is ∙ get_or-drop n (codes s0) 0 0 ∙ ap (λ k. get_or (codes s0) k 0) (add-zero n) in
    collects_said refl (ap (λ x. take n (codes s0) ++ x ∷ []) v ∙ sym (take_more (codes s0) n 0 l)) (ap (drop 1) a.left.rest_is ∙ drop-drop 1 n (codes s0)) (collects_then a (one_collected c1 w.first c2 s s' e p))

-- and the digits behind them
pub part_collected : (s0 s s' : Ahead) (n : ℕ) (c0 c1 c2 : Cells) → Taken c0 s0 n c1 s → Collects c1 s (digits (codes s)) (past_digits (codes s)) c2 s' → Collects c0 s0 (part n [] (codes s0)).0 (part n [] (codes s0)).1 c2 s'
part_collected s0 s s' n c0 c1 c2 a b =
    collects_said refl (ap (λ t. take n (codes s0) ++ digits t) a.left.rest_is) (ap past_digits a.left.rest_is) (collects_then a b)

-- the lengths of the parts, by what the window shows
module _ (s : Ahead) (w : Peek) (seen : w ≡ peeked s.list) where
  sign_is : (n : ℕ) → n ≡ sign_length w.first → n ≡ sign_length (get_or (codes s) 0 0)
  sign_is n h = h ∙ ap (λ (t : Peek). sign_length t.first) seen

  fraction_is : (n : ℕ) → n ≡ fraction_length w.first w.second → n ≡ fraction_length (get_or (codes s) 0 0) (get_or (codes s) 1 0)
  fraction_is n h = h ∙ ap (λ (t : Peek). fraction_length t.first t.second) seen

  exponent_is : (n : ℕ) → n ≡ exponent_length w.first w.second w.third → n ≡ exponent_length (get_or (codes s) 0 0) (get_or (codes s) 1 0) (get_or (codes s) 2 0)
  exponent_is n h = h ∙ ap (λ (t : Peek). exponent_length t.first t.second t.third) seen

-- behind what is read so far
part_behind : (k : ℕ) (t s : List ℕ) → part_if_any k t s ≡ (t ++ (part_if_any k [] s).0, (part_if_any k [] s).1)
part_behind zero t s = λ i. (sym (append-nil t) i, s)
part_behind (suc k) t s = refl

-- a part of a number was collected
abbrev Part : ℕ → Cells → Ahead → Cells → Ahead → Type 0
Part k c s c' s' = Collects c s (part_if_any k [] (codes s)).0 (part_if_any k [] (codes s)).1 c' s'

-- the three parts are the number
pub number_collected : (s0 l0 : Ahead) (u : Peek) (c0 c1 : Cells) (s1 l1 : Ahead) (w : Peek) (c2 : Cells) (s2 l2 : Ahead) (v : Peek) (c3 : Cells) (s3 : Ahead) (n f e : ℕ)
    → l0 ≡ s0 → u ≡ peeked s0.list → n ≡ sign_length u.first → Collects c0 l0 (part n [] (codes l0)).0 (part n [] (codes l0)).1 c1 s1
    → l1 ≡ s1 → w ≡ peeked s1.list → f ≡ fraction_length w.first w.second → Part f c1 l1 c2 s2
    → l2 ≡ s2 → v ≡ peeked s2.list → e ≡ exponent_length v.first v.second v.third → Part e c2 l2 c3 s3
    → Collects c0 s0 (number_at (codes s0)).0 (number_at (codes s0)).1 c3 s3
unfolding number_at
number_collected s0 l0 u c0 c1 s1 l1 w c2 s2 l2 v c3 s3 n f e el0 su en a0 el1 sw ef b el2 sv ee d =
    let one = part (sign_length (get_or (codes s0) 0 0)) [] (codes s0) in
    let a1 : part n [] (codes l0) ≡ one = λ i. part (sign_is s0 u su n en i) [] (codes (el0 i)) in
    let a = collects_said el0 (ap (λ p. p.0) a1) (ap (λ p. p.1) a1) a0 in
    let fraction : List ℕ → ℕ = λ t. fraction_length (get_or t 0 0) (get_or t 1 0) in
    let exponent : List ℕ → ℕ = λ t. exponent_length (get_or t 0 0) (get_or t 1 0) (get_or t 2 0) in
    let r1 : codes s1 ≡ one.1 = a.left.rest_is in
    let fe : f ≡ fraction one.1 = fraction_is s1 w sw f ef ∙ ap fraction r1 in
    let b1 : part_if_any f [] (codes l1) ≡ part_if_any (fraction one.1) [] one.1 = (λ i. part_if_any (fe i) [] ((ap codes el1 ∙ r1) i)) in
    let two : with_fraction one ≡ (one.0 ++ (part_if_any f [] (codes l1)).0, (part_if_any f [] (codes l1)).1) = part_behind (fraction one.1) one.0 one.1 ∙ ap (λ p. (one.0 ++ p.0, p.1)) (sym b1) in
    let r2 : codes s2 ≡ (part_if_any f [] (codes l1)).1 = b.left.rest_is in
    let xe : e ≡ exponent (part_if_any f [] (codes l1)).1 = exponent_is s2 v sv e ee ∙ ap exponent r2 in
    let d1 : part_if_any e [] (codes l2) ≡ part_if_any (exponent (part_if_any f [] (codes l1)).1) [] (part_if_any f [] (codes l1)).1 = (λ i. part_if_any (xe i) [] ((ap codes el2 ∙ r2) i)) in
    let three : with_exponent (with_fraction one) ≡ ((one.0 ++ (part_if_any f [] (codes l1)).0) ++ (part_if_any e [] (codes l2)).0, (part_if_any e [] (codes l2)).1) =
    ap with_exponent two ∙ part_behind (exponent (part_if_any f [] (codes l1)).1) (one.0 ++ (part_if_any f [] (codes l1)).0) (part_if_any f [] (codes l1)).1 ∙ ap (λ p. ((one.0 ++ (part_if_any f [] (codes l1)).0) ++ p.0, p.1)) (sym d1) in
    let whole = collects_then (collects_then a (collects_said el1 refl refl b)) (collects_said el2 refl refl d) in
    collects_said refl (sym (ap (λ p. p.0) three)) (sym (ap (λ p. p.1) three)) whole
