-- Tokens with a text.
use Rattle.std.proofs.Common.{◌≡◌, ℕ, true, false, eqb, ◌⊎◌, ⊎_elim, List, [], ◌∷◌, length, get_or, drop, Option, sym, refl, ap, ◌∙◌, subst, append-nil, arith}
use Rattle.std.proofs.lemmas.Bool.{ne_eqb, eq-eqb}
use Rattle.codepoint.specs.Starts.{starts_ident}
use Rattle.syntax.specs.declared.kind.Kind.{Kind}
use Rattle.syntax.specs.declared.kind.Kind.TheVariants.{BadUrl, Dimension, Url}
use Rattle.syntax.specs.Points.{right_paren}
use Rattle.syntax.specs.Rules.{collect, beyond}
use Rattle.syntax.specs.Escapes.{in_ident}
use Rattle.syntax.specs.Bodies.{in_url, in_remnants, past_whitespace}
use Rattle.syntax.specs.Numbers.{number_at}
use Rattle.syntax.specs.Reading.{Found, found, ident_comes, end_number, numeric_at, end_url, url_at}
use Rattle.lookahead.specs.declared.ahead.Peek.{Peek}
use Rattle.lookahead.specs.Ahead.{Ahead, EndsAtZero, Left, codes, past, peeked}
use Rattle.scan.specs.declared.cells.Cells.{Cells}
use Rattle.scan.specs.Fills.{Collects, empty, filled}
use Rattle.scan.proofs.States.{left_past, left_said, left_then}
use Rattle.scan.proofs.Turns.{collects_then, collects_said, puts_none, puts_said}
use Rattle.scan.proofs.Arms.{first_is, nothing_left}
use Rattle.reader.specs.declared.read.Read.{Read}
use Rattle.reader.specs.Reads.{Reads, bare_read, texted_read}

-- what is left is still left after a peek, and all but one after a bump
pub left_stays : {w s1 : Ahead} {r : List ℕ} → Left w r s1 → (sl : Ahead) → sl ≡ s1 → Left w r sl
left_stays a sl l = record { count = a.count; passed = l ∙ a.passed; rest_is = ap codes l ∙ a.rest_is }

pub left_bumps : {w s1 : Ahead} {r : List ℕ} → Left w r s1 → (sl s' : Ahead) → sl ≡ s1 → s' ≡ past 1 sl → Left w (drop 1 r) s'
left_bumps {w} {s1} a sl s' l e = left_said (ap (drop 1) a.rest_is) (left_then a (left_past 1 s1 s' (e ∙ ap (past 1) l)))

-- said of an equal token
pub said : {c0 : Cells} {w : Ahead} {g h : Found} {c1 : Cells} {r : Read} {s : Ahead} → h ≡ g → Reads c0 w g c1 r s → Reads c0 w h c1 r s
said {c0} {w} {g} {h} {c1} {r} {s} e a = subst (λ x. Reads c0 w x c1 r s) (sym e) a

-- from further on
pub read_behind : {c0 : Cells} {w w1 : Ahead} {g : Found} {c1 : Cells} {r : Read} {s : Ahead} (k : ℕ) → w1 ≡ past k w → Reads c0 w1 g c1 r s → Reads c0 w g c1 r s
read_behind {c0} {w} {w1} k e a = record {
  kind_is = a.kind_is;
  mark_is = a.mark_is;
  text_is = a.text_is;
  all_is = record { puts = a.all_is.puts; left = left_then (left_past k w w1 e) a.all_is.left };
}

-- how many cells a text fills, of cells that were empty
text_fills : {c0 : Cells} {w : Ahead} {t r : List ℕ} {c1 : Cells} {s1 : Ahead} {n : Option ℕ} → Collects c0 w t r c1 s1 → n ≡ c1.filled → c0.filled ≡ empty → n ≡ filled (length c0.cells.now) empty t
text_fills {c0} {w} {t} a f h = f ∙ a.puts.fill ∙ ap (λ x. filled (length c0.cells.now) x t) h

-- a token with a text and no unit
pub textual : {c0 : Cells} {w : Ahead} {t r : List ℕ} {c1 : Cells} {s1 : Ahead} {n : Option ℕ} (k : Kind) → Collects c0 w t r c1 s1 → n ≡ c1.filled → (rest : List ℕ) (s' : Ahead) → Left w rest s' → (d : Read) → d ≡ texted_read k n → Reads c0 w (found k 0 t rest) c1 d s'
textual {c0} {w} {t} k a f rest s' e d q =
    rw q (record {
      kind_is = refl;
      mark_is = refl;
      text_is = text_fills a f;
      all_is = record { puts = puts_said (sym (append-nil t)) a.puts; left = e };
    })

-- a token with neither
pub bare_reads : {c0 : Cells} {w s' : Ahead} {rest : List ℕ} (k : Kind) (m : ℕ) → Left w rest s' → (d : Read) → d ≡ bare_read k m → Reads c0 w (found k m [] rest) c0 d s'
unfolding filled
bare_reads {c0} k m e d q = rw q (record { kind_is = refl; mark_is = refl; text_is = λ h. refl; all_is = record { puts = puts_none c0; left = e } })

-- the first code point, as it is seen
pub first_shown : (s : Ahead) (r : List ℕ) (w : Peek) → codes s ≡ r → w ≡ peeked s.list → get_or r 0 0 ≡ w.first
first_shown s r w e seen = ap (λ t. get_or t 0 0) (sym e) ∙ sym (first_is s.list w seen)

-- whether an identifier comes, as it is seen
pub ident_shown : (s : Ahead) (r : List ℕ) (w : Peek) → codes s ≡ r → w ≡ peeked s.list → ident_comes r ≡ starts_ident w.first w.second w.third
ident_shown s r w e seen = sym (ap (λ (t : Peek). starts_ident t.first t.second t.third) seen ∙ ap ident_comes e)

-- numbers
module _ {s : Ahead} {c0 c1 : Cells} {s1 sl : Ahead} {w : Peek} (a : Collects c0 s (number_at (codes s)).0 (number_at (codes s)).1 c1 s1) (l : sl ≡ s1) (seen : w ≡ peeked s1.list) {n : Option ℕ} (f : n ≡ c1.filled) where
  pub dimension : {c2 : Cells} {s2 : Ahead} → starts_ident w.first w.second w.third ≡ true → Collects c1 sl (collect in_ident (codes sl)) (beyond in_ident (codes sl)) c2 s2 → {d : Read} → d ≡ texted_read Dimension n → Reads c0 s (numeric_at (codes s)) c2 d s2
  unfolding numeric_at end_number
  dimension h b is =
      let t = ident_shown s1 _ w a.left.rest_is seen ∙ h in
      let e : codes sl ≡ (number_at (codes s)).1 = ap codes l ∙ a.left.rest_is in
      rw (is, t, end_number) (record {
        kind_is = refl;
        mark_is = refl;
        text_is = text_fills a f;
        all_is = collects_then a (collects_said l (ap (collect in_ident) e) (ap (beyond in_ident) e) b);
      })

-- urls
first_or : (t : List ℕ) (d : ℕ) → (get_or t 0 0 ≡ 0 → ⊥) → get_or t 0 d ≡ get_or t 0 0
first_or [] d h = absurd (h refl)
first_or (c ∷ t) d h = refl

module _ {s : Ahead} {c0 c1 : Cells} {s1 s2 sl : Ahead} {w : Peek} (a : Collects c0 s (collect in_url (codes s)) (beyond in_url (codes s)) c1 s1) (k : Left s1 (past_whitespace (codes s1)) s2) (l : sl ≡ s2) (seen : w ≡ peeked s2.list) (ends : EndsAtZero w s2.list) {n : Option ℕ} (f : n ≡ c1.filled) where
  behind_whitespace : Left s (past_whitespace (beyond in_url (codes s))) s2
  behind_whitespace = left_said (ap past_whitespace a.left.rest_is) (left_then a.left k)

  first_is_seen : (w.first ≡ 0 → ⊥) → get_or (past_whitespace (beyond in_url (codes s))) 0 right_paren ≡ w.first
  first_is_seen z = let e = first_shown s2 _ w behind_whitespace.rest_is seen in first_or (past_whitespace (beyond in_url (codes s))) 41 (λ y. z (sym e ∙ y)) ∙ e

  -- the end closes a url as `)` does
  pub url_closed : {s3 : Ahead} → (w.first ≡ 41) ⊎ ((w.first ≡ 41 → ⊥) × (w.first ≡ 0)) → s3 ≡ past 1 sl → {d : Read} → d ≡ texted_read Url n → Reads c0 s (url_at (codes s)) c1 d s3
  unfolding url_at end_url
  url_closed {s3 = s3} z e {d = d} is =
      let r = past_whitespace (beyond in_url (codes s)) in
      let t : eqb (get_or r 0 right_paren) right_paren ≡ true =
      ⊎_elim (λ y. eq-eqb _ 41 (first_is_seen (λ o. let apart : ◌≡◌ {A = ℕ} 41 0 = sym y ∙ o in absurd (omega arith)) ∙ y))
      (λ y. ap (λ x. eqb (get_or x 0 41) 41) (sym behind_whitespace.rest_is ∙ nothing_left s2.list w seen ends y.1)) z in
      rw (t, end_url) (textual Url a f (drop 1 r) s3 (left_bumps behind_whitespace sl s3 l e) d is)

  pub url_is_bad : {s3 s4 : Ahead} → (w.first ≡ 0 → ⊥) → (w.first ≡ 41 → ⊥) → Left sl (beyond in_remnants (codes sl)) s3 → s4 ≡ past 1 s3 → {d : Read} → d ≡ texted_read BadUrl n → Reads c0 s (url_at (codes s)) c1 d s4
  unfolding url_at end_url
  url_is_bad {s3 = s3} {s4 = s4} z y m e {d = d} is =
      let t : eqb (get_or (past_whitespace (beyond in_url (codes s))) 0 right_paren) right_paren ≡ false = ne_eqb _ 41 (λ x. y (sym (first_is_seen z) ∙ x)) in
      let stays = left_stays behind_whitespace sl l in
      rw (t, end_url) (textual BadUrl a f (drop 1 (beyond in_remnants (past_whitespace (beyond in_url (codes s))))) s4 (left_bumps (left_said (ap (beyond in_remnants) stays.rest_is) (left_then stays m)) s3 s4 refl e) d is)
