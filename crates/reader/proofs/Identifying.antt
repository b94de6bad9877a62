-- The name of an ident-like token, held back until it is known whether it goes into the cells.
use Rattle.std.proofs.Common.{◌≡◌, ℕ, suc, ◌+◌, true, false, ◌&&◌, eqb, List, [], ◌∷◌, ◌++◌, length, get_or, drop, Some, None, Option, sym, refl, ap, ◌∙◌, append_assoc, append-nil, arith}
use Rattle.std.specs.Option.{option_to_list}
use Rattle.std.proofs.lemmas.Bool.{both_ways, ne_eqb, eq-eqb, eqb-true, and_parts, and_from}
use Rattle.std.proofs.lemmas.List.{nil_from_length}
use Rattle.std.proofs.lemmas.Bool.Decides.{nat_tests}
use Rattle.codepoint.specs.Classes.{is_ident, is_ident_start, is_letter, is_digit}
use Rattle.codepoint.specs.Starts.{is_valid_escape}
use Rattle.syntax.specs.declared.kind.Kind.TheVariants.{Function, Ident}
use Rattle.syntax.specs.Points.{left_paren}
use Rattle.syntax.specs.Rules.{collect, beyond}
use Rattle.syntax.specs.Rules.Step.{halt}
use Rattle.syntax.specs.Escapes.{in_ident, escape}
use Rattle.syntax.specs.Bodies.{in_extra_whitespace}
use Rattle.syntax.specs.Reading.{is_url, url_or_function, end_name, ident_like_at}
use Rattle.lookahead.specs.declared.ahead.Peek.{Peek}
use Rattle.lookahead.specs.Ahead.{Ahead, Left, codes, past, peeked}
use Rattle.scan.specs.declared.cells.Cells.{Cells}
use Rattle.scan.specs.Fills.{Collects, Puts}
use Rattle.scan.proofs.States.{Gives, given_first, turn_out, turn_left, stop_out, stop_left, past_one, past_past, codes_past}
use Rattle.scan.proofs.Turns.{collects_then, collects_said}
use Rattle.scan.proofs.Arms.{name_one, name_escape, name_stop}
use Rattle.reader.specs.declared.held.Held.{Held}
use Rattle.reader.specs.declared.read.Read.{Read}
use Rattle.reader.specs.Reads.{Reads, texted_read}
use Rattle.reader.specs.Holding.{Begun, Holding, held_text}
use Rattle.reader.proofs.Textual.{said, read_behind, textual, first_shown, left_stays, left_bumps}

-- one code point of an identifier
module _ {s sl : Ahead} {w : Peek} (l : sl ≡ s) (seen : w ≡ peeked s.list) where
  pub begun_plain : {s' : Ahead} → is_ident w.first ≡ true → s' ≡ past 1 sl → Begun s (Some w.first) s'
  begun_plain {s' = s'} h e =
      let g = name_one s.list w seen h in
      let e' = e ∙ ap (past 1) l in
      record { given = turn_out in_ident s s' _ 0 g e'; same_left = turn_left in_ident s s' _ 0 g e'; stop = λ y. absurd (cc y); count = 1; passed = e' }

  pub begun_escape : {s1 s' : Ahead} {v : ℕ} → is_ident w.first ≡ false → is_valid_escape w.first w.second ≡ true → s1 ≡ past 1 sl → v ≡ (escape (codes s1)).0 → s' ≡ past (escape (codes s1)).1 s1 → Begun s (Some v) s'
  begun_escape {s1 = s1} {s' = s'} {v = v} h k e1 ev e =
      let g = name_escape s.list w seen h k in
      let e1' = e1 ∙ ap (past 1) l in
      let d : codes s1 ≡ drop 1 (codes s) = ap codes e1' ∙ codes_past 1 s in
      let ev' : v ≡ (escape (drop 1 (codes s))).0 = ev ∙ ap (λ t. (escape t).0) d in
      let e' : s' ≡ past (suc (escape (drop 1 (codes s))).1) s = e ∙ ap (λ t. past (escape t).1 s1) d ∙ ap (past (escape (drop 1 (codes s))).1) e1' ∙ past_one _ s in
      record { given = rw ev' (turn_out in_ident s s' _ _ g e'); same_left = turn_left in_ident s s' _ _ g e'; stop = λ y. absurd (cc y); count = suc (escape (drop 1 (codes s))).1; passed = e' }

-- how long the parts are
parts : (x y z : Option ℕ) (u0 u1 u2 u3 : List ℕ) → u0 ≡ option_to_list x ++ u1 → u1 ≡ option_to_list y ++ u2 → u2 ≡ option_to_list z ++ u3 → (x ≡ None → u0 ≡ []) → (y ≡ None → u1 ≡ []) → (z ≡ None → u2 ≡ []) → length u0 ≡ 3 → length u3 ≡ 0
parts x y None u0 u1 u2 u3 ex ey ez nx ny nz n = let a = ap length (nz refl) in let b = ap length ez in omega arith
parts x None (Some z) u0 u1 u2 u3 ex ey ez nx ny nz n = let a = ap length (ny refl) in let b = ap length ey in let d = ap length ez in absurd (omega arith)
parts None (Some y) (Some z) u0 u1 u2 u3 ex ey ez nx ny nz n = let a = ap length (nx refl) in absurd (omega arith)
parts (Some x) (Some y) (Some z) u0 u1 u2 u3 ex ey ez nx ny nz n = let a = ap length ex in let b = ap length ey in let d = ap length ez in omega arith

pub holding : {w0 w1 w2 w3 : Ahead} {x y z : Option ℕ} → Begun w0 x w1 → Begun w1 y w2 → Begun w2 z w3 → Holding w0 (record { first = x; second = y; third = z }) w3
holding {w0} {w1} {w2} {w3} {x} {y} {z} a b c = record {
  given_so = a.given ∙ ap (λ t. option_to_list x ++ t) (b.given ∙ ap (λ t. option_to_list y ++ t) c.given) ∙ sym (append_assoc (option_to_list x) (option_to_list y ++ option_to_list z) _ ∙ ap (λ t. option_to_list x ++ t) (append_assoc (option_to_list y) (option_to_list z) _));
  left_as = c.same_left ∙ b.same_left ∙ a.same_left;
  short = λ n. nil_from_length _ (parts x y z _ _ _ _ a.given b.given c.given (λ h. stop_out in_ident (codes w0) (a.stop h)) (λ h. stop_out in_ident (codes w1) (b.stop h)) (λ h. stop_out in_ident (codes w2) (c.stop h)) n);
  held_count = (a.count + b.count) + c.count;
  held_past = c.passed ∙ ap (past c.count) (b.passed ∙ ap (past b.count) a.passed ∙ past_past b.count a.count w0) ∙ past_past c.count (a.count + b.count) w0;
}

-- an identifier that gives nothing stops
stops_of : (t : List ℕ) → collect in_ident t ≡ [] → in_ident t ≡ halt
unfolding in_ident
stops_of [] h = refl
stops_of (c ∷ t) h =
    elim (is_ident c) as (λ v. is_ident c ≡ v → in_ident (c ∷ t) ≡ halt) [
      | true ↦ λ e. let g : Gives in_ident (c ∷ t) (c ∷ []) 0 = record { some = omega arith; says = rw (e, in_ident) refl } in let n = ap length (sym (given_first in_ident (c ∷ t) _ 0 g) ∙ h) in absurd (omega arith)
      | false ↦ λ e. elim (is_valid_escape c (get_or t 0 0)) as (λ v. is_valid_escape c (get_or t 0 0) ≡ v → in_ident (c ∷ t) ≡ halt) [
        | true ↦ λ k. let g : Gives in_ident (c ∷ t) ((escape t).0 ∷ []) (escape t).1 = record { some = omega arith; says = rw (e, k, in_ident) refl } in let n = ap length (sym (given_first in_ident (c ∷ t) _ _ g) ∙ h) in absurd (omega arith)
        | false ↦ λ k. rw (e, k, in_ident) refl
      ] refl
    ] refl

paren_stops : (b : ℕ) → (is_ident 40 ≡ false) × (is_valid_escape 40 b ≡ false)
unfolding is_ident is_ident_start is_letter is_digit is_valid_escape
paren_stops b = (refl, refl)

url_has_three : (t : List ℕ) → is_url t ≡ true → length t ≡ 3
url_has_three t h = grind (arith, nat_tests)

-- the whole token
module _ {s : Ahead} {h : Held} {s1 sl : Ahead} {w : Peek} (a : Holding s h s1) (l : sl ≡ s1) (seen : w ≡ peeked s1.list) where
  pub ident_url : {c0 c1 : Cells} {r : Read} {s2 s3 : Ahead} → true ≡ (eqb w.first 40 && is_url (held_text h)) → s2 ≡ past 1 sl → Reads c0 s2 (url_or_function (held_text h) (beyond in_extra_whitespace (codes s2))) c1 r s3 → Reads c0 s (ident_like_at (codes s)) c1 r s3
  unfolding ident_like_at end_name
  ident_url {s2 = s2} y e b =
      let y' = and_parts (eqb w.first 40) (is_url (held_text h)) (sym y) in
      let z : w.first ≡ 40 = eqb-true w.first 40 y'.0 in
      let u : is_url (held_text h) ≡ true = y'.1 in
      let p = paren_stops w.second in
      let stop : in_ident (codes s1) ≡ halt = name_stop s1.list w seen (ap is_ident z ∙ p.0) (ap (λ x. is_valid_escape x w.second) z ∙ p.1) in
      let t : collect in_ident (codes s) ≡ held_text h = a.given_so ∙ ap (λ x. held_text h ++ x) (stop_out in_ident (codes s1) stop) ∙ append-nil (held_text h) in
      let r-is : beyond in_ident (codes s) ≡ codes s1 = sym a.left_as ∙ stop_left in_ident (codes s1) stop in
      let k : eqb (get_or (codes s1) 0 0) left_paren ≡ true = eq-eqb _ 40 (first_shown s1 _ w refl seen ∙ z) in
      let d : codes s2 ≡ drop 1 (codes s1) = ap codes (e ∙ ap (past 1) l) ∙ codes_past 1 s1 in
      let far : s2 ≡ past (a.held_count + 1) s = e ∙ ap (past 1) (l ∙ a.held_past) ∙ past_past 1 a.held_count s in
      said (λ i. end_name (t i) (r-is i)) (rw (k, u, end_name, ← d) (read_behind (a.held_count + 1) far b))

  not_url : (w.first ≡ 40 → is_url (held_text h) ≡ true → ⊥) → get_or (beyond in_ident (codes s)) 0 0 ≡ 40 → is_url (collect in_ident (codes s)) ≡ false
  not_url n z =
      elim (is_url (collect in_ident (codes s))) as (λ v. is_url (collect in_ident (codes s)) ≡ v → v ≡ false) [
        | false ↦ λ _. refl
        | true ↦ λ u.
            let none = a.short (url_has_three _ u) in
            let t : collect in_ident (codes s) ≡ held_text h = a.given_so ∙ ap (λ x. held_text h ++ x) none ∙ append-nil (held_text h) in
            let r-is : beyond in_ident (codes s) ≡ codes s1 = sym a.left_as ∙ stop_left in_ident (codes s1) (stops_of (codes s1) none) in
            absurd (n (sym (first_shown s1 _ w refl seen) ∙ ap (λ x. get_or x 0 0) (sym r-is) ∙ z) (ap is_url (sym t) ∙ u))
      ] refl

  module _ {c0 c1 c2 : Cells} {s2 s3 : Ahead} {v : Peek} (other : false ≡ (eqb w.first 40 && is_url (held_text h))) (p : Puts c0 (held_text h) c1) (b : Collects c1 sl (collect in_ident (codes sl)) (beyond in_ident (codes sl)) c2 s2) (l2 : s3 ≡ s2) (seen2 : v ≡ peeked s2.list) {n : Option ℕ} (f : n ≡ c2.filled) where
    whole : Collects c0 s (collect in_ident (codes s)) (beyond in_ident (codes s)) c2 s2
    whole =
        let t : held_text h ++ collect in_ident (codes sl) ≡ collect in_ident (codes s) = ap (λ q. held_text h ++ collect in_ident (codes q)) l ∙ sym a.given_so in
        let begun : Left s (codes sl) sl = record { count = a.held_count; passed = l ∙ a.held_past; rest_is = refl } in
        collects_said refl t (ap (λ q. beyond in_ident (codes q)) l ∙ a.left_as) (collects_then (record { puts = p; left = begun }) b)

    pub ident_function : {s4 : Ahead} → v.first ≡ 40 → s4 ≡ past 1 s3 → {d : Read} → d ≡ texted_read Function n → Reads c0 s (ident_like_at (codes s)) c2 d s4
    unfolding ident_like_at end_name
    ident_function {s4 = s4} z e {d = d} is =
        let h = first_shown s2 _ v whole.left.rest_is seen2 ∙ z in
        let k : eqb (get_or (beyond in_ident (codes s)) 0 0) left_paren ≡ true = eq-eqb _ 40 h in
        let u = not_url (λ y i. both_ways _ (sym other) (and_from _ _ (eq-eqb _ 40 y) i)) h in
        rw (k, u, end_name) (textual Function whole f (drop 1 (beyond in_ident (codes s))) s4 (left_bumps whole.left s3 s4 l2 e) d is)

    pub ident_plain : (v.first ≡ 40 → ⊥) → {d : Read} → d ≡ texted_read Ident n → Reads c0 s (ident_like_at (codes s)) c2 d s3
    unfolding ident_like_at end_name
    ident_plain z {d = d} is =
        let k : eqb (get_or (beyond in_ident (codes s)) 0 0) left_paren ≡ false = ne_eqb _ 40 (λ y. z (sym (first_shown s2 _ v whole.left.rest_is seen2) ∙ y)) in
        rw (k, end_name) (textual Ident whole f (beyond in_ident (codes s)) s3 (left_stays whole.left s3 l2) d is)
