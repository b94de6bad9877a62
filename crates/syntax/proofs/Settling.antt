-- From code points to bytes: what is written reads back through UTF-8 and preprocessing.
use Rattle.std.proofs.Common.{◌≡◌, ℕ, List, [], ◌∷◌, sym, ap, ◌∙◌, subst}
use Rattle.std.proofs.lemmas.Bool.{and_parts}
use Rattle.codepoint.specs.Utf8.{AllScalar, code_points_of, points_from}
use Rattle.stream.specs.Preprocess.{AllPreprocessed, is_preprocessed, preprocessed}
use Rattle.syntax.specs.Tokens.{TokenValue}
use Rattle.syntax.specs.Reading.{Yields}
use Rattle.syntax.specs.Lawful.{Lawful}
use Rattle.syntax.specs.Written.{Each, collapsed, written, written_bytes}
use Rattle.syntax.specs.Laws.{BytesDecideTokens, NormalFormsSettle, WrittenReadsBack}
use Rattle.syntax.proofs.Formed.{Formed}
use Rattle.syntax.proofs.Chains.{formed_reads_back, yields_once}
use Rattle.syntax.proofs.Turning.{lawful_formed}
use Rattle.syntax.proofs.Collapsing.{collapsed_twice, fit_collapsed}
use Rattle.syntax.proofs.Passing.{written_input}
use Rattle.codepoint.proofs.Utf8Laws.{decodes_back}
use Rattle.stream.proofs.Preprocessing.{preprocessing_settles}

all_formed : (ts : List TokenValue) → Each Lawful ts → Each Formed ts
all_formed [] h = tt
all_formed (t ∷ ts) h = (lawful_formed h.0, all_formed ts h.1)

input_scalar : (s : List ℕ) → AllPreprocessed s → AllScalar s
unfolding is_preprocessed
input_scalar [] h = tt
input_scalar (c ∷ s) h = ((and_parts _ _ h.0).0, input_scalar s h.1)

pub written_reads_back : WrittenReadsBack
written_reads_back ts f =
    let formed = all_formed ts f.lawful in
    let s = written ts in
    let h = written_input ts formed in
    let ps = points_from 0 0 (written_bytes ts) in
    let d = decodes_back s 0 (input_scalar s h) in
    let same : preprocessed ps ≡ ps = preprocessing_settles.clean_stays ps (subst AllPreprocessed (sym d.0) h) in
    record {
      well_formed = d.1;
      unchanged = same;
      yields = subst (λ x. Yields x ts) (sym (ap code_points_of same ∙ d.0)) (formed_reads_back ts formed f.in_turn f.single_whitespace);
    }

-- the tokens of bytes
abbrev TokensOf : List ℕ → List TokenValue → Type 0
TokensOf bs ts = Yields (code_points_of (preprocessed (points_from 0 0 bs))) ts

pub bytes_decide_tokens : BytesDecideTokens
bytes_decide_tokens ts us f g = (
  λ e. yields_once _ ts us (written_reads_back ts f).yields (subst (λ bs. TokensOf bs us) (sym e) (written_reads_back us g).yields),
  λ e. ap written_bytes e,
)

pub normal_forms_settle : NormalFormsSettle
normal_forms_settle ps ts h y k =
    let f = fit_collapsed (code_points_of (preprocessed ps)) ts (preprocessing_settles.cleans ps h) y k in
    let r = written_reads_back (collapsed ts) f in
    record {
      reads_back = r;
      settles = λ us z. ap (λ x. written_bytes (collapsed x)) (yields_once _ us (collapsed ts) z r.yields) ∙ ap written_bytes (collapsed_twice ts);
    }
