-- Tokens as values.
use Rattle.std.specs.Prelude.{ℕ, Bool, ◌&&◌, List, [], ◌==◌}
use Rattle.syntax.specs.declared.kind.Kind.{Kind}
use Rattle.syntax.specs.declared.kind.Kind.TheVariants.{Delim}
use Rattle.syntax.specs.declared.token.Token.{Token}
use Rattle.syntax.specs.Kinds.{same_kind, is_bad_kind}

-- texts and units are code points; what a kind has no use for is 0 or empty
pub record TokenValue : Type 0 where
  pub kind : Kind
  pub mark : ℕ
  pub text : List ℕ
  pub unit : List ℕ

-- the value of a token that code holds: where its text is borrowed from plays no part
abbrev pub value_of : Token → TokenValue
value_of t = record { kind = t.kind; mark = t.mark; text = t.text.now; unit = t.unit.now }

abbrev pub tok : Kind → ℕ → List ℕ → List ℕ → TokenValue
tok k m t u = record { kind = k; mark = m; text = t; unit = u }

-- a token that is only its kind
abbrev pub bare : Kind → TokenValue
bare k = tok k 0 [] []

-- a token that is its kind and text
abbrev pub texted : Kind → List ℕ → TokenValue
texted k t = tok k 0 t []

abbrev pub delim : ℕ → TokenValue
delim m = tok Delim m [] []

abbrev pub is_kind : Kind → TokenValue → Bool
is_kind k t = same_kind t.kind k

abbrev pub is_delim : ℕ → TokenValue → Bool
is_delim m t = is_kind Delim t && t.mark == m

abbrev pub is_bad : TokenValue → Bool
is_bad t = is_bad_kind t.kind
