-- Runs of a few calls, and what they accept.
use Rattle.std.proofs.Common.{◌≡◌, ℕ, Bool, List, [], ◌∷◌, IfOk, Ok, Err, Result, ap, ◌∙◌}
use Rattle.refusal.specs.declared.fault.Fault.{Fault}
use Rattle.syntax.specs.declared.kind.Kind.TheVariants.{OpenCurly, CloseCurly, OpenSquare, CloseSquare}
use Rattle.syntax.specs.Kinds.{number_of}
use Rattle.syntax.specs.Tokens.{TokenValue, bare}
use Rattle.writer.specs.declared.writing.Writer.{Writer}
use Rattle.writer.specs.declared.writing.Slip.{Slip}
use Rattle.writer.specs.Blocks.{mirror}
use Rattle.writer.specs.Writes.{Puts, Opens, opened, Closes}
use Rattle.writer.specs.Runs.{Deed, Run, did_put, did_open, did_close, none, more, accepted}
use Rattle.slip_user.specs.Blocks.{Writes}

module _ {S : Type 0} {held : S → List ℕ} {takes : S → ℕ → Bool} where
  -- a slip has the kind of the token that opened its block
  slip_kind : {w v : Writer S} {t : TokenValue} {slip : Slip} → Opens held takes w t (Ok slip) v → slip.kind ≡ number_of t.kind
  slip_kind (opened h b a d k) = k

  -- a run with a refusal promises nothing of its tokens
  refused : {w u : Writer S} {f : Fault} (ts : List TokenValue) (ds : List Deed) → Run held takes w ds u → Writes held takes w ts (Err f) u
  refused ts ds r = record { deeds = ds; run = r; accepts = tt }

  -- the block is not opened
  pub not_opened : {w u : Writer S} {o : TokenValue} {f : Fault} (ts : List TokenValue) → Opens held takes w o (Err f) u → Writes held takes w ts (Err f) u
  not_opened {o = o} {f = f} ts x = refused ts (did_open o (Err f) ∷ []) (more x none)

  -- a token in a block that is not closed, or that is
  pub not_closed : {w a b u : Writer S} {o t : TokenValue} {slip : Slip} {r : Result (Unit {0}) Fault} {f : Fault} (ts : List TokenValue) → Opens held takes w o (Ok slip) a
      → Puts held takes a t r b → Closes held takes b slip.depth slip.kind (Err f) u → Writes held takes w ts (Err f) u
  not_closed {o = o} {t = t} {slip = slip} {r = r} {f = f} ts x y z =
      refused ts (did_open o (Ok slip) ∷ did_put t r ∷ did_close slip.depth slip.kind (Err f) ∷ []) (more x (more y (more z none)))

  pub block_written : {w a b u : Writer S} {o t : TokenValue} {slip : Slip} (r : Result (Unit {0}) Fault) → o ≡ bare OpenCurly
      → Opens held takes w o (Ok slip) a → Puts held takes a t r b → Closes held takes b slip.depth slip.kind (Ok tt) u
      → Writes held takes w (bare OpenCurly ∷ t ∷ bare CloseCurly ∷ []) r u
  block_written {o = o} {t = t} {slip = slip} r e x y z =
      record { deeds = did_open o (Ok slip) ∷ did_put t r ∷ did_close slip.depth slip.kind (Ok tt) ∷ []; run = more x (more y (more z none)); accepts = accepts_all r }
    where
      closes : mirror slip.kind ≡ bare CloseCurly
      closes = ap mirror (slip_kind x ∙ ap (λ v. number_of v.kind) e)

      accepts_all : (q : Result (Unit {0}) Fault) → IfOk q (λ _. accepted (did_open o (Ok slip) ∷ did_put t q ∷ did_close slip.depth slip.kind (Ok tt) ∷ []) ≡ bare OpenCurly ∷ t ∷ bare CloseCurly ∷ [])
      accepts_all (Ok v) = cc (closes, e)
      accepts_all (Err y) = tt

  -- of two empty blocks, the first is not closed, or the second is not opened, or both are written
  pub first_not_closed : {w a u : Writer S} {o : TokenValue} {slip : Slip} {d k : ℕ} {f : Fault} (ts : List TokenValue) → Opens held takes w o (Ok slip) a
      → Closes held takes a d k (Err f) u → Writes held takes w ts (Err f) u
  first_not_closed {o = o} {slip = slip} {d = d} {k = k} {f = f} ts x y =
      refused ts (did_open o (Ok slip) ∷ did_close d k (Err f) ∷ []) (more x (more y none))

  pub second_not_opened : {w a b u : Writer S} {o q : TokenValue} {slip : Slip} {d k : ℕ} {f : Fault} (ts : List TokenValue) → Opens held takes w o (Ok slip) a
      → Closes held takes a d k (Ok tt) b → Opens held takes b q (Err f) u → Writes held takes w ts (Err f) u
  second_not_opened {o = o} {q = q} {slip = slip} {d = d} {k = k} {f = f} ts x y z =
      refused ts (did_open o (Ok slip) ∷ did_close d k (Ok tt) ∷ did_open q (Err f) ∷ []) (more x (more y (more z none)))

  pub blocks_written : {w a b c u : Writer S} {o q : TokenValue} {slip slip' : Slip} {d k d' k' : ℕ} (r : Result (Unit {0}) Fault) → o ≡ bare OpenCurly → q ≡ bare OpenSquare
      → Opens held takes w o (Ok slip) a → Closes held takes a d k (Ok tt) b → k ≡ slip.kind
      → Opens held takes b q (Ok slip') c → Closes held takes c d' k' r u → k' ≡ slip'.kind
      → Writes held takes w (bare OpenCurly ∷ bare CloseCurly ∷ bare OpenSquare ∷ bare CloseSquare ∷ []) r u
  blocks_written {o = o} {q = q} {slip = slip} {slip' = slip'} {d = d} {k = k} {d' = d'} {k' = k'} r e e' x y s x' y' s' =
      record {
        deeds = did_open o (Ok slip) ∷ did_close d k (Ok tt) ∷ did_open q (Ok slip') ∷ did_close d' k' r ∷ [];
        run = more x (more y (more x' (more y' none)));
        accepts = accepts_all r;
      }
    where
      closes : mirror k ≡ bare CloseCurly
      closes = ap mirror (s ∙ slip_kind x ∙ ap (λ v. number_of v.kind) e)

      closes' : mirror k' ≡ bare CloseSquare
      closes' = ap mirror (s' ∙ slip_kind x' ∙ ap (λ v. number_of v.kind) e')

      accepts_all : (p : Result (Unit {0}) Fault)
          → IfOk p (λ _. accepted (did_open o (Ok slip) ∷ did_close d k (Ok tt) ∷ did_open q (Ok slip') ∷ did_close d' k' p ∷ [])
          ≡ bare OpenCurly ∷ bare CloseCurly ∷ bare OpenSquare ∷ bare CloseSquare ∷ [])
      accepts_all (Ok v) = cc (closes, closes', e, e')
      accepts_all (Err y) = tt

-- the ways in which a call of this crate ends
pub ruleset blocks = (not_opened, not_closed, block_written, first_not_closed, second_not_opened, blocks_written)
