-- What a caller knows of an answer, where the call was in order or was not.
use Rattle.std.proofs.Common.{◌≡◌, ℕ, ◌<◌, List, length, Ok, Result, sym, refl, ◌∙◌, subst, inl, inr, arith}
use Rattle.std.proofs.lemmas.Bool.{false≢true}
use Rattle.std.specs.Result.{IsOk}
use Rattle.rejections.specs.declared.Rejection.{Rejection}
use Rattle.grades.specs.Kinds.{Kind}
use Rattle.piles.specs.Sets.{Numbers}
use Rattle.piles.specs.Shapes.{Shape}
use Rattle.piles.proofs.Acts.{became_size}
use Rattle.terms.specs.Vocabularies.{Vocabulary}
use Rattle.saturation.specs.Boards.{Board, Moment, SameSizes}
use Rattle.saturation.specs.Effects.{Made, Took, Lowered, Rechecked}
use Rattle.saturation.proofs.Sizes.{goes_then}
use Rattle.board.specs.declared.tokens.Lease.{Lease}
use Rattle.board.specs.declared.tokens.LoweredLease.{LoweredLease}
use Rattle.board.specs.declared.tokens.Refused.{Refused}
use Rattle.board.specs.Rejections.{IsHeld, InOrder, CheckRejected, Ready, Unready}
use Rattle.board.specs.Calls.{Unmade, MadeBy, Taken, LoweredBy, RecheckedBy}

-- where there is a reason to reject, a making is not in order
pub not_in_order : {v : Vocabulary} {k : Kind} {words : ℕ} {s : Numbers} {e : Rejection} → InOrder v k words s → CheckRejected v k words s e → ⊥
not_in_order O (CheckRejected.foreign_code {i = i} m l) = let h = O.coded i m in omega arith
not_in_order O (CheckRejected.too_few_words C l) = let h = O.enough in omega arith
not_in_order O (CheckRejected.unfit_pile C r (inl l)) = let h = O.wide in omega arith
not_in_order O (CheckRejected.unfit_pile C r (inr t)) = false≢true (sym (O.empty t.0) ∙ t.1)

module _ {Y : Type 0} {v : Vocabulary} {S : Shape Y} where
  -- a moment stays ready while the sizes stay
  pub ready_then : {a b : Moment Y} → Ready v S a → SameSizes a.board b.board → (S.numbers b.pile).size ≡ (S.numbers a.pile).size → Ready v S b
  ready_then R s e = record { goes = goes_then R.goes s; wide = omega (arith, R.wide, s.concepts) }

  -- a moment that is ready is not unready
  pub not_unready : {a : Moment Y} {e : Rejection} → Ready v S a → Unready v S a e → ⊥
  not_unready R (Unready.other_terms n) = n R.goes
  not_unready R (Unready.small_pile _ n) = n R.wide

  -- a recheck, on a moment that is ready, with a concept of the board
  pub rechecked_ok : {a b : Moment Y} {l : LoweredLease} {r : Result (Unit {0}) (Refused LoweredLease)} → Ready v S a → l.concept < a.board.concepts → RecheckedBy v S l a b r → IsOk r
  rechecked_ok R h (RecheckedBy.rechecked _ _) = refl
  rechecked_ok R h (RecheckedBy.unready u _ _) = absurd (not_unready R u)
  rechecked_ok R h (RecheckedBy.unfit_lease _ _ _ n _) = absurd (omega arith)

  -- a recheck leaves the moment ready, whatever it answers
  pub recheck_ready : {a b : Moment Y} {l : LoweredLease} {r : Result (Unit {0}) (Refused LoweredLease)} → Ready v S a → RecheckedBy v S l a b r → Ready v S b
  recheck_ready R (RecheckedBy.rechecked _ C) = ready_then R C.grades.sizes (became_size S C.puts.became)
  recheck_ready R (RecheckedBy.unready _ _ e) = subst (λ u. Ready v S u) (sym e) R
  recheck_ready R (RecheckedBy.unfit_lease _ _ _ _ e) = subst (λ u. Ready v S u) (sym e) R

  pub rechecked_of : {a b : Moment Y} {l : LoweredLease} {u : Unit {0}} → RecheckedBy v S l a b (Ok u) → Rechecked v S l.concept a b
  rechecked_of (RecheckedBy.rechecked _ C) = C

  module _ {k : Kind} where
    pub made_in_order : {words after : List ℕ} {p : Y} {m : Moment Y} → InOrder v k (length words) (S.numbers p) → MadeBy v k S words p m after → Made v k S p m
    made_in_order O (MadeBy.made _ M) = M
    made_in_order O (MadeBy.rejected U) = absurd (not_in_order O U.reason)

    pub made_rejected : {words after : List ℕ} {p : Y} {m : Moment Y} {e : Rejection} → CheckRejected v k (length words) (S.numbers p) e → MadeBy v k S words p m after → Unmade v k S words p m after e
    made_rejected R (MadeBy.made O _) = absurd (not_in_order O R)
    made_rejected R (MadeBy.rejected U) = record { reason = R; bare = U.bare; pile = U.pile; words_kept = U.words_kept }

pub took_of : {Y : Type 0} {S : Shape Y} {a b : Moment Y} {l : Lease} → Taken S a b (Ok l) → Took S l.concept a b
took_of (Taken.took _ T) = T

-- a lowering, with a lease of a held concept
pub lowered_ok : {l : Lease} {a b : Board} {r : Result LoweredLease (Refused Lease)} → IsHeld a l.concept → LoweredBy l a b r → IsOk r
lowered_ok h (LoweredBy.lowered _ _) = refl
lowered_ok h (LoweredBy.unfit_lease _ _ n _) = absurd (n h)

pub lowered_of : {l : Lease} {a b : Board} {t : LoweredLease} → LoweredBy l a b (Ok t) → (t.concept ≡ l.concept) × Lowered l.concept a b
lowered_of (LoweredBy.lowered e L) = (e, L)
