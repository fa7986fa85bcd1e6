-- A board with all the work done answers the truth.
use Rattle.std.proofs.Common.{ℕ, List, length, Result}
use Rattle.rejections.specs.declared.Rejection.{Rejection}
use Rattle.grades.specs.Kinds.{Kind}
use Rattle.piles.specs.Shapes.{Shape}
use Rattle.terms.specs.Vocabularies.{Vocabulary}
use Rattle.reasoning.specs.declared.Fact.TheVariants.{Under as under}
use Rattle.saturation.specs.Boards.{Moment}
use Rattle.saturation.proofs.Sizes.{on}
use Rattle.board.specs.Rejections.{InOrder, CheckRejected}
use Rattle.board.specs.Calls.{Unmade}
use Rattle.board.proofs.Callers.{not_in_order}
use Rattle.board.specs.Questions.{Under, answer, unsettled, no_concept, other_terms, job_waits}
use Rattle.sharing.specs.Sharing.{WorkDone, SharedBy}
use Rattle.sharing.specs.Asking.{Answered}

module _ {Y : Type 0} (v : Vocabulary) (k : Kind) (S : Shape Y) (p : Y) (m : Moment Y) (W : WorkDone v k S p m) where
  pub answers : (a d : ℕ) (r : Result ℕ Rejection) → Under v m.board a d r → Answered v k a d r
  answers a d r (answer s i l) = Answered.grade i l (record { is_code = W.sane.found (under a d) (on W.goes (under a d) (i.0, l)); truthful = W.truthful a d i l })
  answers a d r (unsettled (other_terms h)) = absurd (h W.goes)
  answers a d r (unsettled (job_waits s h)) = absurd (h W.all_done.quiet)
  answers a d r (no_concept s h) = Answered.no_concept h

-- what is shared, where a check finds the making in order, and where it rejects it
module _ {Y : Type 0} {v : Vocabulary} {k : Kind} {S : Shape Y} {words after : List ℕ} {p : Y} {m : Moment Y} where
  pub shared_done : InOrder v k (length words) (S.numbers p) → SharedBy v k S words p m after → WorkDone v k S p m
  shared_done o (SharedBy.done _ W) = W
  shared_done o (SharedBy.rejected U) = absurd (not_in_order o U.reason)

  pub shared_rejected : {e : Rejection} → CheckRejected v k (length words) (S.numbers p) e → SharedBy v k S words p m after → Unmade v k S words p m after e
  shared_rejected r (SharedBy.done o _) = absurd (not_in_order o r)
  shared_rejected r (SharedBy.rejected U) = record { reason = r; bare = U.bare; pile = U.pile; words_kept = U.words_kept }
