-- What a board that workers shared answers.
use Rattle.std.specs.Prelude.{ℕ, ◌<◌, List, length, Ok, Err, Result}
use Rattle.rejections.specs.declared.Rejection.{Rejection}
use Rattle.rejections.specs.declared.Rejection.TheVariants.{NoSuchConcept}
use Rattle.grades.specs.Kinds.{Kind}
use Rattle.piles.specs.Shapes.{Shape}
use Rattle.terms.specs.Vocabularies.{Vocabulary, Named}
use Rattle.saturation.specs.Boards.{Moment}
use Rattle.saturation.specs.Answers.{Grade}
use Rattle.board.specs.Rejections.{InOrder}
use Rattle.board.specs.Calls.{Unmade}
use Rattle.sharing.specs.Sharing.{WorkDone}

-- "a under d" is answered by its true grade; it is rejected since a is no named concept or d is no concept (18)
pub data Answered (v : Vocabulary) (k : Kind) (a d : ℕ) : Result ℕ Rejection → Type 0 where
  grade : {g : ℕ} → Named v a → d < length v.concepts → Grade v k a d g → Answered v k a d (Ok g)
  no_concept : (Named v a → d < length v.concepts → ⊥) → Answered v k a d (Err NoSuchConcept)

-- a board with all the work done is asked, or the making is rejected
pub data AskedOr {Y : Type 0} (v : Vocabulary) (k : Kind) (S : Shape Y) (a d : ℕ) (words : List ℕ) (p : Y) (m : Moment Y) (after : List ℕ) : Result ℕ Rejection → Type 0 where
  asked : {r : Result ℕ Rejection} → InOrder v k (length words) (S.numbers p) → WorkDone v k S p m → Answered v k a d r → AskedOr v k S a d words p m after r
  rejected : {e : Rejection} → Unmade v k S words p m after e → AskedOr v k S a d words p m after (Err e)
