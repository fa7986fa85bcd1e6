-- What comes of a hand that is shown to a session.
use Rattle.std.specs.Prelude.{◌≡◌, ℕ, Bool, true, false, List, Err, IsOk, IsErr}
use Rattle.grades.specs.Kinds.{Kind}
use Rattle.piles.specs.Shapes.{Shape}
use Rattle.terms.specs.Vocabularies.{Vocabulary}
use Rattle.saturation.specs.declared.Outcome.TheVariants.{Finished}
use Rattle.saturation.specs.Boards.{Moment}
use Rattle.saturation.specs.Histories.{Event}
use Rattle.saturation.specs.Runs.{Runs}
use Rattle.staging.specs.declared.hands.Hand.{Hand}
use Rattle.staging.specs.declared.hands.Hand.TheVariants.{Empty, Holding, Owing}
use Rattle.staging.specs.declared.hands.Refusal.TheVariants.{OtherHand}
use Rattle.staging.specs.declared.hands.Shown.{Shown}

-- nothing is in the hand
abbrev pub is_empty : Hand → Bool
is_empty Empty = true
is_empty (Holding l) = false
is_empty (Owing l) = false

-- a lease is in the hand
abbrev pub is_holding : Hand → Bool
is_holding Empty = false
is_holding (Holding l) = true
is_holding (Owing l) = false

-- a lowered lease is in the hand
abbrev pub is_owing : Hand → Bool
is_owing Empty = false
is_owing (Holding l) = false
is_owing (Owing l) = true

-- a deed wants a hand of one sort and leaves one of another; where it comes to nothing the hand is of the sort that it was
pub record Dealt (wants leaves : Hand → Bool) (h : Hand) (s : Shown) : Type 0 where
  pub unfit : wants h ≡ false → s ≡ record { hand = h; answer = Err OtherHand }
  pub fine : IsOk s.answer → (wants h ≡ true) × (leaves s.hand ≡ true)
  pub refused : IsErr s.answer → wants h ≡ true → wants s.hand ≡ true

-- a run without a limit came to its end
abbrev pub RanOut : {Y : Type 0} → Vocabulary → Kind → Shape Y → Moment Y → Moment Y → Type 0
RanOut v k S a b = (steps : ℕ) × (es : List Event) × Runs v k S 18446744073709551615 Finished steps es a b
