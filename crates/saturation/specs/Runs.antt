-- What a run does, by the takes, steps, lowerings and rechecks inside it. Events stand latest first.
use Rattle.std.specs.Prelude.{◌≡◌, ℕ, ◌+◌, ◌-◌, ◌<◌, List, [], ◌∷◌, ◌++◌, None}
use Rattle.grades.specs.Kinds.{Kind}
use Rattle.piles.specs.Sets.{Empty}
use Rattle.piles.specs.Shapes.{Shape}
use Rattle.terms.specs.Vocabularies.{Vocabulary}
use Rattle.reasoning.specs.declared.Job.{Job}
use Rattle.saturation.specs.declared.Outcome.{Outcome}
use Rattle.saturation.specs.declared.Outcome.TheVariants.{Finished, Spent, Left}
use Rattle.saturation.specs.Boards.{Moment, Quiet, QuietAt}
use Rattle.saturation.specs.Effects.{Took, Returned, Worked, Lowered, Rechecked}
use Rattle.saturation.specs.Histories.{Event, took, returned, worked, lowered, rechecked, other}

-- steps at the leased concept, by their number, until no job waits there or the budget is used
pub data Exhausts {Y : Type 0} (v : Vocabulary) (k : Kind) (S : Shape Y) (c : ℕ) : ℕ → ℕ → List Event → Moment Y → Moment Y → Type 0 where
  quiet : {budget : ℕ} {a : Moment Y} → QuietAt v a.board c → Exhausts v k S c budget 0 [] a a
  spent : {a : Moment Y} → Exhausts v k S c 0 0 [] a a
  step : {budget steps : ℕ} {j : Job} {es : List Event} {a b z : Moment Y} → Worked v k S c j a b → Exhausts v k S c budget steps es b z →
      Exhausts v k S c (budget + 1) (steps + 1) (es ++ worked c j ∷ []) a z

-- what an outcome says of the moment at which a run ends, with so much of its budget left: finished, no job waits; spent, a job waits, and the
-- budget is used; left, a job waits, and the budget is not used (then there is nothing to take)
abbrev pub Ended : {Y : Type 0} → Vocabulary → Outcome → ℕ → Moment Y → Type 0
Ended v Finished budget a = Quiet v a.board
Ended v Spent budget a = (¬ Quiet v a.board) × (budget ≡ 0)
Ended v Left budget a = (¬ Quiet v a.board) × (0 < budget)

-- the whole run: outcome and steps, and the events inside. It ends as left only where the pile's front is not queued, or where there is none
pub data Runs {Y : Type 0} (v : Vocabulary) (k : Kind) (S : Shape Y) : ℕ → Outcome → ℕ → List Event → Moment Y → Moment Y → Type 0 where
  finished : {budget : ℕ} {a : Moment Y} → Ended v Finished budget a → Runs v k S budget Finished 0 [] a a
  spent : {budget : ℕ} {a : Moment Y} → Ended v Spent budget a → Runs v k S budget Spent 0 [] a a
  left : {budget x : ℕ} {a b : Moment Y} → Ended v Left budget a → Returned S x a b → Runs v k S budget Left 0 (returned x ∷ []) a b
  dry : {budget : ℕ} {a : Moment Y} → Ended v Left budget a → S.front a.pile ≡ None → Empty (S.numbers a.pile) → Runs v k S budget Left 0 (other ∷ []) a a
  turn : {budget steps more c : ℕ} {o : Outcome} {es fs : List Event} {a b d e f z : Moment Y} → ¬ Quiet v a.board → 0 < budget →
      Took S c a b → Exhausts v k S c budget steps es b d → Lowered c d.board e.board → e.pile ≡ d.pile → Rechecked v S c e f →
      Runs v k S (budget - steps) o more fs f z → Runs v k S budget o (steps + more) (fs ++ rechecked c ∷ lowered c ∷ (es ++ took c ∷ [])) a z
