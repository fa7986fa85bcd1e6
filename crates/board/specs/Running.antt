-- A step and a run, part by part.
use Rattle.std.specs.Prelude.{◌≡◌, ℕ, ◌+◌, ◌-◌, ◌<◌, ◌≤◌, List, Option, MatchOption}
use Rattle.grades.specs.Kinds.{Kind}
use Rattle.piles.specs.Sets.{count_of}
use Rattle.piles.specs.Shapes.{Shape}
use Rattle.terms.specs.Vocabularies.{Vocabulary}
use Rattle.reasoning.specs.declared.Job.{Job}
use Rattle.saturation.specs.declared.State.TheVariants.{Held}
use Rattle.saturation.specs.declared.Outcome.{Outcome}
use Rattle.saturation.specs.Boards.{Board, Moment, QuietAt}
use Rattle.saturation.specs.Effects.{Worked, Lowered, Rechecked}
use Rattle.saturation.specs.Histories.{Event}
use Rattle.saturation.specs.Runs.{Exhausts, Runs}
use Rattle.board.specs.Rejections.{Ready}

-- the job that was done at c, or none where none waits and all is as before
abbrev pub WorkedOrNone : {Y : Type 0} → Vocabulary → Kind → Shape Y → ℕ → Moment Y → Moment Y → Option Job → Type 0
WorkedOrNone v k S c a b r = MatchOption r (QuietAt v a.board c × (b ≡ a)) (λ j. Worked v k S c j a b)

-- so many steps at c led from a to b, and it is still held: whatever goes on from b goes on from a
pub record Ongoing {Y : Type 0} (v : Vocabulary) (k : Kind) (S : Shape Y) (c steps : ℕ) (a b : Moment Y) : Type 0 where
  pub held : b.board.state c ≡ Held
  pub still : steps ≡ 0 → b ≡ a
  pub stepping : (rest more : ℕ) (es : List Event) (z : Moment Y) → Exhausts v k S c rest more es b z → (fs : List Event) × Exhausts v k S c (steps + rest) (steps + more) fs a z

-- the steps at c while the budget lasts and a job waits there
pub record Exhausted {Y : Type 0} (v : Vocabulary) (k : Kind) (S : Shape Y) (c budget steps : ℕ) (a b : Moment Y) : Type 0 where
  pub held : b.board.state c ≡ Held
  pub spent : steps ≤ budget
  pub still : steps ≡ 0 → b ≡ a
  pub quiet : steps < budget → QuietAt v b.board c
  pub events : List Event
  pub exhausts : Exhausts v k S c budget steps events a b

-- such steps, a lowering and a recheck: after a turn of no steps the pile holds as many numbers as before
pub record Turned {Y : Type 0} (v : Vocabulary) (k : Kind) (S : Shape Y) (c budget steps : ℕ) (a b : Moment Y) : Type 0 where
  pub ready : Ready v S b
  pub spent : steps ≤ budget
  pub still : steps ≡ 0 → 0 < budget → count_of (S.numbers b.pile) ≡ count_of (S.numbers a.pile)
  pub events : List Event
  pub done : Moment Y
  pub exhausts : Exhausts v k S c budget steps events a done
  pub idle : Board
  pub lowered : Lowered c done.board idle
  pub rechecked : Rechecked v S c (record { board = idle; pile = done.pile }) b

-- turns of so many steps led from a to b: whatever goes on from b goes on from a
pub record Rolling {Y : Type 0} (v : Vocabulary) (k : Kind) (S : Shape Y) (budget steps : ℕ) (a b : Moment Y) : Type 0 where
  pub ready : Ready v S b
  pub spent : steps ≤ budget
  pub turning : (o : Outcome) (more : ℕ) (fs : List Event) (z : Moment Y) → Runs v k S (budget - steps) o more fs b z → (es : List Event) × Runs v k S budget o (steps + more) es a z
