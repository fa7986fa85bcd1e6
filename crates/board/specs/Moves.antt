-- The smallest changes of a board: one grade is written, or one state.
use Rattle.std.specs.Prelude.{◌≡◌, ℕ, ◌<◌, Bool, true, false, Some, None, Option, ◌≢◌}
use Rattle.grades.specs.Kinds.{Kind}
use Rattle.piles.specs.Shapes.{Shape, PutIn}
use Rattle.reasoning.specs.declared.Fact.{Fact}
use Rattle.reasoning.specs.declared.Job.{Job}
use Rattle.reasoning.specs.Derivations.{fact_of}
use Rattle.saturation.specs.declared.State.{State}
use Rattle.saturation.specs.declared.State.TheVariants.{Idle, Queued, Held}
use Rattle.saturation.specs.Boards.{Board, Moment, SameSizes, On}
use Rattle.saturation.specs.Effects.{Moved}
use Rattle.board.specs.declared.board.states.Change.{Change}
use Rattle.board.specs.declared.board.states.Change.TheVariants.{Take, Raise, Lower, Recheck}

-- the grade h is a code, and holds the points of g
pub record Above (k : Kind) (g h : ℕ) : Type 0 where
  pub code : h < k.codes
  pub more : (p : ℕ) → p < k.points → k.holds g p ≡ true → k.holds h p ≡ true

-- the found grade of one fact is written
pub record Wrote (f : Fact) (g : ℕ) (a b : Board) : Type 0 where
  pub sizes : SameSizes a b
  pub here : b.found f ≡ g
  pub found : (h : Fact) → On a h → (h ≢ f) → b.found h ≡ a.found h
  pub done : (j : Job) → On a (fact_of j) → b.done j ≡ a.done j
  pub state : (x : ℕ) → x < a.concepts → b.state x ≡ a.state x
  pub steps : b.steps ≡ a.steps

-- the job is done: its done grade is the found grade of its fact
pub record Marked (j : Job) (a b : Board) : Type 0 where
  pub sizes : SameSizes a b
  pub here : b.done j ≡ a.found (fact_of j)
  pub found : (h : Fact) → On a h → b.found h ≡ a.found h
  pub done : (i : Job) → On a (fact_of i) → (i ≢ j) → b.done i ≡ a.done i
  pub state : (x : ℕ) → x < a.concepts → b.state x ≡ a.state x
  pub steps : b.steps ≡ a.steps

-- the state that a change leads to, where it leads anywhere
abbrev pub after : Change → State → Option State
after Take Idle = None
after Take Queued = Some Held
after Take Held = None
after Raise Idle = Some Queued
after Raise Queued = None
after Raise Held = None
after Lower Idle = None
after Lower Queued = None
after Lower Held = Some Idle
after Recheck Idle = Some Queued
after Recheck Queued = None
after Recheck Held = None

-- the concept's state follows the table: it is what it leads to, or else nothing has changed
abbrev pub Shifted : ℕ → Option State → Board → Board → Bool → Type 0
Shifted c None a b changed = (b ≡ a) × (changed ≡ false)
Shifted c (Some s) a b changed = Moved c s a b × (changed ≡ true)

-- the concept, if it was idle, is queued and put into the pile; else nothing has changed
pub data Nudged {Y : Type 0} (S : Shape Y) (c : ℕ) (a b : Moment Y) : Type 0 where
  woke : a.board.state c ≡ Idle → Moved c Queued a.board b.board → PutIn S c a.pile b.pile → Nudged S c a b
  stayed : (a.board.state c ≡ Idle → ⊥) → b ≡ a → Nudged S c a b
