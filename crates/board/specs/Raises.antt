-- What drawing conclusions does: found grades grow by what P says, and the concepts whose jobs that gives work are queued and put into the pile.
use Rattle.std.specs.Prelude.{◌≡◌, ℕ, ◌<◌, true, ◌⊎◌}
use Rattle.grades.specs.Kinds.{Kind}
use Rattle.piles.specs.Shapes.{Shape}
use Rattle.terms.specs.Vocabularies.{Vocabulary}
use Rattle.reasoning.specs.declared.Fact.{Fact}
use Rattle.reasoning.specs.declared.Job.{Job}
use Rattle.reasoning.specs.Derivations.{JobAt, fact_of}
use Rattle.saturation.specs.declared.State.TheVariants.{Idle, Queued}
use Rattle.saturation.specs.Boards.{Board, Moment, SameSizes, On, Changed}
use Rattle.saturation.specs.Effects.{SameGrades, Grows, Woke, PutWoken}

-- at x stands a job of a fact whose found grade changed
abbrev pub Touched : Vocabulary → Board → Board → ℕ → Type 0
Touched v a b x = (j : Job) × JobAt v j x × Changed a b j

-- at x stands a job of the fact
abbrev pub Works : Vocabulary → Fact → ℕ → Type 0
Works v f x = (j : Job) × JobAt v j x × (fact_of j ≡ f)

-- no concept changes its state but those that wake with the property
abbrev pub Wakes : (ℕ → Type 0) → Board → Board → Type 0
Wakes P a b = (x : ℕ) → x < a.concepts → (b.state x ≡ a.state x) ⊎ (Woke x a b × P x)

-- the idle concepts with a job of the fact are queued
pub record Woken {Y : Type 0} (v : Vocabulary) (S : Shape Y) (f : Fact) (a b : Moment Y) : Type 0 where
  pub grades : SameGrades a.board b.board
  pub wakes : (x : ℕ) → Works v f x → a.board.state x ≡ Idle → b.board.state x ≡ Queued
  pub states : Wakes (Works v f) a.board b.board
  pub puts : PutWoken S a b

-- the fact f, at the points of the grade
abbrev pub Gains : Kind → Fact → ℕ → Fact → ℕ → Type 0
Gains k f g h p = (h ≡ f) × (k.holds g p ≡ true)

-- found grades grow by exactly the facts and points of P, and idle concepts with a job of a changed fact are queued
pub record Raises {Y : Type 0} (v : Vocabulary) (k : Kind) (S : Shape Y) (P : Fact → ℕ → Type 0) (a b : Moment Y) : Type 0 where
  pub sizes : SameSizes a.board b.board
  pub done : (j : Job) → On a.board (fact_of j) → b.board.done j ≡ a.board.done j
  pub steps : b.board.steps ≡ a.board.steps
  pub grows : Grows v k P a.board b.board
  pub wakes : (x : ℕ) → a.board.state x ≡ Idle → Touched v a.board b.board x → b.board.state x ≡ Queued
  pub states : Wakes (Touched v a.board b.board) a.board b.board
  pub puts : PutWoken S a b
