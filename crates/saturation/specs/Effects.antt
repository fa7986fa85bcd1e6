-- What each call does to a board and to its pile.
use Rattle.std.specs.Prelude.{◌≡◌, ℕ, ◌+◌, ◌-◌, ◌^◌, ◌<◌, min, true, ◌⊎◌, [], ◌∷◌, length, ◌≢◌}
use Rattle.grades.specs.Kinds.{Kind}
use Rattle.piles.specs.Sets.{Empty}
use Rattle.piles.specs.Shapes.{Shape, DrawnOut, Became, PutEach, put, drew}
use Rattle.terms.specs.Vocabularies.{Vocabulary, Named}
use Rattle.reasoning.specs.declared.Fact.{Fact}
use Rattle.reasoning.specs.declared.Fact.TheVariants.{Under as under}
use Rattle.reasoning.specs.declared.Job.{Job}
use Rattle.reasoning.specs.Derivations.{Within, fact_of}
use Rattle.saturation.specs.declared.State.{State}
use Rattle.saturation.specs.declared.State.TheVariants.{Idle, Queued, Held}
use Rattle.saturation.specs.Boards.{Board, Moment, GoesWith, SameSizes, On, Unqueued, First, Draws, Stirred, Missed}

-- the sizes, the grades and the count of steps are as before
pub record SameGrades (a b : Board) : Type 0 where
  pub sizes : SameSizes a b
  pub found : (f : Fact) → On a f → b.found f ≡ a.found f
  pub done : (j : Job) → On a (fact_of j) → b.done j ≡ a.done j
  pub steps : b.steps ≡ a.steps

-- the concept was idle, and is queued
abbrev pub Woke : ℕ → Board → Board → Type 0
Woke x a b = (x < a.concepts) × (a.state x ≡ Idle) × (b.state x ≡ Queued)

-- exactly the concepts that woke were put into the pile, in some order, each once
abbrev pub PutWoken : {Y : Type 0} → Shape Y → Moment Y → Moment Y → Type 0
PutWoken S a b = PutEach S (λ x. Woke x a.board b.board) a.pile b.pile

-- the board is as before, and the pile holds the same numbers
pub record Unchanged {Y : Type 0} (S : Shape Y) (a b : Moment Y) : Type 0 where
  pub board : b.board ≡ a.board
  pub pile : (x : ℕ) → (S.numbers b.pile).holds x ≡ (S.numbers a.pile).holds x

-- making over an empty pile: start facts are found at all points, everything else is "none", and the start facts' concepts are queued and put
-- into the pile
pub record Made {Y : Type 0} (v : Vocabulary) (k : Kind) (S : Shape Y) (p : Y) (m : Moment Y) : Type 0 where
  pub goes : GoesWith v m.board
  pub started : (a : ℕ) → Named v a → m.board.found (under a a) ≡ k.all
  pub unfound : (f : Fact) → Within v f → ((a : ℕ) → Named v a → f ≢ under a a) → m.board.found f ≡ k.none
  pub undone : (j : Job) → Within v (fact_of j) → m.board.done j ≡ k.none
  pub queued : (a : ℕ) → Named v a → m.board.state a ≡ Queued
  pub idle : (c : ℕ) → c < length v.concepts → (Named v c → ⊥) → m.board.state c ≡ Idle
  pub no_steps : m.board.steps ≡ 0
  pub empty : Empty (S.numbers p)
  pub puts : PutEach S (Named v) p m.pile

-- the concept has the state s, and all else is as before
pub record Moved (c : ℕ) (s : State) (a b : Board) : Type 0 where
  pub here : b.state c ≡ s
  pub others : (x : ℕ) → x < a.concepts → (x ≢ c) → b.state x ≡ a.state x
  pub grades : SameGrades a b

-- take: the pile's front, a queued concept, is drawn and held
pub record Took {Y : Type 0} (S : Shape Y) (c : ℕ) (a b : Moment Y) : Type 0 where
  pub drawn : DrawnOut S c a.pile b.pile
  pub within : c < a.board.concepts
  pub queued : a.board.state c ≡ Queued
  pub moved : Moved c Held a.board b.board

-- a take of a front that is not queued: it is drawn and put back
pub record Returned {Y : Type 0} (S : Shape Y) (x : ℕ) (a b : Moment Y) : Type 0 where
  pub unqueued : Unqueued a.board x
  pub turned : Became S (put x ∷ drew x ∷ []) a.pile b.pile
  pub same : b.board ≡ a.board

-- found grades grow by exactly the facts and points of P
pub record Grows (v : Vocabulary) (k : Kind) (P : Fact → ℕ → Type 0) (a b : Board) : Type 0 where
  pub kept : (f : Fact) (p : ℕ) → Within v f → p < k.points → k.holds (a.found f) p ≡ true → k.holds (b.found f) p ≡ true
  pub drew : (f : Fact) (p : ℕ) → Within v f → p < k.points → P f p → k.holds (b.found f) p ≡ true
  pub only : (f : Fact) (p : ℕ) → Within v f → p < k.points → k.holds (b.found f) p ≡ true → (k.holds (a.found f) p ≡ true) ⊎ P f p

-- the held concept's first waiting job j is done; found grades grow by exactly what rules with j among their premises draw; the count rises by
-- one, up to the greatest number of 64 bits
pub record JobDone (v : Vocabulary) (k : Kind) (c : ℕ) (j : Job) (a b : Board) : Type 0 where
  pub sizes : SameSizes a b
  pub within : c < a.concepts
  pub held : a.state c ≡ Held
  pub first : First v a c j
  pub marked : b.done j ≡ a.found (fact_of j)
  pub unmarked : (i : Job) → On a (fact_of i) → (i ≢ j) → b.done i ≡ a.done i
  pub grows : Grows v k (Draws v k b.done j) a b
  pub counted : b.steps ≡ min (a.steps + 1) (2 ^ 64 - 1)

-- step: the job is done, and the idle concepts at which a job of a raised fact waits are queued and put into the pile
pub record Worked {Y : Type 0} (v : Vocabulary) (k : Kind) (S : Shape Y) (c : ℕ) (j : Job) (a b : Moment Y) : Type 0 where
  pub deed : JobDone v k c j a.board b.board
  pub codes : (f : Fact) → On a.board f → b.board.found f < k.codes
  pub wakes : (x : ℕ) → a.board.state x ≡ Idle → Stirred v a.board b.board x → b.board.state x ≡ Queued
  pub leaves : (x : ℕ) → x < a.board.concepts → (a.board.state x ≡ Idle → Stirred v a.board b.board x → ⊥) → b.board.state x ≡ a.board.state x
  pub puts : PutWoken S a b

-- lowering: the held concept is idle
pub record Lowered (c : ℕ) (a b : Board) : Type 0 where
  pub within : c < a.concepts
  pub held : a.state c ≡ Held
  pub moved : Moved c Idle a b

-- recheck: the concept is queued and put into the pile if it is idle and a job waits there
pub record Rechecked {Y : Type 0} (v : Vocabulary) (S : Shape Y) (c : ℕ) (a b : Moment Y) : Type 0 where
  pub within : c < a.board.concepts
  pub wakes : Missed v a.board c → b.board.state c ≡ Queued
  pub leaves : (Missed v a.board c → ⊥) → b.board.state c ≡ a.board.state c
  pub others : (x : ℕ) → x < a.board.concepts → (x ≢ c) → b.board.state x ≡ a.board.state x
  pub grades : SameGrades a.board b.board
  pub puts : PutWoken S a b
