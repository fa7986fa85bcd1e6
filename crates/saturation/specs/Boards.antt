-- What a board says: its sizes, the found grade of each fact, the done grade of each job, each concept's state, and the count of steps; and a
-- moment, a board and its pile.
use Rattle.std.specs.Prelude.{◌≡◌, ℕ, ◌<◌, ◌≤◌, true, List, length, Option, MatchOption, ◌≢◌}
use mathlib.Core.List.{Memᴰ}
use Rattle.grades.specs.Kinds.{Kind, on_at}
use Rattle.piles.specs.Shapes.{Shape}
use Rattle.terms.specs.Vocabularies.{Vocabulary}
use Rattle.reasoning.specs.declared.Fact.{Fact}
use Rattle.reasoning.specs.declared.Job.{Job}
use Rattle.reasoning.specs.Parts.{parts_of, rank}
use Rattle.reasoning.specs.Derivations.{Fits, fact_of, Rule, JobAt}
use Rattle.saturation.specs.declared.State.{State}
use Rattle.saturation.specs.declared.State.TheVariants.{Idle, Queued}

-- a board, as its users see it
pub record Board : Type 0 where
  pub concepts : ℕ
  pub roles : ℕ
  pub found : Fact → ℕ
  pub done : Job → ℕ
  pub state : ℕ → State
  pub steps : ℕ

-- a board and its pile, in whatever state that is
pub record Moment (Y : Type 0) : Type 0 where
  pub board : Board
  pub pile : Y

-- the board has the vocabulary's concepts and roles
pub record GoesWith (v : Vocabulary) (b : Board) : Type 0 where
  pub concepts : b.concepts ≡ length v.concepts
  pub roles : b.roles ≡ v.roles

-- the board has the sizes that it had
pub record SameSizes (a b : Board) : Type 0 where
  pub concepts : b.concepts ≡ a.concepts
  pub roles : b.roles ≡ a.roles

-- the fact is one of the board's concepts and roles
abbrev pub On : Board → Fact → Type 0
On b f = Fits b.concepts b.roles f

-- the pile holds x
abbrev pub InPile : {Y : Type 0} → Shape Y → ℕ → Moment Y → Type 0
InPile S x m = (S.numbers m.pile).holds x ≡ true

-- x is queued, and in the pile
abbrev pub InLine : {Y : Type 0} → Shape Y → ℕ → Moment Y → Type 0
InLine S x m = (m.board.state x ≡ Queued) × InPile S x m

-- the pile has room for the board's concepts
abbrev pub Wide : {Y : Type 0} → Shape Y → Moment Y → Type 0
Wide S m = m.board.concepts ≤ (S.numbers m.pile).size

-- the number is not queued on the board
abbrev pub Unqueued : Board → ℕ → Type 0
Unqueued b x = x < b.concepts → b.state x ≢ Queued

-- the job rests: its done grade is the found grade of its fact
abbrev pub Rests : Board → Job → Type 0
Rests b j = b.done j ≡ b.found (fact_of j)

-- the job waits: it does not rest
abbrev pub Waits : Board → Job → Type 0
Waits b j = Rests b j → ⊥

-- no job waits at the concept
abbrev pub QuietAt : Vocabulary → Board → ℕ → Type 0
QuietAt v b c = (j : Job) → JobAt v j c → Rests b j

-- no job waits
abbrev pub Quiet : Vocabulary → Board → Type 0
Quiet v b = (j : Job) (c : ℕ) → JobAt v j c → Rests b j

-- own jobs come before link jobs and these before implication jobs; of one sort, jobs come by role, then by left and then by right concept: at one
-- concept own jobs by right concept, link jobs by left and right concept, implication jobs by role and right concept
pub data Before (i j : Job) : Type 0 where
  by_sort : rank (parts_of i).sort < rank (parts_of j).sort → Before i j
  by_role : rank (parts_of i).sort ≡ rank (parts_of j).sort → (parts_of i).role < (parts_of j).role → Before i j
  by_left : rank (parts_of i).sort ≡ rank (parts_of j).sort → (parts_of i).role ≡ (parts_of j).role → (parts_of i).left < (parts_of j).left → Before i j
  by_right : rank (parts_of i).sort ≡ rank (parts_of j).sort → (parts_of i).role ≡ (parts_of j).role → (parts_of i).left ≡ (parts_of j).left →
      (parts_of i).right < (parts_of j).right → Before i j

-- the job is the first that waits at the concept
pub record First (v : Vocabulary) (b : Board) (c : ℕ) (j : Job) : Type 0 where
  pub at : JobAt v j c
  pub waits : Waits b j
  pub none_before : (k : Job) → JobAt v k c → Before k j → Rests b k

-- the first job that waits at the concept, or none where none does
abbrev pub FirstOrNone : Vocabulary → Board → ℕ → Option Job → Type 0
FirstOrNone v b c r = MatchOption r (QuietAt v b c) (First v b c)

-- with these done grades, a rule with the job among its premises draws the fact at the point
abbrev pub Draws : Vocabulary → Kind → (Job → ℕ) → Job → Fact → ℕ → Type 0
Draws v k done j f p = (js : List Job) × Rule v (on_at k p) js f × Memᴰ j js × ((i : Job) → Memᴰ i js → k.holds (done i) p ≡ true)

-- the found grade of the job's fact changed
abbrev pub Changed : Board → Board → Job → Type 0
Changed a b j = a.found (fact_of j) ≢ b.found (fact_of j)

-- a job of a fact whose found grade changed waits at the concept
abbrev pub Stirred : Vocabulary → Board → Board → ℕ → Type 0
Stirred v a b x = (j : Job) × JobAt v j x × Changed a b j × Waits b j

-- the concept is idle and a job waits there
abbrev pub Missed : Vocabulary → Board → ℕ → Type 0
Missed v b c = (b.state c ≡ Idle) × ((j : Job) × JobAt v j c × Waits b j)

-- the grades are codes of the kind, and no job is done at a point where its fact is not found
pub record Sane (k : Kind) (b : Board) : Type 0 where
  pub found : (f : Fact) → On b f → b.found f < k.codes
  pub done : (j : Job) → On b (fact_of j) → b.done j < k.codes
  pub below : (j : Job) (p : ℕ) → On b (fact_of j) → p < k.points → k.holds (b.done j) p ≡ true → k.holds (b.found (fact_of j)) p ≡ true
