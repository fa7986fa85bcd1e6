-- No number of workers and no order of calls decides a finished answer, over whatever pile.
use Rattle.std.specs.Prelude.{◌≡◌, ℕ, ◌+◌, ◌*◌, ◌<◌, ◌≤◌, true, false, ◌⊎◌, List, [], length, ◌≢◌}
use mathlib.Core.List.{Memᴰ}
use Rattle.grades.specs.Kinds.{Kind, Lawful, on_at}
use Rattle.piles.specs.Sets.{Empty}
use Rattle.piles.specs.Shapes.{Shape, Distinct, Seen, seen, any_pile}
use Rattle.terms.specs.Vocabularies.{Vocabulary, WellFormed}
use Rattle.reasoning.specs.declared.Fact.{Fact}
use Rattle.reasoning.specs.declared.Job.{Job}
use Rattle.reasoning.specs.Derivations.{Within, JobAt, fact_of, Derivable}
use Rattle.saturation.specs.declared.State.TheVariants.{Idle, Queued, Held}
use Rattle.saturation.specs.declared.Outcome.{Outcome}
use Rattle.saturation.specs.declared.Outcome.TheVariants.{Finished}
use Rattle.saturation.specs.Boards.{Board, Moment, GoesWith, InPile, InLine, Waits, Quiet, QuietAt, Sane}
use Rattle.saturation.specs.Effects.{Made}
use Rattle.saturation.specs.Answers.{TrueGrades}
use Rattle.saturation.specs.Histories.{Event, Leads, History, Led, granted, given_back, unrechecked, held_count}
use Rattle.saturation.specs.Runs.{Runs}

-- a job and a point at which its fact is derivable
pub record Due (v : Vocabulary) (k : Kind) (u : Job × ℕ) : Type 0 where
  pub at : (c : ℕ) × JobAt v u.0 c
  pub point : u.1 < k.points
  pub derivable : Derivable v (on_at k u.1) (fact_of u.0)

-- n such pairs, no two of them the same
pub record DistinctDue (v : Vocabulary) (k : Kind) (n : ℕ) : Type 0 where
  pub pairs : List (Job × ℕ)
  pub distinct : Distinct pairs
  pub each : (u : Job × ℕ) → Memᴰ u pairs → Due v k u
  pub count : n ≡ length pairs

-- there are n such pairs in all
pub record AllDue (v : Vocabulary) (k : Kind) (n : ℕ) : Type 0 where
  pub some : DistinctDue v k n
  pub every : (u : Job × ℕ) → Due v k u → Memᴰ u some.pairs

-- what every history promises of the moment that it led to
pub record Promise {Y : Type 0} (v : Vocabulary) (k : Kind) (S : Shape Y) (es : List Event) (m : Moment Y) : Type 0 where
  -- the board has the vocabulary's concepts and roles
  pub goes : GoesWith v m.board
  -- leases granted are the leases lowered and the concepts now held
  pub leases : granted es ≡ given_back es + held_count m.board
  -- a waiting job's concept is queued and in the pile, held, or lowered without its recheck
  pub nothing_lost : (j : Job) (c : ℕ) → JobAt v j c → Waits m.board j → InLine S c m ⊎ (m.board.state c ≡ Held) ⊎ (unrechecked c es ≡ true)
  -- the numbers in the pile are the queued concepts
  pub queued_in_pile : (c : ℕ) → c < m.board.concepts → m.board.state c ≡ Queued → InPile S c m
  pub only_queued : (c : ℕ) → InPile S c m → (c < m.board.concepts) × (m.board.state c ≡ Queued)
  -- when no job waits, a grade holds a point just where every finite model there agrees
  pub true_in_models : Quiet v m.board → TrueGrades v k m.board
  -- the steps are as many as some distinct derivable pairs of job and point
  pub few_steps : DistinctDue v k m.board.steps
  -- with one point, when no job waits, they are as many as all derivable pairs
  pub exact_steps : k.points ≡ 1 → Quiet v m.board → AllDue v k m.board.steps
  -- when every concept is idle and none is lowered without its recheck, no job waits
  pub at_rest : ((c : ℕ) → c < m.board.concepts → (m.board.state c ≡ Idle) × (unrechecked c es ≡ false)) → Quiet v m.board
  -- the grades are codes, and no job is done where its fact is not found
  pub sane : Sane k m.board

-- every history keeps its promise, and any two in which no job waits found the same grades, whatever their piles
abbrev pub AnyOrder : {Y Z : Type 0} → Shape Y → Shape Z → Type 0
AnyOrder {Y} {Z} S T = (k : Kind) → Lawful k → (v : Vocabulary) → WellFormed v →
    ((es : List Event) (m : Moment Y) → History v k S es m → Promise v k S es m)
    × ((es fs : List Event) (m : Moment Y) (n : Moment Z) → History v k S es m → History v k T fs n → Quiet v m.board → Quiet v n.board → (f : Fact) → Within v f → m.board.found f ≡ n.board.found f)

-- whatever the pile, a history over it is one of calls that led to its board
abbrev pub HistoriesSeen : {Y : Type 0} → Shape Y → Type 0
HistoriesSeen {Y} S = (v : Vocabulary) (k : Kind) (es : List Event) (m : Moment Y) → History v k S es m → Led v k m.board

-- a moment, with what is seen of its pile
abbrev pub seen_at : {Y : Type 0} → Shape Y → Moment Y → Moment Seen
seen_at S m = record { board = m.board; pile = seen S m.pile }

-- whatever the pile, a making, calls and a run over it are the same over what is seen of it
pub record CallsSeen {Y : Type 0} (S : Shape Y) : Type 0 where
  pub made : (v : Vocabulary) (k : Kind) (p : Y) (m : Moment Y) → Made v k S p m → Made v k any_pile (seen S p) (seen_at S m)
  pub led : (v : Vocabulary) (k : Kind) (es : List Event) (a b : Moment Y) → Leads v k S es a b → Leads v k any_pile es (seen_at S a) (seen_at S b)
  pub ran : (v : Vocabulary) (k : Kind) (budget steps : ℕ) (o : Outcome) (es : List Event) (a b : Moment Y) → Runs v k S budget o steps es a b →
      Runs v k any_pile budget o steps es (seen_at S a) (seen_at S b)

-- a run is a chain of the effects of the calls inside it
abbrev pub RunsLead : {Y : Type 0} → Shape Y → Type 0
RunsLead {Y} S = (v : Vocabulary) (k : Kind) (budget steps : ℕ) (o : Outcome) (es : List Event) (a b : Moment Y) → Runs v k S budget o steps es a b → Leads v k S es a b

-- how many pairs of job and point a vocabulary can have: an own and a link job for each pair of concepts, and an implication job for each role too
abbrev pub possible_pairs : Vocabulary → Kind → ℕ
possible_pairs v k = (((2 + v.roles) * length v.concepts) * length v.concepts) * k.points

-- a fresh board and one run with a budget of at least the possible pairs end as finished: what RunsFinish says of a fresh board, in short
abbrev pub FreshRunFinishes : {Y : Type 0} → Shape Y → Type 0
FreshRunFinishes {Y} S = (k : Kind) → Lawful k → (v : Vocabulary) → WellFormed v → (p : Y) (a b : Moment Y) → Made v k S p a →
    (budget steps : ℕ) (o : Outcome) (es : List Event) → possible_pairs v k ≤ budget → Runs v k S budget o steps es a b → o ≡ Finished

-- whatever led there, no queued concept is quiet: work waits at it
abbrev pub QueuedWaits : {Y : Type 0} → Shape Y → Type 0
QueuedWaits {Y} S = (k : Kind) → Lawful k → (v : Vocabulary) → WellFormed v → (es : List Event) (m : Moment Y) → History v k S es m →
    (c : ℕ) → c < m.board.concepts → m.board.state c ≡ Queued → ¬ QuietAt v m.board c

-- no concept is held, and none is lowered without its recheck
pub record Rested (es : List Event) (b : Board) : Type 0 where
  pub unheld : (c : ℕ) → c < b.concepts → b.state c ≢ Held
  pub looked_at : (c : ℕ) → unrechecked c es ≡ false

-- all the work is done: no job waits, every concept is idle, and the pile holds nothing
pub record AllDone {Y : Type 0} (v : Vocabulary) (S : Shape Y) (m : Moment Y) : Type 0 where
  pub quiet : Quiet v m.board
  pub idle : (c : ℕ) → c < m.board.concepts → m.board.state c ≡ Idle
  pub empty : Empty (S.numbers m.pile)

-- a fresh board is at rest; and whatever led to a board at rest, one run with a budget of at least the possible pairs ends as finished and
-- has done all the work
abbrev pub RunsFinish : {Y : Type 0} → Shape Y → Type 0
RunsFinish {Y} S = (k : Kind) → Lawful k → (v : Vocabulary) → WellFormed v →
    ((p : Y) (m : Moment Y) → Made v k S p m → Rested [] m.board)
    × ((es fs : List Event) (a b : Moment Y) (budget steps : ℕ) (o : Outcome) → History v k S fs a → Rested fs a.board → possible_pairs v k ≤ budget → Runs v k S budget o steps es a b → (o ≡ Finished) × AllDone v S b)
