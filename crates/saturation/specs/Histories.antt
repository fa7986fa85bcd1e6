-- What a board and its pile have seen since the making, latest first.
use Rattle.std.specs.Prelude.{◌≡◌, ℕ, zero, suc, ◌+◌, Bool, true, false, cond, List, [], ◌∷◌, ◌==◌}
use Rattle.grades.specs.Kinds.{Kind}
use Rattle.piles.specs.Shapes.{Shape, Seen, any_pile}
use Rattle.terms.specs.Vocabularies.{Vocabulary}
use Rattle.reasoning.specs.declared.Job.{Job}
use Rattle.saturation.specs.declared.State.{State}
use Rattle.saturation.specs.declared.State.TheVariants.{Idle, Queued, Held}
use Rattle.saturation.specs.Boards.{Board, Moment}
use Rattle.saturation.specs.Effects.{Made, Took, Returned, Worked, Lowered, Rechecked, Unchanged}

-- a call, or a part of a run: a take, a step, a lowering or a recheck that was accepted; `returned`, a take that found a front that is not
-- queued (a pile that went with the board since its making has none); and `other` for all that leaves the board and the set that its pile
-- holds: closings, reopenings, questions, counts of steps, the other calls that were rejected, and an owner who draws and puts back or moves
-- the numbers into another pile
pub data Event : Type 0 where
  took : ℕ → Event
  returned : ℕ → Event
  worked : ℕ → Job → Event
  lowered : ℕ → Event
  rechecked : ℕ → Event
  other : Event

-- what the event does
abbrev pub Effect : {Y : Type 0} → Vocabulary → Kind → Shape Y → Event → Moment Y → Moment Y → Type 0
Effect v k S (took c) a b = Took S c a b
Effect v k S (returned x) a b = Returned S x a b
Effect v k S (worked c j) a b = Worked v k S c j a b
Effect v k S (lowered c) a b = Lowered c a.board b.board × (b.pile ≡ a.pile)
Effect v k S (rechecked c) a b = Rechecked v S c a b
Effect v k S other a b = Unchanged S a b

-- these events, one after the other, lead from a to b
pub data Leads {Y : Type 0} (v : Vocabulary) (k : Kind) (S : Shape Y) : List Event → Moment Y → Moment Y → Type 0 where
  nothing : {a : Moment Y} → Leads v k S [] a a
  and_then : {es : List Event} {e : Event} {a b c : Moment Y} → Leads v k S es a b → Effect v k S e b c → Leads v k S (e ∷ es) a c

-- these events, since a making over the pile `before`, led to the moment
pub record History {Y : Type 0} (v : Vocabulary) (k : Kind) (S : Shape Y) (es : List Event) (m : Moment Y) : Type 0 where
  pub before : Y
  pub begin : Moment Y
  pub made : Made v k S before begin
  pub led : Leads v k S es begin m

-- some calls led to the board, over some pile: no more is said of the pile than what every pile shows
pub record Led (v : Vocabulary) (k : Kind) (b : Board) : Type 0 where
  pub events : List Event
  pub pile : Seen
  pub history : History v k any_pile events (record { board = b; pile = pile })

-- how many leases were granted
abbrev pub granted : List Event → ℕ
granted [] = 0
granted (took c ∷ es) = granted es + 1
granted (returned x ∷ es) = granted es
granted (worked c j ∷ es) = granted es
granted (lowered c ∷ es) = granted es
granted (rechecked c ∷ es) = granted es
granted (other ∷ es) = granted es

-- how many leases were used up by lowerings
abbrev pub given_back : List Event → ℕ
given_back [] = 0
given_back (took c ∷ es) = given_back es
given_back (returned x ∷ es) = given_back es
given_back (worked c j ∷ es) = given_back es
given_back (lowered c ∷ es) = given_back es + 1
given_back (rechecked c ∷ es) = given_back es
given_back (other ∷ es) = given_back es

-- the concept was lowered, and not rechecked since
abbrev pub unrechecked : ℕ → List Event → Bool
unrechecked x [] = false
unrechecked x (took c ∷ es) = unrechecked x es
unrechecked x (returned c ∷ es) = unrechecked x es
unrechecked x (worked c j ∷ es) = unrechecked x es
unrechecked x (lowered c ∷ es) = cond (x == c) true (unrechecked x es)
unrechecked x (rechecked c ∷ es) = cond (x == c) false (unrechecked x es)
unrechecked x (other ∷ es) = unrechecked x es

-- 1 for a held concept
abbrev pub held_one : State → ℕ
held_one Idle = 0
held_one Queued = 0
held_one Held = 1

-- how many of the first n concepts are held
abbrev pub held_below : ℕ → (ℕ → State) → ℕ
held_below zero s = 0
held_below (suc n) s = held_below n s + held_one (s n)

-- how many concepts of the board are held
abbrev pub held_count : Board → ℕ
held_count b = held_below b.concepts b.state
