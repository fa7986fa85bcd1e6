-- What calls note in a log.
use Rattle.std.specs.Prelude.{◌≡◌, ℕ, List, [], ◌∷◌, Some, Option, Ok, Err, Result, ◌≢◌}
use Rattle.rejections.specs.declared.Rejection.{Rejection}
use Rattle.rejections.specs.declared.Rejection.TheVariants.{NotQueued}
use Rattle.grades.specs.Kinds.{Kind}
use Rattle.piles.specs.declared.log.Log.{Log}
use Rattle.piles.specs.Shapes.{Shape, Act, Became}
use Rattle.piles.specs.Records.{Record, noted, all_noted}
use Rattle.piles.specs.Logs.{pile_of, record_of, logged, drawn_in_acts}
use Rattle.terms.specs.Vocabularies.{Vocabulary}
use Rattle.saturation.specs.Boards.{Moment}
use Rattle.saturation.specs.Histories.{Event, took, returned, worked, lowered, rechecked, other}
use Rattle.saturation.specs.Runs.{Runs}
use Rattle.board.specs.declared.board.running.Ran.{Ran}
use Rattle.board.specs.declared.tokens.Lease.{Lease}
use Rattle.board.specs.Rejections.{Ready, Unready}

-- the numbers that these events drew, the latest first: those taken, and those put back
abbrev pub drawn_in_events : List Event → List ℕ
drawn_in_events [] = []
drawn_in_events (took c ∷ es) = c ∷ drawn_in_events es
drawn_in_events (returned x ∷ es) = x ∷ drawn_in_events es
drawn_in_events (worked c j ∷ es) = drawn_in_events es
drawn_in_events (lowered c ∷ es) = drawn_in_events es
drawn_in_events (rechecked c ∷ es) = drawn_in_events es
drawn_in_events (other ∷ es) = drawn_in_events es

-- a take notes the pile's front, whether it is leased or put back (14); else the record stays
pub data TakeNoted (front : Option ℕ) (before after : Record) : Result Lease Rejection → Type 0 where
  leased : {lease : Lease} → front ≡ Some lease.concept → after ≡ noted lease.concept before → TakeNoted front before after (Ok lease)
  put_back : {x : ℕ} → front ≡ Some x → after ≡ noted x before → TakeNoted front before after (Err NotQueued)
  rejected : {e : Rejection} → e ≢ NotQueued → after ≡ before → TakeNoted front before after (Err e)

-- what a run's events drew is noted in their order (`returned`, where a run ends so, is the latest of them); or the run is unready (11, 12), and the
-- record stays
pub data RunNoted {Y : Type 0} (v : Vocabulary) (k : Kind) (S : Shape Y) (budget : ℕ) (a b : Moment Y) (before after : Record) : Result Ran Rejection → Type 0 where
  ran : {r : Ran} → (es : List Event) → Ready v S a → Runs v k S budget r.outcome r.steps es a b → after ≡ all_noted (drawn_in_events es) before →
      RunNoted v k S budget a b before after (Ok r)
  unready : {e : Rejection} → Unready v S a e → b ≡ a → after ≡ before → RunNoted v k S budget a b before after (Err e)

-- some puts and draws led two logs, one over the other, from p to q, and both note the draws among them
pub record BothNoted {Y : Type 0} (S : Shape Y) (p q : Log (Log Y)) : Type 0 where
  pub acts : List Act
  pub became : Became (logged (logged S)) acts p q
  pub upper : record_of q ≡ all_noted (drawn_in_acts acts) (record_of p)
  pub lower : record_of (pile_of q) ≡ all_noted (drawn_in_acts acts) (record_of (pile_of p))
