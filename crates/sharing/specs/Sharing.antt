-- What workers that share a board lead to.
use Rattle.std.specs.Prelude.{◌≡◌, ℕ, ◌<◌, false, List, [], ◌∷◌, ◌++◌, length, Ok, Err, Result, ◌≢◌}
use Rattle.rejections.specs.declared.Rejection.{Rejection}
use Rattle.rejections.specs.declared.Rejection.TheVariants.{NotQueued}
use Rattle.grades.specs.Kinds.{Kind}
use Rattle.piles.specs.Shapes.{Shape, Acted}
use Rattle.terms.specs.Vocabularies.{Vocabulary}
use Rattle.saturation.specs.declared.State.TheVariants.{Held}
use Rattle.saturation.specs.Boards.{Moment, GoesWith, Sane}
use Rattle.saturation.specs.Histories.{Event, lowered, rechecked, Leads, History, granted, given_back, unrechecked}
use Rattle.saturation.specs.AnyOrder.{AllDone}
use Rattle.saturation.specs.Answers.{TrueGrades}
use Rattle.board.specs.declared.tokens.Lease.{Lease}
use Rattle.board.specs.Rejections.{Ready, InOrder}
use Rattle.board.specs.Calls.{Unmade}

-- these events lead from one moment to another, on which work can go on, and to the pile by some puts and draws
pub record LedBy {Y : Type 0} (v : Vocabulary) (k : Kind) (S : Shape Y) (es : List Event) (a b : Moment Y) : Type 0 where
  pub ready : Ready v S b
  pub led : Leads v k S es a b
  pub acted : Acted S a.pile b.pile

-- the concept is lowered and rechecked, and what else is held stays held
pub record GaveBack {Y : Type 0} (v : Vocabulary) (k : Kind) (S : Shape Y) (c : ℕ) (a b : Moment Y) : Type 0 where
  pub onward : LedBy v k S (rechecked c ∷ lowered c ∷ []) a b
  pub held : (x : ℕ) → x < a.board.concepts → (x ≢ c) → a.board.state x ≡ Held → b.board.state x ≡ Held

-- some events lead on, in which every lease taken is lowered and every lowering rechecked, and what was held before stays held
pub record TookTurns {Y : Type 0} (v : Vocabulary) (k : Kind) (S : Shape Y) (a b : Moment Y) : Type 0 where
  pub events : List Event
  pub onward : LedBy v k S events a b
  pub balanced : granted events ≡ given_back events
  pub looked_at : (c : ℕ) → unrechecked c events ≡ false
  pub held : (x : ℕ) → x < a.board.concepts → a.board.state x ≡ Held → b.board.state x ≡ Held

-- what a making over the pile p and further events led to, with all the work done: the grades are codes, and those of named concepts the truth
pub record WorkDone {Y : Type 0} (v : Vocabulary) (k : Kind) (S : Shape Y) (p : Y) (m : Moment Y) : Type 0 where
  pub goes : GoesWith v m.board
  pub events : List Event
  pub history : History v k S events m
  pub over : history.before ≡ p
  pub acted : Acted S p m.pile
  pub all_done : AllDone v S m
  pub sane : Sane k m.board
  pub truthful : TrueGrades v k m.board

-- the work is done on a making that is in order, or that is rejected
pub data SharedBy {Y : Type 0} (v : Vocabulary) (k : Kind) (S : Shape Y) (words : List ℕ) (p : Y) (m : Moment Y) (after : List ℕ) : Type 0 where
  done : InOrder v k (length words) (S.numbers p) → WorkDone v k S p m → SharedBy v k S words p m after
  rejected : {e : Rejection} → Unmade v k S words p m after e → SharedBy v k S words p m after

-- of the numbers in a ring's order, the first is leased and the others stay in their order; or it goes behind them; or all stay
pub data TookFirst (before after : List ℕ) : Result Lease Rejection → Type 0 where
  leased : {lease : Lease} → before ≡ lease.concept ∷ after → TookFirst before after (Ok lease)
  behind : {x : ℕ} → (others : List ℕ) → before ≡ x ∷ others → after ≡ others ++ x ∷ [] → TookFirst before after (Err NotQueued)
  rejected : {e : Rejection} → e ≢ NotQueued → after ≡ before → TookFirst before after (Err e)

-- the numbers of the first order stay in their order, and any others come behind them
abbrev pub ComesBehind : List ℕ → List ℕ → Type 0
ComesBehind before after = (others : List ℕ) × (after ≡ before ++ others)
