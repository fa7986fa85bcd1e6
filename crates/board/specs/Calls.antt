-- What each call answers and does, of a board and its pile before and after.
use Rattle.std.specs.Prelude.{◌≡◌, ℕ, ◌≤◌, List, length, None, Ok, Err, Result, MatchResult}
use Rattle.rejections.specs.declared.Rejection.{Rejection}
use Rattle.rejections.specs.declared.Rejection.TheVariants.{SmallPile, EmptyPile, NotQueued, UnfitLease, NothingWaits}
use Rattle.grades.specs.Kinds.{Kind}
use Rattle.piles.specs.Sets.{Numbers, Empty}
use Rattle.piles.specs.Shapes.{Shape}
use Rattle.terms.specs.Vocabularies.{Vocabulary}
use Rattle.reasoning.specs.declared.Job.{Job}
use Rattle.saturation.specs.Boards.{Board, Moment, Wide, QuietAt}
use Rattle.saturation.specs.Effects.{Made, Took, Returned, Worked, Lowered, Rechecked}
use Rattle.saturation.specs.Histories.{Event}
use Rattle.saturation.specs.Runs.{Runs}
use Rattle.board.specs.declared.board.running.Ran.{Ran}
use Rattle.board.specs.declared.tokens.Lease.{Lease}
use Rattle.board.specs.declared.tokens.LoweredLease.{LoweredLease}
use Rattle.board.specs.declared.tokens.Refused.{Refused}
use Rattle.board.specs.Rejections.{IsHeld, InOrder, CheckRejected, Ready, Unready}

-- a check finds a making in order, or rejects it
abbrev pub CheckedBy : Vocabulary → Kind → ℕ → Numbers → Result (Unit {0}) Rejection → Type 0
CheckedBy v k words s r = MatchResult r (λ _. InOrder v k words s) (CheckRejected v k words s)

-- the board has no concepts, roles or steps
pub record Bare (b : Board) : Type 0 where
  pub concepts : b.concepts ≡ 0
  pub roles : b.roles ≡ 0
  pub steps : b.steps ≡ 0

-- a check rejects a making over words and a pile: the board is bare, and the words and the pile are as they were
pub record Unmade {Y : Type 0} (v : Vocabulary) (k : Kind) (S : Shape Y) (words : List ℕ) (p : Y) (m : Moment Y) (after : List ℕ) (e : Rejection) : Type 0 where
  pub reason : CheckRejected v k (length words) (S.numbers p) e
  pub bare : Bare m.board
  pub pile : m.pile ≡ p
  pub words_kept : after ≡ words

-- a making is in order, or it is rejected
pub data MadeBy {Y : Type 0} (v : Vocabulary) (k : Kind) (S : Shape Y) (words : List ℕ) (p : Y) (m : Moment Y) (after : List ℕ) : Type 0 where
  made : InOrder v k (length words) (S.numbers p) → Made v k S p m → MadeBy v k S words p m after
  rejected : {e : Rejection} → Unmade v k S words p m after e → MadeBy v k S words p m after

-- a take leases the front; or the pile is too small (12), there is no front (13), or the front is not queued (14), and was put back
pub data Taken {Y : Type 0} (S : Shape Y) (a b : Moment Y) : Result Lease Rejection → Type 0 where
  took : {lease : Lease} → Wide S a → Took S lease.concept a b → Taken S a b (Ok lease)
  small_pile : ¬ Wide S a → b ≡ a → Taken S a b (Err SmallPile)
  empty_pile : Wide S a → S.front a.pile ≡ None → Empty (S.numbers a.pile) → b ≡ a → Taken S a b (Err EmptyPile)
  not_queued : {x : ℕ} → Wide S a → Returned S x a b → Taken S a b (Err NotQueued)

-- a step answers the job that it did, the first that waits by `parts_of`; or it is unready (11, 12), the lease's concept is not held (15), or no
-- job waits there (16)
pub data Stepped {Y : Type 0} (v : Vocabulary) (k : Kind) (S : Shape Y) (lease : Lease) (a b : Moment Y) : Result Job Rejection → Type 0 where
  worked : {j : Job} → Ready v S a → Worked v k S lease.concept j a b → Stepped v k S lease a b (Ok j)
  unready : {e : Rejection} → Unready v S a e → b ≡ a → Stepped v k S lease a b (Err e)
  unfit_lease : Ready v S a → ¬ IsHeld a.board lease.concept → b ≡ a → Stepped v k S lease a b (Err UnfitLease)
  nothing_waits : Ready v S a → IsHeld a.board lease.concept → QuietAt v a.board lease.concept → b ≡ a → Stepped v k S lease a b (Err NothingWaits)

-- a lowering trades the lease for a lowered one; or its concept is not held (15), and it comes back
pub data LoweredBy (lease : Lease) (a b : Board) : Result LoweredLease (Refused Lease) → Type 0 where
  lowered : {t : LoweredLease} → t.concept ≡ lease.concept → Lowered lease.concept a b → LoweredBy lease a b (Ok t)
  unfit_lease : {r : Refused Lease} → r.rejection ≡ UnfitLease → r.token ≡ lease → ¬ IsHeld a lease.concept → b ≡ a → LoweredBy lease a b (Err r)

-- a recheck spends the lowered lease; or it is unready (11, 12), or the lease names no concept of the board (15), and it comes back
pub data RecheckedBy {Y : Type 0} (v : Vocabulary) (S : Shape Y) (lowered : LoweredLease) (a b : Moment Y) : Result (Unit {0}) (Refused LoweredLease) → Type 0 where
  rechecked : Ready v S a → Rechecked v S lowered.concept a b → RecheckedBy v S lowered a b (Ok tt)
  unready : {r : Refused LoweredLease} → Unready v S a r.rejection → r.token ≡ lowered → b ≡ a → RecheckedBy v S lowered a b (Err r)
  unfit_lease : {r : Refused LoweredLease} → Ready v S a → r.rejection ≡ UnfitLease → r.token ≡ lowered → a.board.concepts ≤ lowered.concept → b ≡ a →
      RecheckedBy v S lowered a b (Err r)

-- a run answers its outcome and its steps; or it is unready (11, 12)
pub data RanBy {Y : Type 0} (v : Vocabulary) (k : Kind) (S : Shape Y) (budget : ℕ) (a b : Moment Y) : Result Ran Rejection → Type 0 where
  ran : {r : Ran} → (es : List Event) → Ready v S a → Runs v k S budget r.outcome r.steps es a b → RanBy v k S budget a b (Ok r)
  unready : {e : Rejection} → Unready v S a e → b ≡ a → RanBy v k S budget a b (Err e)
