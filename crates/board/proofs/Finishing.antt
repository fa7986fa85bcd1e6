-- A run with enough budget, from a board at rest, does all the work.
use Rattle.std.proofs.Common.{ℕ, ◌≤◌, List, Result, arith}
use Rattle.rejections.specs.declared.Rejection.{Rejection}
use Rattle.grades.specs.Kinds.{Kind, Lawful}
use Rattle.piles.specs.Shapes.{Shape}
use Rattle.terms.specs.Vocabularies.{Vocabulary, WellFormed}
use Rattle.saturation.specs.Boards.{Moment}
use Rattle.saturation.specs.Histories.{Event, Leads, History}
use Rattle.saturation.specs.AnyOrder.{Rested, AllDone}
use Rattle.saturation.proofs.Numbers.{pairs_small}
use Rattle.saturation.proofs.Finish.{runs_lead, runs_finish}
use Rattle.board.specs.declared.board.running.Ran.{Ran}
use Rattle.board.specs.Rejections.{Ready}
use Rattle.board.specs.Calls.{RanBy}
use Rattle.board.proofs.Callers.{not_unready}

-- no vocabulary and kind have more pairs of job and point than 2281701376
pub runs_out : {Y : Type 0} {v : Vocabulary} {k : Kind} {S : Shape Y} (budget : ℕ) {fs : List Event} {a b : Moment Y} {ran : Result Ran Rejection} → Lawful k → WellFormed v → 2281701376 ≤ budget →
    Ready v S a → History v k S fs a → Rested fs a.board → RanBy v k S budget a b ran → (es : List Event) × Leads v k S es a b × AllDone v S b
runs_out budget lawful wf enough ready h r (RanBy.unready u e) = absurd (not_unready ready u)
runs_out {v = v} {k = k} {S = S} budget {fs = fs} {a = a} {b = b} lawful wf enough ready h r (RanBy.ran {r = ran} es w R) =
    let few = pairs_small v k wf lawful in (
      es,
      runs_lead S v k budget ran.steps ran.outcome es a b R,
      ((runs_finish S k lawful v wf).1 es fs a b budget ran.steps ran.outcome h r (omega arith) R).1,
    )
