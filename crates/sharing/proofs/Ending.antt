-- A run after workers took turns on a fresh board ends with all the work done, and so the answer is the truth.
use Rattle.std.proofs.Common.{◌≡◌, ℕ, ◌≤◌, true, false, List, [], ◌++◌, Ok, Err, Result, sym, refl, subst, arith}
use Rattle.std.specs.Result.{is_err}
use Rattle.rejections.specs.declared.Rejection.{Rejection}
use Rattle.grades.specs.Kinds.{Kind, Lawful}
use Rattle.piles.specs.Sets.{Numbers}
use Rattle.piles.specs.Shapes.{Shape, Became, Acted}
use Rattle.piles.specs.Shapes as shapes
use Rattle.piles.proofs.Acts.{acted_then}
use Rattle.terms.specs.Vocabularies.{Vocabulary, WellFormed}
use Rattle.saturation.specs.Boards.{Moment}
use Rattle.saturation.specs.Effects.{Made}
use Rattle.saturation.specs.Histories.{Event, Leads, History}
use Rattle.saturation.specs.AnyOrder.{AllDone, Promise}
use Rattle.saturation.proofs.Finish.{join_leads, balanced_rested}
use Rattle.saturation.proofs.Becoming.{runs_became}
use Rattle.saturation.proofs.OneAnswer.{any_order}
use Rattle.board.specs.declared.board.running.Ran.{Ran}
use Rattle.board.specs.Rejections.{InOrder, CheckRejected}
use Rattle.board.specs.Calls.{CheckedBy, RanBy}
use Rattle.board.proofs.Finishing.{runs_out}
use Rattle.sharing.specs.Sharing.{TookTurns, WorkDone}

-- what a run, done or rejected, makes of the pile
pub ran_acted : {Y : Type 0} (S : Shape Y) {v : Vocabulary} {k : Kind} {budget : ℕ} {a b : Moment Y} {r : Result Ran Rejection} → RanBy v k S budget a b r → Acted S a.pile b.pile
ran_acted S {v} {k} (RanBy.ran es w t) = runs_became v k S t
ran_acted S {a = a} (RanBy.unready u e) = ([], subst (λ (m : Moment _). Became S [] a.pile m.pile) (sym e) shapes.nothing)

module _ {Y : Type 0} (k : Kind) (lawful : Lawful k) (v : Vocabulary) (wf : WellFormed v) (S : Shape Y) where
  -- a run with enough budget after turns on a fresh board
  pub work_done : (budget : ℕ) → 2281701376 ≤ budget → (p : Y) (a b c : Moment Y) (ran : Result Ran Rejection) → Made v k S p a → TookTurns v k S a b → RanBy v k S budget b c ran → WorkDone v k S p c
  work_done budget enough p a b c ran M t run =
      record { goes = promise.goes; events = end.0 ++ t.events; history = after; over = refl; acted = acted_then S (acted_then S (_, M.puts.became) t.onward.acted) (ran_acted S run); all_done = end.2; sane = promise.sane; truthful = promise.true_in_models end.2.quiet }
    where
      before : History v k S t.events b
      before = record { before = p; begin = a; made = M; led = t.onward.led }

      end : (es : List Event) × Leads v k S es b c × AllDone v S c
      end = runs_out budget lawful wf enough t.onward.ready before (balanced_rested S k lawful v wf before t.balanced t.looked_at) run

      after : History v k S (end.0 ++ t.events) c
      after = record { before = p; begin = a; made = M; led = join_leads t.onward.led end.1 }

      promise : Promise v k S (end.0 ++ t.events) c
      promise = (any_order S S k lawful v wf).0 (end.0 ++ t.events) c after

no_truth : false ≡ true → ⊥
no_truth e = let z : ◌≡◌ {A = ℕ} 0 1 = cc in omega arith

-- what a check says, where it found something wrong and where it did not
pub found_wrong : {v : Vocabulary} {k : Kind} {words : ℕ} {s : Numbers} (r : Result (Unit {0}) Rejection) → is_err r ≡ true → CheckedBy v k words s r → (e : Rejection) × CheckRejected v k words s e
found_wrong (Ok x) h m = absurd (no_truth h)
found_wrong (Err e) h m = (e, m)

pub found_right : {v : Vocabulary} {k : Kind} {words : ℕ} {s : Numbers} (r : Result (Unit {0}) Rejection) → is_err r ≡ false → CheckedBy v k words s r → InOrder v k words s
found_right (Ok x) h m = m
found_right (Err e) h m = absurd (no_truth (sym h))
