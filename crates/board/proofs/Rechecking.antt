-- Looking once more: the concept is nudged, or nothing waits there.
use Rattle.std.proofs.Common.{ℕ, ◌<◌, sym, refl, subst}
use Rattle.piles.specs.Shapes.{Shape}
use Rattle.terms.specs.Vocabularies.{Vocabulary}
use Rattle.reasoning.specs.declared.Job.{Job}
use Rattle.saturation.specs.Boards.{Moment, First, QuietAt, Missed}
use Rattle.saturation.specs.Effects.{Rechecked}
use Rattle.board.specs.Moves.{Nudged, woke, stayed}
use Rattle.board.proofs.Waking.{put_none, nudged_puts, same_same}

module _ {Y : Type 0} {v : Vocabulary} {S : Shape Y} {c : ℕ} {a : Moment Y} (l : c < a.board.concepts) where
  -- it is not idle, or no job waits there
  rechecked_same : ¬ Missed v a.board c → Rechecked v S c a a
  rechecked_same n = record { within = l; wakes = λ t. absurd (n t); leaves = λ _. refl; others = λ _ _ _. refl; grades = same_same; puts = put_none S a }

  pub rechecked_quiet : QuietAt v a.board c → Rechecked v S c a a
  rechecked_quiet q = rechecked_same (λ t. t.1.2 (q t.1.0 t.1.1))

  pub rechecked_queued : {j : Job} {b : Moment Y} → First v a.board c j → Nudged S c a b → Rechecked v S c a b
  rechecked_queued {j = j} {b = b} F (woke i m p) = record {
    within = l;
    wakes = λ _. m.here;
    leaves = λ n. absurd (n (i, (j, F.at, F.waits)));
    others = m.others;
    grades = m.grades;
    puts = nudged_puts S c a b l (woke i m p);
  }
  rechecked_queued F (stayed n e) = subst (λ u. Rechecked v S c a u) (sym e) (rechecked_same (λ t. n t.0))
