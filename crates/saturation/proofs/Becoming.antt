-- What became of the pile along a run: some puts and draws, and nothing else.
use Rattle.std.proofs.Common.{ℕ, List, [], ◌∷◌, subst}
use Rattle.grades.specs.Kinds.{Kind}
use Rattle.piles.specs.Shapes.{Shape, drew, Became, Acted, puts}
use Rattle.piles.specs.Shapes as shapes
use Rattle.piles.proofs.Acts.{acted_then}
use Rattle.terms.specs.Vocabularies.{Vocabulary}
use Rattle.saturation.specs.declared.Outcome.{Outcome}
use Rattle.saturation.specs.Boards.{Moment}
use Rattle.saturation.specs.Histories.{Event}
use Rattle.saturation.specs.Runs.{Exhausts, Runs}

module _ {Y : Type 0} (v : Vocabulary) (k : Kind) (S : Shape Y) where
  exhausts_became : {c budget steps : ℕ} {es : List Event} {a b : Moment Y} → Exhausts v k S c budget steps es a b → Acted S a.pile b.pile
  exhausts_became (Exhausts.quiet q) = ([], shapes.nothing)
  exhausts_became Exhausts.spent = ([], shapes.nothing)
  exhausts_became (Exhausts.step w x) = acted_then S (_, w.puts.became) (exhausts_became x)

  pub runs_became : {budget steps : ℕ} {o : Outcome} {es : List Event} {a b : Moment Y} → Runs v k S budget o steps es a b → Acted S a.pile b.pile
  runs_became (Runs.finished q) = ([], shapes.nothing)
  runs_became (Runs.spent q) = ([], shapes.nothing)
  runs_became (Runs.left q u) = (_, u.turned)
  runs_became (Runs.dry q n m) = ([], shapes.nothing)
  runs_became (Runs.turn {c = c} {d = d} {f = f} q l t x w p r y) =
      let work = acted_then S (drew c ∷ [], shapes.and_then shapes.nothing t.drawn) (exhausts_became x) in
      let recheck : Acted S d.pile f.pile = (_, subst (λ (o : Y). Became S (puts r.puts.numbers) o f.pile) p r.puts.became) in
      acted_then S (acted_then S work recheck) (runs_became y)
