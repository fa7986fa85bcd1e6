use Rattle.piles.specs.Shapes.{any_pile}
use Rattle.saturation.proofs.Truths.{quiet_answers_true}
use Rattle.saturation.proofs.quiet_answers_are_true.Goals as goal

pub returns : goal.returns
returns g c = record { piles = quiet_answers_true g.P.Pile.shape; seen = quiet_answers_true any_pile }
