use Rattle.piles.specs.Shapes.{any_pile}
use Rattle.saturation.proofs.Finish.{runs_finish}
use Rattle.saturation.proofs.runs_finish.Goals as goal

pub returns : goal.returns
returns g c = record { piles = runs_finish g.P.Pile.shape; seen = runs_finish any_pile }
