use Rattle.piles.specs.Shapes.{any_pile}
use Rattle.saturation.proofs.Finish.{runs_lead}
use Rattle.saturation.proofs.runs_are_chains_of_effects.Goals as goal

pub returns : goal.returns
returns g c = record { piles = runs_lead g.P.Pile.shape; seen = runs_lead any_pile }
