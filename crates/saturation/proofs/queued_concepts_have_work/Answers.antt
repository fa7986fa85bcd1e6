use Rattle.piles.specs.Shapes.{any_pile}
use Rattle.saturation.proofs.Finish.{queued_waits}
use Rattle.saturation.proofs.queued_concepts_have_work.Goals as goal

pub returns : goal.returns
returns g c = record { piles = queued_waits g.P.Pile.shape; seen = queued_waits any_pile }
