use Rattle.piles.specs.Shapes.{any_pile}
use Rattle.saturation.proofs.Finish.{fresh_run_finishes}
use Rattle.saturation.proofs.fresh_runs_finish.Goals as goal

pub returns : goal.returns
returns g c = record { piles = fresh_run_finishes g.P.Pile.shape; seen = fresh_run_finishes any_pile }
