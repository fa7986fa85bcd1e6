use Rattle.piles.specs.Shapes.{any_pile}
use Rattle.saturation.proofs.OneAnswer.{any_order}
use Rattle.saturation.proofs.any_order_gives_one_answer.Goals as goal

pub returns : goal.returns
returns g c = record { piles = any_order g.P.Pile.shape g.Q.Pile.shape; seen = any_order any_pile any_pile }
