use Rattle.saturation.proofs.Seeing.{calls_seen, led}
use Rattle.saturation.proofs.histories_are_seen.Goals as goal

pub returns : goal.returns
returns g c = record { histories = λ v k es m h. led h; calls = calls_seen g.P.Pile.shape }
