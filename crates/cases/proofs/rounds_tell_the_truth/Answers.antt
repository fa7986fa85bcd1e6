use Rattle.cases.proofs.Rounds.{rounds_tell}
use Rattle.cases.proofs.rounds_tell_the_truth.Goals as goal

pub returns : goal.returns
returns c = rounds_tell
