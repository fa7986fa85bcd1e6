use Rattle.cases.proofs.Rounds.{rounds_derive}
use Rattle.cases.proofs.rounds_find_what_is_derivable.Goals as goal

pub returns : goal.returns
returns c = rounds_derive
