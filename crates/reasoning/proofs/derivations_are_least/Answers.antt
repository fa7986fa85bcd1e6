use Rattle.reasoning.proofs.Complete.{least}
use Rattle.reasoning.proofs.derivations_are_least.Goals as goal

pub returns : goal.returns
returns c = least
