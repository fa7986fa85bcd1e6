use Rattle.sharing.proofs.Ordering.{took_first}
use Rattle.sharing.proofs.take_first.Goals as goal

pub returns-clause-order : goal.returns-clause-order
returns-clause-order g c = took_first c.take.ensures.taken
