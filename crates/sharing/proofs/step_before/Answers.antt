use Rattle.sharing.proofs.Ordering.{stepped_behind}
use Rattle.sharing.proofs.step_before.Goals as goal

pub returns-clause-order : goal.returns-clause-order
returns-clause-order g c = stepped_behind c.step.ensures.stepped
