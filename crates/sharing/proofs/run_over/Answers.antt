use Rattle.sharing.proofs.Ordering.{ran_over}
use Rattle.sharing.proofs.run_over.Goals as goal

pub returns-clause-rest : goal.returns-clause-rest
returns-clause-rest g c = ran_over c.run.ensures.ran
