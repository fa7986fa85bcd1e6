use Rattle.reasoning.proofs.Complete.{exact}
use Rattle.reasoning.proofs.closed_tables_are_exact.Goals as goal

pub returns : goal.returns
returns c = exact
