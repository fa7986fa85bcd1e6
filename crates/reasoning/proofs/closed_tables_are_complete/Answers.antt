use Rattle.reasoning.proofs.Complete.{complete}
use Rattle.reasoning.proofs.closed_tables_are_complete.Goals as goal

pub returns : goal.returns
returns c = complete
