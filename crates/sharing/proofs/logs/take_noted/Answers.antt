use Rattle.sharing.proofs.Noting.{took_noted}
use Rattle.sharing.proofs.logs.take_noted.Goals as goal

pub returns-clause-noted : goal.returns-clause-noted
returns-clause-noted g c = took_noted g.P.Pile.shape c.take.ensures.taken
