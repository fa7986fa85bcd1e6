use Rattle.sharing.proofs.Noting.{both_noted}
use Rattle.sharing.proofs.logs.share_noted.Goals as goal

pub returns-clause-noted : goal.returns-clause-noted
returns-clause-noted g c = both_noted g.P.Pile.shape c.share.ensures.shared
