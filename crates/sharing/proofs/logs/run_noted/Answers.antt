use Rattle.terms.specs.Views.{terms_of}
use Rattle.piles.specs.Logs.{logged}
use Rattle.piles.proofs.Following.{same_follows, below_follows}
use Rattle.sharing.proofs.Noting.{ran_along, ran_noted}
use Rattle.sharing.proofs.logs.run_noted.Goals as goal

pub returns-clause-noted : goal.returns-clause-noted
returns-clause-noted g c =
    let S = g.P.Pile.shape in
    ran_noted S (same_follows (logged S)) (terms_of c.args.terms.now) g.K.GradeKind.kind c.run.ensures.ran

pub returns-clause-below : goal.returns-clause-below
returns-clause-below g c = ran_along (below_follows g.P.Pile.shape) (terms_of c.args.terms.now) g.K.GradeKind.kind c.run.ensures.ran
