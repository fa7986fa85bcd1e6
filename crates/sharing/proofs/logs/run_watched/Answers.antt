use Rattle.std.proofs.Common.{ap, ◌∙◌}
use Rattle.std.specs.Borrow.{MutBor}
use Rattle.piles.specs.Shapes.{borrowed}
use Rattle.terms.specs.Views.{terms_of}
use Rattle.piles.proofs.Following.{lent_follows}
use Rattle.sharing.proofs.Noting.{ran_noted, ran_lent}
use Rattle.sharing.proofs.logs.run_watched.Goals as goal

pub returns-clause-lent : goal.returns-clause-lent
returns-clause-lent g c = ran_lent g.P.Pile.shape c.run-ran.ensures.ran ∙ ap (λ (p : MutBor _). p.ghost_name) c.new-log.ensures.pile

pub returns-clause-noted : goal.returns-clause-noted
returns-clause-noted g c =
    let t = ran_noted (borrowed g.P.Pile.shape) (lent_follows g.P.Pile.shape) (terms_of c.args.terms.now) g.K.GradeKind.kind c.run-ran.ensures.ran in
    rw c.new-log.ensures.blank at (rw c.new-log.ensures.pile at t)
