use Rattle.std.proofs.Common.{◌≡◌, length, ap, arith}
use Rattle.terms.specs.Views.{terms_of}
use Rattle.board.specs.JoinDraws.{ByLinksAt}
use Rattle.board.proofs.Sessions.{rounds_none, rounds_more, rounds_all}
use Rattle.board.proofs.board.session.Session.draw_implication.Goals as goal

pub loop-x-init : goal.loop-x-init
loop-x-init g c = rounds_none

pub loop-x-preserved : goal.loop-x-preserved
loop-x-preserved g c = rounds_more (ByLinksAt c.args.implication) g.met.K.GradeKind.lawful c.loop-x.invariant c.draw_links.ensures

pub returns : goal.returns
returns g c =
    let e : c.loop-x.x ≡ length (terms_of c.args.self.now.terms.now).concepts = omega (arith, ap length c.concepts-x-end.ensures) in
    rounds_all (λ v. length v.concepts) (ByLinksAt c.args.implication) e c.loop-x.invariant
