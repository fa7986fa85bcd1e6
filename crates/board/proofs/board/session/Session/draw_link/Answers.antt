use Rattle.std.proofs.Common.{◌≡◌, arith}
use Rattle.terms.specs.Views.{terms_of}
use Rattle.board.specs.JoinDraws.{ByLinkAt}
use Rattle.board.proofs.Sessions.{rounds_none, rounds_more, rounds_all}
use Rattle.board.proofs.board.session.Session.draw_link.Goals as goal

pub loop-s-init : goal.loop-s-init
loop-s-init g c = rounds_none

pub loop-s-preserved : goal.loop-s-preserved
loop-s-preserved g c = rounds_more (ByLinkAt c.args.link) g.met.K.GradeKind.lawful c.loop-s.invariant c.draw_join.ensures

pub returns : goal.returns
returns g c =
    let e : c.loop-s.s ≡ (terms_of c.args.self.now.terms.now).roles = omega arith in
    rounds_all (λ v. v.roles) (ByLinkAt c.args.link) e c.loop-s.invariant
