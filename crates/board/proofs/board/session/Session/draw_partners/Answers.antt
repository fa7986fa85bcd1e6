use Rattle.std.proofs.Common.{◌≡◌, length, ap, arith}
use Rattle.terms.specs.Views.{terms_of}
use Rattle.board.specs.JoinDraws.{ByPartner}
use Rattle.board.proofs.Sessions.{rounds_none, rounds_more, rounds_all}
use Rattle.board.proofs.board.session.Session.draw_partners.Goals as goal

pub loop-i-init : goal.loop-i-init
loop-i-init g c = rounds_none

pub loop-i-preserved : goal.loop-i-preserved
loop-i-preserved g c = rounds_more (ByPartner c.args.partners c.args.head c.args.grade) g.met.K.GradeKind.lawful c.loop-i.invariant c.draw_partner.ensures

pub returns : goal.returns
returns g c =
    let e : c.loop-i.i ≡ length (terms_of c.args.self.now.terms.now).concepts = omega (arith, ap length c.concepts-i-end.ensures) in
    rounds_all (λ v. length v.concepts) (ByPartner c.args.partners c.args.head c.args.grade) e c.loop-i.invariant
