use Rattle.std.proofs.Common.{◌≡◌, length, ap, arith}
use Rattle.terms.specs.Views.{terms_of}
use Rattle.board.specs.OwnDraws.{ByConcept}
use Rattle.board.proofs.Sessions.{rounds_none, rounds_more, rounds_all}
use Rattle.board.proofs.board.session.Session.draw_concepts.Goals as goal

pub loop-x-init : goal.loop-x-init
loop-x-init g c = rounds_none

pub loop-x-preserved : goal.loop-x-preserved
loop-x-preserved g c = rounds_more (ByConcept c.args.known) g.met.K.GradeKind.lawful c.loop-x.invariant c.draw_concept.ensures

pub returns : goal.returns
returns g c =
    let e : c.loop-x.x ≡ length (terms_of c.args.self.now.terms.now).concepts = omega (arith, ap length c.concepts-x-end.ensures) in
    rounds_all (λ v. length v.concepts) (ByConcept c.args.known) e c.loop-x.invariant
