use Rattle.std.proofs.Common.{refl, subst, arith}
use Rattle.terms.specs.Views.{terms_of}
use Rattle.saturation.specs.Effects.{Rechecked}
use Rattle.board.specs.Views.{moment}
use Rattle.board.proofs.Lists.{list_then}
use Rattle.board.proofs.Callers.{ready_then, lowered_ok, lowered_of, rechecked_ok, rechecked_of}
use Rattle.sharing.proofs.Turning.{gave_back}
use Rattle.sharing.proofs.give_back.Goals as goal

pub unwrap-lowered-requires : goal.unwrap-lowered-requires
unwrap-lowered-requires g c = lowered_ok c.requires.held c.lower.ensures.lowered

pub unwrap-requires : goal.unwrap-requires
unwrap-requires g c =
    let low = lowered_of (rw (c.unwrap-lowered.ensures) at c.lower.ensures.lowered) in
    let L = low.1 in
    rechecked_ok (ready_then c.requires.ready L.moved.grades.sizes refl) (omega (arith, low.0, c.requires.held.0, L.moved.grades.sizes.concepts)) c.recheck.ensures.rechecked

pub returns : goal.returns
returns g c =
    let low = lowered_of (rw (c.unwrap-lowered.ensures) at c.lower.ensures.lowered) in
    let again = rechecked_of (rw (c.unwrap.ensures) at c.recheck.ensures.rechecked) in
    let v = terms_of c.args.terms.now in
    let S = g.P.Pile.shape in
    let a = moment c.args.board.now c.args.pile.now in
    let b = moment c.lower.new.self c.args.pile.now in
    let d = moment c.recheck.new.self c.recheck.new.pile in
    record {
      list = list_then c.lower.ensures.list c.recheck.ensures.list;
      back = gave_back v g.K.GradeKind.kind S c.args.lease.concept a b d c.requires.ready low.1 refl (subst (λ x. Rechecked v S x b d) low.0 again);
    }
