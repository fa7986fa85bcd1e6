use Rattle.std.proofs.Common.{refl, subst, subst₂, arith}
use Rattle.terms.specs.Views.{terms_of}
use Rattle.saturation.specs.Effects.{Rechecked}
use Rattle.board.specs.Views.{moment}
use Rattle.board.specs.Sessions.{at}
use Rattle.board.specs.Rejections.{Ready}
use Rattle.board.proofs.Callers.{ready_then, lowered_ok, lowered_of, recheck_ready, rechecked_ok, rechecked_of}
use Rattle.board.proofs.Running.{turned}
use Rattle.board.proofs.board.session.Session.turn.Goals as goal

pub unwrap-lowered-requires : goal.unwrap-lowered-requires
unwrap-lowered-requires g c =
    let E = c.exhaust-steps.ensures in
    lowered_ok (omega (arith, c.requires.0, E.same.list.sizes.concepts), E.exhausted.held) c.lower.ensures.lowered

pub unwrap-requires : goal.unwrap-requires
unwrap-requires g c =
    let m = c.exhaust-steps.new.self in
    let d = moment c.lower.new.self m.pile.now in
    let b = moment c.recheck.new.self c.recheck.new.pile in
    let low = lowered_of (rw c.unwrap-lowered.ensures at c.lower.ensures.lowered) in
    let G = low.1.moved.grades in
    rechecked_ok {a = d} {b = b} (ready_then {a = at m} {b = d} m.ready G.sizes refl) (omega (arith, low.0, low.1.within, G.sizes.concepts)) c.recheck.ensures.rechecked

pub invariant_of-self : goal.invariant_of-self
invariant_of-self g c =
    let m = c.exhaust-steps.new.self in
    let d = moment c.lower.new.self m.pile.now in
    let b = moment c.recheck.new.self c.recheck.new.pile in
    let G = (lowered_of (rw c.unwrap-lowered.ensures at c.lower.ensures.lowered)).1.moved.grades in
    record { ready = recheck_ready {a = d} {b = b} (ready_then {a = at m} {b = d} m.ready G.sizes refl) c.recheck.ensures.rechecked }

pub returns-clause-turned : goal.returns-clause-turned
returns-clause-turned g c =
    let m = c.exhaust-steps.new.self in
    let E = c.exhaust-steps.ensures in
    let S = g.P.Pile.shape in
    let a = at m in
    let d = moment c.lower.new.self m.pile.now in
    let b = moment c.recheck.new.self c.recheck.new.pile in
    let low = lowered_of (rw c.unwrap-lowered.ensures at c.lower.ensures.lowered) in
    let C : Rechecked (terms_of c.args.self.now.terms.now) S c.args.lease.concept d b =
    subst₂ (λ t x. Rechecked (terms_of t) S x d b) E.same.terms low.0 (rechecked_of {a = d} {b = b} (rw c.unwrap.ensures at c.recheck.ensures.rechecked)) in
    turned {m = a} {b = b} {d = d.board} (subst (λ t. Ready (terms_of t) S a) E.same.terms m.ready) low.1 C {a = at c.args.self.now} E.exhausted
