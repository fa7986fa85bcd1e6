use Rattle.std.proofs.Common.{◌≡◌, refl}
use Rattle.std.proofs.lemmas.Bool.{MatchBool-at_true, MatchBool-at_false}
use Rattle.std.proofs.lemmas.Result.{err_from_is_err_and}
use Rattle.terms.specs.Views.{terms_of}
use Rattle.rejections.specs.declared.Rejection.TheVariants.{NothingWaits}
use Rattle.saturation.specs.Boards.{QuietAt}
use Rattle.saturation.specs.Effects.{Worked}
use Rattle.board.specs.Views.{moment}
use Rattle.board.specs.Calls.{Stepped}
use Rattle.board.proofs.Options.{ok_or_cases}
use Rattle.board.proofs.board.calls.OpenBoard+K.step.Goals as goal

pub returns-in_err-admit-clause-stepped : goal.returns-in_err-admit-clause-stepped
returns-in_err-admit-clause-stepped g c =
    let a = moment c.args.self.now c.args.pile.now in
    let p = err_from_is_err_and c.from_residual.result c.from_residual.ensures.1 in
    rw (p.1, p.2) (Stepped.unready c.in_err-admit.ensures (refl {a = a}))

pub returns-then-not-is_held-clause-stepped : goal.returns-then-not-is_held-clause-stepped
returns-then-not-is_held-clause-stepped g c = Stepped.unfit_lease c.in_ok-admit.ensures (MatchBool-at_false _ _ c.if-not-is_held.true c.is_held.ensures) refl

pub returns-clause-stepped : goal.returns-clause-stepped
returns-clause-stepped g c =
    let v = terms_of c.args.terms.now in
    let k = g.K.GradeKind.kind in
    let S = g.P.Pile.shape in
    let a = moment c.args.self.now c.args.pile.now in
    let b = moment c.work.new.self c.work.new.pile in
    let x = c.args.lease.now.concept in
    let R = c.in_ok-admit.ensures in
    rw c.ok_or.ensures.value
    (ok_or_cases {P = QuietAt v a.board x × (b ≡ a)} {Q = λ j. Worked v k S x j a b} (λ r. Stepped v k S c.args.lease.now a b r) c.work.result NothingWaits c.work.ensures.work
    (λ w. Stepped.nothing_waits R (MatchBool-at_true _ _ c.if-not-is_held.false c.is_held.ensures) w.0 w.1)
    (λ j w. Stepped.worked R w))
