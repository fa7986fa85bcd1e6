use Rattle.std.proofs.Common.{sym, ap, ◌∙◌, subst, arith}
use Rattle.terms.specs.Views.{terms_of}
use Rattle.terms.proofs.Formed.{well_formed}
use Rattle.saturation.specs.Boards.{Board}
use Rattle.board.specs.Calls.{Bare}
use Rattle.board.specs.Views.{moment}
use Rattle.board.proofs.Callers.{made_in_order, made_rejected}
use Rattle.board.proofs.Readiness.{made_ready}
use Rattle.sharing.specs.Sharing.{WorkDone, SharedBy}
use Rattle.sharing.proofs.Ending.{work_done, found_wrong, found_right}
use Rattle.sharing.proofs.share.Goals as goal

pub returns-then-is_err-clause-shared : goal.returns-then-is_err-clause-shared
returns-then-is_err-clause-shared g c =
    let e = (found_wrong c.check.result (sym c.is_err.ensures.value ∙ c.if-is_err.true) c.check.ensures).1 in
    let m = made_rejected e c.make.ensures.made in
    SharedBy.rejected (record { reason = e; bare = subst (λ (o : Board). Bare o) (sym c.close.ensures.view) m.bare; pile = m.pile; words_kept = ap (λ l. l.now) c.close.ensures.lent ∙ m.words_kept })

pub work-requires : goal.work-requires
work-requires g c =
    let order = found_right c.check.result (sym c.is_err.ensures.value ∙ c.if-is_err.false) c.check.ensures in
    made_ready order (made_in_order order c.make-board.ensures.made)

pub returns-clause-shared : goal.returns-clause-shared
returns-clause-shared g c =
    let v = terms_of c.args.terms.now in
    let k = g.K.GradeKind.kind in
    let S = g.P.Pile.shape in
    let p = c.args.pile.now in
    let q = c.run.new.pile in
    let a = moment c.make-board.result c.make-board.new.pile in
    let b = moment c.work.new.board c.work.new.pile in
    let d = moment c.run.new.self q in
    let order = found_right c.check.result (sym c.is_err.ensures.value ∙ c.if-is_err.false) c.check.ensures in
    let done = work_done k g.met.K.GradeKind.lawful v (well_formed c.args.terms.now) S _ (omega arith) p a b d c.run.result (made_in_order order c.make-board.ensures.made) c.work.ensures.turns c.run.ensures.ran in
    SharedBy.done order (subst (λ (o : Board). WorkDone v k S p (record { board = o; pile = q })) (sym c.close-2.ensures.view) done)
