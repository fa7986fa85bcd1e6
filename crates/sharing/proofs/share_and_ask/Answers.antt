use Rattle.terms.specs.Views.{terms_of}
use Rattle.board.specs.Views.{moment}
use Rattle.sharing.specs.Asking.{AskedOr}
use Rattle.sharing.proofs.Asking.{answers, shared_done, shared_rejected}
use Rattle.sharing.proofs.share_and_ask.Goals as goal
use Rattle.sharing.proofs.share_and_ask.Goals.{in-Ok, in-Err}

pub returns-clause-asked : goal.returns-clause-asked
returns-clause-asked g c =
    let v = terms_of c.args.terms.now in
    let k = g.K.GradeKind.kind in
    let S = g.P.Pile.shape in
    let p = c.args.pile.now in
    let m = moment c.share-board.result c.share-board.new.pile in
    elim c.match-checked.branch [
      | in-Ok w ↦
          let order = w.in-Ok.ensures in
          let done = shared_done order c.share-board.ensures.shared in
          rw w.answer-is (AskedOr.asked order done (answers v k S p m done c.args.a c.args.d w.under-answer.result w.under-answer.ensures.answer))
      | in-Err w ↦ rw w.answer-is (AskedOr.rejected (shared_rejected w.in-Err.ensures c.share-board.ensures.shared))
    ]
