use Rattle.std.proofs.Common.{sym}
use Rattle.terms.specs.Views.{terms_of}
use Rattle.saturation.specs.Boards.{QuietAt, First}
use Rattle.board.specs.Views.{moment}
use Rattle.board.proofs.Options.{some_of, none_of}
use Rattle.board.proofs.Rechecking.{rechecked_queued, rechecked_quiet}
use Rattle.board.proofs.board.calls.OpenBoard+K.review.Goals as goal

pub returns-then-is_some-clause-rechecked : goal.returns-then-is_some-clause-rechecked
returns-then-is_some-clause-rechecked g c =
    let v = terms_of c.args.terms.now in
    let a = moment c.args.self.now c.args.pile.now in
    let b = moment c.queue.new.self c.queue.new.pile in
    let job = some_of (QuietAt v a.board c.args.c) {Q = First v a.board c.args.c} c.first.result (sym c.if-is_some.ensures) c.first.ensures in
    rechecked_queued {v = v} {a = a} c.requires.within {b = b} job.1 c.queue.ensures.nudged

pub returns-else-is_some-clause-rechecked : goal.returns-else-is_some-clause-rechecked
returns-else-is_some-clause-rechecked g c =
    let v = terms_of c.args.terms.now in
    let a = moment c.args.self.now c.args.pile.now in
    rechecked_quiet {v = v} {a = a} c.requires.within (none_of {P = QuietAt v a.board c.args.c} (First v a.board c.args.c) c.first.result (sym c.if-is_some.ensures) c.first.ensures)
