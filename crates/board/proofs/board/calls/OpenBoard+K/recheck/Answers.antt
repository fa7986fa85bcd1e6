use Rattle.std.proofs.Common.{refl, arith}
use Rattle.board.specs.Views.{moment}
use Rattle.board.specs.Calls.{RecheckedBy}
use Rattle.board.proofs.board.calls.OpenBoard+K.recheck.Goals as goal

pub returns-in-Err-clause-rechecked : goal.returns-in-Err-clause-rechecked
returns-in-Err-clause-rechecked g c = let a = moment c.args.self.now c.args.pile.now in RecheckedBy.unready c.in-Err.ensures refl (refl {a = a})

pub returns-then-from-self-clause-rechecked : goal.returns-then-from-self-clause-rechecked
returns-then-from-self-clause-rechecked g c =
    let a = moment c.args.self.now c.args.pile.now in RecheckedBy.unfit_lease c.in_default.ensures refl refl (omega (arith, c.from.ensures)) (refl {a = a})

pub returns-clause-rechecked : goal.returns-clause-rechecked
returns-clause-rechecked g c = RecheckedBy.rechecked c.in_default.ensures c.review.ensures.rechecked
