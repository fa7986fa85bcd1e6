use Rattle.board.specs.Asking.{wanted}
use Rattle.board.proofs.Picking.{Written}
use Rattle.board.proofs.board.asking.Asked.write_wanted.Given as goal

abbrev pub invariant-loop-b : goal.invariant-loop-b
invariant-loop-b g l = Written (wanted g.K.GradeKind.kind l.self) l.b l.filled l.initial.list l.list
