use Rattle.board.specs.Sessions.{SessionDrawn}
use Rattle.board.specs.OwnDraws.{AnyBelow, ByStated}
use Rattle.board.proofs.board.session.Session.draw_stated.Given as goal

abbrev pub invariant-loop-inclusion : goal.invariant-loop-inclusion
invariant-loop-inclusion g l = SessionDrawn (AnyBelow (λ _. l.inclusion-index) (ByStated l.known)) l.initial.self l.self
