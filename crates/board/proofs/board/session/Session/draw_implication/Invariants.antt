use Rattle.board.specs.Sessions.{SessionDrawn}
use Rattle.board.specs.OwnDraws.{AnyBelow}
use Rattle.board.specs.JoinDraws.{ByLinksAt}
use Rattle.board.proofs.board.session.Session.draw_implication.Given as goal

abbrev pub invariant-loop-x : goal.invariant-loop-x
invariant-loop-x g l = SessionDrawn (AnyBelow (λ _. l.x) (ByLinksAt l.implication)) l.initial.self l.self
