use Rattle.board.specs.Sessions.{SessionDrawn}
use Rattle.board.specs.OwnDraws.{AnyBelow, ByConcept}
use Rattle.board.proofs.board.session.Session.draw_concepts.Given as goal

abbrev pub invariant-loop-x : goal.invariant-loop-x
invariant-loop-x g l = SessionDrawn (AnyBelow (λ _. l.x) (ByConcept l.known)) l.initial.self l.self
