use Rattle.board.specs.Sessions.{SessionDrawn}
use Rattle.board.specs.OwnDraws.{AnyBelow}
use Rattle.board.specs.JoinDraws.{ByLinkAt}
use Rattle.board.proofs.board.session.Session.draw_link.Given as goal

abbrev pub invariant-loop-s : goal.invariant-loop-s
invariant-loop-s g l = SessionDrawn (AnyBelow (λ _. l.s) (ByLinkAt l.link)) l.initial.self l.self
