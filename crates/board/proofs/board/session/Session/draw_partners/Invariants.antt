use Rattle.board.specs.Sessions.{SessionDrawn}
use Rattle.board.specs.OwnDraws.{AnyBelow}
use Rattle.board.specs.JoinDraws.{ByPartner}
use Rattle.board.proofs.board.session.Session.draw_partners.Given as goal

abbrev pub invariant-loop-i : goal.invariant-loop-i
invariant-loop-i g l = SessionDrawn (AnyBelow (λ _. l.i) (ByPartner l.partners l.head l.grade)) l.initial.self l.self
