use Rattle.board.specs.Sessions.{SessionDrawn}
use Rattle.board.specs.OwnDraws.{AnyBelow}
use Rattle.board.specs.JoinDraws.{BySpreads}
use Rattle.board.proofs.board.session.Session.draw_spreads.Given as goal

abbrev pub invariant-loop-t : goal.invariant-loop-t
invariant-loop-t g l = SessionDrawn (AnyBelow (λ _. l.t) (BySpreads l.partners l.join)) l.initial.self l.self
