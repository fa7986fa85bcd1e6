use Rattle.board.proofs.Sessions.{session_then}
use Rattle.board.proofs.board.session.Session.draw_own.Goals as goal

pub returns : goal.returns
returns g c = let L = g.met.K.GradeKind.lawful in session_then L (session_then L c.draw_stated.ensures c.draw_operands.ensures) c.draw_concepts.ensures
