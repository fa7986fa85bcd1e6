use Rattle.terms.specs.Views.{terms_of}
use Rattle.board.specs.Running.{Ongoing}
use Rattle.board.specs.Sessions.{at, SameSession}
use Rattle.board.proofs.board.session.Session.exhaust.Given as goal

abbrev pub invariant-loop-steps : goal.invariant-loop-steps
invariant-loop-steps g l = record {
  same : SameSession l.initial.self l.self;
  ongoing : Ongoing (terms_of l.initial.self.terms.now) g.K.GradeKind.kind g.P.Pile.shape l.c l.steps (at l.initial.self) (at l.self);
}
