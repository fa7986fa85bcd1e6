use Rattle.terms.specs.Views.{terms_of}
use Rattle.board.specs.Views.{moment, SameList}
use Rattle.board.specs.Making.{Begun}
use Rattle.board.proofs.board.making.OpenBoard+K.make.Given as goal

abbrev pub invariant-loop-a : goal.invariant-loop-a
invariant-loop-a g l = record {
  list : SameList l.initial.board l.board;
  begun : Begun (terms_of l.terms) g.K.GradeKind.kind g.P.Pile.shape l.initial.pile l.a (moment l.board l.pile);
}
