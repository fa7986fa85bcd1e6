use Rattle.std.proofs.Common.{◌+◌, ◌-◌, ◌*◌}
use Rattle.piles.specs.Sets.{count_of}
use Rattle.terms.specs.Views.{terms_of}
use Rattle.board.specs.Views.{moment, SameList}
use Rattle.board.specs.Running.{Rolling}
use Rattle.board.proofs.board.running.OpenBoard+K.run.Given as goal

abbrev pub invariant-loop-budget : goal.invariant-loop-budget
invariant-loop-budget g l = record {
  list : SameList l.initial.self l.self;
  rolling : Rolling (terms_of l.terms) g.K.GradeKind.kind g.P.Pile.shape l.budget l.steps (moment l.initial.self l.initial.pile) (moment l.self l.pile);
}

abbrev pub decreases-loop-budget : goal.decreases-loop-budget
decreases-loop-budget g l = (l.budget - l.steps) * 1025 + count_of (g.P.Pile.shape.numbers l.pile)
