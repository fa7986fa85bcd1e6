use Rattle.terms.specs.Views.{terms_of}
use Rattle.board.specs.Views.{view}
use Rattle.board.specs.Searches.{BestLink}
use Rattle.board.proofs.board.Board.first_link.Given as goal

abbrev pub invariant-loop-x : goal.invariant-loop-x
invariant-loop-x g l = BestLink (terms_of l.terms) (view l.self) l.c l.x l.best
