use Rattle.std.proofs.Common.{◌≡◌, arith}
use Rattle.board.specs.Views.{view}
use Rattle.board.proofs.board.Board.first_link.Goals as goal

pub returns : goal.returns
returns g c = let e : c.loop-x.x ≡ (view c.args.self.now).concepts = omega arith in rw e at c.loop-x.invariant
