use Rattle.std.proofs.Common.{rules, tests, arith}
use Rattle.std.proofs.lemmas.Iterator.{first_from_Range}
use Rattle.saturation.specs.Boards.{Rests, Waits}
use Rattle.board.specs.Views.{view}
use Rattle.board.specs.Searches.{job_of}
use Rattle.board.proofs.Finding.{first_of}
use Rattle.board.proofs.board.Board.first_in.Goals as goal

pub returns : goal.returns
returns g c =
    let b = view c.args.self.now in
    first_of b c.args.series c.args.end c.find.result
    (first_from_Range _ _ _ c.find.result (λ i. Waits b (job_of c.args.series i)) (λ i. Rests b (job_of c.args.series i)) c.find.ensures.ran (λ x q k. grind (arith, tests)) (λ x q k. (search (rules, tests), grind (arith, tests))))
