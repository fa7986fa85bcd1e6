use Rattle.std.proofs.Common.{◌≡◌, ℕ, rules, tests}
use Rattle.reasoning.specs.declared.Job.TheVariants.{Imply as imply}
use Rattle.board.specs.declared.board.finding.Series.TheVariants.{Implications}
use Rattle.board.specs.Views.{view}
use Rattle.board.specs.Searches.{NoneBelow, FirstBelow}
use Rattle.board.proofs.Ranges.{first_mapped}
use Rattle.board.proofs.Finding.{implication_of}
use Rattle.board.proofs.board.Board.first_implication.Goals as goal

pub returns : goal.returns
returns g c =
    let b = view c.args.self.now in
    implication_of b c.args.c c.find_map.result (first_mapped b.roles _ c.find_map.result
    (λ j s. (e : ℕ) × (j ≡ imply s c.args.c e) × FirstBelow b (Implications s c.args.c) b.concepts e) (λ s. NoneBelow b (Implications s c.args.c) b.concepts)
    c.find_map.ensures.runs (λ x a q k. (search (rules, tests), search (rules, tests))))
