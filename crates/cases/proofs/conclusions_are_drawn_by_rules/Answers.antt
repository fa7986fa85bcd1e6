use Rattle.cases.proofs.Rounds.{conclusions_drawn}
use Rattle.cases.proofs.conclusions_are_drawn_by_rules.Goals as goal

pub returns : goal.returns
returns c = conclusions_drawn
