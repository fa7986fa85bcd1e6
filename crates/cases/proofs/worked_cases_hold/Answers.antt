use Rattle.cases.proofs.Passing.{worked_cases_hold}
use Rattle.cases.proofs.worked_cases_hold.Goals as goal

pub returns : goal.returns
returns c = worked_cases_hold
