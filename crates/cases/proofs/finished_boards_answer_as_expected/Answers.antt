use Rattle.cases.proofs.Boards.{boards_answer}
use Rattle.cases.proofs.finished_boards_answer_as_expected.Goals as goal

pub returns : goal.returns
returns c = boards_answer
