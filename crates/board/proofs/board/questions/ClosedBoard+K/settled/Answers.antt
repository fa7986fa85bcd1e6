use Rattle.std.proofs.lemmas.Bool.{MatchBool-at_true, MatchBool-at_false}
use Rattle.board.specs.Questions.{settled, other_terms, job_waits}
use Rattle.board.proofs.board.questions.ClosedBoard+K.settled.Goals as goal

pub returns-then-not-goes_with : goal.returns-then-not-goes_with
returns-then-not-goes_with g c = other_terms (MatchBool-at_false _ _ c.if-not-goes_with.true c.goes_with.ensures)

pub returns-then-any_waits : goal.returns-then-any_waits
returns-then-any_waits g c = job_waits (MatchBool-at_true _ _ c.if-not-goes_with.false c.goes_with.ensures) (MatchBool-at_true _ _ c.if-any_waits.true c.any_waits.ensures)

pub returns : goal.returns
returns g c = settled (record { goes = MatchBool-at_true _ _ c.if-not-goes_with.false c.goes_with.ensures; quiet = MatchBool-at_false _ _ c.if-any_waits.false c.any_waits.ensures })
