use Rattle.std.proofs.Common.{arith}
use Rattle.std.proofs.lemmas.Bool.{MatchBool-at_true, MatchBool-at_false}
use Rattle.board.specs.Rejections.{other_terms, small_pile}
use Rattle.board.proofs.board.calls.OpenBoard+K.admit.Goals as goal

pub returns-then-not-goes_with : goal.returns-then-not-goes_with
returns-then-not-goes_with g c = other_terms (MatchBool-at_false _ _ c.if-not-goes_with.true c.goes_with.ensures)

pub returns-then-size-self : goal.returns-then-size-self
returns-then-size-self g c = small_pile (MatchBool-at_true _ _ c.if-not-goes_with.false c.goes_with.ensures) (λ w. omega arith)

pub returns : goal.returns
returns g c = record { goes = MatchBool-at_true _ _ c.if-not-goes_with.false c.goes_with.ensures; wide = omega arith }
