use Rattle.std.proofs.lemmas.Bool.{MatchBool-at_false}
use Rattle.terms.specs.Views.{terms_of}
use Rattle.terms.proofs.Formed.{well_formed}
use Rattle.board.specs.Views.{view}
use Rattle.board.proofs.Finding.{quiet_all}
use Rattle.board.proofs.board.Board.any_waits.Goals as goal

pub returns-else-any_waits_where : goal.returns-else-any_waits_where
returns-else-any_waits_where g c =
    quiet_all (terms_of c.args.terms.now) (view c.args.self.now) c.any_waits_where-else-any_waits_where.result (well_formed c.args.terms.now) c.requires
    (MatchBool-at_false _ _ c.if-any_waits_where.false c.any_waits_where.ensures) c.any_waits_where-else-any_waits_where.ensures
