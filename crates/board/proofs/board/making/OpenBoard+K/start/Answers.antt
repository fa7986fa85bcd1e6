use Rattle.std.proofs.Common.{sym, subst}
use Rattle.terms.specs.Views.{terms_of}
use Rattle.terms.proofs.Namings.{named_is}
use Rattle.reasoning.specs.declared.Fact.TheVariants.{Under as under}
use Rattle.board.specs.Views.{view}
use Rattle.board.specs.Moves.{Wrote}
use Rattle.board.specs.Making.{started}
use Rattle.board.proofs.board.making.OpenBoard+K.start.Goals as goal

pub returns-then-is_named-clause-started : goal.returns-then-is_named-clause-started
returns-then-is_named-clause-started g c =
    let x = c.args.a in
    let W = subst (λ u. Wrote (under x x) u (view c.args.self.now) (view c.write_found.new.self)) c.all.ensures c.write_found.ensures.wrote in
    started (named_is (terms_of c.args.terms.now) x (sym c.if-is_named.ensures)) W c.queue.ensures.nudged
