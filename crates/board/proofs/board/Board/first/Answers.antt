use Rattle.terms.specs.Views.{terms_of}
use Rattle.board.specs.Views.{view}
use Rattle.board.proofs.Finding.{first_own, first_link, last_of}
use Rattle.board.proofs.board.Board.first.Goals as goal

pub returns-in-Some : goal.returns-in-Some
returns-in-Some g c =
    let own = c.in-Some.ensures in
    rw own.1 (first_own (terms_of c.args.terms.now) (view c.args.self.now) c.requires.goes c.args.c own.0 c.requires.within own.2)

pub returns-in-Some-first_link : goal.returns-in-Some-first_link
returns-in-Some-first_link g c =
    let l = c.in-Some-first_link.link in
    first_link (terms_of c.args.terms.now) (view c.args.self.now) c.requires.goes c.args.c l.left l.right c.in_default.ensures c.in-Some-first_link.ensures

pub returns : goal.returns
returns g c =
    last_of (terms_of c.args.terms.now) (view c.args.self.now) c.requires.goes c.args.c c.first_implication.result
    c.requires.within c.in_default.ensures c.in_default-first_link.ensures c.first_implication.ensures
