use Rattle.std.proofs.Common.{◌≡◌, ℕ, sym, ap, ◌∙◌, arith}
use Rattle.std.specs.Result.{result_ok}
use Rattle.terms.specs.Views.{terms_of}
use Rattle.terms.proofs.Namings.{named_is}
use Rattle.reasoning.specs.declared.Fact.TheVariants.{Under as under}
use Rattle.board.specs.Views.{view}
use Rattle.listing.proofs.Asking.{answered, listed_is}
use Rattle.listing.proofs.rows.SettledBoard.listed.Goals as goal

pub returns-in_err-code : goal.returns-in_err-code
returns-in_err-code g c =
    let v = terms_of c.args.self.now.terms.now in
    let i = named_is v c.args.a (sym c.if-not-is_named.ensures) in
    let j = named_is v c.args.d (sym c.if-not-is_named-2.ensures) in
    let q = answered c.args.self.now.settled i j.0 c.under.ensures.answer in
    let z : ◌≡◌ {A = ℕ} 0 1 = cc (c.in_err-code.was, c.ok.ensures.value, ap result_ok q) in
    absurd (omega arith)

pub returns : goal.returns
returns g c =
    let v = terms_of c.args.self.now.terms.now in
    let b = view c.args.self.now.board.now in
    let na = sym c.if-not-is_named.ensures in
    let nd = sym c.if-not-is_named-2.ensures in
    let i = named_is v c.args.a na in
    let j = named_is v c.args.d nd in
    let q = answered c.args.self.now.settled i j.0 c.under.ensures.answer in
    let e : c.in_ok-code.code ≡ b.found (under c.args.a c.args.d) = cc (c.in_ok-code.was, c.ok.ensures.value, ap result_ok q) in
    c.then_some.ensures ∙ listed_is v g.K.GradeKind.kind b c.args.a c.args.d c.in_ok-code.code c.none.result c.if-a-d.false na nd e c.none.ensures
