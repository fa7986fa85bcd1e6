use Rattle.std.proofs.Common.{sym, subst, rules, arith}
use Rattle.terms.specs.Views.{terms_of}
use Rattle.board.specs.Sessions.{at}
use Rattle.board.specs.Running.{Exhausted, WorkedOrNone}
use Rattle.board.proofs.Lists.{list_same, list_then}
use Rattle.board.proofs.Options.{some_of, none_of}
use Rattle.board.proofs.Running.{ongoing_none, ongoing_more, ongoing_quiet, ongoing_spent}
use Rattle.board.proofs.board.session.Session.exhaust.Goals as goal

pub loop-steps-init : goal.loop-steps-init
loop-steps-init g c = record { same = search (rules, list_same); ongoing = ongoing_none c.requires.1 }

pub loop-steps-preserved : goal.loop-steps-preserved
loop-steps-preserved g c =
    let I = c.loop-steps.invariant in
    let W : WorkedOrNone (terms_of c.args.self.now.terms.now) g.K.GradeKind.kind g.P.Pile.shape c.args.c (at c.loop-steps.self) (at c.work.new.self) c.work.result =
    subst (λ t. WorkedOrNone (terms_of t) g.K.GradeKind.kind g.P.Pile.shape c.args.c (at c.loop-steps.self) (at c.work.new.self) c.work.result) I.same.terms c.work.ensures.work in
    record { same = search (rules, list_then); ongoing = ongoing_more I.ongoing (some_of _ c.work.result c.if-is_none.ensures W).1 }

pub returns-then-is_none-clause-exhausted : goal.returns-then-is_none-clause-exhausted
returns-then-is_none-clause-exhausted g c =
    let s = c.args.self.now in
    let v = terms_of s.terms.now in
    let k = g.K.GradeKind.kind in
    let S = g.P.Pile.shape in
    let a = at c.loop-steps.self in
    let b = at c.work.new.self in
    let I = c.loop-steps.invariant in
    let W = none_of _ c.work.result c.if-is_none.ensures (subst (λ t. WorkedOrNone (terms_of t) k S c.args.c a b c.work.result) I.same.terms c.work.ensures.work) in
    subst (λ u. Exhausted v k S c.args.c c.args.budget c.loop-steps.steps (at s) u) (sym W.1) (ongoing_quiet I.ongoing c.loop-steps-test.true W.0)

pub returns-clause-exhausted : goal.returns-clause-exhausted
returns-clause-exhausted g c = ongoing_spent c.loop-steps.invariant.ongoing (omega arith)
