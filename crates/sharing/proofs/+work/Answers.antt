use Rattle.std.proofs.Common.{arith}
use Rattle.terms.specs.Views.{terms_of}
use Rattle.board.specs.Views.{moment}
use Rattle.board.proofs.Lists.{list_same}
use Rattle.board.proofs.Callers.{took_of, ready_then}
use Rattle.sharing.proofs.Turning.{turns_then, no_turns, not_taken, stepped, whole_turn}
use Rattle.sharing.proofs.+work.Goals as goal

pub returns-then-workers-eq0 : goal.returns-then-workers-eq0
returns-then-workers-eq0 g t c = record { list = list_same; turns = no_turns (terms_of c.args.terms.now) g.K.GradeKind.kind g.P.Pile.shape _ c.requires }

pub returns-in_default-clause-turns : goal.returns-in_default-clause-turns
returns-in_default-clause-turns g t c = not_taken (terms_of c.args.terms.now) g.K.GradeKind.kind g.P.Pile.shape _ _ _ c.requires c.in_default.ensures.taken

pub give_back-requires-clause-ready : goal.give_back-requires-clause-ready
give_back-requires-clause-ready g t c =
    let v = terms_of c.args.terms.now in
    let k = g.K.GradeKind.kind in
    let S = g.P.Pile.shape in
    let d = moment c.work.new.board c.work.new.pile in
    let e = moment c.step.new.self c.step.new.pile in
    (stepped v k S c.in-Ok.lease d e c.step.result c.work.ensures.turns.onward.ready c.step.ensures.stepped).onward.ready

pub give_back-requires-clause-held : goal.give_back-requires-clause-held
give_back-requires-clause-held g t c =
    let v = terms_of c.args.terms.now in
    let k = g.K.GradeKind.kind in
    let S = g.P.Pile.shape in
    let d = moment c.work.new.board c.work.new.pile in
    let e = moment c.step.new.self c.step.new.pile in
    let T = took_of c.in-Ok.ensures.taken in
    let x = c.in-Ok.lease.concept in
    let m = c.work.ensures.turns in
    let n = stepped v k S c.in-Ok.lease d e c.step.result m.onward.ready c.step.ensures.stepped in (
      omega (arith, T.within, c.requires.goes.concepts, n.onward.ready.goes.concepts),
      n.held x (omega (arith, T.within, c.requires.goes.concepts, m.onward.ready.goes.concepts)) (m.held x (omega (arith, T.within, T.moved.grades.sizes.concepts)) T.moved.here),
    )

pub returns-in-Ok-clause-turns : goal.returns-in-Ok-clause-turns
returns-in-Ok-clause-turns g t c =
    let v = terms_of c.args.terms.now in
    let k = g.K.GradeKind.kind in
    let S = g.P.Pile.shape in
    let a = moment c.args.board.now c.args.pile.now in
    let b = moment c.take.new.self c.take.new.pile in
    let d = moment c.work.new.board c.work.new.pile in
    let e = moment c.step.new.self c.step.new.pile in
    let f = moment c.give_back.new.board c.give_back.new.pile in
    let T = took_of c.in-Ok.ensures.taken in
    let m = c.work.ensures.turns in
    let n = stepped v k S c.in-Ok.lease d e c.step.result m.onward.ready c.step.ensures.stepped in
    whole_turn v k S c.in-Ok.lease.concept a b e f c.requires T (turns_then v k S (ready_then c.requires T.moved.grades.sizes T.drawn.set.0) m n) c.give_back.ensures.back
