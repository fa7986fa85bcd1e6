use Rattle.std.proofs.Common.{◌<◌, refl, arith}
use Rattle.std.proofs.lemmas.Result.{err_from_is_err_and}
use Rattle.board.specs.Views.{moment}
use Rattle.board.specs.Calls.{RanBy}
use Rattle.board.proofs.Lists.{list_same, list_then}
use Rattle.board.proofs.Callers.{took_of, ready_then}
use Rattle.board.proofs.Running.{rolling_none, rolling_more, rolling_less, rolling_finished, rolling_spent, rolling_left}
use Rattle.board.proofs.board.running.OpenBoard+K.run.Goals as goal

pub returns-in_err-admit-clause-ran : goal.returns-in_err-admit-clause-ran
returns-in_err-admit-clause-ran g c =
    let a = moment c.args.self.now c.args.pile.now in
    let p = err_from_is_err_and c.from_residual.result c.from_residual.ensures.1 in
    rw (p.1, p.2) (RanBy.unready c.in_err-admit.ensures (refl {a = a}))

pub loop-budget-init : goal.loop-budget-init
loop-budget-init g c = let a = moment c.args.self.now c.args.pile.now in record { list = list_same; rolling = rolling_none {a = a} c.in_ok-admit.ensures }

pub loop-budget-preserved : goal.loop-budget-preserved
loop-budget-preserved g c =
    let a = moment c.args.self.now c.args.pile.now in
    let b = moment c.loop-budget.self c.loop-budget.pile in
    let d = moment c.take.new.self c.take.new.pile in
    let f = moment c.turn-steps.new.self c.turn-steps.new.pile in
    let I = c.loop-budget.invariant in
    let l : c.loop-budget.steps < c.args.budget = omega (arith, I.rolling.spent, c.if-steps-budget.false) in
    record {
      list = list_then I.list (list_then c.in-Ok.ensures.list c.turn-steps.ensures.list);
      rolling = rolling_more {a = a} {b = b} I.rolling l {d = d} {f = f} (took_of {a = b} {b = d} c.in-Ok.ensures.taken) c.turn-steps.ensures.turned c.loop-budget-test.ensures;
    }

pub loop-budget-smaller : goal.loop-budget-smaller
loop-budget-smaller g c =
    let a = moment c.args.self.now c.args.pile.now in
    let b = moment c.loop-budget.self c.loop-budget.pile in
    let d = moment c.take.new.self c.take.new.pile in
    let f = moment c.turn-steps.new.self c.turn-steps.new.pile in
    let O = c.loop-budget.invariant.rolling in
    rolling_less {a = a} {b = b} O (omega (arith, O.spent, c.if-steps-budget.false)) {d = d} {f = f} (took_of {a = b} {b = d} c.in-Ok.ensures.taken) c.turn-steps.ensures.turned

pub turn-steps-requires-clause-ready : goal.turn-steps-requires-clause-ready
turn-steps-requires-clause-ready g c =
    let b = moment c.loop-budget.self c.loop-budget.pile in
    let d = moment c.take.new.self c.take.new.pile in
    let T = took_of {a = b} {b = d} c.in-Ok.ensures.taken in
    ready_then {a = b} {b = d} c.loop-budget.invariant.rolling.ready T.moved.grades.sizes T.drawn.set.0

pub turn-steps-requires-clause-held : goal.turn-steps-requires-clause-held
turn-steps-requires-clause-held g c =
    let b = moment c.loop-budget.self c.loop-budget.pile in
    let d = moment c.take.new.self c.take.new.pile in
    let T = took_of {a = b} {b = d} c.in-Ok.ensures.taken in
    (omega (arith, T.within, T.moved.grades.sizes.concepts), T.moved.here)

pub returns-then-steps-budget-clause-ran : goal.returns-then-steps-budget-clause-ran
returns-then-steps-budget-clause-ran g c =
    let a = moment c.args.self.now c.args.pile.now in
    let b = moment c.loop-budget.self c.loop-budget.pile in
    let r = rolling_spent {a = a} {b = b} c.loop-budget.invariant.rolling c.loop-budget-test.ensures c.if-steps-budget.true in
    RanBy.ran r.0 c.in_ok-admit.ensures r.1

pub returns-in_default-clause-list : goal.returns-in_default-clause-list
returns-in_default-clause-list g c = list_then c.loop-budget.invariant.list c.in_default.ensures.list

pub returns-in_default-clause-ran : goal.returns-in_default-clause-ran
returns-in_default-clause-ran g c =
    let a = moment c.args.self.now c.args.pile.now in
    let b = moment c.loop-budget.self c.loop-budget.pile in
    let d = moment c.take.new.self c.take.new.pile in
    let O = c.loop-budget.invariant.rolling in
    let r = rolling_left {a = a} {b = b} O c.loop-budget-test.ensures (omega (arith, O.spent, c.if-steps-budget.false)) {d = d} c.in_default.ensures.taken in
    RanBy.ran r.0 c.in_ok-admit.ensures r.1

pub returns-clause-ran : goal.returns-clause-ran
returns-clause-ran g c =
    let a = moment c.args.self.now c.args.pile.now in
    let b = moment c.loop-budget.self c.loop-budget.pile in
    let r = rolling_finished {a = a} {b = b} c.loop-budget.invariant.rolling c.loop-budget-test.ensures in
    RanBy.ran r.0 c.in_ok-admit.ensures r.1
