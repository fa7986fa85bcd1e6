use Rattle.std.proofs.Common.{[], Some, None, refl, sym, ◌∙◌, arith}
use Rattle.piles.specs.Shapes.{nothing}
use Rattle.piles.proofs.Acts.{acted_put, acted_draw}
use Rattle.piles.proofs.Turns.{refused_small, moving_kept, moving_lost, moving_end}
use Rattle.piles.proofs.moving.move_all.Goals as goal

pub loop-x-init : goal.loop-x-init
loop-x-init g c = (record { giver = refl; taker = refl; moving = λ y. refl; losing = omega arith }, ([], nothing), ([], nothing))

pub loop-x-preserved : goal.loop-x-preserved
loop-x-preserved g c = (
  moving_kept g.Q.Pile.shape _ _ _ _ _ _ c.loop-x.refused c.in-Some.x c.loop-x.invariant.0 c.in-Some.ensures.set c.put.result (sym c.is_err.ensures.value ∙ c.if-is_err.false) c.put.ensures,
  acted_draw g.P.Pile.shape c.loop-x.invariant.1 (Some c.in-Some.x) c.in-Some.ensures,
  acted_put g.Q.Pile.shape c.in-Some.x c.loop-x.invariant.2 c.put.result c.put.ensures,
)

pub loop-x-preserved-then-is_err : goal.loop-x-preserved-then-is_err
loop-x-preserved-then-is_err g c = (
  moving_lost g.Q.Pile.shape _ _ _ _ _ _ c.loop-x.refused c.in-Some.x c.loop-x.invariant.0 c.in-Some.ensures.set c.put.result (sym c.is_err.ensures.value ∙ c.if-is_err.true) c.put.ensures,
  acted_draw g.P.Pile.shape c.loop-x.invariant.1 (Some c.in-Some.x) c.in-Some.ensures,
  acted_put g.Q.Pile.shape c.in-Some.x c.loop-x.invariant.2 c.put.result c.put.ensures,
)

pub overflow_add-refused : goal.overflow_add-refused
overflow_add-refused g c = omega (arith, refused_small _ _ _ _ c.loop-x.refused c.loop-x.invariant.0)

pub returns : goal.returns
returns g c = record {
  sets = moving_end g.P.Pile.shape _ _ _ _ _ c.loop-x.refused c.loop-x.invariant.0 c.in_default.ensures;
  acts = (acted_draw g.P.Pile.shape c.loop-x.invariant.1 None c.in_default.ensures, c.loop-x.invariant.2);
}
