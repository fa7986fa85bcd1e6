use Rattle.std.proofs.Common.{ℕ, arith}
use Rattle.std.proofs.lemmas.Bool.{cond-true, cond-false}
use Rattle.piles.specs.Lists.{held}
use Rattle.piles.proofs.Tallies.{tally_le, tally_more}
use Rattle.piles.proofs.Entries.{held_of_zero, held_of_other}
use Rattle.piles.proofs.marks.MarksPile.count.Goals as goal
use Rattle.piles.proofs.marks.MarksPile.count.Goals.{then-self-i-ne0, else-self-i-ne0}

pub overflow_add-n : goal.overflow_add-n
overflow_add-n c = omega (arith, tally_le (held c.args.self.now.list.now) c.loop-i.i)

pub loop-i-preserved : goal.loop-i-preserved
loop-i-preserved c =
    let l = c.args.self.now.list.now in
    let i = c.loop-i.i in
    elim c.if-self-i-ne0.branch [
      | then-self-i-ne0 w ↦ omega (arith, w.n-is, tally_more (held l) i, cond-true {A = ℕ} (held l i) 1 0 (held_of_other l i (omega arith) w.if-self-i-ne0.true))
      | else-self-i-ne0 w ↦ omega (arith, w.n-is, tally_more (held l) i, cond-false {A = ℕ} (held l i) 1 0 (held_of_zero l i w.if-self-i-ne0.false))
    ]
