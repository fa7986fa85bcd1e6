use Rattle.std.proofs.Common.{◌≡◌}
use Rattle.piles.specs.Sets.{tally}
use Rattle.piles.specs.Lists.{held}
use Rattle.piles.proofs.marks.MarksPile.count.Given as goal

abbrev pub invariant-loop-i : goal.invariant-loop-i
invariant-loop-i l = l.n ≡ tally (held l.self.list.now) l.i
