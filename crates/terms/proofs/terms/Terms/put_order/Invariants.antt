use Rattle.std.proofs.Common.{◌≡◌, ◌++◌, map, take, drop}
use Rattle.terms.specs.Entries.{climbed}
use Rattle.terms.proofs.terms.Terms.put_order.Given as goal

abbrev pub invariant-loop-row : goal.invariant-loop-row
invariant-loop-row l = l.row-items ≡ map (climbed l.r l.up) (take l.row-index l.initial.row-items) ++ drop l.row-index l.initial.row-items
