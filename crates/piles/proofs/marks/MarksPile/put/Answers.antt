use Rattle.std.proofs.Common.{refl, arith, length-set}
use Rattle.piles.proofs.Entries.{held_with, rest_written}
use Rattle.piles.proofs.marks.MarksPile.put.Goals as goal

pub returns : goal.returns
returns c =
    let l = c.args.self.now.list.now in
    let x = c.args.x in
    record {
      set = (simp length-set, omega arith, held_with l x _ (omega arith) (λ z. omega arith));
      more = record { same = refl; kept = rest_written l x _ (omega arith) };
    }
