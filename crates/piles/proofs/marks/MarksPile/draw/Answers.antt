use Rattle.std.proofs.Common.{◌≡◌, ◌<◌, true, refl, sym, subst, arith, length-set}
use Rattle.piles.specs.Shapes.{DrewBy}
use Rattle.piles.specs.Lists.{room, held}
use Rattle.piles.specs.Tables.{marks_shape}
use Rattle.piles.proofs.Entries.{held_without, first_some, first_none, rest_written}
use Rattle.piles.proofs.marks.MarksPile.draw.Goals as goal
use Rattle.piles.proofs.marks.MarksPile.draw.Goals.{In_ok-first}

-- what is known of the number drawn
first : (c : In_ok-first) → (c.in_ok-first.first < room c.args.self.now.list.now) × (held c.args.self.now.list.now c.in_ok-first.first ≡ true)
first c = first_some c.args.self.now.list.now c.in_ok-first.first (sym c.in_ok-first.ensures)

pub returns-in_err-first : goal.returns-in_err-first
returns-in_err-first c =
    let m = c.args.self.now in
    subst (DrewBy marks_shape m m) (sym c.from_residual.ensures) (sym c.in_err-first.ensures, first_none m.list.now (sym c.in_err-first.ensures), refl)

pub offset_bounds-self-first : goal.offset_bounds-self-first
offset_bounds-self-first c = omega (arith, (first c).0)

pub bounds-self-first : goal.bounds-self-first
bounds-self-first c = omega (arith, (first c).0)

pub overflow_cast-result : goal.overflow_cast-result
overflow_cast-result c = omega (arith, (first c).0)

pub returns : goal.returns
returns c =
    let l = c.args.self.now.list.now in
    record {
      front = sym c.in_ok-first.ensures;
      set = (simp length-set refl, (first c).1, held_without l c.in_ok-first.first (first c).0);
      more = record { same = refl; kept = rest_written l c.in_ok-first.first 0 (omega (arith, (first c).0)) };
    }
