use Rattle.std.proofs.Common.{ℕ, Bool, sym, arith}
use Rattle.board.specs.Asking.{wanted}
use Rattle.board.proofs.Picking.{room_for_one, written_more, written_none}
use Rattle.board.proofs.board.asking.Asked.write_wanted.Goals as goal
use Rattle.board.proofs.board.asking.Asked.write_wanted.Goals.{then-is_wanted, else-is_wanted}

pub bounds-list-filled : goal.bounds-list-filled
bounds-list-filled g c =
    let f : ℕ → Bool = wanted g.K.GradeKind.kind c.args.self.now in
    let room = room_for_one f c.loop-b.b c.args.self.now.board.now.counts.concepts c.loop-b-test.true (sym c.if-is_wanted.ensures) in
    omega arith

pub loop-b-preserved : goal.loop-b-preserved
loop-b-preserved g c =
    let f : ℕ → Bool = wanted g.K.GradeKind.kind c.args.self.now in
    let n = c.args.self.now.board.now.counts.concepts in
    let l = c.loop-b in
    elim c.if-is_wanted.branch [
      | then-is_wanted w ↦ rw (w.list-is, w.filled-is) (written_more f l.b n l.filled c.args.list.now l.list l.invariant c.loop-b-test.true c.requires (sym w.if-is_wanted.ensures))
      | else-is_wanted w ↦ rw (w.list-is, w.filled-is) (written_none f l.b l.filled c.args.list.now l.list l.invariant (sym w.if-is_wanted.ensures))
    ]
