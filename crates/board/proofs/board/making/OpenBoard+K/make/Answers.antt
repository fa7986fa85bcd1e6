use Rattle.std.proofs.Common.{length, refl, ap, arith}
use Rattle.board.specs.Calls.{MadeBy}
use Rattle.board.proofs.Lists.{list_same, list_then, lies_then}
use Rattle.board.proofs.Beginning.{begun_none, begun_more, begun_all}
use Rattle.board.proofs.board.making.OpenBoard+K.make.Goals as goal

pub returns-in-Err-clause-made : goal.returns-in-Err-clause-made
returns-in-Err-clause-made g c = MadeBy.rejected (record { reason = c.in-Err.ensures; bare = record { concepts = refl; roles = refl; steps = refl }; pile = refl; words_kept = refl })

pub loop-a-init : goal.loop-a-init
loop-a-init g c = record { list = list_same; begun = begun_none c.in_default.ensures.wide c.blank-board.ensures.blank }

pub loop-a-preserved : goal.loop-a-preserved
loop-a-preserved g c =
    let I = c.loop-a.invariant in
    record {
      list = list_then I.list c.start.ensures.list;
      begun = begun_more I.begun (omega (arith, ap length c.concepts-a-end.ensures)) c.start.ensures.started;
    }

pub returns-clause-list : goal.returns-clause-list
returns-clause-list g c = lies_then c.blank-board.ensures.list c.loop-a.invariant.list

pub returns-clause-made : goal.returns-clause-made
returns-clause-made g c =
    MadeBy.made c.in_default.ensures (begun_all c.loop-a.invariant.begun (omega (arith, ap length c.concepts-a-end.ensures)) c.in_default.ensures.empty)
