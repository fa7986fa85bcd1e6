use Rattle.std.proofs.Common.{◌+◌, sym, refl, ◌∙◌}
use Rattle.sheet.specs.Sheet.{none}
use Rattle.sheet.proofs.Taking.{count_on, took_more}
use Rattle.sheet.proofs.reading.take_lines.Goals as goal

pub loop-i-init : goal.loop-i-init
loop-i-init g c = (refl, none)

pub loop-i-preserved : goal.loop-i-preserved
loop-i-preserved g c =
    let ls = c.args.lines.now in
    let i = c.loop-i.i in
    let f = g.C.Collector.counts in
    let h = c.in_ok-take_line.ensures in (
      sym (count_on (i + 1) ls i (f c.loop-i.into) (f c.take_line.new.into) c.loop-i-test.true h.counts_on) ∙ c.loop-i.invariant.0,
      took_more g.C.Collector.grows ls i h.entry c.args.into.now c.loop-i.into c.take_line.new.into c.loop-i-test.true h.states c.loop-i.invariant.1 h.taken,
    )
