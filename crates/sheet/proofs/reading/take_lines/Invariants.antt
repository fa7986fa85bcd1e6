use Rattle.std.proofs.Common.{◌≡◌, ◌+◌, take, drop}
use Rattle.sheet.specs.Sheet.{count_lines, entries_of, TookEntries}
use Rattle.sheet.proofs.reading.take_lines.Given as goal

abbrev pub invariant-loop-i : goal.invariant-loop-i
invariant-loop-i g l =
    (count_lines (l.i + 1) (drop l.i l.lines) (g.C.Collector.counts l.into) ≡ count_lines 1 l.lines (g.C.Collector.counts l.initial.into))
    × TookEntries g.C.Collector.grows (entries_of (take l.i l.lines)) l.initial.into l.into
