use Rattle.std.proofs.Common.{◌-◌, ◌^◌}
use Rattle.reference.proofs.rounds.saturate.Given as goal

abbrev pub decreases-loop-points : goal.decreases-loop-points
decreases-loop-points l = 2 ^ 64 - l.points
