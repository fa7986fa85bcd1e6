use Rattle.sharing.proofs.+work.Given as goal

abbrev pub decreases-work : goal.decreases-work
decreases-work g l = l.workers
