use Rattle.sheet.proofs.Spaced.{Digits}
use Rattle.sheet.proofs.columns.columns.Given as goal

abbrev pub invariant-loop-place : goal.invariant-loop-place
invariant-loop-place l = Digits l.n l.place l.rest l.bytes
