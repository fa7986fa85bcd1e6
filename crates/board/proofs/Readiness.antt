-- A board that was just made goes with the terms and has room.
use Rattle.std.proofs.Common.{ℕ, arith}
use Rattle.grades.specs.Kinds.{Kind}
use Rattle.piles.specs.Shapes.{Shape}
use Rattle.piles.proofs.Acts.{became_size}
use Rattle.terms.specs.Vocabularies.{Vocabulary}
use Rattle.saturation.specs.Boards.{Moment}
use Rattle.saturation.specs.Effects.{Made}
use Rattle.board.specs.Rejections.{Ready, InOrder}

-- a board that was just made is ready
pub made_ready : {Y : Type 0} {v : Vocabulary} {k : Kind} {S : Shape Y} {words : ℕ} {p : Y} {m : Moment Y} → InOrder v k words (S.numbers p) → Made v k S p m → Ready v S m
made_ready {S = S} o M = record { goes = M.goes; wide = omega (arith, M.goes.concepts, o.wide, became_size S M.puts.became) }
