use Rattle.std.proofs.Common.{◌≡◌, drop}
use Rattle.sheet.specs.Field.{scan, field_of}
use Rattle.sheet.proofs.field.field.Given as goal

abbrev pub invariant-loop-c : goal.invariant-loop-c
invariant-loop-c l = scan l.value (drop l.c-index l.columns) ≡ field_of l.columns
