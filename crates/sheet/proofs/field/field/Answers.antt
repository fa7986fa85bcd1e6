use Rattle.std.proofs.Common.{◌≡◌, Ok, sym, subst, arith}
use Rattle.std.proofs.lemmas.Grind.{common_steps}
use Rattle.sheet.specs.Field.{field_of}
use Rattle.sheet.specs.Written.{FieldLaw}
use Rattle.sheet.proofs.FieldsRead.{field_law}
use Rattle.sheet.proofs.field.field.Goals as goal

pub returns-in_err-value-clause-law : goal.returns-in_err-value-clause-law
returns-in_err-value-clause-law c =
    let xs = c.args.columns.now in
    let e : c.from_residual.result ≡ field_of xs = grind (arith, common_steps) in
    subst (FieldLaw xs) (sym e) (field_law xs)

pub returns-clause-law : goal.returns-clause-law
returns-clause-law c =
    let xs = c.args.columns.now in
    let e : Ok c.loop-c.value ≡ field_of xs = grind (arith, common_steps) in
    subst (FieldLaw xs) (sym e) (field_law xs)
