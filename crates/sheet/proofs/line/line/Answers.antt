use Rattle.std.proofs.Common.{◌≡◌, sym, subst, arith}
use Rattle.std.proofs.lemmas.Grind.{common_steps}
use Rattle.sheet.specs.Line.{line_of}
use Rattle.sheet.specs.Written.{LineLaw}
use Rattle.sheet.proofs.LinesRead.{line_law}
use Rattle.sheet.proofs.line.line.Goals as goal

pub returns-clause-law : goal.returns-clause-law
returns-clause-law c =
    let l = c.args.columns.now in
    let e : c.stated.result ≡ line_of l = grind (arith, common_steps) in
    subst (LineLaw l) (sym e) (line_law l (omega arith))
