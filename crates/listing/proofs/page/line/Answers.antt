use Rattle.std.proofs.Common.{◌∙◌}
use Rattle.listing.proofs.Putting.{line_is}
use Rattle.listing.proofs.page.line.Goals as goal

pub returns : goal.returns
returns c =
    rw (← c.columns.ensures, ← c.columns-2.ensures, ← c.columns-3.ensures) (line_is c.columns.result c.columns-2.result c.columns-3.result _ (c.copy_from_slice.ensures.after ∙ c.as_flattened.ensures.value) c.copy_from_slice.ensures.len)
