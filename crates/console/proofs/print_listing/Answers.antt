use Rattle.std.proofs.Common.{take}
use Rattle.console.specs.Printing.{Printed}
use Rattle.console.proofs.Filling.{printing}
use Rattle.console.proofs.print_listing.Goals as goal

pub returns-in-Ok : goal.returns-in-Ok
returns-in-Ok g c =
    let text = c.in_ok-text.ensures in
    printing c.write_all.result _ _ _ _ c.in_ok-text.text.now (take c.in-Ok.size c.list.new.page) text.bound text.bytes text.end (Printed.listing c.in-Ok.ensures.told) c.write_all.ensures.bytes

pub returns-in-Err : goal.returns-in-Err
returns-in-Err g c =
    let text = c.in_ok-text.ensures in
    printing c.write_all-in-Err.result _ _ _ _ c.in_ok-text.text.now _ text.bound text.bytes text.end (Printed.trouble c.in-Err.ensures.told) (rw (← c.line.ensures) c.write_all-in-Err.ensures.bytes)
