use Rattle.std.proofs.Common.{◌-◌, rules, length, subst, sym}
use Rattle.std.specs.Io.KnownBytes.{Consumes}
use Rattle.std.proofs.KnownBytes.{Consumes-trans}
use Rattle.console.proofs.Filling.{take_filled}
use Rattle.console.proofs.fill.Goals as goal

pub loop-filled-preserved : goal.loop-filled-preserved
loop-filled-preserved g c =
    let f = c.loop-filled.filled in
    let xs = c.loop-filled.buffer in
    record {
      bound = search rules;
      bytes = subst (Consumes _ _) (sym (take_filled f c.in_ok-got.got (length xs - f) xs c.read.new.buf c.loop-filled.invariant.bound c.in_ok-got.ensures.bound.0))
          (Consumes-trans _ _ _ _ _ c.loop-filled.invariant.bytes c.in_ok-got.ensures.bytes.0);
    }
