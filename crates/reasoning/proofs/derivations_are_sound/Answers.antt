use Rattle.reasoning.proofs.Sound.{sound}
use Rattle.reasoning.proofs.derivations_are_sound.Goals as goal

pub returns : goal.returns
returns c = sound
