use Rattle.std.proofs.Common.{sym, ap, ◌∙◌, eqb, arith}
use Rattle.std.proofs.lemmas.Bool.{le-ltb}
use Rattle.std.proofs.lemmas.Nat.Bits.{bit_at_above}
use Rattle.terms.proofs.words.has_bit.Goals as goal

pub returns-else-k-lt32 : goal.returns-else-k-lt32
returns-else-k-lt32 c = le-ltb c.args.k 32 c.if-k-lt32.false ∙ sym (ap (λ n. eqb n 1) (bit_at_above c.args.word 32 c.args.k (omega arith) c.if-k-lt32.false))
