use Rattle.terms.proofs.Bits.{none_chains, none_on, none_flagged}
use Rattle.terms.proofs.terms.Terms.clear.Goals as goal

pub invariant_of-self-clause-chains : goal.invariant_of-self-clause-chains
invariant_of-self-clause-chains c = none_chains

pub invariant_of-self-clause-on_roles : goal.invariant_of-self-clause-on_roles
invariant_of-self-clause-on_roles c = none_on 0

pub invariant_of-self-clause-flagged : goal.invariant_of-self-clause-flagged
invariant_of-self-clause-flagged c = none_flagged 0
