use Rattle.terms.proofs.Bits.{none_chains, none_on, none_flagged}
use Rattle.terms.proofs.terms.Terms.empty.Goals as goal

pub invariant_of-result-clause-chains : goal.invariant_of-result-clause-chains
invariant_of-result-clause-chains c = none_chains

pub invariant_of-result-clause-on_roles : goal.invariant_of-result-clause-on_roles
invariant_of-result-clause-on_roles c = none_on 0

pub invariant_of-result-clause-flagged : goal.invariant_of-result-clause-flagged
invariant_of-result-clause-flagged c = none_flagged 0
