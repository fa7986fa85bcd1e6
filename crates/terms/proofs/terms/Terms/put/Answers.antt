use Rattle.std.proofs.Common.{◌≡◌, ◌+◌, ◌<◌, length, set, sym, refl, ap, subst, arith, rules, length-set}
use lib.Bits.{bit_or}
use Rattle.std.proofs.lemmas.List.{take_more_set}
use Rattle.std.proofs.lemmas.Nat.{one_shl}
use Rattle.terms.specs.declared.entry.Entry.TheVariants as entry
use Rattle.terms.specs.Counting.{Allowed}
use Rattle.terms.specs.Entries.{with_concepts, with_inclusions}
use Rattle.terms.specs.Lent.{tally_of}
use Rattle.terms.specs.Rule.{Reflexive, Transitive, OnRoles, FlaggedRoles}
use Rattle.terms.specs.Views.{contents_of}
use Rattle.terms.proofs.Grown.{over_more, over_itself}
use Rattle.terms.proofs.Preorder.{role_reflexive, role_transitive, role_on, flag_on}
use Rattle.terms.proofs.terms.Terms.put.Goals as goal

pub invariant_of-self-in-Role-clause-reflexive : goal.invariant_of-self-in-Role-clause-reflexive
invariant_of-self-in-Role-clause-reflexive c =
    let s = c.args.self.now in
    let n = s.role_count in
    let long : length s.order ≡ 32 = search rules in
    let few : n < 32 = rw c.in-Role.is at c.requires in
    subst (λ w. Reflexive (n + 1) (set s.order n w)) (sym (one_shl n 32 few)) (role_reflexive n s.order (omega arith) s.on_roles s.reflexive)

pub invariant_of-self-in-Role-clause-chains : goal.invariant_of-self-in-Role-clause-chains
invariant_of-self-in-Role-clause-chains c =
    let s = c.args.self.now in
    let n = s.role_count in
    let long : length s.order ≡ 32 = search rules in
    let few : n < 32 = rw c.in-Role.is at c.requires in
    subst (λ w. Transitive (set s.order n w)) (sym (one_shl n 32 few)) (role_transitive n s.order (omega arith) s.on_roles s.chains)

pub invariant_of-self-in-Role-clause-on_roles : goal.invariant_of-self-in-Role-clause-on_roles
invariant_of-self-in-Role-clause-on_roles c =
    let s = c.args.self.now in
    let n = s.role_count in
    let long : length s.order ≡ 32 = search rules in
    let few : n < 32 = rw c.in-Role.is at c.requires in
    subst (λ w. OnRoles (n + 1) (set s.order n w)) (sym (one_shl n 32 few)) (role_on n s.order (omega arith) s.on_roles)

pub invariant_of-self-in-Transitive-clause-flagged : goal.invariant_of-self-in-Transitive-clause-flagged
invariant_of-self-in-Transitive-clause-flagged c =
    let s = c.args.self.now in
    let r = c.in-Transitive.r in
    let there : r < s.role_count = rw c.in-Transitive.is at c.requires in
    subst (λ w. FlaggedRoles s.role_count (bit_or s.transitive w)) (sym (one_shl r 32 (omega arith))) (flag_on s.role_count s.transitive r there s.flagged)

pub returns-in-Concept : goal.returns-in-Concept
returns-in-Concept c =
    let s = c.args.self.now in
    let v = c.in-Concept.c in
    let allowed : Allowed (tally_of s) (entry.Concept v) = rw c.in-Concept.is at c.requires in
    let lt : s.concept_count < length s.concepts.now = omega (arith, allowed.1) in
    rw c.in-Concept.is (
      ap (with_concepts (contents_of s)) (take_more_set s.concepts.now s.concept_count v lt),
      record {
        same_concepts = refl;
        same_inclusions = refl;
        long_concepts = length-set s.concepts.now s.concept_count v;
        long_inclusions = refl;
        concepts = over_more s.concepts.now s.concept_count v lt;
        inclusions = over_itself s.inclusion_count s.inclusions.now s.fits.2;
      },
    )

pub returns-in-Inclusion : goal.returns-in-Inclusion
returns-in-Inclusion c =
    let s = c.args.self.now in
    let v = c.in-Inclusion.i in
    let allowed : Allowed (tally_of s) (entry.Inclusion v) = rw c.in-Inclusion.is at c.requires in
    let lt : s.inclusion_count < length s.inclusions.now = omega (arith, allowed.1) in
    rw c.in-Inclusion.is (
      ap (with_inclusions (contents_of s)) (take_more_set s.inclusions.now s.inclusion_count v lt),
      record {
        same_concepts = refl;
        same_inclusions = refl;
        long_concepts = refl;
        long_inclusions = length-set s.inclusions.now s.inclusion_count v;
        concepts = over_itself s.concept_count s.concepts.now s.fits.0;
        inclusions = over_more s.inclusions.now s.inclusion_count v lt;
      },
    )
