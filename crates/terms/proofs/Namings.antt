-- The test of named concepts.
use Rattle.std.proofs.Common.{◌≡◌, ℕ, ◌<◌, true, false, ltb, length, get_or, sym, refl, ap, ◌∙◌}
use Rattle.std.proofs.lemmas.List.{get_or_default}
use Rattle.std.proofs.lemmas.Bool.{and_parts, and_from, both_ways, ltb-true, lt-ltb}
use Rattle.terms.specs.declared.records.Concept.{Concept}
use Rattle.terms.specs.declared.records.Concept.TheVariants.{Atomic, Top, Conjunction, Restriction}
use Rattle.terms.specs.Vocabularies.{Vocabulary, Named, is_atomic, is_named}

atomic_is : (c : Concept) → is_atomic c ≡ true → c ≡ Atomic
atomic_is Atomic e = refl
atomic_is Top e = absurd (both_ways false refl e)
atomic_is (Conjunction d f) e = absurd (both_ways false refl e)
atomic_is (Restriction r d) e = absurd (both_ways false refl e)

-- within the list the default does not matter
any_default : (v : Vocabulary) (c : ℕ) → c < length v.concepts → get_or v.concepts c Top ≡ get_or v.concepts c Atomic
any_default v c l = get_or_default v.concepts c Top Atomic l

pub named_is : (v : Vocabulary) (c : ℕ) → is_named v c ≡ true → Named v c
named_is v c e =
    let t = and_parts (ltb c (length v.concepts)) (is_atomic (get_or v.concepts c Top)) e in
    let l = ltb-true c (length v.concepts) t.0 in
    (l, sym (any_default v c l) ∙ atomic_is (get_or v.concepts c Top) t.1)

pub is_named_lem : (v : Vocabulary) (c : ℕ) → Named v c → is_named v c ≡ true
is_named_lem v c i = and_from (ltb c (length v.concepts)) (is_atomic (get_or v.concepts c Top)) (lt-ltb c (length v.concepts) i.0) (ap is_atomic (any_default v c i.0 ∙ i.1))
