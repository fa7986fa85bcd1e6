-- All terms are well formed: the facts of their fields, said of the vocabulary that they are.
use Rattle.std.proofs.Common.{◌≡◌, ℕ, suc, ◌<◌, List, length, get_or, sym, ◌∙◌, subst, arith, length-take}
use mathlib.Core.List.{Memᴰ}
use Rattle.std.proofs.lemmas.List.{get_or-take}
use Rattle.terms.specs.declared.records.Concept.{Concept}
use Rattle.terms.specs.declared.records.Concept.TheVariants.{Atomic, Conjunction, Restriction}
use Rattle.terms.specs.declared.records.Inclusion.{Inclusion}
use Rattle.terms.specs.declared.terms.Terms.{Terms}
use Rattle.terms.specs.Vocabularies.{Is, NamesBelow, WellFormed}
use Rattle.terms.specs.Rule.{blank, Earlier}
use Rattle.terms.specs.Views.{terms_of}

-- a member of a list stands somewhere in it
pub place_of : {A : Type 0} (d : A) {a : A} {xs : List A} → Memᴰ a xs → (k : ℕ) × (k < length xs) × (get_or xs k d ≡ a)
place_of d (Memᴰ.head e) = (0, omega arith, sym e)
place_of d (Memᴰ.tail m) = let w = place_of d m in (suc w.0, omega arith, w.2)

module _ (t : Terms) where
  n : ℕ
  n = t.concept_count

  -- the number of a concept lies in the used front
  front : (c : ℕ) → c < length (terms_of t).concepts → c < t.concept_count
  front c h = omega (arith, length-take t.concept_count t.concepts.now)

  pub concepts_length : length (terms_of t).concepts ≡ t.concept_count
  concepts_length = omega (arith, length-take t.concept_count t.concepts.now)

  pub inclusions_length : length (terms_of t).inclusions ≡ t.inclusion_count
  inclusions_length = omega (arith, length-take t.inclusion_count t.inclusions.now)

  -- what a concept names is earlier
  earlier : (c : ℕ) (k : Concept) → Is (terms_of t) c k → Earlier t.role_count c k
  earlier c k i =
      let l = front c i.0 in
      subst (λ (q : Concept). Earlier t.role_count c q) (sym (get_or-take t.concept_count t.concepts.now c Atomic l) ∙ i.1) (t.earlier c l)

  stated : (i : Inclusion) → Memᴰ i (terms_of t).inclusions → NamesBelow t.concept_count i
  stated i m =
      let w = place_of blank m in
      let l : w.0 < t.inclusion_count = omega (arith, w.1, length-take t.inclusion_count t.inclusions.now) in
      subst (λ (q : Inclusion). NamesBelow t.concept_count q) (sym (get_or-take t.inclusion_count t.inclusions.now w.0 blank l) ∙ w.2) (t.named w.0 l)

  pub well_formed : WellFormed (terms_of t)
  well_formed =
      record {
        both = λ c d e i. let h = earlier c (Conjunction d e) i in (omega (arith, h.0), omega (arith, h.0));
        some = λ c r d i. let h = earlier c (Restriction r d) i in (omega (arith, h.1), omega (arith, h.0));
        stated = λ i m. let h = stated i m in (omega (arith, h.0, concepts_length), omega (arith, h.1, concepts_length));
        few_concepts = omega (arith, concepts_length);
        few_inclusions = omega (arith, inclusions_length);
        few_roles = t.fits.4;
        reflexive = t.reflexive;
        chains = λ r s q a b. t.chains (r, s, q) a b;
        on_roles = t.on_roles;
        flagged = t.flagged;
      }
