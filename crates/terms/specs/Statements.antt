-- The vocabulary that a list of entries states, in the entries' own words.
use Rattle.std.specs.Prelude.{◌≡◌, ℕ, ◌+◌, ◌<◌, true, ◌↔◌, List, [], ◌∷◌}
use mathlib.Core.List.{Memᴰ}
use Rattle.terms.specs.declared.records.Concept.{Concept}
use Rattle.terms.specs.declared.records.Inclusion.{Inclusion}
use Rattle.terms.specs.declared.entry.Entry.{Entry}
use Rattle.terms.specs.declared.entry.Entry.TheVariants as entry
use Rattle.terms.specs.Vocabularies.{Vocabulary}

-- the concepts, in the order of their statement
abbrev pub concepts_in : List Entry → List Concept
concepts_in [] = []
concepts_in (entry.Concept c ∷ es) = c ∷ concepts_in es
concepts_in (entry.Role ∷ es) = concepts_in es
concepts_in (entry.Order r s ∷ es) = concepts_in es
concepts_in (entry.Transitive r ∷ es) = concepts_in es
concepts_in (entry.Inclusion i ∷ es) = concepts_in es

-- the inclusions, in the order of their statement
abbrev pub inclusions_in : List Entry → List Inclusion
inclusions_in [] = []
inclusions_in (entry.Concept c ∷ es) = inclusions_in es
inclusions_in (entry.Role ∷ es) = inclusions_in es
inclusions_in (entry.Order r s ∷ es) = inclusions_in es
inclusions_in (entry.Transitive r ∷ es) = inclusions_in es
inclusions_in (entry.Inclusion i ∷ es) = i ∷ inclusions_in es

-- how many roles are stated
abbrev pub roles_in : List Entry → ℕ
roles_in [] = 0
roles_in (entry.Concept c ∷ es) = roles_in es
roles_in (entry.Role ∷ es) = roles_in es + 1
roles_in (entry.Order r s ∷ es) = roles_in es
roles_in (entry.Transitive r ∷ es) = roles_in es
roles_in (entry.Inclusion i ∷ es) = roles_in es

-- r ≤ s: the least reflexive transitive relation on the roles that has each stated pair
pub data Le (es : List Entry) : ℕ → ℕ → Type 0 where
  same : {r : ℕ} → r < roles_in es → Le es r r
  stated : {r s : ℕ} → Memᴰ (entry.Order r s) es → Le es r s
  chain : {r s t : ℕ} → Le es r s → Le es s t → Le es r t

-- the vocabulary is the one that the entries state
pub record Says (es : List Entry) (v : Vocabulary) : Type 0 where
  pub concepts : v.concepts ≡ concepts_in es
  pub inclusions : v.inclusions ≡ inclusions_in es
  pub roles : v.roles ≡ roles_in es
  pub order : (r s : ℕ) → ((v.below r s ≡ true) ↔ Le es r s)
  pub transitive : (r : ℕ) → ((v.transitive r ≡ true) ↔ Memᴰ (entry.Transitive r) es)
