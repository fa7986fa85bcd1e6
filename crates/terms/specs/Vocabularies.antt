-- What a vocabulary is: concepts, inclusions between them, and roles with an order, some of them transitive.
use Rattle.std.specs.Prelude.{◌≡◌, ℕ, ◌<◌, ◌≤◌, Bool, true, false, ◌&&◌, List, length, nat_lt, slice_index_or}
use mathlib.Core.List.{Memᴰ}
use Rattle.terms.specs.declared.records.Concept.{Concept}
use Rattle.terms.specs.declared.records.Concept.TheVariants.{Atomic, Top, Conjunction, Restriction}
use Rattle.terms.specs.declared.records.Inclusion.{Inclusion}

-- concepts and inclusions by their numbers, how many roles there are, r ≤ s, and which roles are transitive
pub record Vocabulary : Type 0 where
  pub concepts : List Concept
  pub inclusions : List Inclusion
  pub roles : ℕ
  pub below : ℕ → ℕ → Bool
  pub transitive : ℕ → Bool

-- concept number c, or an atomic one beyond the last
abbrev pub concept : Vocabulary → ℕ → Concept
concept v c = slice_index_or v.concepts c Atomic

-- concept number c is the concept k
abbrev pub Is : Vocabulary → ℕ → Concept → Type 0
Is v c k = (c < length v.concepts) × (concept v c ≡ k)

-- the concept counts in start facts, listings and questions
abbrev pub Named : Vocabulary → ℕ → Type 0
Named v c = Is v c Atomic

-- the concept is an atomic one
abbrev pub is_atomic : Concept → Bool
is_atomic Atomic = true
is_atomic Top = false
is_atomic (Conjunction d e) = false
is_atomic (Restriction r d) = false

-- the test of Named
abbrev pub is_named : Vocabulary → ℕ → Bool
is_named v c = nat_lt c (length v.concepts) && is_atomic (slice_index_or v.concepts c Top)

-- an inclusion names concepts below n
abbrev pub NamesBelow : ℕ → Inclusion → Type 0
NamesBelow n i = (i.sub < n) × (i.sup < n)

-- what all vocabularies keep: operands are earlier, inclusions name concepts, role numbers name roles; the order is reflexive and
-- transitive, and of roles only, as is the mark of the transitive ones; at most 1,024 concepts, 4,096 inclusions and 32 roles
pub record WellFormed (v : Vocabulary) : Type 0 where
  pub both : (c d e : ℕ) → Is v c (Conjunction d e) → (d < c) × (e < c)
  pub some : (c r d : ℕ) → Is v c (Restriction r d) → (r < v.roles) × (d < c)
  pub stated : (i : Inclusion) → Memᴰ i v.inclusions → NamesBelow (length v.concepts) i
  pub few_concepts : length v.concepts ≤ 1024
  pub few_inclusions : length v.inclusions ≤ 4096
  pub few_roles : v.roles ≤ 32
  pub reflexive : (r : ℕ) → r < v.roles → v.below r r ≡ true
  pub chains : (r s t : ℕ) → v.below r s ≡ true → v.below s t ≡ true → v.below r t ≡ true
  pub on_roles : (r s : ℕ) → v.below r s ≡ true → (r < v.roles) × (s < v.roles)
  pub flagged : (r : ℕ) → v.transitive r ≡ true → r < v.roles
