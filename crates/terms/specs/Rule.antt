-- The rule that all terms keep, as facts of their fields.
use Rattle.std.specs.Prelude.{◌≡◌, ℕ, ◌+◌, ◌<◌, ◌≤◌, max, true, List, slice_index, slice_index_or}
use Rattle.terms.specs.declared.records.Concept.{Concept}
use Rattle.terms.specs.declared.records.Concept.TheVariants.{Atomic, Top, Conjunction, Restriction}
use Rattle.terms.specs.declared.records.Inclusion.{Inclusion}
use Rattle.terms.specs.Vocabularies.{NamesBelow}
use Rattle.terms.specs.Contents.{bit}

-- how many concepts there have to be before a concept
abbrev pub concepts_named : Concept → ℕ
concepts_named Atomic = 0
concepts_named Top = 0
concepts_named (Conjunction a b) = max (a + 1) (b + 1)
concepts_named (Restriction r a) = a + 1

-- how many roles there have to be before a concept
abbrev pub roles_named : Concept → ℕ
roles_named Atomic = 0
roles_named Top = 0
roles_named (Conjunction a b) = 0
roles_named (Restriction r a) = r + 1

-- the operands of a concept are below n, its role below roles
abbrev pub Earlier : ℕ → ℕ → Concept → Type 0
Earlier roles n c = (concepts_named c ≤ n) × (roles_named c ≤ roles)

-- so it is with each of the first n concepts of a list, at its own number
abbrev pub AllEarlier : ℕ → ℕ → List Concept → Type 0
AllEarlier roles n cs = (k : ℕ) → k < n → Earlier roles k (slice_index_or cs k Atomic)

-- what stands for an inclusion beyond the end of a list
abbrev pub blank : Inclusion
blank = record { sub = 0; sup = 0; code = 0 }

-- each of the first m inclusions of a list names concepts below n
abbrev pub AllNamed : ℕ → ℕ → List Inclusion → Type 0
AllNamed n m is = (k : ℕ) → k < m → NamesBelow n (slice_index_or is k blank)

-- row a has bit b
abbrev pub HasBit : List ℕ → ℕ → ℕ → Type 0
HasBit rows a b = bit (slice_index rows a) b ≡ true

-- the table of rows is reflexive on the numbers below n
abbrev pub Reflexive : ℕ → List ℕ → Type 0
Reflexive n rows = (a : ℕ) → a < n → HasBit rows a a

-- the table of rows is transitive
abbrev pub Transitive : List ℕ → Type 0
Transitive rows = (t : ℕ × ℕ × ℕ) → HasBit rows t.0 t.1 → HasBit rows t.1 t.2 → HasBit rows t.0 t.2

-- the table of rows relates only numbers below n
abbrev pub OnRoles : ℕ → List ℕ → Type 0
OnRoles n rows = (a b : ℕ) → HasBit rows a b → (a < n) × (b < n)

-- only bits below n are set
abbrev pub FlaggedRoles : ℕ → ℕ → Type 0
FlaggedRoles n w = (a : ℕ) → bit w a ≡ true → a < n
