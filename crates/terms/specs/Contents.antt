-- What terms hold: their lists, and the roles' order and transitivity as rows of bits.
use Rattle.std.specs.Prelude.{ℕ, Bool, List, [], replicate, ◌==◌, slice_index}
use Rattle.std.specs.Int.{bit_at}
use Rattle.terms.specs.declared.records.Concept.{Concept}
use Rattle.terms.specs.declared.records.Inclusion.{Inclusion}
use Rattle.terms.specs.Vocabularies.{Vocabulary}

-- row r of the order has bit s where r ≤ s, and `transitive` has bit r where r is transitive
pub record Contents : Type 0 where
  pub concepts : List Concept
  pub inclusions : List Inclusion
  pub roles : ℕ
  pub order : List ℕ
  pub transitive : ℕ

-- the contents of terms that nothing was read into
abbrev pub nothing : Contents
nothing = record { concepts = []; inclusions = []; roles = 0; order = replicate 32 0; transitive = 0 }

-- whether bit k of a word is set
abbrev pub bit : ℕ → ℕ → Bool
bit w k = bit_at w k == 1

-- the vocabulary that the contents say
abbrev pub vocabulary_of : Contents → Vocabulary
vocabulary_of s = record { concepts = s.concepts; inclusions = s.inclusions; roles = s.roles; below = λ r q. bit (slice_index s.order r) q; transitive = λ r. bit s.transitive r }
