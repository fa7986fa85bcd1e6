-- What one entry adds to the contents of terms, and what a list of entries makes of nothing.
use Rattle.std.specs.Prelude.{ℕ, ◌+◌, ◌^◌, cond, List, [], ◌∷◌, ◌++◌, map, bit_or, slice_index, slice_set}
use Rattle.terms.specs.declared.records.Concept.{Concept}
use Rattle.terms.specs.declared.records.Inclusion.{Inclusion}
use Rattle.terms.specs.declared.entry.Entry.{Entry}
use Rattle.terms.specs.declared.entry.Entry.TheVariants as entry
use Rattle.terms.specs.Contents.{Contents, bit}

-- the same contents with other concepts
abbrev pub with_concepts : Contents → List Concept → Contents
with_concepts s cs = record { concepts = cs; inclusions = s.inclusions; roles = s.roles; order = s.order; transitive = s.transitive }

-- the same contents with other inclusions
abbrev pub with_inclusions : Contents → List Inclusion → Contents
with_inclusions s is = record { concepts = s.concepts; inclusions = is; roles = s.roles; order = s.order; transitive = s.transitive }

-- the same contents with another order of the roles
abbrev pub with_order : Contents → List ℕ → Contents
with_order s rows = record { concepts = s.concepts; inclusions = s.inclusions; roles = s.roles; order = rows; transitive = s.transitive }

-- one role more, which is below itself alone
abbrev pub with_role : Contents → Contents
with_role s = record { concepts = s.concepts; inclusions = s.inclusions; roles = s.roles + 1; order = slice_set s.order s.roles (2 ^ s.roles); transitive = s.transitive }

-- a row that has the role r takes the row `up` too
abbrev pub climbed : ℕ → ℕ → ℕ → ℕ
climbed r up row = cond (bit row r) (bit_or row up) row

-- the role r becomes transitive
abbrev pub with_transitive : Contents → ℕ → Contents
with_transitive s r = record { concepts = s.concepts; inclusions = s.inclusions; roles = s.roles; order = s.order; transitive = bit_or s.transitive (2 ^ r) }

-- the contents with one entry more: a concept or an inclusion at the end of its list; in the order, what is below r is now below what is above q
abbrev pub with_entry : Entry → Contents → Contents
with_entry (entry.Concept c) s = with_concepts s (s.concepts ++ (c ∷ []))
with_entry entry.Role s = with_role s
with_entry (entry.Order r q) s = with_order s (map (climbed r (slice_index s.order q)) s.order)
with_entry (entry.Transitive r) s = with_transitive s r
with_entry (entry.Inclusion i) s = with_inclusions s (s.inclusions ++ (i ∷ []))

-- the contents with a list of entries more
abbrev pub with_entries : List Entry → Contents → Contents
with_entries [] s = s
with_entries (e ∷ es) s = with_entries es (with_entry e s)
