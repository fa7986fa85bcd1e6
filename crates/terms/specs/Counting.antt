-- When an entry may come next, by the counts of what came before.
use Rattle.std.specs.Prelude.{ℕ, ◌+◌, ◌<◌, min, cond, List, [], ◌∷◌, Ok, Err, Result, nat_lt}
use Rattle.std.specs.Result.{result_and}
use Rattle.terms.specs.declared.records.Concept.{Concept}
use Rattle.terms.specs.declared.records.Concept.TheVariants as concept
use Rattle.terms.specs.declared.entry.Entry.{Entry}
use Rattle.terms.specs.declared.entry.Entry.TheVariants as entry
use Rattle.terms.specs.declared.entry.Blame.{Blame}
use Rattle.terms.specs.declared.entry.Blame.TheVariants as blame
use Rattle.terms.specs.declared.tally.Room.{Room}
use Rattle.terms.specs.declared.tally.Tally.{Tally}
use Rattle.terms.specs.Vocabularies.{NamesBelow}
use Rattle.terms.specs.Rule.{Earlier}

-- the room in lists of c concepts and i inclusions, within the limits
abbrev pub room_for : ℕ → ℕ → Room
room_for c i = record { concepts = min c 1024; inclusions = min i 4096 }

-- nothing is counted yet
abbrev pub none_of : Room → Tally
none_of m = record { concepts = 0; roles = 0; inclusions = 0; room = m }

-- an entry may come next: what it names is there already, and there is room for it
abbrev pub Allowed : Tally → Entry → Type 0
Allowed t (entry.Concept c) = Earlier t.roles t.concepts c × (t.concepts < t.room.concepts)
Allowed t entry.Role = t.roles < 32
Allowed t (entry.Order r s) = (r < t.roles) × (s < t.roles)
Allowed t (entry.Transitive r) = r < t.roles
Allowed t (entry.Inclusion i) = NamesBelow t.concepts i × (t.inclusions < t.room.inclusions)

-- the counts with one entry more
abbrev pub counted : Entry → Tally → Tally
counted (entry.Concept c) t = record { concepts = t.concepts + 1; roles = t.roles; inclusions = t.inclusions; room = t.room }
counted entry.Role t = record { concepts = t.concepts; roles = t.roles + 1; inclusions = t.inclusions; room = t.room }
counted (entry.Order r s) t = t
counted (entry.Transitive r) t = t
counted (entry.Inclusion i) t = record { concepts = t.concepts; roles = t.roles; inclusions = t.inclusions + 1; room = t.room }

-- each entry of a list may come where it stands
abbrev pub AllAllowed : Tally → List Entry → Type 0
AllAllowed t [] = Unit {0}
AllAllowed t (e ∷ es) = Allowed t e × AllAllowed (counted e t) es

-- ---- what is to blame where an entry may not come next: the first operand, else the second, else the room

-- Ok, or what is to blame
abbrev pub Verdict : Type 0
Verdict = Result (Unit {0}) Blame

-- n has to be below a limit
abbrev pub below : ℕ → ℕ → Blame → Verdict
below n limit b = cond (nat_lt n limit) (Ok tt) (Err b)

-- two operands, each below its count
abbrev pub paired : ℕ → ℕ → ℕ → ℕ → Verdict
paired a n b m = result_and (below a n blame.First) (below b m blame.Second)

-- the operands of a concept
abbrev pub named : Tally → Concept → Verdict
named t concept.Atomic = Ok tt
named t concept.Top = Ok tt
named t (concept.Conjunction c d) = paired c t.concepts d t.concepts
named t (concept.Restriction r c) = paired r t.roles c t.concepts

-- an entry's verdict
abbrev pub verdict_of : Tally → Entry → Verdict
verdict_of t (entry.Concept c) = result_and (named t c) (below t.concepts t.room.concepts blame.Room)
verdict_of t entry.Role = below t.roles 32 blame.Room
verdict_of t (entry.Order r s) = paired r t.roles s t.roles
verdict_of t (entry.Transitive r) = below r t.roles blame.First
verdict_of t (entry.Inclusion i) = result_and (paired i.sub t.concepts i.sup t.concepts) (below t.inclusions t.room.inclusions blame.Room)
