-- What filling makes of terms and of the lists that they are lent.
use Rattle.std.specs.Prelude.{◌≡◌, List, ◌++◌, length, drop}
use Rattle.terms.specs.declared.entry.Entry.{Entry}
use Rattle.terms.specs.declared.tally.Room.{Room}
use Rattle.terms.specs.declared.tally.Tally.{Tally}
use Rattle.terms.specs.declared.terms.Terms.{Terms}
use Rattle.terms.specs.Counting.{room_for}
use Rattle.terms.specs.Entries.{with_entry}
use Rattle.terms.specs.Views.{contents_of}

-- how many concepts and inclusions the lists of the terms and the limits allow
abbrev pub room_of : Terms → Room
room_of t = room_for (length t.concepts.now) (length t.inclusions.now)

-- how many entries the terms hold, and how many they may
abbrev pub tally_of : Terms → Tally
tally_of t = record {
  concepts = t.concept_count;
  roles = t.role_count;
  inclusions = t.inclusion_count;
  room = room_of t;
}

-- a list written over the front of another
abbrev pub onto : {A : Type 0} → List A → List A → List A
onto xs ys = xs ++ drop (length xs) ys

-- the terms u have the lists of the terms t, with what u holds written over the fronts
pub record WrittenOver (t u : Terms) : Type 0 where
  pub same_concepts : u.concepts.ghost_name ≡ t.concepts.ghost_name
  pub same_inclusions : u.inclusions.ghost_name ≡ t.inclusions.ghost_name
  pub long_concepts : length u.concepts.now ≡ length t.concepts.now
  pub long_inclusions : length u.inclusions.now ≡ length t.inclusions.now
  pub concepts : u.concepts.now ≡ onto (contents_of u).concepts t.concepts.now
  pub inclusions : u.inclusions.now ≡ onto (contents_of u).inclusions t.inclusions.now

-- the terms u are the terms t with one entry more
abbrev pub Added : Entry → Terms → Terms → Type 0
Added e t u = (contents_of u ≡ with_entry e (contents_of t)) × WrittenOver t u
