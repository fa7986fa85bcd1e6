-- The written form of entries, in the format's own words, and the laws of reading: what is read is exactly what is written so.
use Rattle.std.specs.Prelude.{◌≡◌, ℕ, ◌≤◌, ◌↔◌, List, [], ◌∷◌, ◌++◌, length, Some, None, Ok, Result}
use Rattle.std.specs.List.{flat_map, AllByRecursion}
use Rattle.terms.specs.declared.records.Concept.TheVariants as concept
use Rattle.terms.specs.declared.entry.Entry.{Entry}
use Rattle.terms.specs.declared.entry.Entry.TheVariants as entry
use Rattle.terms.specs.declared.tally.Room.{Room}
use Rattle.terms.specs.Counting.{AllAllowed, none_of}
use Rattle.terms.specs.Statements.{Says}
use Rattle.terms.specs.Vocabularies.{Vocabulary}
use Rattle.sheet.specs.declared.fault.LineFault.{LineFault}
use Rattle.sheet.specs.Columns.{blank, six_columns}
use Rattle.sheet.specs.Field.{Read}

-- ---- the written form

-- the letter of an entry, one of A, T, N, E, R, I, P and S, by its code
abbrev pub letter_of : Entry → ℕ
letter_of (entry.Concept concept.Atomic) = 65
letter_of (entry.Concept concept.Top) = 84
letter_of (entry.Concept (concept.Conjunction c d)) = 78
letter_of (entry.Concept (concept.Restriction r c)) = 69
letter_of entry.Role = 82
letter_of (entry.Order r s) = 73
letter_of (entry.Transitive r) = 80
letter_of (entry.Inclusion i) = 83

-- the numbers of an entry, from left to right
abbrev pub numbers_in : Entry → List ℕ
numbers_in (entry.Concept concept.Atomic) = []
numbers_in (entry.Concept concept.Top) = []
numbers_in (entry.Concept (concept.Conjunction c d)) = c ∷ d ∷ []
numbers_in (entry.Concept (concept.Restriction r c)) = r ∷ c ∷ []
numbers_in entry.Role = []
numbers_in (entry.Order r s) = r ∷ s ∷ []
numbers_in (entry.Transitive r) = r ∷ []
numbers_in (entry.Inclusion i) = i.sub ∷ i.sup ∷ i.code ∷ []

-- the three fields for a list of numbers: a number in each, and blank ones where the numbers have ended
abbrev pub fields_for : List ℕ → List ℕ
fields_for [] = blank ++ (blank ++ blank)
fields_for (a ∷ []) = six_columns a ++ (blank ++ blank)
fields_for (a ∷ b ∷ []) = six_columns a ++ (six_columns b ++ blank)
fields_for (a ∷ b ∷ c ∷ ns) = six_columns a ++ (six_columns b ++ six_columns c)

-- a line: the letter, three fields, a line feed
abbrev pub written : Entry → List ℕ
written e = letter_of e ∷ (fields_for (numbers_in e) ++ (10 ∷ []))

-- a text: line after line
abbrev pub written_all : List Entry → List ℕ
written_all es = flat_map written es

-- no number of a list is above 65,535
abbrev pub AllSmall : List ℕ → Type 0
AllSmall ns = AllByRecursion (λ n. n ≤ 65535) ns

-- no number of an entry is above 65,535
abbrev pub Small : Entry → Type 0
Small e = AllSmall (numbers_in e)

-- no number of any entry is above 65,535
abbrev pub EachSmall : List Entry → Type 0
EachSmall es = AllByRecursion Small es

-- a text is the written form of entries that may each come where they stand
pub record Writes (m : Room) (text : List ℕ) (es : List Entry) : Type 0 where
  pub form : text ≡ written_all es
  pub small : EachSmall es
  pub allowed : AllAllowed (none_of m) es

-- ---- the laws

-- six columns stand for a number exactly where they are that number right-justified, and for nothing exactly where they are blank
pub record FieldLaw (cs : List ℕ) (r : Read) : Type 0 where
  pub number : (n : ℕ) → length cs ≡ 6 → ((r ≡ Ok (Some n)) ↔ ((cs ≡ six_columns n) × (n ≤ 65535)))
  pub nothing : length cs ≡ 6 → ((r ≡ Ok None) ↔ (cs ≡ blank))

-- twenty columns state an entry exactly where they are its written form
abbrev pub LineLaw : List ℕ → Result Entry LineFault → Type 0
LineLaw l r = (e : Entry) → ((r ≡ Ok e) ↔ ((l ≡ written e) × Small e))

-- a text of n lines is the written form of entries, of just these, and the vocabulary is the one that they state
pub record ReadAs (m : Room) (text : List ℕ) (n : ℕ) (v : Vocabulary) : Type 0 where
  pub entries : List Entry
  pub writes : Writes m text entries
  pub lines : n ≡ length entries
  pub says : Says entries v
  pub only : (es : List Entry) → Writes m text es → es ≡ entries

-- a text is the written form of no entries that may come where they stand
abbrev pub ReadAsNone : Room → List ℕ → Type 0
ReadAsNone m text = (es : List Entry) → Writes m text es → ⊥
