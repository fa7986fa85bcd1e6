-- What a line says, from left to right: its letter, its fields, its line feed.
use Rattle.std.specs.Prelude.{ℕ, Bool, true, false, cond, List, take, drop, Some, None, Ok, Err, Option, Result, ◌==◌, nat_lt, slice_index}
use Rattle.rejections.specs.declared.Rejection.TheVariants.{UnknownLetter, NoLineFeed}
use Rattle.terms.specs.declared.records.Concept.TheVariants as concept
use Rattle.terms.specs.declared.entry.Entry.{Entry}
use Rattle.terms.specs.declared.entry.Entry.TheVariants as entry
use Rattle.sheet.specs.declared.fault.FieldFault.{FieldFault}
use Rattle.sheet.specs.declared.fault.LineFault.{LineFault}
use Rattle.sheet.specs.declared.kind.LineKind.{LineKind}
use Rattle.sheet.specs.declared.kind.LineKind.TheVariants as kind
use Rattle.sheet.specs.declared.line.Numbers.{Numbers}
use Rattle.sheet.specs.Faults.{and_then, raised, placed, on_line, line_fault}
use Rattle.sheet.specs.Field.{field_of}

-- the sort of a line by the code of its letter
abbrev pub kind_of : ℕ → Option LineKind
kind_of c =
    cond (c == 65) (Some kind.Atomic)
    (cond (c == 84) (Some kind.Top)
    (cond (c == 78) (Some kind.Conjunction)
    (cond (c == 69) (Some kind.Restriction)
    (cond (c == 82) (Some kind.Role)
    (cond (c == 73) (Some kind.Order)
    (cond (c == 80) (Some kind.Transitive)
    (cond (c == 83) (Some kind.Inclusion) None)))))))

-- how many fields have a number
abbrev pub count_of : LineKind → ℕ
count_of kind.Atomic = 0
count_of kind.Top = 0
count_of kind.Conjunction = 2
count_of kind.Restriction = 2
count_of kind.Role = 0
count_of kind.Order = 2
count_of kind.Transitive = 1
count_of kind.Inclusion = 3

-- a number where one is wanted, else nothing, which counts as 0
abbrev pub as_wanted : Bool → Option ℕ → Result ℕ FieldFault
as_wanted true (Some n) = Ok n
as_wanted true None = Err (record {})
as_wanted false (Some n) = Err (record {})
as_wanted false None = Ok 0

-- a field that begins at a column
abbrev pub field_at : Bool → ℕ → List ℕ → Result ℕ LineFault
field_at b column cs = raised on_line (placed column (and_then (field_of cs) (as_wanted b)))

-- three fields, and the fault of the leftmost that has one
abbrev pub three_of : Result ℕ LineFault → Result ℕ LineFault → Result ℕ LineFault → Result Numbers LineFault
three_of x y z = and_then x (λ a. and_then y (λ b. and_then z (λ c. Ok (record { first = a; second = b; third = c }))))

-- the three fields, of which the first n have a number
abbrev pub numbers_of : ℕ → List ℕ → Result Numbers LineFault
numbers_of n fs = three_of (field_at (nat_lt 0 n) 2 (take 6 fs)) (field_at (nat_lt 1 n) 8 (take 6 (drop 6 fs))) (field_at (nat_lt 2 n) 14 (take 6 (drop 12 fs)))

-- what a line of a sort states
abbrev pub entry_of : LineKind → Numbers → Entry
entry_of kind.Atomic n = entry.Concept concept.Atomic
entry_of kind.Top n = entry.Concept concept.Top
entry_of kind.Conjunction n = entry.Concept (concept.Conjunction n.first n.second)
entry_of kind.Restriction n = entry.Concept (concept.Restriction n.first n.second)
entry_of kind.Role n = entry.Role
entry_of kind.Order n = entry.Order n.first n.second
entry_of kind.Transitive n = entry.Transitive n.first
entry_of kind.Inclusion n = entry.Inclusion (record { sub = n.first; sup = n.second; code = n.third })

-- the line feed at the end
abbrev pub ended_by : ℕ → Entry → Result Entry LineFault
ended_by c e = cond (c == 10) (Ok e) (Err (line_fault NoLineFeed 20))

-- the fields and the line feed after a letter
abbrev pub kind_line : Option LineKind → List ℕ → ℕ → Result Entry LineFault
kind_line None fs c = Err (line_fault UnknownLetter 1)
kind_line (Some k) fs c = and_then (numbers_of (count_of k) fs) (λ n. ended_by c (entry_of k n))

-- a line of twenty columns: one for the letter, eighteen for the fields, one for the line feed
abbrev pub line_of : List ℕ → Result Entry LineFault
line_of l = kind_line (kind_of (slice_index l 0)) (take 18 (drop 1 l)) (slice_index l 19)
