-- What a sheet says, line by line.
use Rattle.std.specs.Prelude.{◌≡◌, ℕ, ◌+◌, ◌/◌, ◌%◌, cond, List, [], ◌∷◌, length, Ok, Err, Result, ◌==◌}
use Rattle.std.specs.List.{flat_map}
use Rattle.std.specs.Simd.{first_chunks}
use Rattle.terms.specs.declared.entry.Entry.{Entry}
use Rattle.terms.specs.declared.tally.Room.{Room}
use Rattle.terms.specs.declared.tally.Tally.{Tally}
use Rattle.terms.specs.Contents.{Contents, nothing}
use Rattle.terms.specs.Counting.{verdict_of, counted, none_of}
use Rattle.terms.specs.Entries.{with_entries}
use Rattle.sheet.specs.declared.fault.Fault.{Fault}
use Rattle.sheet.specs.declared.fault.LineFault.{LineFault}
use Rattle.sheet.specs.Faults.{and_then, raised, placed, in_sheet, blamed, unfinished}
use Rattle.sheet.specs.Line.{line_of}

-- the whole lines of a text
abbrev pub lines_in : List ℕ → List (List ℕ)
lines_in text = first_chunks 20 (length text / 20) text

-- the entry that the line k states, or its fault
abbrev pub entry_at : ℕ → List ℕ → Result Entry Fault
entry_at k l = raised in_sheet (placed k (line_of l))

-- whether the entry of the line k may come next, or its fault
abbrev pub allowed_at : ℕ → Tally → Entry → Result (Unit {0}) Fault
allowed_at k t e = raised blamed (placed k (verdict_of t e))

-- the counts after the line k, or its fault
abbrev pub line_step : ℕ → List ℕ → Tally → Result Tally Fault
line_step k l t = and_then (entry_at k l) (λ e. and_then (allowed_at k t e) (λ _. Ok (counted e t)))

-- the counts after the lines from k on, or the first fault met
abbrev pub count_lines : ℕ → List (List ℕ) → Tally → Result Tally Fault
count_lines k [] t = Ok t
count_lines k (l ∷ ls) t = and_then (line_step k l t) (λ u. count_lines (k + 1) ls u)

-- how many lines a text has, or the first fault met
abbrev pub sheet_of : Room → List ℕ → Result ℕ Fault
sheet_of m text =
    cond (length text % 20 == 0)
    (and_then (count_lines 1 (lines_in text) (none_of m)) (λ _. Ok (length text / 20)))
    (Err (unfinished (length text / 20 + 1)))

-- what a line states: one entry, or none if it is faulty
abbrev pub stated_by : Result Entry LineFault → List Entry
stated_by (Ok e) = e ∷ []
stated_by (Err x) = []

-- the entries that lines state
abbrev pub entries_of : List (List ℕ) → List Entry
entries_of ls = flat_map (λ l. stated_by (line_of l)) ls

-- the contents that a text of faultless lines states
abbrev pub contents_in : List ℕ → Contents
contents_in text = with_entries (entries_of (lines_in text)) nothing

-- s becomes t by taking the entry that the line k states
pub record TookLine {S : Type 0} (counts : S → Tally) (grows : Entry → S → S → Type 0) (k : ℕ) (l : List ℕ) (s t : S) : Type 0 where
  pub entry : Entry
  pub states : line_of l ≡ Ok entry
  pub taken : grows entry s t
  pub counts_on : line_step k l (counts s) ≡ Ok (counts t)

-- s becomes t by taking entries one after another
pub data TookEntries {S : Type 0} (grows : Entry → S → S → Type 0) : List Entry → S → S → Type 0 where
  none : {s : S} → TookEntries grows [] s s
  more : {e : Entry} {es : List Entry} {s t u : S} → grows e s t → TookEntries grows es t u → TookEntries grows (e ∷ es) s u

-- s becomes t by taking the entry that each line states
pub record TookLines {S : Type 0} (counts : S → Tally) (grows : Entry → S → S → Type 0) (ls : List (List ℕ)) (s t : S) : Type 0 where
  pub taken : TookEntries grows (entries_of ls) s t
  pub counts_on : count_lines 1 ls (counts s) ≡ Ok (counts t)
