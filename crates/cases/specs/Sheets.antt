-- Vocabularies as the worked cases give them: sheets, line by line.
use Rattle.std.specs.Prelude.{ℕ, ◌-◌, List, [], ◌∷◌, ◌++◌, length, replicate, codes, Result}
use Rattle.std.specs.List.{flat_map}
use Prim.Native.String.{String}
use Rattle.terms.specs.Contents.{Contents}
use Rattle.terms.specs.Counting.{room_for}
use Rattle.sheet.specs.declared.fault.Fault.{Fault}
use Rattle.sheet.specs.Sheet.{sheet_of, contents_in}

-- a line of a sheet: spaces fill it to column 19, and a line feed ends it
abbrev pub line_text : String → List ℕ
line_text l = codes l ++ (replicate (19 - length (codes l)) 32 ++ (10 ∷ []))

-- the text of a sheet
abbrev pub text : List String → List ℕ
text ls = flat_map line_text ls

-- how many lines are read, or the first fault, with all the room that there can be
abbrev pub reading : List String → Result ℕ Fault
reading ls = sheet_of (room_for 1024 4096) (text ls)

-- what a sheet states
abbrev pub stated : List String → Contents
stated ls = contents_in (text ls)
