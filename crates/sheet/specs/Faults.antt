-- What each layer makes of a fault of the layer below, and how a reading goes on where there is none.
use Rattle.std.specs.Prelude.{ℕ, Ok, Err, Result}
use Rattle.std.specs.Result.{result_map_both}
use Rattle.rejections.specs.declared.Rejection.{Rejection}
use Rattle.rejections.specs.declared.Rejection.TheVariants.{UnfinishedLine, UnknownLetter, BadField, NoLineFeed, UnknownName, BeyondLimit}
use Rattle.terms.specs.declared.entry.Blame.{Blame}
use Rattle.terms.specs.declared.entry.Blame.TheVariants as blame
use Rattle.sheet.specs.declared.fault.FieldFault.{FieldFault}
use Rattle.sheet.specs.declared.fault.Fault.{Fault}
use Rattle.sheet.specs.declared.fault.Layer.{Layer}
use Rattle.sheet.specs.declared.fault.Layer.TheVariants.{Field, Line, Sheet}
use Rattle.sheet.specs.declared.fault.LineFault.{LineFault}
use Rattle.sheet.specs.declared.fault.Located.{Located}

-- one reading after another, up to the first error
abbrev pub and_then : {A B E : Type 0} → Result A E → (A → Result B E) → Result B E
and_then (Ok a) f = f a
and_then (Err e) f = Err e

-- an error in the terms of the layer above
abbrev pub raised : {A E F : Type 0} → (E → F) → Result A E → Result A F
raised f r = result_map_both (λ a. a) f r

-- an error with its place
abbrev pub placed : {A E : Type 0} → ℕ → Result A E → Result A (Located E)
placed n r = raised (λ e. record { error = e; place = n }) r

-- the layer of a fault by its rejection, which in a fault is one of the first six (of the others this says nothing)
abbrev pub layer_of : Rejection → Layer
layer_of UnfinishedLine = Sheet
layer_of UnknownLetter = Line
layer_of BadField = Field
layer_of NoLineFeed = Line
layer_of UnknownName = Field
layer_of BeyondLimit = Sheet
layer_of _ = Sheet

-- a fault of the line itself
abbrev pub line_fault : Rejection → ℕ → LineFault
line_fault r c = record { layer = layer_of r; rejection = r; column = c }

-- a field that is not as it must be, at its first column
abbrev pub on_line : Located FieldFault → LineFault
on_line f = record { layer = layer_of BadField; rejection = BadField; column = f.place }

-- a line's fault, at the line's number
abbrev pub in_sheet : Located LineFault → Fault
in_sheet f = record { layer = f.error.layer; rejection = f.error.rejection; line = f.place; column = f.error.column }

-- a field of the line k names nothing earlier
abbrev pub unknown_name : ℕ → ℕ → Fault
unknown_name k c = record { layer = layer_of UnknownName; rejection = UnknownName; line = k; column = c }

-- the line k goes beyond a limit or a list
abbrev pub beyond_limit : ℕ → Fault
beyond_limit k = record { layer = layer_of BeyondLimit; rejection = BeyondLimit; line = k; column = 1 }

-- the text ends within the line k
abbrev pub unfinished : ℕ → Fault
unfinished k = record { layer = layer_of UnfinishedLine; rejection = UnfinishedLine; line = k; column = 1 }

-- what is to blame for an entry that may not come next, at its line's number
abbrev pub blame_at : Blame → ℕ → Fault
blame_at blame.First k = unknown_name k 2
blame_at blame.Second k = unknown_name k 8
blame_at blame.Room k = beyond_limit k

-- the same of a place that a result was given
abbrev pub blamed : Located Blame → Fault
blamed f = blame_at f.error f.place
