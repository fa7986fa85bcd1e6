-- What the columns of a field say, column by column.
use Rattle.std.specs.Prelude.{ℕ, ◌+◌, ◌-◌, ◌*◌, Bool, cond, ◌&&◌, List, [], ◌∷◌, Some, None, Ok, Err, Option, Result, ◌==◌, nat_le, nat_lt}
use Rattle.sheet.specs.Faults.{and_then}
use Rattle.sheet.specs.declared.fault.FieldFault.{FieldFault}

-- nothing or a number, or a fault
abbrev pub Read : Type 0
Read = Result (Option ℕ) FieldFault

-- the columns are no field
abbrev pub no_field : Read
no_field = Err (record {})

-- one of the characters 0 to 9
abbrev pub is_digit : ℕ → Bool
is_digit c = nat_le 48 c && nat_le c 57

-- one column more: a space or a digit after spaces, a digit after a number but 0, and never more than 65,535
abbrev pub column_of : Option ℕ → ℕ → Read
column_of None c = cond (c == 32) (Ok None) (cond (is_digit c) (Ok (Some (c - 48))) no_field)
column_of (Some n) c =
    cond (is_digit c && (nat_lt 0 n && nat_le (n * 10 + (c - 48)) 65535)) (Ok (Some (n * 10 + (c - 48)))) no_field

-- the columns from one on
abbrev pub scan : Option ℕ → List ℕ → Read
scan v [] = Ok v
scan v (c ∷ cs) = and_then (column_of v c) (λ w. scan w cs)

-- all columns of a field
abbrev pub field_of : List ℕ → Read
field_of cs = scan None cs
