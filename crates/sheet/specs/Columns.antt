-- A number in six columns.
use Rattle.std.specs.Prelude.{ℕ, ◌-◌, List, ◌++◌, length, replicate, decimal}

-- six spaces
abbrev pub blank : List ℕ
blank = replicate 6 32

-- a number right-justified in six columns: its decimal digits after spaces
unfoldable pub six_columns : ℕ → List ℕ
six_columns n = replicate (6 - length (decimal n)) 32 ++ decimal n
