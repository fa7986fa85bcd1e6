-- What a log keeps of the draws.
use Rattle.std.specs.Prelude.{ℕ, ◌+◌, ◌-◌, ◌^◌, min, List, [], ◌∷◌, ◌++◌, take, drop}

-- the latest numbers drawn, the latest first, and how many were drawn in all, up to the greatest number of 64 bits
pub record Record : Type 0 where
  pub latest : List ℕ
  pub draws : ℕ

-- nothing was drawn yet
abbrev pub blank : Record
blank = record { latest = []; draws = 0 }

-- after a draw of x: x before the 63 latest, and one more drawn, as far as the count goes
abbrev pub noted : ℕ → Record → Record
noted x r = record { latest = x ∷ take 63 r.latest; draws = min (r.draws + 1) (2 ^ 64 - 1) }

-- after draws of these numbers, the latest first
abbrev pub all_noted : List ℕ → Record → Record
all_noted [] r = r
all_noted (x ∷ xs) r = noted x (all_noted xs r)

-- the first n entries of a table that is read from the place k to its end, and then from its start
abbrev pub window : ℕ → ℕ → List ℕ → List ℕ
window k n xs = take n (drop k xs ++ take k xs)
