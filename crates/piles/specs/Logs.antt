-- What a log shows over a pile.
use Rattle.std.specs.Prelude.{◌≡◌, ℕ, List, [], ◌∷◌}
use Rattle.piles.specs.declared.log.Log.{Log}
use Rattle.piles.specs.Shapes.{Shape, Act, put, drew}
use Rattle.piles.specs.Records.{Record, noted}

-- the pile below a log
abbrev pub pile_of : {Y : Type 0} → Log Y → Y
pile_of l = l.pile

-- what a log has noted
abbrev pub record_of : {Y : Type 0} → Log Y → Record
record_of l = l.kept

-- all that the pile below shows; besides, a put leaves the record, and a draw is noted in it
abbrev pub logged : {Y : Type 0} → Shape Y → Shape (Log Y)
logged S = record {
  numbers = λ l. S.numbers (pile_of l);
  front = λ l. S.front (pile_of l);
  put = λ l x m. S.put (pile_of l) x (pile_of m) × (record_of m ≡ record_of l);
  drew = λ l x m. S.drew (pile_of l) x (pile_of m) × (record_of m ≡ noted x (record_of l));
}

-- the numbers drawn among these puts and draws, the latest first
abbrev pub drawn_in_acts : List Act → List ℕ
drawn_in_acts [] = []
drawn_in_acts (put x ∷ es) = drawn_in_acts es
drawn_in_acts (drew x ∷ es) = x ∷ drawn_in_acts es
