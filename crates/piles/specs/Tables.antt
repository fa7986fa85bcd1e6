-- A table of marks.
use Rattle.std.specs.Prelude.{ℕ, not, Option, ◌==◌, position}
use Rattle.piles.specs.declared.marks.Marks.{Marks}
use Rattle.piles.specs.Sets.{Numbers}
use Rattle.piles.specs.Lists.{own, listed, RestKept}
use Rattle.piles.specs.Shapes.{Shape}

-- what a table of marks holds
abbrev pub in_marks : Marks → Numbers
in_marks m = listed m.list.now

-- the smallest number that it holds, if there is one
abbrev pub smallest_in : Marks → Option ℕ
smallest_in m = position (λ entry. not (entry == 0)) (own m.list.now)

-- what a table of marks shows: its front is the smallest, and the list's rest stays
abbrev pub marks_shape : Shape Marks
marks_shape = record {
  numbers = in_marks;
  front = smallest_in;
  put = λ p x q. RestKept p.list q.list;
  drew = λ p x q. RestKept p.list q.list;
}
