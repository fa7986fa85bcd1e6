-- The kind of what holds from one release on.
use Rattle.std.specs.Prelude.{min, max, ◌&&◌, nat_le, nat_lt}
use Rattle.grades.specs.Kinds.{Kind}

-- code e holds the points p with e ≤ p < 64
abbrev pub releases : Kind
releases = record {
  points = 64;
  codes = 65;
  all = 0;
  none = 64;
  holds = λ e p. nat_le e p && nat_lt p 64;
  join = λ a b. min (min a b) 64;
  meet = λ a b. min (max a b) 64;
}
