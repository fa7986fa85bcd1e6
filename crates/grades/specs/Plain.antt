-- The kind with one point.
use Rattle.std.specs.Prelude.{cond, ◌&&◌, ◌||◌, ◌==◌}
use Rattle.grades.specs.Kinds.{Kind}

-- code 1 holds the point 0, and nothing else holds anything
abbrev pub plain : Kind
plain = record {
  points = 1;
  codes = 2;
  all = 1;
  none = 0;
  holds = λ a p. (a == 1) && (p == 0);
  join = λ a b. cond (a == 1 || b == 1) 1 0;
  meet = λ a b. cond (a == 1 && b == 1) 1 0;
}
