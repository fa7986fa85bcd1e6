-- The kind of any set of sixteen views.
use Rattle.std.specs.Prelude.{ℕ, cond, ◌&&◌, ◌==◌, bit_and, bit_or, nat_lt}
use Rattle.std.specs.Int.{bit_at}
use Rattle.grades.specs.Kinds.{Kind}

-- the code itself, or 0 for a number that is no code
abbrev pub code : ℕ → ℕ
code a = cond (nat_lt a 65536) a 0

-- bit p of the code says whether p is held
abbrev pub views : Kind
views = record {
  points = 16;
  codes = 65536;
  all = 65535;
  none = 0;
  holds = λ a p. nat_lt p 16 && (bit_at (code a) p == 1);
  join = λ a b. bit_or (code a) (code b);
  meet = λ a b. bit_and (code a) (code b);
}
