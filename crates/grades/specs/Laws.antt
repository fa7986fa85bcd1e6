-- Each kind of grade keeps the laws of kinds.
use Rattle.std.specs.Prelude.{ℕ, ◌<◌, ◌&&◌, ◌≢◌, nat_le, nat_lt, refl}
use Rattle.std.proofs.Common.{inl, inr, arith}
use Rattle.std.proofs.lemmas.Bool.{cases_order}
use Rattle.std.proofs.lemmas.Bool.Decides.{nat_tests}
use Rattle.grades.specs.Kinds.{Lawful}
use Rattle.grades.specs.Plain.{plain}
use Rattle.grades.specs.Releases.{releases}
use Rattle.grades.specs.Views.{views}
use Rattle.grades.specs.Bits.{all_bits, none_bits, join_lt, join_bits, meet_lt, meet_bits, same_bits, foreign_bits, beyond_bits}

pub plain_lawful : Lawful plain
plain_lawful =
    record {
      some_point = omega arith;
      few_points = omega arith;
      few_codes = omega arith;
      all_code = omega arith;
      none_code = omega arith;
      all_holds = λ p h. grind (arith, nat_tests);
      none_holds = λ p. refl;
      join_code = λ a b. grind (arith, nat_tests);
      join_holds = λ a b p h. grind (arith, nat_tests);
      meet_code = λ a b. grind (arith, nat_tests);
      meet_holds = λ a b p h. grind (arith, nat_tests);
      same = λ a b ha hb h. let z = h 0 (omega arith) in grind (arith, nat_tests);
      foreign = λ a p h. grind (arith, nat_tests);
      beyond = λ a p h. grind (arith, nat_tests);
    }

-- the earlier of two codes holds a point that the later does not
apart : (a b : ℕ) → a < b → b < 65 → (nat_le a a && nat_lt a 64) ≢ (nat_le b a && nat_lt a 64)
apart a b l h e = grind (arith, nat_tests)

pub releases_lawful : Lawful releases
releases_lawful =
    record {
      some_point = omega arith;
      few_points = omega arith;
      few_codes = omega arith;
      all_code = omega arith;
      none_code = omega arith;
      all_holds = λ p h. grind (arith, nat_tests);
      none_holds = λ p. grind (arith, nat_tests);
      join_code = λ a b. omega arith;
      join_holds = λ a b p h. grind (arith, nat_tests);
      meet_code = λ a b. omega arith;
      meet_holds = λ a b p h. grind (arith, nat_tests);
      same = λ a b ha hb h.
          elim (cases_order a b) [
            | inl e ↦ e
            | inr (inl l) ↦ absurd (apart a b l hb (h a (omega arith)))
            | inr (inr l) ↦ absurd (apart b a l ha (let q = h b (omega arith) in cc))
          ];
      foreign = λ a p h. grind (arith, nat_tests);
      beyond = λ a p h. grind (arith, nat_tests);
    }

pub views_lawful : Lawful views
views_lawful =
    record {
      some_point = omega arith;
      few_points = omega arith;
      few_codes = omega arith;
      all_code = omega arith;
      none_code = omega arith;
      all_holds = all_bits;
      none_holds = λ p. none_bits 0 p refl;
      join_code = join_lt;
      join_holds = join_bits;
      meet_code = meet_lt;
      meet_holds = meet_bits;
      same = same_bits;
      foreign = foreign_bits;
      beyond = beyond_bits;
    }
