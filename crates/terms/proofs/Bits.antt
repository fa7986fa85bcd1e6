-- Bits of words.
use Rattle.std.proofs.Common.{◌≡◌, ℕ, ◌^◌, true, ◌⊎◌, get_or, replicate, subst, inl, inr, ⊎_elim, arith}
use lib.Bits.{bit_or}
use Rattle.std.specs.Int.{bit_at}
use Rattle.std.proofs.lemmas.Nat.Bits.{bit_at_or, bit_at-zero, bit_at-pow_same, bit_at-pow_other}
use Rattle.std.proofs.lemmas.List.{get_or-replicate, get_or_past}
use Rattle.std.proofs.lemmas.Bool.{eqb-true, eq-eqb, cases_eq, cases_lt}
use Rattle.terms.specs.Contents.{bit}
use Rattle.terms.specs.Rule.{HasBit, Transitive, OnRoles, FlaggedRoles}

-- bit k of the word w is set
abbrev pub Bit : ℕ → ℕ → Type 0
Bit w k = bit_at w k ≡ 1

pub told : (w k : ℕ) → bit w k ≡ true → Bit w k
told w k e = eqb-true (bit_at w k) 1 e

pub tell : (w k : ℕ) → Bit w k → bit w k ≡ true
tell w k e = eq-eqb (bit_at w k) 1 e

pub zero_bit : (k : ℕ) → Bit 0 k → ⊥
zero_bit k e = omega (arith, bit_at-zero k)

pub or_cases : (x y k : ℕ) → Bit (bit_or x y) k → Bit x k ⊎ Bit y k
or_cases x y k e = ⊎_elim inl (λ no1. inr (omega (arith, bit_at_or x y k))) (cases_eq (bit_at x k) 1)

pub or_left : (x y k : ℕ) → Bit x k → Bit (bit_or x y) k
or_left x y k e = omega (arith, bit_at_or x y k)

pub or_right : (x y k : ℕ) → Bit y k → Bit (bit_or x y) k
or_right x y k e = omega (arith, bit_at_or x y k)

pub pow_bit : (n : ℕ) → Bit (2 ^ n) n
pow_bit n = bit_at-pow_same n

pub pow_only : (n k : ℕ) → Bit (2 ^ n) k → k ≡ n
pow_only n k e = ⊎_elim (λ q. q) (λ ne. absurd (omega (arith, bit_at-pow_other n k ne))) (cases_eq k n)

none_row : (a : ℕ) → ◌≡◌ {A = ℕ} (get_or (replicate 32 0) a 0) 0
none_row a = ⊎_elim (λ h. get_or-replicate 32 a 0 0 h) (λ h. get_or_past (replicate 32 0) a 0 h) (cases_lt a 32)

-- nothing is below anything in the empty table
pub none_below : (a b : ℕ) → HasBit (replicate 32 0) a b → ⊥
none_below a b e = zero_bit b (told 0 b (subst (λ w. bit w b ≡ true) (none_row a) e))

-- so it is transitive and relates only roles, and the empty word has only flags of roles
pub none_chains : Transitive (replicate 32 0)
none_chains t x y = absurd (none_below t.0 t.1 x)

pub none_on : (n : ℕ) → OnRoles n (replicate 32 0)
none_on n a b e = absurd (none_below a b e)

pub none_flagged : (n : ℕ) → FlaggedRoles n 0
none_flagged n a e = absurd (zero_bit a (told 0 a e))
