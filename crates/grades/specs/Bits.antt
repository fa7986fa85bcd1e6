-- Sixteen bits as a set of points.
use Rattle.std.specs.Prelude.{◌≡◌, ℕ, ◌<◌, ◌≤◌, min, max, Bool, true, false, ◌&&◌, ◌||◌, ◌==◌, nat_lt, refl}
use Rattle.std.proofs.Common.{sym, ap, ◌∙◌, arith}
use Rattle.std.specs.Int.Bits.{and_lt}
use Rattle.std.proofs.lemmas.Nat.{or_lt}
use Rattle.std.proofs.lemmas.Bool.{lt-ltb, le-ltb, cond-true, cond-false, and_left}
use Rattle.std.proofs.lemmas.Bool.Decides.{nat_tests}
use Rattle.lemmas.proofs.Tests.{every_at}
use Rattle.std.specs.Int.{bit_at}
use Rattle.std.proofs.lemmas.Nat.Bits.{bit_at_or, bit_at_and, bit_at-lt, bit_at-zero, same_from_bits_below}
use Rattle.grades.specs.Views.{code, views}

pub code_lt : (a : ℕ) → code a < 65536
code_lt a = grind (arith, nat_tests)

code_of : (a : ℕ) → a < 65536 → code a ≡ a
code_of a h = cond-true (nat_lt a 65536) a 0 (lt-ltb a 65536 h)

-- the code of a join or a meet is the word itself
pub join_lt : (a b : ℕ) → views.join a b < 65536
join_lt a b = or_lt 16 (code a) (code b) (code_lt a) (code_lt b)

pub meet_lt : (a b : ℕ) → views.meet a b < 65536
meet_lt a b = and_lt 16 (code a) (code b) (code_lt a) (code_lt b)

bits_or : (x y z : ℕ) → x < 2 → y < 2 → z ≡ max x y → (z == 1) ≡ (x == 1 || y == 1)
bits_or x y z hx hy e = grind (arith, nat_tests)

bits_and : (x y z : ℕ) → x < 2 → y < 2 → z ≡ min x y → (z == 1) ≡ (x == 1 && y == 1)
bits_and x y z hx hy e = grind (arith, nat_tests)

within : (t x y z : Bool) → t ≡ true → x ≡ (y || z) → (t && x) ≡ ((t && y) || (t && z))
within true x y z h e = e
within false x y z h e = refl

within_both : (t x y z : Bool) → t ≡ true → x ≡ (y && z) → (t && x) ≡ ((t && y) && (t && z))
within_both true x y z h e = e
within_both false x y z h e = refl

pub join_bits : (a b p : ℕ) → p < 16 → views.holds (views.join a b) p ≡ (views.holds a p || views.holds b p)
join_bits a b p h =
    within (nat_lt p 16) _ _ _ (lt-ltb p 16 h)
    (bits_or (bit_at (code a) p) (bit_at (code b) p) _ (bit_at-lt (code a) p) (bit_at-lt (code b) p)
    (ap (λ n. bit_at n p) (code_of (views.join a b) (join_lt a b)) ∙ bit_at_or (code a) (code b) p))

pub meet_bits : (a b p : ℕ) → p < 16 → views.holds (views.meet a b) p ≡ (views.holds a p && views.holds b p)
meet_bits a b p h =
    within_both (nat_lt p 16) _ _ _ (lt-ltb p 16 h)
    (bits_and (bit_at (code a) p) (bit_at (code b) p) _ (bit_at-lt (code a) p) (bit_at-lt (code b) p)
    (ap (λ n. bit_at n p) (code_of (views.meet a b) (meet_lt a b)) ∙ bit_at_and (code a) (code b) p))

one_bit : (t : Bool) (x y : ℕ) → t ≡ true → x < 2 → y < 2 → (t && x == 1) ≡ (t && y == 1) → x ≡ y
one_bit true x y h hx hy e = grind (arith, nat_tests)
one_bit false x y h hx hy e = absurd (let z : ◌≡◌ {A = ℕ} 0 1 = cc in omega arith)

pub same_bits : (a b : ℕ) → a < 65536 → b < 65536 → ((p : ℕ) → p < 16 → views.holds a p ≡ views.holds b p) → a ≡ b
same_bits a b ha hb h =
    sym (code_of a ha) ∙ same_from_bits_below 16 (code a) (code b) (code_lt a) (code_lt b) (λ p l.
    one_bit (nat_lt p 16) (bit_at (code a) p) (bit_at (code b) p) (lt-ltb p 16 l) (bit_at-lt (code a) p) (bit_at-lt (code b) p) (h p l)) ∙ code_of b hb

unset : (t : Bool) (x : ℕ) → x ≡ 0 → (t && x == 1) ≡ false
unset true x e = grind (arith, nat_tests)
unset false x e = refl

pub none_bits : (a p : ℕ) → code a ≡ 0 → views.holds a p ≡ false
none_bits a p e = unset (nat_lt p 16) (bit_at (code a) p) (ap (λ n. bit_at n p) e ∙ bit_at-zero p)

pub foreign_bits : (a p : ℕ) → 65536 ≤ a → views.holds a p ≡ false
foreign_bits a p h = none_bits a p (cond-false (nat_lt a 65536) a 0 (le-ltb a 65536 h))

pub beyond_bits : (a p : ℕ) → 16 ≤ p → views.holds a p ≡ false
beyond_bits a p h = and_left (nat_lt p 16) _ (le-ltb p 16 h)

-- all sixteen bits of 65535 are set
pub all_bits : (p : ℕ) → p < 16 → views.holds 65535 p ≡ true
all_bits p h = every_at 16 (views.holds 65535) refl p h
