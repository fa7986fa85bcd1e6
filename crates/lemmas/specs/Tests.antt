-- Tests made of tests, and tests that no number passes.
use Rattle.std.specs.Prelude.{◌≡◌, ℕ, zero, suc, Bool, true, false, ◌&&◌}

-- all numbers below n pass the test
abbrev pub every : ℕ → (ℕ → Bool) → Bool
every zero f = true
every (suc n) f = f n && every n f

-- the second test passes if the first does
abbrev pub if_then : Bool → Bool → Bool
if_then true c = c
if_then false c = true

-- no number passes the test
abbrev pub Nowhere : (ℕ → Bool) → Type 0
Nowhere f = (x : ℕ) → f x ≡ false
