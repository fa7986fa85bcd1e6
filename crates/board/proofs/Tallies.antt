-- A set has a number exactly where its count is not 0.
use Rattle.std.proofs.Common.{◌≡◌, ℕ, zero, suc, ◌<◌, Bool, true, false, cond, sym, refl, ap, ◌∙◌, ⊎_elim, arith}
use Rattle.std.proofs.lemmas.Bool.{cases_eq}
use Rattle.piles.specs.Sets.{Numbers, tally, count_of}

-- one for a number that is held
abbrev one_if : Bool → ℕ
one_if b = cond b 1 0

-- a held number makes one at least
pub tally_some : (f : ℕ → Bool) (n x : ℕ) → x < n → f x ≡ true → 0 < tally f n
tally_some f zero x l t = absurd (omega arith)
tally_some f (suc n) x l t =
    ⊎_elim (λ e. let o : one_if (f n) ≡ 1 = ap one_if (ap f (sym e) ∙ t) in omega arith) (λ ne. let h = tally_some f n x (omega arith) t in omega arith) (cases_eq x n)

-- where there is one, it can be found
pub tally_found : (f : ℕ → Bool) (n : ℕ) → 0 < tally f n → (x : ℕ) × (f x ≡ true)
tally_found f zero l = absurd (omega arith)
tally_found f (suc n) l = here (f n) refl (λ o. tally_found f n (omega arith))
  where
    here : (b : Bool) → f n ≡ b → (one_if (f n) ≡ 0 → (x : ℕ) × (f x ≡ true)) → (x : ℕ) × (f x ≡ true)
    here true e rest = (n, e)
    here false e rest = rest (ap one_if e)

-- of a pile
pub count_none : (s : Numbers) → count_of s ≡ 0 → (x : ℕ) → s.holds x ≡ false
count_none s e x = here (s.holds x) refl
  where
    here : (b : Bool) → s.holds x ≡ b → s.holds x ≡ false
    here true t = absurd (let l = tally_some s.holds s.size x (s.below x t) t in omega arith)
    here false t = t
