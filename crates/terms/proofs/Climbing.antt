-- What a climb makes of a row of bits, and what a map of rows that keeps the empty row makes of a table.
use Rattle.std.proofs.Common.{◌≡◌, ℕ, ◌≤◌, ◌⊎◌, List, map, length, get_or, sym, ap, ◌∙◌, subst, inl, inr, ⊎_elim, arith}
use lib.Bits.{bit_or}
use Rattle.std.proofs.lemmas.List.{get_or-map, get_or_past, length-map}
use Rattle.std.proofs.lemmas.Bool.{cases_lt, cases_Bool, cond-true, cond-false}
use Rattle.terms.specs.Contents.{bit}
use Rattle.terms.specs.Entries.{climbed}
use Rattle.terms.proofs.Bits.{Bit, told, tell, zero_bit, or_cases, or_left, or_right}

pub row_of : (f : ℕ → ℕ) → f 0 ≡ 0 → (xs : List ℕ) (a : ℕ) → get_or (map f xs) a 0 ≡ f (get_or xs a 0)
row_of f e xs a =
    ⊎_elim (λ h. get_or-map f xs a 0 0 h)
    (λ h. let g : length (map f xs) ≤ a = omega (arith, length-map xs f) in get_or_past (map f xs) a 0 g ∙ sym e ∙ ap f (sym (get_or_past xs a 0 h)))
    (cases_lt a (length xs))

pub climbed_zero : (r up : ℕ) → climbed r up 0 ≡ 0
climbed_zero r up = ⊎_elim (λ e. absurd (zero_bit r (told 0 r e))) (λ e. cond-false (bit 0 r) (bit_or 0 up) 0 e) (cases_Bool (bit 0 r))

pub climbed_cases : (r up w k : ℕ) → Bit (climbed r up w) k → Bit w k ⊎ (Bit w r × Bit up k)
climbed_cases r up w k h =
    ⊎_elim
    (λ e. ⊎_elim inl (λ u. inr (told w r e, u)) (or_cases w up k (subst (λ m. Bit m k) (cond-true (bit w r) (bit_or w up) w e) h)))
    (λ e. inl (subst (λ m. Bit m k) (cond-false (bit w r) (bit_or w up) w e) h))
    (cases_Bool (bit w r))

pub climbed_keeps : (r up w k : ℕ) → Bit w k → Bit (climbed r up w) k
climbed_keeps r up w k h =
    ⊎_elim
    (λ e. subst (λ m. Bit m k) (sym (cond-true (bit w r) (bit_or w up) w e)) (or_left w up k h))
    (λ e. subst (λ m. Bit m k) (sym (cond-false (bit w r) (bit_or w up) w e)) h)
    (cases_Bool (bit w r))

pub climbed_takes : (r up w k : ℕ) → Bit w r → Bit up k → Bit (climbed r up w) k
climbed_takes r up w k h u = subst (λ m. Bit m k) (sym (cond-true (bit w r) (bit_or w up) w (tell w r h))) (or_right w up k u)
