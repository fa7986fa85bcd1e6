-- Digits written from the right into spaces.
use Rattle.std.proofs.Common.{◌≡◌, ℕ, ◌+◌, ◌-◌, ◌*◌, ◌/◌, ◌%◌, ◌^◌, ◌<◌, ◌≤◌, List, [], ◌∷◌, ◌++◌, length, take, drop, set, replicate, decimal, sym, ap, ◌∙◌, subst, ⊎_elim, append_assoc, arith, length-append, length-set}
use lib.ListN.{length-replicate}
use Rattle.std.proofs.lemmas.Nat.{pow-add}
use Rattle.std.proofs.lemmas.Fmt.{decimal_digit, decimal_step}
use Rattle.std.proofs.lemmas.List.{take-take, take-replicate, take-set, drop-set, take-append-drop}
use Rattle.std.proofs.lemmas.Bool.{cases_eq}
use Rattle.sheet.specs.Columns.{six_columns}

-- the first k of six columns are spaces still, and behind them stand the digits of n that follow those of m
pub record Digits (n k m : ℕ) (xs : List ℕ) : Type 0 where
  pub fits : m < 10 ^ k
  pub left : 0 < k
  pub long : length xs ≡ 6
  pub front : take k xs ≡ replicate k 32
  pub back : decimal m ++ drop k xs ≡ decimal n

-- a number of two digits at least has one place more than its front
fewer : (m p : ℕ) → m < 10 ^ (p + 1) → 10 ≤ m → (0 < p) × (m / 10 < 10 ^ p)
fewer m p h big =
    let e : 10 ^ (p + 1) ≡ 10 ^ p * 10 = pow-add 10 p 1 in
    (⊎_elim (λ q. let one : 10 ^ p ≡ 1 = ap (λ k. 10 ^ k) q in absurd (omega arith)) (λ ne. omega arith) (cases_eq p 0), omega arith)

-- the spaces before a new digit
digit_spaces : (xs : List ℕ) (p d : ℕ) → take (p + 1) xs ≡ replicate (p + 1) 32 → take p (set xs p d) ≡ replicate p 32
digit_spaces xs p d e = take-set xs p d ∙ sym (take-take p (p + 1) xs (omega arith)) ∙ ap (take p) e ∙ take-replicate p (p + 1) 32 (omega arith)

-- one digit more
pub digit_more : (n p m : ℕ) (xs : List ℕ) → p < 6 → 10 ≤ m → m < 2 ^ 64 → Digits n (p + 1) m xs → Digits n p (m / 10) (set xs p (48 + m % 10))
digit_more n p m xs h big small d =
    let f = fewer m p d.fits big in
    record {
      fits = f.1;
      left = f.0;
      long = length-set xs p (48 + m % 10) ∙ d.long;
      front = digit_spaces xs p (48 + m % 10) d.front;
      back =
          ap (λ ys. decimal (m / 10) ++ ys) (drop-set xs p (48 + m % 10) (omega (arith, d.long)))
          ∙ sym (append_assoc (decimal (m / 10)) ((48 + m % 10) ∷ []) (drop (p + 1) xs))
          ∙ ap (λ ys. ys ++ drop (p + 1) xs) (sym (decimal_step m big small))
          ∙ d.back;
    }

-- spaces and then the digits of n, six columns in all
six_from : (xs : List ℕ) (p n : ℕ) → length xs ≡ 6 → p ≤ 6 → take p xs ≡ replicate p 32 → drop p xs ≡ decimal n → xs ≡ six_columns n
unfolding six_columns
six_from xs p n long h front back =
    let e : xs ≡ replicate p 32 ++ decimal n = sym (take-append-drop p xs) ∙ ap (λ ys. ys ++ drop p xs) front ∙ ap (λ ys. replicate p 32 ++ ys) back in
    let k : p ≡ 6 - length (decimal n) = omega (arith, ap length e, length-append (replicate p 32) (decimal n), length-replicate {A = ℕ} p 32) in
    subst (λ q. xs ≡ replicate q 32 ++ decimal n) k e

-- the last digit to be written is the first of the number
pub digit_last : (n p m : ℕ) (xs : List ℕ) → p < 6 → m < 10 → Digits n (p + 1) m xs → set xs p (48 + m % 10) ≡ six_columns n
digit_last n p m xs h small d =
    let one : m % 10 ≡ m = omega arith in
    six_from (set xs p (48 + m % 10)) p n (length-set xs p (48 + m % 10) ∙ d.long) (omega arith) (digit_spaces xs p (48 + m % 10) d.front)
    (drop-set xs p (48 + m % 10) (omega (arith, d.long)) ∙ ap (λ ys. ys ++ drop (p + 1) xs) (ap (λ k. (48 + k) ∷ []) one ∙ sym (decimal_digit m small)) ∙ d.back)
