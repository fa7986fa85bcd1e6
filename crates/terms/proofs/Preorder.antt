-- With one role or one pair more the table of the roles is still reflexive and transitive, and relates only roles.
use Rattle.std.proofs.Common.{◌≡◌, ℕ, ◌+◌, ◌^◌, ◌<◌, true, ◌≢◌, ◌⊎◌, List, map, length, get_or, set, sym, ap, ◌∙◌, subst, inl, inr, ⊎_elim, arith}
use lib.Bits.{bit_or}
use Rattle.std.proofs.lemmas.List.{get_or-set_same, get_or-set_other}
use Rattle.std.proofs.lemmas.Bool.{cases_eq}
use Rattle.terms.specs.Contents.{bit}
use Rattle.terms.specs.Entries.{climbed}
use Rattle.terms.specs.Rule.{HasBit, Reflexive, Transitive, OnRoles, FlaggedRoles}
use Rattle.terms.proofs.Bits.{told, tell, pow_bit, pow_only, or_cases}
use Rattle.terms.proofs.Climbing.{row_of, climbed_zero, climbed_cases, climbed_keeps, climbed_takes}

-- ---- the new role n, below itself alone
module _ (n : ℕ) (rows : List ℕ) (lt : n < length rows) where
  pub role_cases : {a b : ℕ} → HasBit (set rows n (2 ^ n)) a b → HasBit rows a b ⊎ ((a ≡ n) × (b ≡ n))
  role_cases {a} {b} e =
      ⊎_elim
      (λ q. inr (q, pow_only n b (told (2 ^ n) b (subst (λ w. bit w b ≡ true) (ap (λ m. get_or (set rows n (2 ^ n)) m 0) q ∙ get_or-set_same rows n (2 ^ n) 0 lt) e))))
      (λ ne. inl (subst (λ w. bit w b ≡ true) (get_or-set_other rows n a (2 ^ n) 0 ne) e))
      (cases_eq a n)

  pub role_self : HasBit (set rows n (2 ^ n)) n n
  role_self = subst (λ w. bit w n ≡ true) (sym (get_or-set_same rows n (2 ^ n) 0 lt)) (tell (2 ^ n) n (pow_bit n))

module _ (n : ℕ) (rows : List ℕ) (lt : n < length rows) (on : OnRoles n rows) where
  pub role_keeps : (a b : ℕ) → HasBit rows a b → HasBit (set rows n (2 ^ n)) a b
  role_keeps a b e = let ne : a ≢ n = (λ q. omega (arith, (on a b e).0)) in subst (λ w. bit w b ≡ true) (sym (get_or-set_other rows n a (2 ^ n) 0 ne)) e

  pub role_reflexive : Reflexive n rows → Reflexive (n + 1) (set rows n (2 ^ n))
  role_reflexive h a k =
      ⊎_elim (λ q. subst (λ m. HasBit (set rows n (2 ^ n)) m m) (sym q) (role_self n rows lt)) (λ ne. role_keeps a a (h a (omega arith))) (cases_eq a n)

  pub role_transitive : Transitive rows → Transitive (set rows n (2 ^ n))
  role_transitive h t x y =
      ⊎_elim
      (λ u. ⊎_elim (λ v. role_keeps t.0 t.2 (h t u v)) (λ v. absurd (omega (arith, (on t.0 t.1 u).1, v.0))) (role_cases n rows lt y))
      (λ u. subst (λ m. HasBit (set rows n (2 ^ n)) m t.2) (u.1 ∙ sym u.0) y)
      (role_cases n rows lt x)

  pub role_on : OnRoles (n + 1) (set rows n (2 ^ n))
  role_on a b e = ⊎_elim (λ u. (omega (arith, (on a b u).0), omega (arith, (on a b u).1))) (λ u. (omega (arith, u.0), omega (arith, u.1))) (role_cases n rows lt e)

-- ---- the new pair (r, q)
module _ (rows : List ℕ) (r q : ℕ) where
  pair_row : (a : ℕ) → get_or (map (climbed r (get_or rows q 0)) rows) a 0 ≡ climbed r (get_or rows q 0) (get_or rows a 0)
  pair_row a = row_of (climbed r (get_or rows q 0)) (climbed_zero r (get_or rows q 0)) rows a

  pub pair_cases : (a b : ℕ) → HasBit (map (climbed r (get_or rows q 0)) rows) a b → HasBit rows a b ⊎ (HasBit rows a r × HasBit rows q b)
  pair_cases a b e =
      ⊎_elim (λ u. inl (tell (get_or rows a 0) b u)) (λ u. inr (tell (get_or rows a 0) r u.0, tell (get_or rows q 0) b u.1))
      (climbed_cases r (get_or rows q 0) (get_or rows a 0) b (told (climbed r (get_or rows q 0) (get_or rows a 0)) b (subst (λ w. bit w b ≡ true) (pair_row a) e)))

  pub pair_keeps : (a b : ℕ) → HasBit rows a b → HasBit (map (climbed r (get_or rows q 0)) rows) a b
  pair_keeps a b e = subst (λ w. bit w b ≡ true) (sym (pair_row a)) (tell (climbed r (get_or rows q 0) (get_or rows a 0)) b (climbed_keeps r (get_or rows q 0) (get_or rows a 0) b (told (get_or rows a 0) b e)))

  pub pair_joins : (a b : ℕ) → HasBit rows a r → HasBit rows q b → HasBit (map (climbed r (get_or rows q 0)) rows) a b
  pair_joins a b e f = subst (λ w. bit w b ≡ true) (sym (pair_row a)) (tell (climbed r (get_or rows q 0) (get_or rows a 0)) b (climbed_takes r (get_or rows q 0) (get_or rows a 0) b (told (get_or rows a 0) r e) (told (get_or rows q 0) b f)))

  pub pair_reflexive : (n : ℕ) → Reflexive n rows → Reflexive n (map (climbed r (get_or rows q 0)) rows)
  pair_reflexive n h a k = pair_keeps a a (h a k)

  pub pair_transitive : Transitive rows → Transitive (map (climbed r (get_or rows q 0)) rows)
  pair_transitive h t x y =
      ⊎_elim
      (λ u. ⊎_elim (λ v. pair_keeps t.0 t.2 (h t u v)) (λ v. pair_joins t.0 t.2 (h (t.0, t.1, r) u v.0) v.1) (pair_cases t.1 t.2 y))
      (λ u. ⊎_elim (λ v. pair_joins t.0 t.2 u.0 (h (q, t.1, t.2) u.1 v)) (λ v. pair_joins t.0 t.2 u.0 v.1) (pair_cases t.1 t.2 y))
      (pair_cases t.0 t.1 x)

  pub pair_on : (n : ℕ) → OnRoles n rows → OnRoles n (map (climbed r (get_or rows q 0)) rows)
  pair_on n on a b e = ⊎_elim (λ u. on a b u) (λ u. ((on a r u.0).0, (on q b u.1).1)) (pair_cases a b e)

-- ---- a role that becomes transitive
pub flag_on : (n w r : ℕ) → r < n → FlaggedRoles n w → FlaggedRoles n (bit_or w (2 ^ r))
flag_on n w r h f a e = ⊎_elim (λ u. f a (tell w a u)) (λ u. let k = pow_only r a u in omega arith) (or_cases w (2 ^ r) a (told (bit_or w (2 ^ r)) a e))
