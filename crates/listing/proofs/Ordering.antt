-- The rows of all pairs of concepts, each with its code if there is one, are in order, and are all there.
use Rattle.std.proofs.Common.{◌≡◌, ℕ, zero, suc, ◌<◌, Some, None, Option, sym, ap, ◌∙◌, subst, inl, inr, arith}
use mathlib.Core.List.Memᴰ
use mathlib.Core.List.{Memᴰ}
use Rattle.std.proofs.lemmas.Bool.{cases_eq}
use Rattle.saturation.specs.Answers.{Ascending, ListBy}
use Rattle.saturation.proofs.Lists.{ascending_behind}
use Rattle.listing.specs.declared.page.Row.{Row}
use Rattle.listing.specs.Rows.{row_of, rows_up_to, all_rows}
use Rattle.listing.specs.Listings.{Precedes}

-- the one row of a pair
row_in : (a d : ℕ) (o : Option ℕ) (r : Row) → Memᴰ r (row_of a d o) → (r.sub ≡ a) × (r.sup ≡ d) × (o ≡ Some r.code)
row_in a d None r m = absurd (Memᴰ.not-nil m)
row_in a d (Some g) r m = let e = Memᴰ.eq_of_singleton m in (ap (λ (s : Row). s.sub) e, ap (λ (s : Row). s.sup) e, ap (λ (s : Row). Some s.code) (sym e))

row_order : (a d : ℕ) (o : Option ℕ) → Ascending Precedes (row_of a d o)
row_order a d None = tt
row_order a d (Some g) = ((λ s m. absurd (Memᴰ.not-nil m)), tt)

module _ (grade : ℕ → ℕ → Option ℕ) where
  rows_in : (a n : ℕ) (r : Row) → Memᴰ r (rows_up_to grade a n) → (r.sub ≡ a) × (r.sup < n) × (grade a r.sup ≡ Some r.code)
  rows_in a zero r m = absurd (Memᴰ.not-nil m)
  rows_in a (suc n) r m = elim (Memᴰ.append_cases (rows_up_to grade a n) m) [
    | inl t ↦ let h = rows_in a n r t in let l = h.1 in (h.0, omega arith, h.2)
    | inr t ↦ let h = row_in a n (grade a n) r t in let e = h.1 in (h.0, omega arith, ap (grade a) e ∙ h.2)
  ]

  rows_order : (a n : ℕ) → Ascending Precedes (rows_up_to grade a n)
  rows_order a zero = tt
  rows_order a (suc n) =
      ascending_behind Precedes (rows_up_to grade a n) (row_of a n (grade a n)) (rows_order a n) (row_order a n (grade a n))
      (λ r s m t. let h = rows_in a n r m in let i = row_in a n (grade a n) s t in let e = i.1 in let l = h.1 in inr (h.0 ∙ sym i.0, omega arith))

  in_rows : (a n : ℕ) (r : Row) → r.sub ≡ a → r.sup < n → grade a r.sup ≡ Some r.code → Memᴰ r (rows_up_to grade a n)
  in_rows a zero r e l g = absurd (omega arith)
  in_rows a (suc n) r e l g = elim (cases_eq r.sup n) [
    | inr d ↦ Memᴰ.append_left (row_of a n (grade a n)) (in_rows a n r e (omega arith) g)
    | inl q ↦ Memᴰ.append_right (rows_up_to grade a n) (subst (λ (o : Option ℕ). Memᴰ r (row_of a n o)) (sym (ap (grade a) (sym q) ∙ g)) (Memᴰ.head (λ i. record { sub = e i; sup = q i; code = r.code })))
  ]

  all_in : (n i : ℕ) (r : Row) → Memᴰ r (all_rows grade n i) → (r.sub < i) × (r.sup < n) × (grade r.sub r.sup ≡ Some r.code)
  all_in n zero r m = absurd (Memᴰ.not-nil m)
  all_in n (suc i) r m = elim (Memᴰ.append_cases (all_rows grade n i) m) [
    | inl t ↦ let h = all_in n i r t in let l = h.0 in (omega arith, h.1, h.2)
    | inr t ↦ let h = rows_in i n r t in let e = h.0 in (omega arith, h.1, ap (λ (a : ℕ). grade a r.sup) e ∙ h.2)
  ]

  all_order : (n i : ℕ) → Ascending Precedes (all_rows grade n i)
  all_order n zero = tt
  all_order n (suc i) =
      ascending_behind Precedes (all_rows grade n i) (rows_up_to grade i n) (all_order n i) (rows_order i n)
      (λ r s m t. let h = all_in n i r m in let j = rows_in i n s t in let l = h.0 in let e = j.0 in inl (omega arith))

  in_all : (n i : ℕ) (r : Row) → r.sub < i → r.sup < n → grade r.sub r.sup ≡ Some r.code → Memᴰ r (all_rows grade n i)
  in_all n zero r l k g = absurd (omega arith)
  in_all n (suc i) r l k g = elim (cases_eq r.sub i) [
    | inr d ↦ Memᴰ.append_left (rows_up_to grade i n) (in_all n i r (omega arith) k g)
    | inl q ↦ Memᴰ.append_right (all_rows grade n i) (in_rows i n r q k (ap (λ (a : ℕ). grade a r.sup) (sym q) ∙ g))
  ]

  -- the rows of n concepts are those with the property, where that is to have a code
  pub all_rows_lem : (n : ℕ) (P : Row → Type 0) → ((r : Row) → r.sub < n → r.sup < n → grade r.sub r.sup ≡ Some r.code → P r)
      → ((r : Row) → P r → (r.sub < n) × (r.sup < n) × (grade r.sub r.sup ≡ Some r.code)) → ListBy Precedes P (all_rows grade n n)
  all_rows_lem n P to from = record {
    ascending = all_order n n;
    each = λ r m. let h = all_in n n r m in to r h.0 h.1 h.2;
    every = λ r p. let h = from r p in in_all n n r h.0 h.1 h.2;
  }
