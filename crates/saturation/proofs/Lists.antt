-- Ascending lists one behind the other; and a list of distinct entries, told apart by numbers below a bound, is no longer than the bound.
use Rattle.std.proofs.Common.{◌≡◌, ℕ, zero, suc, ◌<◌, ◌≤◌, ◌⊎◌, List, [], ◌∷◌, ◌++◌, length, sym, refl, ◌∙◌, subst, inl, inr, arith}
use mathlib.Core.List.Memᴰ
use mathlib.Core.List.{Memᴰ}
use Rattle.std.proofs.lemmas.Bool.{cases_eq}
use Rattle.piles.specs.Shapes.{Distinct}
use Rattle.saturation.specs.Answers.{Ascending}

-- two ascending lists, the entries of the first before those of the second
pub ascending_behind : {A : Type 0} (R : A → A → Type 0) (xs ys : List A) → Ascending R xs → Ascending R ys → ((x y : A) → Memᴰ x xs → Memᴰ y ys → R x y) → Ascending R (xs ++ ys)
ascending_behind R [] ys a b h = b
ascending_behind R (x ∷ xs) ys a b h = (
  (λ y m. elim (Memᴰ.append_cases xs m) [ inl t ↦ a.0 y t | inr t ↦ h x y (Memᴰ.head refl) t ]),
  ascending_behind R xs ys a.1 b (λ y z m n. h y z (Memᴰ.tail m) n),
)

module _ {A : Type 0} (P : A → Type 0) (code : A → ℕ) (apart : (x y : A) → P x → P y → code x ≡ code y → x ≡ y) where
  abbrev NumberedBelow : ℕ → List A → Type 0
  NumberedBelow n xs = (x : A) → Memᴰ x xs → P x × (code x < n)

  -- all entries but the one whose number is n
  abbrev Rest : ℕ → List A → Type 0
  Rest n xs = (ys : List A) × Distinct ys × ((y : A) → Memᴰ y ys → Memᴰ y xs) × NumberedBelow n ys × (length xs ≤ suc (length ys))

  rest : (n : ℕ) (xs : List A) → Distinct xs → NumberedBelow (suc n) xs → Rest n xs
  rest n [] d h = ([], tt, (λ y m. m), (λ y m. absurd (Memᴰ.not-nil m)), omega arith)
  rest n (x ∷ xs) d h = step (cases_eq (code x) n) (rest n xs d.1 (λ y m. h y (Memᴰ.tail m)))
    where
      below : code x ≡ n → (y : A) → Memᴰ y xs → P y × (code y < n)
      below e y m =
          let t = h y (Memᴰ.tail m) in
          let ne : code y ≡ n → ⊥ = λ q. d.0 (Memᴰ.cast (apart x y (h x (Memᴰ.head refl)).0 t.0 (e ∙ sym q)) m) in
          (t.0, omega arith)

      step : (code x ≡ n) ⊎ (code x ≡ n → ⊥) → Rest n xs → Rest n (x ∷ xs)
      step (inl e) r = (xs, d.1, (λ y m. Memᴰ.tail m), below e, omega arith)
      step (inr ne) r =
          let here = h x (Memᴰ.head refl) in
          let low : code x < n = omega arith in
          let fits : length xs ≤ suc (length r.0) = r.4 in (
            x ∷ r.0,
            ((λ m. d.0 (r.2 x m)), r.1),
            (λ y m. elim (Memᴰ.cases_cons m) [ inl e ↦ Memᴰ.head e | inr t ↦ Memᴰ.tail (r.2 y t) ]),
            (λ y m. elim (Memᴰ.cases_cons m) [ inl e ↦ subst (λ (z : A). P z × (code z < n)) (sym e) (here.0, low) | inr t ↦ r.3 y t ]),
            omega arith,
          )

  pub few : (n : ℕ) (xs : List A) → Distinct xs → NumberedBelow n xs → length xs ≤ n
  few zero [] d h = omega arith
  few zero (x ∷ xs) d h = let t = h x (Memᴰ.head refl) in omega arith
  few (suc n) xs d h = let r = rest n xs d h in let t = few n r.0 r.1 r.3 in let u : length xs ≤ suc (length r.0) = r.4 in omega arith
