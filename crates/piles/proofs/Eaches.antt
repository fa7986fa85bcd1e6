-- Exactly the numbers with a property were put in: none, one, and one part after another.
use Rattle.std.proofs.Common.{◌≡◌, ℕ, ◌⊎◌, List, [], ◌∷◌, ◌++◌, sym, refl, ap, ◌∙◌, subst, inl, inr}
use mathlib.Core.List.Memᴰ
use mathlib.Core.List.{Memᴰ}
use Rattle.piles.specs.Sets.{tally, count_of}
use Rattle.piles.specs.Shapes.{Shape, PutIn, Became, nothing, and_then, put, puts, Distinct, PutEach}
use Rattle.piles.proofs.Acts.{became_then, became_size, puts_out}
use Rattle.piles.proofs.Tallies.{tally_same}

puts_append : (ys xs : List ℕ) → puts (ys ++ xs) ≡ puts ys ++ puts xs
puts_append [] xs = refl
puts_append (y ∷ ys) xs = ap (λ es. put y ∷ es) (puts_append ys xs)

distinct_append : (ys xs : List ℕ) → Distinct ys → Distinct xs → ((x : ℕ) → Memᴰ x ys → Memᴰ x xs → ⊥) → Distinct (ys ++ xs)
distinct_append [] xs D E n = E
distinct_append (y ∷ ys) xs D E n = ((λ m. elim (Memᴰ.append_cases ys m) [ inl t ↦ D.0 t | inr t ↦ n y (Memᴰ.head refl) t ]), distinct_append ys xs D.1 E (λ x i j. n x (Memᴰ.tail i) j))

module _ {Y : Type 0} {S : Shape Y} where
  pub each_none : {P : ℕ → Type 0} {p : Y} → ((x : ℕ) → P x → ⊥) → PutEach S P p p
  each_none n = record { numbers = []; distinct = tt; each = λ x i. absurd (Memᴰ.not-nil i); every = λ x h. absurd (n x h); became = nothing }

  pub each_one : {P : ℕ → Type 0} {x : ℕ} {p q : Y} → P x → ((y : ℕ) → P y → y ≡ x) → PutIn S x p q → PutEach S P p q
  each_one {P} {x} h only d = record {
    numbers = x ∷ [];
    distinct = ((λ i. absurd (Memᴰ.not-nil i)), tt);
    each = λ y i. subst P (sym (Memᴰ.eq_of_singleton i)) h;
    every = λ y k. Memᴰ.head (only y k);
    became = and_then nothing d;
  }

  -- the same property in other words
  pub each_like : {P Q : ℕ → Type 0} {p q : Y} → ((x : ℕ) → P x → Q x) → ((x : ℕ) → Q x → P x) → PutEach S P p q → PutEach S Q p q
  each_like to from E = record { numbers = E.numbers; distinct = E.distinct; each = λ x i. to x (E.each x i); every = λ x h. E.every x (from x h); became = E.became }

  -- the numbers with P, and then those with Q, none of which has P: together those with R
  pub each_then : {P Q R : ℕ → Type 0} {p q r : Y} → ((x : ℕ) → P x → Q x → ⊥) → ((x : ℕ) → P x ⊎ Q x → R x) → ((x : ℕ) → R x → P x ⊎ Q x) → PutEach S P p q → PutEach S Q q r → PutEach S R p r
  each_then {p = p} {r = r} apart to from E F = record {
    numbers = F.numbers ++ E.numbers;
    distinct = distinct_append F.numbers E.numbers F.distinct E.distinct (λ x i j. apart x (E.each x j) (F.each x i));
    each = λ x i. to x (elim (Memᴰ.append_cases F.numbers i) [ inl t ↦ inr (F.each x t) | inr t ↦ inl (E.each x t) ]);
    every = λ x h. elim (from x h) [ inl t ↦ Memᴰ.append_right F.numbers (E.every x t) | inr t ↦ Memᴰ.append_left E.numbers (F.every x t) ];
    became = subst (λ es. Became S es p r) (sym (puts_append F.numbers E.numbers)) (became_then S E.became F.became);
  }

  -- where no number has the property, as many are held as before
  pub each_count : {P : ℕ → Type 0} {p q : Y} → ((x : ℕ) → P x → ⊥) → PutEach S P p q → count_of (S.numbers q) ≡ count_of (S.numbers p)
  each_count {p = p} {q = q} n E =
      tally_same (S.numbers p).holds (S.numbers q).holds (S.numbers q).size (λ x _. puts_out S E.numbers E.became x (λ i. n x (E.each x i)))
      ∙ ap (tally (S.numbers p).holds) (became_size S E.became)
