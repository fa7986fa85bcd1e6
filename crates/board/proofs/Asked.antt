-- What the tests pick is the ascending list of exactly the mates or the parents.
use Rattle.std.proofs.Common.{◌≡◌, ℕ, zero, suc, ◌+◌, ◌<◌, ◌≤◌, Bool, true, false, cond, Decides, List, ◌∷◌, length, sym, refl, ap, ◌∙◌, inl, inr, arith}
use mathlib.Core.List.Memᴰ
use mathlib.Core.List.{Memᴰ}
use Rattle.std.specs.List.{range_with_len, filter}
use Rattle.std.proofs.lemmas.Bool.{cases_eq, both_ways}
use Rattle.grades.specs.Kinds.{Kind}
use Rattle.terms.specs.Vocabularies.{Vocabulary, Named}
use Rattle.saturation.specs.Boards.{Board}
use Rattle.saturation.specs.Answers.{FoundUnder, ListOf}
use Rattle.saturation.proofs.Deciding.{mate_decides, parent_decides}
use Rattle.board.specs.declared.board.asking.Question.{Question}
use Rattle.board.specs.declared.board.asking.Question.TheVariants.{Mates, Parents}
use Rattle.board.specs.Asking.{picked, under_test, wanted_test}
use Rattle.board.specs.Questions.{Wanted}

-- one of the n numbers from a on that pass
abbrev Passes : (ℕ → Bool) → ℕ → ℕ → ℕ → Type 0
Passes f a n x = (a ≤ x) × (x < a + n) × (f x ≡ true)

filter_list : (f : ℕ → Bool) (a n : ℕ) → ListOf (Passes f a n) (filter f (range_with_len a n))
filter_list f a zero = record { ascending = tt; each = λ x m. absurd (Memᴰ.not-nil m); every = λ x h. absurd (omega arith) }
filter_list f a (suc n) = go (f a) refl (filter_list f (a + 1) n)
  where
    later : (x : ℕ) → Passes f (a + 1) n x → Passes f a (suc n) x
    later x h = (omega arith, omega arith, h.2)

    go : (b : Bool) {xs : List ℕ} → f a ≡ b → ListOf (Passes f (a + 1) n) xs → ListOf (Passes f a (suc n)) (cond b (a ∷ xs) xs)
    go true e L = record {
      ascending = ((λ y m. omega (arith, (L.each y m).0)), L.ascending);
      each = λ x m. elim (Memᴰ.cases_cons m) [ inl q ↦ (omega arith, omega arith, ap f q ∙ e) | inr t ↦ later x (L.each x t) ];
      every = λ x h. elim (cases_eq x a) [ inl q ↦ Memᴰ.head q | inr d ↦ Memᴰ.tail (L.every x (omega arith, omega arith, h.2)) ];
    }
    go false e L = record {
      ascending = L.ascending;
      each = λ x m. later x (L.each x m);
      every = λ x h. elim (cases_eq x a) [ inl q ↦ absurd (both_ways (f a) e (ap f (sym q) ∙ h.2)) | inr d ↦ L.every x (omega arith, omega arith, h.2) ];
    }

picked_list : (f : ℕ → Bool) (n : ℕ) (P : ℕ → Type 0) → ((x : ℕ) → Decides (f x) (P x)) → ((x : ℕ) → P x → x < n) → ListOf P (picked f n)
picked_list f n P told below = let L = filter_list f 0 n in record {
  ascending = L.ascending;
  each = λ x m. (told x).0 (L.each x m).2;
  every = λ x p. L.every x (omega arith, omega (arith, below x p), (told x).1 p);
}

module _ (v : Vocabulary) (k : Kind) (b : Board) (p a : ℕ) (i : Named v a) where
  wanted_decides : (q : Question) (x : ℕ) → Decides (wanted_test q v (under_test k b p) a x) (Wanted q v (FoundUnder k b p) a x)
  wanted_decides Mates x = mate_decides v (under_test k b p) (FoundUnder k b p) (λ _ _ _ _. (λ t. t, λ t. t)) a x i
  wanted_decides Parents x = parent_decides v (under_test k b p) (FoundUnder k b p) (λ _ _ _ _. (λ t. t, λ t. t)) a x i

  wanted_below : (q : Question) (x : ℕ) → Wanted q v (FoundUnder k b p) a x → x < length v.concepts
  wanted_below Mates x m = m.0.0
  wanted_below Parents x m = m.0.0

  pub wanted_list : (q : Question) → b.concepts ≡ length v.concepts → ListOf (Wanted q v (FoundUnder k b p) a) (picked (wanted_test q v (under_test k b p) a) b.concepts)
  wanted_list q e =
      picked_list (wanted_test q v (under_test k b p) a) b.concepts (Wanted q v (FoundUnder k b p) a) (wanted_decides q) (λ x m. omega (arith, wanted_below q x m))
