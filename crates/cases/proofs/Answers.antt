-- A computed test that a list is the ascending list of exactly the numbers with a property.
use Rattle.std.proofs.Common.{◌≡◌, ℕ, ◌<◌, Bool, true, false, ◌&&◌, ◌||◌, eqb, ltb, List, [], ◌∷◌, Decides, inl, inr}
use mathlib.Core.List.{Memᴰ}
use Rattle.std.specs.List.{list_all}
use Rattle.std.proofs.lemmas.Bool.{and_parts, or_cases, eqb-true, ltb-true, false≢true}
use Rattle.lemmas.specs.Tests.{every, if_then}
use Rattle.lemmas.proofs.Tests.{every_at, if_at}
use Rattle.saturation.specs.Answers.{Ascending, ListOf}
use Rattle.cases.proofs.Tests.{all_at}

-- whether the number stands in the list
abbrev stands : List ℕ → ℕ → Bool
stands [] x = false
stands (y ∷ ys) x = eqb x y || stands ys x

stands_at : (ys : List ℕ) (x : ℕ) → stands ys x ≡ true → Memᴰ x ys
stands_at [] x h = absurd (false≢true h)
stands_at (y ∷ ys) x h = elim (or_cases (eqb x y) (stands ys x) h) [ inl e ↦ Memᴰ.head (eqb-true x y e) | inr t ↦ Memᴰ.tail (stands_at ys x t) ]

-- each entry passes the test with those after it
abbrev pub ascending : {A : Type 0} → (A → A → Bool) → List A → Bool
ascending before [] = true
ascending before (x ∷ xs) = list_all (before x) xs && ascending before xs

pub ascending_at : {A : Type 0} (before : A → A → Bool) (Precedes : A → A → Type 0) → ((x y : A) → before x y ≡ true → Precedes x y) → (xs : List A) → ascending before xs ≡ true → Ascending Precedes xs
ascending_at before Precedes told [] h = tt
ascending_at before Precedes told (x ∷ xs) h =
    let t = and_parts (list_all (before x) xs) (ascending before xs) h in
    (λ y m. told x y (all_at (before x) xs t.0 y m), ascending_at before Precedes told xs t.1)

-- the list is the ascending list of those below n that pass the test
abbrev pub lists : ℕ → (ℕ → Bool) → List ℕ → Bool
lists n p xs = ascending ltb xs && (list_all p xs && every n (λ x. if_then (p x) (stands xs x)))

pub lists_true : (n : ℕ) (p : ℕ → Bool) (P : ℕ → Type 0) (xs : List ℕ) → ((x : ℕ) → Decides (p x) (P x)) → ((x : ℕ) → P x → x < n) → lists n p xs ≡ true → ListOf P xs
lists_true n p P xs told low h =
    let t = and_parts (ascending ltb xs) (list_all p xs && every n (λ x. if_then (p x) (stands xs x))) h in
    let u = and_parts (list_all p xs) (every n (λ x. if_then (p x) (stands xs x))) t.1 in
    record {
      ascending = ascending_at ltb (λ x y. x < y) ltb-true xs t.0;
      each = λ x m. (told x).0 (all_at p xs u.0 x m);
      every = λ x q. stands_at xs x (if_at (p x) (stands xs x) (every_at n (λ x. if_then (p x) (stands xs x)) u.1 x (low x q)) ((told x).1 q));
    }
