-- Members of the lists that rounds are made of.
use Rattle.std.proofs.Common.{◌≡◌, ℕ, zero, suc, ◌<◌, Bool, true, false, cond, ◌&&◌, ◌||◌, eqb, List, [], ◌∷◌, sym, refl, subst, ap₂, inl, inr, ⊎_elim, arith}
use mathlib.Core.List.Memᴰ
use mathlib.Core.List.{Memᴰ}
use Rattle.std.proofs.lemmas.Bool.{and_parts, and_from, or_cases, or_left, or_right, eqb-true, eq-eqb, cases_eq, false≢true}
use Rattle.reasoning.specs.declared.Fact.{Fact}
use Rattle.reasoning.specs.declared.Fact.TheVariants.{Under as under, Implies as implies}
use Rattle.cases.specs.Rounds.{numbers, each, only, same, has, all_in, news}

pub numbers_of : (n k : ℕ) → k < n → Memᴰ k (numbers n)
numbers_of zero k h = absurd (omega arith)
numbers_of (suc n) k h = ⊎_elim Memᴰ.head (λ ne. Memᴰ.tail (numbers_of n k (omega arith))) (cases_eq k n)

pub numbers_at : (n k : ℕ) → Memᴰ k (numbers n) → k < n
numbers_at zero k m = absurd (Memᴰ.not-nil m)
numbers_at (suc n) k m = elim (Memᴰ.cases_cons m) [ inl e ↦ omega arith | inr t ↦ (let h = numbers_at n k t in omega arith) ]

pub each_of : {A B : Type 0} (f : A → List B) {x : A} {y : B} {xs : List A} → Memᴰ x xs → Memᴰ y (f x) → Memᴰ y (each xs f)
each_of f {y = y} (Memᴰ.head e) m = Memᴰ.append_left _ (subst (λ z. Memᴰ y (f z)) e m)
each_of f (Memᴰ.tail t) m = Memᴰ.append_right _ (each_of f t m)

pub each_at : {A B : Type 0} (f : A → List B) {y : B} (xs : List A) → Memᴰ y (each xs f) → (x : A) × Memᴰ x xs × Memᴰ y (f x)
each_at f [] m = absurd (Memᴰ.not-nil m)
each_at f (x ∷ xs) m = elim (Memᴰ.append_cases (f x) m) [
  | inl h ↦ (x, Memᴰ.head refl, h)
  | inr t ↦ (let w = each_at f xs t in (w.0, Memᴰ.tail w.1, w.2))
]

pub only_of : {A : Type 0} (b : Bool) {x : A} {xs : List A} → b ≡ true → Memᴰ x xs → Memᴰ x (only b xs)
only_of true e m = m
only_of false e m = absurd (false≢true e)

pub only_at : {A : Type 0} (b : Bool) {x : A} {xs : List A} → Memᴰ x (only b xs) → (b ≡ true) × Memᴰ x xs
only_at true m = (refl, m)
only_at false m = absurd (Memᴰ.not-nil m)

pub same_true : (f g : Fact) → same f g ≡ true → f ≡ g
same_true (under a b) (under c d) h = let t = and_parts (eqb a c) (eqb b d) h in ap₂ under (eqb-true a c t.0) (eqb-true b d t.1)
same_true (under a b) (implies t c d) h = absurd (false≢true h)
same_true (implies s a b) (under c d) h = absurd (false≢true h)
same_true (implies s a b) (implies t c d) h =
    let w = and_parts (eqb s t) (eqb a c && eqb b d) h in
    let u = and_parts (eqb a c) (eqb b d) w.1 in
    let e = eqb-true s t w.0 in
    let p = eqb-true a c u.0 in
    let q = eqb-true b d u.1 in
    cc

pub same_self : (f : Fact) → same f f ≡ true
same_self (under a b) = and_from (eqb a a) (eqb b b) (eq-eqb a a refl) (eq-eqb b b refl)
same_self (implies s a b) = and_from (eqb s s) (eqb a a && eqb b b) (eq-eqb s s refl) (and_from (eqb a a) (eqb b b) (eq-eqb a a refl) (eq-eqb b b refl))

pub has_of : (f : Fact) (fs : List Fact) → Memᴰ f fs → has fs f ≡ true
has_of f [] m = absurd (Memᴰ.not-nil m)
has_of f (g ∷ gs) m = elim (Memᴰ.cases_cons m) [
  | inl e ↦ or_left (same f g) (has gs f) (subst (λ h. same f h ≡ true) e (same_self f))
  | inr t ↦ or_right (same f g) (has gs f) (has_of f gs t)
]

pub has_at : (f : Fact) (fs : List Fact) → has fs f ≡ true → Memᴰ f fs
has_at f [] h = absurd (false≢true h)
has_at f (g ∷ gs) h = elim (or_cases (same f g) (has gs f) h) [ inl e ↦ Memᴰ.head (same_true f g e) | inr t ↦ Memᴰ.tail (has_at f gs t) ]

-- what passes the test for all passes it for each
pub all_in_lem : (facts : List Fact) (f : Fact) (fs : List Fact) → all_in facts fs ≡ true → Memᴰ f fs → has facts f ≡ true
all_in_lem facts f [] h m = absurd (Memᴰ.not-nil m)
all_in_lem facts f (g ∷ gs) h m =
    let t = and_parts (has facts g) (all_in facts gs) h in
    elim (Memᴰ.cases_cons m) [ inl e ↦ subst (λ k. has facts k ≡ true) (sym e) t.0 | inr k ↦ all_in_lem facts f gs t.1 k ]

-- news are of the list
pub news_at : (facts : List Fact) (f : Fact) (fs : List Fact) → Memᴰ f (news facts fs) → Memᴰ f fs
news_at facts f [] m = m
news_at facts f (g ∷ gs) m = go (λ t. news_at facts f gs t) (has facts g || has (news facts gs) g) m
  where
    go : (Memᴰ f (news facts gs) → Memᴰ f gs) → (b : Bool) → Memᴰ f (cond b (news facts gs) (g ∷ news facts gs)) → Memᴰ f (g ∷ gs)
    go ih true m = Memᴰ.tail (ih m)
    go ih false m = elim (Memᴰ.cases_cons m) [ inl e ↦ Memᴰ.head e | inr t ↦ Memᴰ.tail (ih t) ]
