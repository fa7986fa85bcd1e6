-- What passing a test means.
use Rattle.std.proofs.Common.{◌≡◌, ℕ, zero, suc, ◌+◌, ◌<◌, ◌≤◌, Bool, true, false, ◌&&◌, Decides, sym, refl, ap, ◌∙◌, inl, inr, add-one, arith}
use Rattle.std.proofs.lemmas.Bool.{and_parts, and_from, and_left, and_right, cases_eq, cases_lt, false≢true}
use Rattle.lemmas.specs.Tests.{every, if_then}

-- two tests that follow from one another are the same
pub same_test : (x y : Bool) → (x ≡ true → y ≡ true) → (y ≡ true → x ≡ true) → x ≡ y
same_test true y f g = sym (f refl)
same_test false true f g = g refl
same_test false false f g = refl

-- ---- all numbers below a bound

pub every_at : (n : ℕ) (f : ℕ → Bool) → every n f ≡ true → (i : ℕ) → i < n → f i ≡ true
every_at zero f h i l = absurd (omega arith)
every_at (suc n) f h i l =
    let t = and_parts (f n) (every n f) h in
    elim (cases_eq i n) [ inl e ↦ ap f e ∙ t.0 | inr d ↦ every_at n f t.1 i (omega arith) ]

pub every_of : (n : ℕ) (f : ℕ → Bool) → ((i : ℕ) → i < n → f i ≡ true) → every n f ≡ true
every_of zero f h = refl
every_of (suc n) f h = and_from (f n) (every n f) (h n (omega arith)) (every_of n f (λ i l. h i (omega arith)))

pub every_fails : (n : ℕ) (f : ℕ → Bool) (i : ℕ) → i < n → f i ≡ false → every n f ≡ false
every_fails zero f i l e = absurd (omega arith)
every_fails (suc n) f i l e = elim (cases_eq i n) [
  | inl q ↦ and_left (f n) (every n f) (ap f (sym q) ∙ e)
  | inr d ↦ and_right (f n) (every n f) (every_fails n f i (omega arith) e)
]

-- ---- one test if another passes

pub if_at : (b c : Bool) → if_then b c ≡ true → b ≡ true → c ≡ true
if_at true c h e = h
if_at false c h e = absurd (false≢true e)

pub if_of : (b c : Bool) → (b ≡ true → c ≡ true) → if_then b c ≡ true
if_of true c h = h refl
if_of false c h = refl

-- ---- what a test decides

-- a test that is made only where another passes
pub decides_then : {P Q : Type 0} (x y : Bool) → Decides x P → (P → Decides y Q) → Decides (x && y) (P × Q)
decides_then x y f g = (
  λ h. let t = and_parts x y h in let p = f.0 t.0 in (p, (g p).0 t.1),
  λ t. and_from x y (f.1 t.0) ((g t.0).1 t.1),
)

-- what holds of every number if it holds of those below n
pub decides_every : (n : ℕ) (p : ℕ → Bool) (P : ℕ → Type 0) → ((x : ℕ) → x < n → Decides (p x) (P x)) → ((x : ℕ) → n ≤ x → P x) → Decides (every n p) ((x : ℕ) → P x)
decides_every n p P told beyond = (
  λ h x. elim (cases_lt x n) [ inl l ↦ (told x l).0 (every_at n p h x l) | inr l ↦ beyond x l ],
  λ f. every_of n p (λ x l. (told x l).1 (f x)),
)
