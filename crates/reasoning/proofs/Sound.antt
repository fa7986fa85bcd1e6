-- What the rules derive holds in every finite model.
use Rattle.std.proofs.Common.{◌≡◌, ℕ, ◌<◌, Bool, true, List, refl, subst, arith}
use mathlib.Core.List.{Memᴰ}
use Rattle.terms.specs.declared.records.Concept.TheVariants.{Conjunction, Restriction}
use Rattle.terms.specs.Vocabularies.{Vocabulary, Is}
use Rattle.reasoning.specs.Models.{Structure, Model, Inside, In}
use Rattle.reasoning.specs.Derivations.{Fact, under, implies, Job, fact_of, Rule, Derivable, by}
use Rattle.reasoning.specs.Truth.{Sound}

-- a conjunction's elements lie in both operands
pub in_both : (v : Vocabulary) (m : Structure) {c d e x : ℕ} → Is v c (Conjunction d e) → In v m c x → In v m d x × In v m e x
in_both v m i (In.atomic j h) = let z : ◌≡◌ {A = ℕ} 0 1 = cc in absurd (omega arith)
in_both v m i (In.top j) = let z : ◌≡◌ {A = ℕ} 0 1 = cc in absurd (omega arith)
in_both v m {d} {e} {x} i (In.both {d = d'} {e = e'} j p q) =
    let eqd : d' ≡ d = cc in
    let eqe : e' ≡ e = cc in
    (subst (λ (k : ℕ). In v m k x) eqd p, subst (λ (k : ℕ). In v m k x) eqe q)
in_both v m i (In.some j h l p) = let z : ◌≡◌ {A = ℕ} 0 1 = cc in absurd (omega arith)

-- an element of a restriction has a successor in the filler
pub in_some : (v : Vocabulary) (m : Structure) {c r d x : ℕ} → Is v c (Restriction r d) → In v m c x → (y : ℕ) × (y < m.size) × (m.pairs r x y ≡ true) × In v m d y
in_some v m i (In.atomic j h) = let z : ◌≡◌ {A = ℕ} 0 1 = cc in absurd (omega arith)
in_some v m i (In.top j) = let z : ◌≡◌ {A = ℕ} 0 1 = cc in absurd (omega arith)
in_some v m i (In.both j p q) = let z : ◌≡◌ {A = ℕ} 0 1 = cc in absurd (omega arith)
in_some v m {r} {d} {x} i (In.some {r = r'} {d = d'} {y} j h l p) =
    let eqr : r' ≡ r = cc in
    let eqd : d' ≡ d = cc in
    (y, l, subst (λ (k : ℕ). m.pairs k x y ≡ true) eqr h, subst (λ (k : ℕ). In v m k y) eqd p)

-- what a fact says of a structure
abbrev Mean : Vocabulary → Structure → Fact → Type 0
Mean v m (under c d) = Inside v m c d
Mean v m (implies s c e) = (x y : ℕ) → x < m.size → y < m.size → m.pairs s x y ≡ true → In v m c y → In v m e x

step : (v : Vocabulary) (on : ℕ → Bool) (m : Structure) → Model v on m → {js : List Job} {f : Fact} → Rule v on js f → ((j : Job) → Memᴰ j js → Mean v m (fact_of j)) → Mean v m f
step v on m k (Rule.start i) h = λ x l p. p
step v on m k (Rule.stated i mem o) h = λ x l p. k.included i mem o x l (h _ (Memᴰ.head refl) x l p)
step v on m k (Rule.left i) h = λ x l p. (in_both v m i (h _ (Memᴰ.head refl) x l p)).0
step v on m k (Rule.right i) h = λ x l p. (in_both v m i (h _ (Memᴰ.head refl) x l p)).1
step v on m k (Rule.filler i) h = λ x l p. p
step v on m k (Rule.top i) h = λ x l p. In.top i
step v on m k (Rule.both i) h = λ x l p. In.both i (h _ (Memᴰ.head refl) x l p) (h _ (Memᴰ.tail (Memᴰ.head refl)) x l p)
step v on m k (Rule.some i) h = λ x y lx ly q p. In.some i q ly (h _ (Memᴰ.head refl) y ly p)
step v on m k (Rule.follows {r} {s} i b) h = λ x l p.
    let w = in_some v m i (h _ (Memᴰ.head refl) x l p) in
    h _ (Memᴰ.tail (Memᴰ.head refl)) x w.0 l w.1 (k.ordered r s x w.0 b l w.1 w.2) w.3
step v on m k (Rule.spreads {r} {s} {t} i b b' tr) h = λ x y lx ly q p.
    let w = in_some v m i (h _ (Memᴰ.head refl) y ly p) in
    let far = k.joined t x y w.0 tr lx ly w.1 q (k.ordered r t y w.0 b ly w.1 w.2) in
    h _ (Memᴰ.tail (Memᴰ.head refl)) x w.0 lx w.1 (k.ordered t s x w.0 b' lx w.1 far) w.3

meant : (v : Vocabulary) (on : ℕ → Bool) (m : Structure) → Model v on m → {f : Fact} → Derivable v on f → Mean v m f
meant v on m k (by rule before) = step v on m k rule (λ j mem. meant v on m k (before j mem))

pub sound : Sound
sound v on a d derivation m k = meant v on m k derivation
