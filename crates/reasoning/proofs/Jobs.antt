-- Equality of jobs, tests of range, and what the rules of a well formed vocabulary lead to.
use Rattle.std.proofs.Common.{◌≡◌, ℕ, ◌<◌, Bool, true, ◌&&◌, ltb, ◌⊎◌, List, [], ◌∷◌, length, get_or, refl, subst, ap₂, inl, inr, arith}
use mathlib.Core.List.Memᴰ
use mathlib.Core.List.{Memᴰ}
use Rattle.std.proofs.lemmas.Bool.{cases_eq, and_parts, and_from, lt-ltb, ltb-true}
use Rattle.terms.specs.declared.records.Concept.{Concept}
use Rattle.terms.specs.declared.records.Concept.TheVariants.{Atomic, Top, Conjunction, Restriction}
use Rattle.terms.specs.Vocabularies.{Vocabulary, Named, WellFormed}
use Rattle.reasoning.specs.Derivations.{Fact, under, implies, Job, own, link, imply, fact_of}
use Rattle.reasoning.specs.Derivations.{Within, JobAt, at_left, at_filler, at_premise}

-- a type that is inhabited or empty
abbrev pub Known : Type 0 → Type 0
Known A = A ⊎ (A → ⊥)

pub both_known : {A B C : Type 0} → (A → B → C) → (C → A) → (C → B) → Known A → Known B → Known C
both_known f g h (inl a) (inl b) = inl (f a b)
both_known f g h (inl a) (inr b) = inr (λ c. b (h c))
both_known f g h (inr a) _ = inr (λ c. a (g c))

pub same_job : (i j : Job) → Known (i ≡ j)
same_job (own a b) (own c d) = both_known (λ p q. ap₂ own p q) (λ e. cc) (λ e. cc) (cases_eq a c) (cases_eq b d)
same_job (own a b) (link c d) = inr (λ e. let z : ◌≡◌ {A = ℕ} 0 1 = cc in omega arith)
same_job (own a b) (imply r c d) = inr (λ e. let z : ◌≡◌ {A = ℕ} 0 1 = cc in omega arith)
same_job (link a b) (own c d) = inr (λ e. let z : ◌≡◌ {A = ℕ} 0 1 = cc in omega arith)
same_job (link a b) (link c d) = both_known (λ p q. ap₂ link p q) (λ e. cc) (λ e. cc) (cases_eq a c) (cases_eq b d)
same_job (link a b) (imply r c d) = inr (λ e. let z : ◌≡◌ {A = ℕ} 0 1 = cc in omega arith)
same_job (imply s a b) (own c d) = inr (λ e. let z : ◌≡◌ {A = ℕ} 0 1 = cc in omega arith)
same_job (imply s a b) (link c d) = inr (λ e. let z : ◌≡◌ {A = ℕ} 0 1 = cc in omega arith)
same_job (imply s a b) (imply r c d) =
    both_known {A = (s ≡ r) × (a ≡ c)} {B = b ≡ d} (λ p q. cc) (λ e. (cc, cc)) (λ e. cc)
    (both_known (λ p q. (p, q)) (λ t. t.0) (λ t. t.1) (cases_eq s r) (cases_eq a c)) (cases_eq b d)

pub member : (j : Job) (js : List Job) → Known (Memᴰ j js)
member j [] = inr Memᴰ.not-nil
member j (i ∷ js) = step (same_job j i) (member j js)
  where
    step : Known (j ≡ i) → Known (Memᴰ j js) → Known (Memᴰ j (i ∷ js))
    step (inl e) m = inl (Memᴰ.head e)
    step (inr n) (inl m) = inl (Memᴰ.tail m)
    step (inr n) (inr m) = inr (λ t. elim (Memᴰ.cases_cons t) [ inl e ↦ n e | inr k ↦ m k ])

-- tests of range
abbrev pub inside : Vocabulary → Fact → Bool
inside v (under c d) = ltb c (length v.concepts) && ltb d (length v.concepts)
inside v (implies s c e) = ltb s v.roles && (ltb c (length v.concepts) && ltb e (length v.concepts))

pub inside_within : (v : Vocabulary) (f : Fact) → inside v f ≡ true → Within v f
inside_within v (under c d) h =
    let n = length v.concepts in
    let t = and_parts (ltb c n) (ltb d n) h in (ltb-true c n t.0, ltb-true d n t.1)
inside_within v (implies s c e) h =
    let n = length v.concepts in
    let t = and_parts (ltb s v.roles) (ltb c n && ltb e n) h in
    let u = and_parts (ltb c n) (ltb e n) t.1 in (ltb-true s v.roles t.0, ltb-true c n u.0, ltb-true e n u.1)

pub within_inside : (v : Vocabulary) (f : Fact) → Within v f → inside v f ≡ true
within_inside v (under c d) h =
    let n = length v.concepts in and_from (ltb c n) (ltb d n) (lt-ltb c n h.0) (lt-ltb d n h.1)
within_inside v (implies s c e) h =
    let n = length v.concepts in
    and_from (ltb s v.roles) (ltb c n && ltb e n) (lt-ltb s v.roles h.0) (and_from (ltb c n) (ltb e n) (lt-ltb c n h.1) (lt-ltb e n h.2))

-- what kind of concept
pub is_named_lem : (v : Vocabulary) (c : ℕ) → c < length v.concepts → Known (Named v c)
is_named_lem v c h = go (get_or v.concepts c Atomic) refl
  where
    go : (k : Concept) → get_or v.concepts c Atomic ≡ k → Known (Named v c)
    go Atomic e = inl (h, e)
    go Top e = inr (λ t. let q = t.1 in let z : ◌≡◌ {A = ℕ} 0 1 = cc in omega arith)
    go (Conjunction x y) e = inr (λ t. let q = t.1 in let z : ◌≡◌ {A = ℕ} 0 1 = cc in omega arith)
    go (Restriction x y) e = inr (λ t. let q = t.1 in let z : ◌≡◌ {A = ℕ} 0 1 = cc in omega arith)

-- a fact is a start fact, or is none
abbrev pub Start : Vocabulary → Fact → Type 0
Start v f = (a : ℕ) × Named v a × (f ≡ under a a)

pub is_start : (v : Vocabulary) (f : Fact) → Within v f → Known (Start v f)
is_start v (under c d) w =
    both_known {A = c ≡ d} {B = Named v c} (λ e i. (c, i, cc)) (λ t. let q = t.2 in cc)
    (λ t. let q : under c d ≡ under t.0 t.0 = t.2 in let e : t.0 ≡ c = cc in subst (λ (x : ℕ). Named v x) e t.1)
    (cases_eq c d) (is_named_lem v c w.0)
is_start v (implies s c e) w = inr (λ t. let q = t.2 in let z : ◌≡◌ {A = ℕ} 0 1 = cc in omega arith)

-- where a job stands is a concept, and its fact is one of the vocabulary
pub at_within : (v : Vocabulary) {j : Job} {c : ℕ} → JobAt v j c → Within v (fact_of j)
at_within v (at_left w) = w
at_within v (at_filler w i) = w
at_within v (at_premise w) = w

pub at_concept : (v : Vocabulary) {j : Job} {c : ℕ} → WellFormed v → JobAt v j c → c < length v.concepts
at_concept v wf (at_left w) = w.0
at_concept v wf (at_filler {c = c} {d = d} {r = r} {b = b} w i) = let h = wf.some d r b i in omega arith
at_concept v wf (at_premise w) = w.1

-- a job stands at one concept
pub at_one_concept : (v : Vocabulary) {j : Job} {c d : ℕ} → JobAt v j c → JobAt v j d → c ≡ d
at_one_concept v (at_left w) (at_left x) = refl
at_one_concept v (at_filler w i) (at_filler x h) = let e = i.1 in let f = h.1 in cc
at_one_concept v (at_premise w) (at_premise x) = refl
