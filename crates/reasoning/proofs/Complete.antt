-- What holds in every finite model stands in every closed table: the table itself is read as a model.
use Rattle.std.proofs.Common.{◌≡◌, ℕ, zero, suc, ◌<◌, Bool, true, false, cond, ◌&&◌, List, [], ◌∷◌, length, get_or, sym, refl, ap, subst, arith}
use mathlib.Core.Bool.{and-eq-true_iff}
use mathlib.Core.List.Memᴰ
use mathlib.Core.List.{Memᴰ}
use Rattle.terms.specs.declared.records.Concept.{Concept}
use Rattle.terms.specs.declared.records.Concept.TheVariants.{Atomic, Top, Conjunction, Restriction}
use Rattle.terms.specs.Vocabularies.{Vocabulary, Is, WellFormed}
use Rattle.reasoning.specs.Models.{Structure, Model, Inside, In}
use Rattle.reasoning.specs.Derivations.{Fact, under, implies, Job, fact_of, Rule, by, Closed}
use Rattle.reasoning.specs.Truth.{Complete, Least, Exact}
use Rattle.reasoning.proofs.Sound.{sound}
use Rattle.lemmas.specs.Tests.{every, if_then}
use Rattle.lemmas.proofs.Tests.{every_at, every_of, if_at, if_of}

-- the premises of a rule, one by one
none : (F : Fact → Bool) (j : Job) → Memᴰ j [] → F (fact_of j) ≡ true
none F j m = absurd (Memᴰ.not-nil m)

more : (F : Fact → Bool) {i : Job} {js : List Job} → F (fact_of i) ≡ true → ((j : Job) → Memᴰ j js → F (fact_of j) ≡ true) → (j : Job) → Memᴰ j (i ∷ js) → F (fact_of j) ≡ true
more F h k j (Memᴰ.head e) = subst (λ (n : Job). F (fact_of n) ≡ true) (sym e) h
more F h k j (Memᴰ.tail m) = k j m

-- what must stand in the table for c to have an r-successor that is d
abbrev Reach : Vocabulary → (Fact → Bool) → ℕ → ℕ → ℕ → Type 0
Reach v F r c d =
    (s e : ℕ) → s < v.roles → e < length v.concepts → v.below r s ≡ true → F (implies s d e) ≡ true →
    (F (under c e) ≡ true) × ((t : ℕ) → v.below r t ≡ true → v.below t s ≡ true → v.transitive t ≡ true → F (implies t c e) ≡ true)

spread : Vocabulary → (Fact → Bool) → ℕ → ℕ → ℕ → ℕ → ℕ → Bool
spread v F r c s e t = if_then (v.below r t) (if_then (v.below t s) (if_then (v.transitive t) (F (implies t c e))))

carried : Vocabulary → (Fact → Bool) → ℕ → ℕ → ℕ → ℕ → ℕ → Bool
carried v F r c d s e = if_then (v.below r s) (if_then (F (implies s d e)) (F (under c e) && every v.roles (spread v F r c s e)))

reach : Vocabulary → (Fact → Bool) → ℕ → ℕ → ℕ → Bool
reach v F r c d = every v.roles (λ s. every (length v.concepts) (carried v F r c d s))

reach_at : (v : Vocabulary) → WellFormed v → (F : Fact → Bool) (r c d : ℕ) → reach v F r c d ≡ true → Reach v F r c d
unfolding reach carried spread
reach_at v wf F r c d h s e ls le b i =
    let inner = every_at v.roles (λ n. every (length v.concepts) (carried v F r c d n)) h s ls in
    let body = if_at _ _ (if_at _ _ (every_at (length v.concepts) (carried v F r c d s) inner e le) b) i in
    let both = (and-eq-true_iff (F (under c e)) (every v.roles (spread v F r c s e))).0 body in
    (both.0, λ t b₁ b₂ tr. if_at _ _ (if_at _ _ (if_at _ _ (every_at v.roles (spread v F r c s e) both.1 t (wf.flagged t tr)) b₁) b₂) tr)

reach_of : (v : Vocabulary) (F : Fact → Bool) (r c d : ℕ) → Reach v F r c d → reach v F r c d ≡ true
unfolding reach carried spread
reach_of v F r c d h =
    every_of v.roles (λ n. every (length v.concepts) (carried v F r c d n)) (λ s ls.
    every_of (length v.concepts) (carried v F r c d s) (λ e le.
    if_of _ _ (λ b. if_of _ _ (λ i.
    let both = h s e ls le b i in
    (and-eq-true_iff (F (under c e)) (every v.roles (spread v F r c s e))).1
    (both.0, every_of v.roles (spread v F r c s e) (λ t lt. if_of _ _ (λ b₁. if_of _ _ (λ b₂. if_of _ _ (λ tr. both.1 t b₁ b₂ tr)))))))))

-- the concept that an element stands for: itself where the table knows it, and else a
stands : (Fact → Bool) → ℕ → ℕ → ℕ
stands F a x = cond (F (under x x)) x a

stands_self : (F : Fact → Bool) (a x : ℕ) → F (under x x) ≡ true → stands F a x ≡ x
unfolding stands
stands_self F a x h = ap (λ (b : Bool). cond b x a) h

stands_known : (F : Fact → Bool) (a x : ℕ) → F (under a a) ≡ true → F (under (stands F a x) (stands F a x)) ≡ true
unfolding stands
stands_known F a x h = go (F (under x x)) refl
  where
    go : (b : Bool) → F (under x x) ≡ b → F (under (stands F a x) (stands F a x)) ≡ true
    go true e = rw (stands_self F a x e) e
    go false e =
        let q : stands F a x ≡ a = ap (λ (b : Bool). cond b x a) e in
        rw q h

-- the table as a structure
canonical : (v : Vocabulary) → (Fact → Bool) → (a : ℕ) → a < length v.concepts → Structure
canonical v F a l =
    record {
      size = length v.concepts;
      inhabited = omega arith;
      atom = λ c x. F (under (stands F a x) c);
      pairs = λ r x y. reach v F r (stands F a x) (stands F a y);
    }

-- In the table's structure an element lies in just the concepts that the table gives it.
module _ (v : Vocabulary) (on : ℕ → Bool) (wf : WellFormed v) (F : Fact → Bool) (closed : Closed v on F) (a : ℕ) (l : a < length v.concepts) (self : F (under a a) ≡ true) where
  m : Structure
  m = canonical v F a l

  known : (x : ℕ) → F (under (stands F a x) (stands F a x)) ≡ true
  known x = stands_known F a x self

  held : {d x : ℕ} → In v m d x → F (under (stands F a x) d) ≡ true
  unfolding m canonical
  held (In.atomic i h) = h
  held {x} (In.top i) = closed _ _ (Rule.top i) (more F (known x) (none F))
  held (In.both i p q) = closed _ _ (Rule.both i) (more F (held p) (more F (held q) (none F)))
  held {d} {x} (In.some {r} {d = d'} {y} i h l p) =
      let lr = (wf.some d r d' i).0 in
      (reach_at v wf F r (stands F a x) (stands F a y) h r d lr i.0 (wf.reflexive r lr) (closed _ _ (Rule.some i) (more F (held p) (none F)))).0

  linked : (c x r d : ℕ) → Is v x (Restriction r d) → F (under c x) ≡ true → Reach v F r c d
  linked c x r d i h s e ls le b k =
      (closed _ _ (Rule.follows i b) (more F h (more F k (none F))), λ t b₁ b₂ tr. closed _ _ (Rule.spreads i b₁ b₂ tr) (more F h (more F k (none F))))

  present : (k d x : ℕ) → d < k → d < length v.concepts → F (under (stands F a x) d) ≡ true → In v m d x
  unfolding m canonical
  present zero d x lk l h = absurd (omega arith)
  present (suc k) d x lk l h = go (λ d' x' lt h'. present k d' x' (omega arith) (omega arith) h') (get_or v.concepts d Atomic) refl
    where
      go : ((d' x' : ℕ) → d' < d → F (under (stands F a x') d') ≡ true → In v m d' x') → (q : Concept) → get_or v.concepts d Atomic ≡ q → In v m d x
      go before Atomic e = In.atomic (l, e) h
      go before Top e = In.top (l, e)
      go before (Conjunction c₁ c₂) e =
          let lt = wf.both d c₁ c₂ (l, e) in
          In.both (l, e) (before c₁ x lt.0 (closed _ _ (Rule.left (l, e)) (more F h (none F)))) (before c₂ x lt.1 (closed _ _ (Rule.right (l, e)) (more F h (none F))))
      go before (Restriction r c) e =
          let lt = (wf.some d r c (l, e)).1 in
          let self : F (under c c) ≡ true = closed _ _ (Rule.filler (l, e)) (more F h (none F)) in
          let same = stands_self F a c self in
          let way : reach v F r (stands F a x) (stands F a c) ≡ true = rw same (reach_of v F r (stands F a x) c (linked (stands F a x) d r c (l, e) h)) in
          In.some (l, e) way (omega arith) (before c c lt (rw same self))

  model : Model v on m
  unfolding m canonical
  model =
      record {
        ordered = λ r s x y b lx ly h.
            let far = reach_at v wf F r (stands F a x) (stands F a y) h in
            reach_of v F s (stands F a x) (stands F a y) (λ s' e ls le b' k.
            let w = far s' e ls le (wf.chains r s s' b b') k in
            (w.0, λ t b₁ b₂ tr. w.1 t (wf.chains r s t b b₁) b₂ tr));
        joined = λ r x y z tr lx ly lz h₁ h₂.
            let near = reach_at v wf F r (stands F a x) (stands F a y) h₁ in
            let far = reach_at v wf F r (stands F a y) (stands F a z) h₂ in
            let lr = wf.flagged r tr in
            let self = wf.reflexive r lr in
            reach_of v F r (stands F a x) (stands F a z) (λ s e ls le b k.
            let w = far s e ls le b k in (
              (near r e lr le self (w.1 r self b tr)).0,
              λ t b₁ b₂ tr'. let lt = wf.flagged t tr' in (near t e lt le b₁ (w.1 t b₁ b₂ tr')).1 t b₁ (wf.reflexive t lt) tr',
            ));
        included = λ i mem o x l p.
            present (suc i.sup) i.sup x (omega arith) (wf.stated i mem).1 (closed _ _ (Rule.stated i mem o) (more F (held p) (none F)));
      }

-- so the table has all that holds of a concept that it knows
pub complete_known : (v : Vocabulary) (on : ℕ → Bool) → WellFormed v → (F : Fact → Bool) → Closed v on F → (a d : ℕ) → a < length v.concepts → F (under a a) ≡ true → ((m : Structure) → Model v on m → Inside v m a d) → F (under a d) ≡ true
unfolding m canonical
complete_known v on wf F closed a d l self every-model =
    let itself = stands_self F a a self in
    let inside = present v on wf F closed a l self (suc a) a a (omega arith) l (rw itself self) in
    rw itself at (held v on wf F closed a l self (every-model (m v on wf F closed a l self) (model v on wf F closed a l self) a l inside))

pub complete : Complete
complete v on wf F closed a d ia l = complete_known v on wf F closed a d ia.0 (closed [] (under a a) (Rule.start ia) (none F))

-- a closed table has what is derivable
pub least : Least
least v on F closed f (by {js = js} rule before) = closed js f rule (λ j mem. least v on F closed (fact_of j) (before j mem))

pub exact : Exact
exact v on wf F closed derived a d ia l = (λ h. sound v on a d (derived (under a d) h), complete v on wf F closed a d ia l)
