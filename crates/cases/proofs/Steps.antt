-- The pairs of a job and a point at which its fact is derivable, from what rounds find at each point.
use Rattle.std.proofs.Common.{◌≡◌, ℕ, ◌<◌, Bool, true, false, not, ◌&&◌, ◌||◌, eqb, List, [], ◌∷◌, length, Decides, sym, refl, subst, inl, inr, arith}
use mathlib.Core.List.Memᴰ
use mathlib.Core.List.{Memᴰ}
use Rattle.std.proofs.lemmas.Bool.{and_parts, and_from, or_left, or_right, eq-eqb, eqb-true, not-true, both_ways}
use Rattle.grades.specs.Kinds.{Kind}
use Rattle.terms.specs.declared.records.Concept.{Concept}
use Rattle.terms.specs.declared.records.Concept.TheVariants.{Atomic, Top, Conjunction, Restriction}
use Rattle.terms.specs.Vocabularies.{concept, Vocabulary, Is, WellFormed}
use Rattle.reasoning.specs.declared.Fact.{Fact}
use Rattle.reasoning.specs.declared.Fact.TheVariants.{Under as under, Implies as implies}
use Rattle.reasoning.specs.declared.Job.{Job}
use Rattle.reasoning.specs.declared.Job.TheVariants.{Own as own, Link as link, Imply as imply}
use Rattle.reasoning.specs.Derivations.{fact_of, Derivable, JobAt, at_left, at_filler, at_premise}
use Rattle.reasoning.proofs.Rules.{derivable_within}
use Rattle.piles.specs.Shapes.{Distinct}
use Rattle.saturation.specs.AnyOrder.{Due, AllDue}
use Rattle.cases.specs.Rounds.{numbers, each, has}
use Rattle.cases.proofs.Lists.{numbers_of, numbers_at, each_of, each_at, has_of, has_at}
use Rattle.cases.proofs.Rounds.{there}

-- the link job of "c under d", if d is a restriction
abbrev link_of : ℕ → ℕ → Concept → List Job
link_of c d Atomic = []
link_of c d Top = []
link_of c d (Conjunction a b) = []
link_of c d (Restriction r b) = link c d ∷ []

-- the jobs of a fact
abbrev jobs_of : Vocabulary → Fact → List Job
jobs_of v (under c d) = own c d ∷ link_of c d (concept v d)
jobs_of v (implies s c e) = imply s c e ∷ []

-- with the point
abbrev jobs_at : Vocabulary → ℕ → Fact → List (Job × ℕ)
jobs_at v p f = each (jobs_of v f) (λ j. (j, p) ∷ [])

-- the jobs of all facts at each point
abbrev pub pairs : Vocabulary → Kind → (ℕ → List Fact) → List (Job × ℕ)
pairs v k facts = each (numbers k.points) (λ p. each (facts p) (jobs_at v p))

abbrev same_job : Job → Job → Bool
same_job (own a b) (own c d) = eqb a c && eqb b d
same_job (own a b) (link c d) = false
same_job (own a b) (imply t c d) = false
same_job (link a b) (own c d) = false
same_job (link a b) (link c d) = eqb a c && eqb b d
same_job (link a b) (imply t c d) = false
same_job (imply s a b) (own c d) = false
same_job (imply s a b) (link c d) = false
same_job (imply s a b) (imply t c d) = eqb s t && (eqb a c && eqb b d)

job_self : (j : Job) → same_job j j ≡ true
job_self (own a b) = and_from (eqb a a) (eqb b b) (eq-eqb a a refl) (eq-eqb b b refl)
job_self (link a b) = and_from (eqb a a) (eqb b b) (eq-eqb a a refl) (eq-eqb b b refl)
job_self (imply s a b) = and_from (eqb s s) (eqb a a && eqb b b) (eq-eqb s s refl) (and_from (eqb a a) (eqb b b) (eq-eqb a a refl) (eq-eqb b b refl))

abbrev same_pair : Job × ℕ → Job × ℕ → Bool
same_pair u w = same_job u.0 w.0 && eqb u.1 w.1

abbrev among : List (Job × ℕ) → Job × ℕ → Bool
among [] u = false
among (w ∷ ws) u = same_pair u w || among ws u

among_of : (u : Job × ℕ) (ws : List (Job × ℕ)) → Memᴰ u ws → among ws u ≡ true
among_of u [] m = absurd (Memᴰ.not-nil m)
among_of u (w ∷ ws) m = elim (Memᴰ.cases_cons m) [
  | inl e ↦ or_left (same_pair u w) (among ws u) (subst (λ z. same_pair u z ≡ true) e (and_from (same_job u.0 u.0) (eqb u.1 u.1) (job_self u.0) (eq-eqb u.1 u.1 refl)))
  | inr t ↦ or_right (same_pair u w) (among ws u) (among_of u ws t)
]

abbrev distinct : List (Job × ℕ) → Bool
distinct [] = true
distinct (u ∷ us) = not (among us u) && distinct us

distinct_at : (us : List (Job × ℕ)) → distinct us ≡ true → Distinct us
distinct_at [] h = tt
distinct_at (u ∷ us) h =
    let t = and_parts (not (among us u)) (distinct us) h in
    (λ m. both_ways (among us u) (not-true (among us u) t.0) (among_of u us m), distinct_at us t.1)

-- n distinct pairs
abbrev pub counts : ℕ → List (Job × ℕ) → Bool
counts n us = eqb n (length us) && distinct us

module _ (v : Vocabulary) (wf : WellFormed v) (k : Kind) (facts : ℕ → List Fact)
    (told : (p : ℕ) → p < k.points → (f : Fact) → Decides (has (facts p) f) (Derivable v (λ code. k.holds code p) f)) where
  -- a job of a derivable fact is due
  due_job : (f : Fact) (p : ℕ) → p < k.points → Derivable v (λ code. k.holds code p) f → (j : Job) → Memᴰ j (jobs_of v f) → Due v k (j, p)
  due_job (under c d) p l h j m = elim (Memᴰ.cases_cons m) [
    | inl e ↦ subst (λ (i : Job). Due v k (i, p)) (sym e) (record { at = (c, at_left (derivable_within v wf h)); point = l; derivable = h })
    | inr t ↦ linked (concept v d) refl t
  ]
    where
      linked : (q : Concept) → concept v d ≡ q → Memᴰ j (link_of c d q) → Due v k (j, p)
      linked Atomic e t = absurd (Memᴰ.not-nil t)
      linked Top e t = absurd (Memᴰ.not-nil t)
      linked (Conjunction a b) e t = absurd (Memᴰ.not-nil t)
      linked (Restriction r b) e t =
          let i : Is v d (Restriction r b) = there v d (Restriction r b) (λ q. let z : ◌≡◌ {A = ℕ} 0 1 = cc in absurd (omega arith)) e in
          subst (λ (i : Job). Due v k (i, p)) (sym (Memᴰ.eq_of_singleton t)) (record { at = (b, at_filler (derivable_within v wf h) i); point = l; derivable = h })
  due_job (implies s c e) p l h j m =
      subst (λ (i : Job). Due v k (i, p)) (sym (Memᴰ.eq_of_singleton m)) (record { at = (c, at_premise (derivable_within v wf h)); point = l; derivable = h })

  pairs_due : (u : Job × ℕ) → Memᴰ u (pairs v k facts) → Due v k u
  pairs_due u m =
      let x = each_at (λ p. each (facts p) (jobs_at v p)) (numbers k.points) m in
      let p = x.0 in
      let l = numbers_at k.points p x.1 in
      let y = each_at (jobs_at v p) (facts p) x.2 in
      let f = y.0 in
      let z = each_at (λ j. (j, p) ∷ []) (jobs_of v f) y.2 in
      subst (λ (w : Job × ℕ). Due v k w) (sym (Memᴰ.eq_of_singleton z.2)) (due_job f p l ((told p l f).0 (has_of f (facts p) y.1)) z.0 z.1)

  -- a job that stands somewhere is one of its fact
  job_of : {j : Job} {c : ℕ} → JobAt v j c → Memᴰ j (jobs_of v (fact_of j))
  job_of (at_left w) = Memᴰ.head refl
  job_of (at_filler {c = c} {d = d} w i) = Memᴰ.tail (subst (λ (q : Concept). Memᴰ (link c d) (link_of c d q)) (sym i.1) (Memᴰ.head refl))
  job_of (at_premise w) = Memᴰ.head refl

  due_pairs : (u : Job × ℕ) → Due v k u → Memᴰ u (pairs v k facts)
  due_pairs u d =
      let p = u.1 in
      let f = fact_of u.0 in
      each_of (λ p. each (facts p) (jobs_at v p)) (numbers_of k.points p d.point)
      (each_of (jobs_at v p) (has_at f (facts p) ((told p d.point f).1 d.derivable))
      (each_of (λ j. (j, p) ∷ []) (job_of d.at.1) (Memᴰ.head refl)))

  pub steps_true : (n : ℕ) → counts n (pairs v k facts) ≡ true → AllDue v k n
  steps_true n h =
      let us = pairs v k facts in
      let t = and_parts (eqb n (length us)) (distinct us) h in
      record { some = record { pairs = us; distinct = distinct_at us t.1; each = pairs_due; count = eqb-true n (length us) t.0 }; every = due_pairs }
