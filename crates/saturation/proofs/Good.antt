-- What the grades of a board keep: found facts are derivable, done premises have found conclusions, and the steps are told by distinct pairs.
use Rattle.std.proofs.Common.{◌≡◌, ℕ, zero, suc, ◌<◌, Bool, true, false, ◌⊎◌, List, [], ◌∷◌, length, sym, refl, ap, ◌∙◌, subst, inl, inr, arith}
use mathlib.Core.List.Memᴰ
use mathlib.Core.List.{Memᴰ}
use Rattle.std.proofs.lemmas.Bool.{cases_eq, both_ways}
use Rattle.terms.specs.Vocabularies.{Vocabulary, WellFormed}
use Rattle.grades.specs.Kinds.{Kind, Lawful}
use Rattle.reasoning.specs.declared.Fact.{Fact}
use Rattle.reasoning.specs.declared.Job.{Job}
use Rattle.reasoning.specs.Derivations.{fact_of, Within, JobAt, Rule, start, Derivable, by}
use Rattle.piles.specs.Shapes.{Shape, Distinct}
use Rattle.saturation.specs.Boards.{Board, Moment, GoesWith, On, Sane}
use Rattle.saturation.specs.Effects.{SameGrades, Made, JobDone}
use Rattle.reasoning.proofs.Jobs.{same_job, member, Start, is_start, at_within}
use Rattle.reasoning.proofs.Rules.{conclusion_within, premises_within, first_premise}
use Rattle.saturation.proofs.Numbers.{few_pairs, pairs_small}
use Rattle.saturation.proofs.Sizes.{goes_then, on, within, on_before}

pub record Good (v : Vocabulary) (k : Kind) (b : Board) : Type 0 where
  pub goes : GoesWith v b
  pub sane : Sane k b
  pub sound : (f : Fact) (p : ℕ) → Within v f → p < k.points → k.holds (b.found f) p ≡ true → Derivable v (λ code. k.holds code p) f
  pub complete : (js : List Job) (f : Fact) (p : ℕ) → p < k.points → Rule v (λ code. k.holds code p) js f
      → ((j : Job) → Memᴰ j js → Within v (fact_of j) × (k.holds (b.done j) p ≡ true)) → k.holds (b.found f) p ≡ true

-- a job and a point that was done there
abbrev pub Done : Vocabulary → Kind → Board → Job × ℕ → Type 0
Done v k b u = ((c : ℕ) × JobAt v u.0 c) × (u.1 < k.points) × (k.holds (b.done u.0) u.1 ≡ true)

pub record Tally (v : Vocabulary) (k : Kind) (b : Board) (us : List (Job × ℕ)) : Type 0 where
  pub distinct : Distinct us
  pub each : (u : Job × ℕ) → Memᴰ u us → Done v k b u
  pub all : k.points ≡ 1 → (j : Job) (c : ℕ) → JobAt v j c → k.holds (b.done j) 0 ≡ true → Memᴰ (j, 0) us
  pub count : b.steps ≡ length us

-- two tests, one below the other, agree below n or differ somewhere
abbrev pub Gap : ℕ → (ℕ → Bool) → (ℕ → Bool) → Type 0
Gap n P Q = (p : ℕ) × (p < n) × (P p ≡ false) × (Q p ≡ true)

pub gap : (n : ℕ) (P Q : ℕ → Bool) → ((p : ℕ) → p < n → P p ≡ true → Q p ≡ true) → ((p : ℕ) → p < n → P p ≡ Q p) ⊎ Gap n P Q
gap zero P Q h = inl (λ p l. absurd (omega arith))
gap (suc n) P Q h = step (gap n P Q (λ p l. h p (omega arith))) (P n) (Q n) refl refl
  where
    more : P n ≡ Q n → ((p : ℕ) → p < n → P p ≡ Q p) → (p : ℕ) → p < suc n → P p ≡ Q p
    more e f p l = elim (cases_eq p n) [ inl q ↦ rw q e | inr ne ↦ f p (omega arith) ]

    step : ((p : ℕ) → p < n → P p ≡ Q p) ⊎ Gap n P Q → (x y : Bool) → P n ≡ x → Q n ≡ y → ((p : ℕ) → p < suc n → P p ≡ Q p) ⊎ Gap (suc n) P Q
    step (inr g) x y d e = inr (g.0, omega arith, g.2, g.3)
    step (inl f) true true d e = inl (more (d ∙ sym e) f)
    step (inl f) false false d e = inl (more (d ∙ sym e) f)
    step (inl f) false true d e = inr (n, omega arith, d, e)
    step (inl f) true false d e = absurd (both_ways (Q n) e (h n (omega arith) d))

module _ (v : Vocabulary) (wf : WellFormed v) (k : Kind) (lawful : Lawful k) where
  -- the same grades keep it
  pub good_same : {a b : Board} → SameGrades a b → Good v k a → Good v k b
  good_same s g = record {
    goes = goes_then g.goes s.sizes;
    sane = record {
      found = λ f w. let o = on_before s.sizes f w in rw (s.found f o) (g.sane.found f o);
      done = λ j w. let o = on_before s.sizes (fact_of j) w in rw (s.done j o) (g.sane.done j o);
      below = λ j p w l h. let o = on_before s.sizes (fact_of j) w in rw (s.found (fact_of j) o) (g.sane.below j p o l (rw (s.done j o) at h));
    };
    sound = λ f p w l h. g.sound f p w l (rw (s.found f (on g.goes f w)) at h);
    complete = λ js f p l r h.
        rw (s.found f (on g.goes f (conclusion_within v wf r (λ j m. (h j m).0))))
        (g.complete js f p l r (λ j m. let t = h j m in (t.0, rw (s.done j (on g.goes (fact_of j) t.0)) at t.1)));
  }

  pub tally_same : {a b : Board} {us : List (Job × ℕ)} → GoesWith v a → SameGrades a b → Tally v k a us → Tally v k b us
  tally_same g s t = record {
    distinct = t.distinct;
    each = λ u m. let d = t.each u m in (d.0, d.1, rw (s.done u.0 (on g (fact_of u.0) (at_within v d.0.1))) d.2);
    all = λ one j c at h. t.all one j c at (rw (s.done j (on g (fact_of j) (at_within v at))) at h);
    count = s.steps ∙ t.count;
  }

  module _ {Y : Type 0} {S : Shape Y} {p : Y} (m : Moment Y) (made : Made v k S p m) where
    abbrev new : Board
    new = m.board

    made_found : (f : Fact) → Within v f → (Start v f × (new.found f ≡ k.all)) ⊎ (new.found f ≡ k.none)
    made_found f w = elim (is_start v f w) [ inl t ↦ inl (t, ap new.found t.2 ∙ made.started t.0 t.1) | inr n ↦ inr (made.unfound f w (λ a i e. n (a, i, e))) ]

    not_done : (j : Job) (p : ℕ) → Within v (fact_of j) → k.holds (new.done j) p ≡ true → ⊥
    not_done j p w h = both_ways (k.holds k.none p) (lawful.none_holds p) (rw (made.undone j w) at h)

    pub made_good : Good v k new
    made_good = record {
      goes = made.goes;
      sane = record {
        found = λ f w. elim (made_found f (within made.goes f w)) [ inl t ↦ rw t.1 lawful.all_code | inr e ↦ rw e lawful.none_code ];
        done = λ j w. rw (made.undone j (within made.goes (fact_of j) w)) lawful.none_code;
        below = λ j p w l h. absurd (not_done j p (within made.goes (fact_of j) w) h);
      };
      sound = λ f p w l h. elim (made_found f w) [
        | inl t ↦ subst (Derivable v (λ code. k.holds code p)) (sym t.0.2) (by (start t.0.1) (λ j n. absurd (Memᴰ.not-nil n)))
        | inr e ↦ absurd (both_ways (k.holds k.none p) (lawful.none_holds p) (rw e at h))
      ];
      complete = λ js f p l r h. elim (first_premise r) [
        | inl t ↦ rw (ap new.found t.2 ∙ made.started t.0 t.1) (lawful.all_holds p l)
        | inr t ↦ let q = h t.0 t.1 in absurd (not_done t.0 p q.0 q.1)
      ];
    }

    pub made_tally : Tally v k new []
    made_tally = record {
      distinct = tt;
      each = λ u n. absurd (Memᴰ.not-nil n);
      all = λ one j c at h. absurd (not_done j 0 (at_within v at) h);
      count = made.no_steps;
    }

  module _ (c : ℕ) (j : Job) (a b : Board) (deed : JobDone v k c j a b) (g : Good v k a) where
    here : Within v (fact_of j)
    here = at_within v deed.first.at

    goes : GoesWith v b
    goes = goes_then g.goes deed.sizes

    done_after : (i : Job) → Within v (fact_of i) → ((i ≡ j) × (b.done i ≡ a.found (fact_of i))) ⊎ ((i ≡ j → ⊥) × (b.done i ≡ a.done i))
    done_after i t = elim (same_job i j) [ inl e ↦ inl (e, subst (λ (x : Job). b.done x ≡ a.found (fact_of x)) (sym e) deed.marked) | inr d ↦ inr (d, deed.unmarked i (on g.goes (fact_of i) t) d) ]

    done_found : (i : Job) (p : ℕ) → Within v (fact_of i) → p < k.points → k.holds (b.done i) p ≡ true → k.holds (a.found (fact_of i)) p ≡ true
    done_found i p t l h = elim (done_after i t) [ inl e ↦ rw e.1 at h | inr e ↦ g.sane.below i p (on g.goes (fact_of i) t) l (rw e.1 at h) ]

    done_kept : (i : Job) (p : ℕ) → Within v (fact_of i) → p < k.points → k.holds (a.done i) p ≡ true → k.holds (b.done i) p ≡ true
    done_kept i p t l h = elim (done_after i t) [ inl e ↦ rw e.1 (g.sane.below i p (on g.goes (fact_of i) t) l h) | inr e ↦ rw e.1 h ]

    pub worked_good : ((f : Fact) → On a f → b.found f < k.codes) → Good v k b
    worked_good codes = record {
      goes = goes;
      sane = record {
        found = λ f t. codes f (on_before deed.sizes f t);
        done = λ i t.
            let o = on_before deed.sizes (fact_of i) t in
            elim (done_after i (within goes (fact_of i) t)) [ inl e ↦ rw e.1 (g.sane.found (fact_of i) o) | inr e ↦ rw e.1 (g.sane.done i o) ];
        below = λ i p t l h. let o = within goes (fact_of i) t in deed.grows.kept (fact_of i) p o l (done_found i p o l h);
      };
      sound = λ f p t l h. elim (deed.grows.only f p t l h) [
        | inl q ↦ g.sound f p t l q
        | inr d ↦ by d.1 (λ i o. let q = premises_within v wf d.1 t j d.2 here i o in g.sound (fact_of i) p q l (done_found i p q l (d.3 i o)))
      ];
      complete = λ js f p l r h. let t = conclusion_within v wf r (λ i o. (h i o).0) in elim (member j js) [
        | inl o ↦ deed.grows.drew f p t l (js, r, o, (λ i q. (h i q).1))
        | inr d ↦ deed.grows.kept f p t l (g.complete js f p l r (λ i o. let q = h i o in (q.0, rw (deed.unmarked i (on g.goes (fact_of i) q.0) (λ e. d (Memᴰ.cast (sym e) o))) at q.1)))
      ];
    }

    new_point : Gap k.points (k.holds (a.done j)) (k.holds (a.found (fact_of j)))
    new_point = let o = on g.goes (fact_of j) here in elim (gap k.points (k.holds (a.done j)) (k.holds (a.found (fact_of j))) (λ p l. g.sane.below j p o l)) [
      | inl e ↦ absurd (deed.first.waits (lawful.same (a.done j) (a.found (fact_of j)) (g.sane.done j o) (g.sane.found (fact_of j) o) e))
      | inr t ↦ t
    ]

    pub worked_tally : (us : List (Job × ℕ)) → Tally v k a us → (xs : List (Job × ℕ)) × Tally v k b xs
    worked_tally us t = (
      (j, p) ∷ us,
      record {
        distinct = (fresh, t.distinct);
        each = each;
        all = all;
        count = count;
      },
    )
      where
        p : ℕ
        p = new_point.0

        fresh : Memᴰ (j, p) us → ⊥
        fresh o = both_ways (k.holds (a.done j) p) new_point.2 (t.each (j, p) o).2

        each : (u : Job × ℕ) → Memᴰ u ((j, p) ∷ us) → Done v k b u
        each u o = elim (Memᴰ.cases_cons o) [
          | inl e ↦ subst (Done v k b) (sym e) ((c, deed.first.at), new_point.1, rw deed.marked new_point.3)
          | inr q ↦ let d = t.each u q in (d.0, d.1, done_kept u.0 u.1 (at_within v d.0.1) d.1 d.2)
        ]

        all : k.points ≡ 1 → (i : Job) (x : ℕ) → JobAt v i x → k.holds (b.done i) 0 ≡ true → Memᴰ (i, 0) ((j, p) ∷ us)
        all one i x at h = elim (done_after i (at_within v at)) [
          | inl e ↦ let l = new_point.1 in let z : 0 ≡ p = omega arith in Memᴰ.head (λ s. (e.0 s, z s))
          | inr e ↦ Memᴰ.tail (t.all one i x at (rw e.1 at h))
        ]

        count : b.steps ≡ length ((j, p) ∷ us)
        count =
            let few = few_pairs v k us t.distinct (λ u o. let d = t.each u o in (at_within v d.0.1, d.1)) in
            let most = pairs_small v k wf lawful in
            let x = deed.counted in let y = t.count in omega arith
