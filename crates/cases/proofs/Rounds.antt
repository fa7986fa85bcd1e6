-- What rounds find is what the rules derive.
use Rattle.std.proofs.Common.{◌≡◌, ℕ, zero, suc, ◌<◌, Bool, true, ◌&&◌, eqb, List, [], ◌∷◌, ◌++◌, length, sym, refl, ap, ◌∙◌, subst, inl, inr, ⊎_elim, arith}
use mathlib.Core.List.{Memᴰ}
use Rattle.std.proofs.lemmas.Bool.{and_parts, and_from, eqb-true, eq-eqb, cases_lt}
use Rattle.std.proofs.lemmas.List.{get_or_past}
use Rattle.terms.specs.declared.records.Concept.{Concept}
use Rattle.terms.specs.declared.records.Concept.TheVariants.{Atomic, Top, Conjunction, Restriction}
use Rattle.terms.specs.declared.records.Inclusion.{Inclusion}
use Rattle.terms.specs.Vocabularies.{concept, Vocabulary, Is, WellFormed}
use Rattle.reasoning.specs.declared.Fact.{Fact}
use Rattle.reasoning.specs.declared.Fact.TheVariants.{Under as under, Implies as implies}
use Rattle.reasoning.specs.declared.Job.{Job}
use Rattle.reasoning.specs.declared.Job.TheVariants.{Own as own, Link as link, Imply as imply}
use Rattle.reasoning.specs.Derivations.{fact_of, Rule, Derivable, by, Closed}
use Rattle.reasoning.proofs.Complete.{exact, least}
use Rattle.cases.specs.Rounds.{numbers, only, has, start_of, operands_of, wholes_of, joined, links_of, inclusions_from, wholes_from, drawn, starts, conclusions, closed, news, unless_none, rounds, ConclusionsDrawn, RoundsDerive, RoundsTell}
use Rattle.cases.proofs.Lists.{numbers_of, numbers_at, each_of, each_at, only_of, only_at, has_of, has_at, all_in_lem, news_at}

-- what is made of other concepts is there
pub there : (v : Vocabulary) (x : ℕ) (k : Concept) → (k ≡ Atomic → ⊥) → concept v x ≡ k → Is v x k
there v x k made e =
    ⊎_elim (λ l. (l, e)) (λ l. absurd (made (sym e ∙ get_or_past v.concepts x Atomic l))) (cases_lt x (length v.concepts))

-- a rule draws the fact from the list
abbrev Drawn : Vocabulary → (ℕ → Bool) → List Fact → Fact → Type 0
Drawn v on facts f = (js : List Job) × Rule v on js f × ((j : Job) → Memᴰ j js → Memᴰ (fact_of j) facts)

one : {facts : List Fact} (i : Job) → Memᴰ (fact_of i) facts → (j : Job) → Memᴰ j (i ∷ []) → Memᴰ (fact_of j) facts
one i h j m = mathlib.Core.List.Memᴰ.cast (ap fact_of (mathlib.Core.List.Memᴰ.eq_of_singleton m)) h

two : {facts : List Fact} (i k : Job) → Memᴰ (fact_of i) facts → Memᴰ (fact_of k) facts → (j : Job) → Memᴰ j (i ∷ k ∷ []) → Memᴰ (fact_of j) facts
two i k h l j m = elim (mathlib.Core.List.Memᴰ.cases_cons m) [ inl e ↦ mathlib.Core.List.Memᴰ.cast (ap fact_of e) h | inr t ↦ one k l j t ]

module _ (v : Vocabulary) (on : ℕ → Bool) (facts : List Fact) where
  -- of a list with one fact, that fact
  lone : {f g : Fact} → Drawn v on facts g → Memᴰ f (g ∷ []) → Drawn v on facts f
  lone d m = subst (λ (h : Fact). Drawn v on facts h) (sym (mathlib.Core.List.Memᴰ.eq_of_singleton m)) d

  of_start : {f : Fact} (a : ℕ) (k : Concept) → a < length v.concepts → concept v a ≡ k → Memᴰ f (start_of a k) → Drawn v on facts f
  of_start a Atomic l e m = lone ([], Rule.start (l, e), λ j h. absurd (mathlib.Core.List.Memᴰ.not-nil h)) m
  of_start a Top l e m = absurd (mathlib.Core.List.Memᴰ.not-nil m)
  of_start a (Conjunction c d) l e m = absurd (mathlib.Core.List.Memᴰ.not-nil m)
  of_start a (Restriction r d) l e m = absurd (mathlib.Core.List.Memᴰ.not-nil m)

  of_parts : {f : Fact} (c x : ℕ) (k : Concept) → Memᴰ (under c x) facts → concept v x ≡ k → Memᴰ f (operands_of c k) → Drawn v on facts f
  of_parts c x Atomic h e m = absurd (mathlib.Core.List.Memᴰ.not-nil m)
  of_parts c x Top h e m = absurd (mathlib.Core.List.Memᴰ.not-nil m)
  of_parts c x (Conjunction a b) h e m =
      let i = there v x (Conjunction a b) (λ q. let z : ◌≡◌ {A = ℕ} 0 1 = cc in absurd (omega arith)) e in
      elim (mathlib.Core.List.Memᴰ.cases_cons m) [
        | inl q ↦ lone (_, Rule.left i, one (own c x) h) (mathlib.Core.List.Memᴰ.head q)
        | inr t ↦ lone (_, Rule.right i, one (own c x) h) t
      ]
  of_parts c x (Restriction r d) h e m =
      let i = there v x (Restriction r d) (λ q. let z : ◌≡◌ {A = ℕ} 0 1 = cc in absurd (omega arith)) e in
      lone (_, Rule.filler i, one (own c x) h) m

  of_wholes : {f : Fact} (c x y : ℕ) (k : Concept) → Memᴰ (under c x) facts → concept v y ≡ k → Memᴰ f (wholes_of facts c x y k) → Drawn v on facts f
  of_wholes c x y Atomic h e m = absurd (mathlib.Core.List.Memᴰ.not-nil m)
  of_wholes c x y Top h e m =
      let i = there v y Top (λ q. let z : ◌≡◌ {A = ℕ} 0 1 = cc in absurd (omega arith)) e in
      let t = only_at (eqb c x) m in
      let q : under c c ≡ under c x = ap (λ (n : ℕ). under c n) (eqb-true c x t.0) in
      lone (_, Rule.top i, one (own c c) (mathlib.Core.List.Memᴰ.cast q h)) t.1
  of_wholes c x y (Conjunction d b) h e m =
      let i = there v y (Conjunction d b) (λ q. let z : ◌≡◌ {A = ℕ} 0 1 = cc in absurd (omega arith)) e in
      let t = only_at (eqb d x && has facts (under c b)) m in
      let u = and_parts (eqb d x) (has facts (under c b)) t.0 in
      let q : under c d ≡ under c x = ap (λ (n : ℕ). under c n) (eqb-true d x u.0) in
      lone (_, Rule.both i, two (own c d) (own c b) (mathlib.Core.List.Memᴰ.cast q h) (has_at (under c b) facts u.1)) t.1
  of_wholes c x y (Restriction s d) h e m =
      let i = there v y (Restriction s d) (λ q. let z : ◌≡◌ {A = ℕ} 0 1 = cc in absurd (omega arith)) e in
      let t = only_at (eqb d x) m in
      let q : under c d ≡ under c x = ap (λ (n : ℕ). under c n) (eqb-true d x t.0) in
      lone (_, Rule.some i, one (own c d) (mathlib.Core.List.Memᴰ.cast q h)) t.1

  of_joined : {f : Fact} (d x r c : ℕ) (g : Fact) → Memᴰ (under d x) facts → Is v x (Restriction r c) → Memᴰ g facts → Memᴰ f (joined v d r c g) → Drawn v on facts f
  of_joined d x r c (under a b) h i l m = absurd (mathlib.Core.List.Memᴰ.not-nil m)
  of_joined d x r c (implies s b e) h i l m =
      let t = only_at (eqb c b) m in
      let q : implies s c e ≡ implies s b e = ap (λ (n : ℕ). implies s n e) (eqb-true c b t.0) in
      let given = two (link d x) (imply s c e) h (mathlib.Core.List.Memᴰ.cast q l) in
      elim (mathlib.Core.List.Memᴰ.append_cases (only (v.below r s) (under d e ∷ [])) t.1) [
        | inl p ↦ (let w = only_at (v.below r s) p in lone (_, Rule.follows i w.0, given) w.1)
        | inr p ↦ (
            let w = each_at (λ t. only (v.below r t && (v.below t s && v.transitive t)) (implies t d e ∷ [])) (numbers v.roles) p in
            let n = w.0 in
            let u = only_at (v.below r n && (v.below n s && v.transitive n)) w.2 in
            let y = and_parts (v.below r n) (v.below n s && v.transitive n) u.0 in
            let z = and_parts (v.below n s) (v.transitive n) y.1 in
            lone (_, Rule.spreads i y.0 z.0 z.1, given) u.1)
      ]

  of_links : {f : Fact} (d x : ℕ) (k : Concept) → Memᴰ (under d x) facts → concept v x ≡ k → Memᴰ f (links_of v facts d k) → Drawn v on facts f
  of_links d x Atomic h e m = absurd (mathlib.Core.List.Memᴰ.not-nil m)
  of_links d x Top h e m = absurd (mathlib.Core.List.Memᴰ.not-nil m)
  of_links d x (Conjunction a b) h e m = absurd (mathlib.Core.List.Memᴰ.not-nil m)
  of_links d x (Restriction r c) h e m =
      let i = there v x (Restriction r c) (λ q. let z : ◌≡◌ {A = ℕ} 0 1 = cc in absurd (omega arith)) e in
      let w = each_at (joined v d r c) facts m in
      of_joined d x r c w.0 h i w.1 w.2

  of_inclusions : {f : Fact} (c x : ℕ) → Memᴰ (under c x) facts → Memᴰ f (inclusions_from v on c x) → Drawn v on facts f
  of_inclusions c x h m =
      let w = each_at (λ (i : Inclusion). only (on i.code && eqb x i.sub) (under c i.sup ∷ [])) v.inclusions m in
      let i = w.0 in
      let t = only_at (on i.code && eqb x i.sub) w.2 in
      let u = and_parts (on i.code) (eqb x i.sub) t.0 in
      let q : under c i.sub ≡ under c x = ap (λ (n : ℕ). under c n) (sym (eqb-true x i.sub u.1)) in
      lone (_, Rule.stated i w.1 u.0, one (own c i.sub) (mathlib.Core.List.Memᴰ.cast q h)) t.1

  of_drawn : {f : Fact} (g : Fact) → Memᴰ g facts → Memᴰ f (drawn v on facts g) → Drawn v on facts f
  of_drawn (implies s c e) h m = absurd (mathlib.Core.List.Memᴰ.not-nil m)
  of_drawn {f} (under c x) h m =
      ⊎_elim (of_inclusions c x h) (λ m₁.
      ⊎_elim (of_parts c x (concept v x) h refl) (λ m₂.
      ⊎_elim
      (λ w. let t = each_at (λ y. wholes_of facts c x y (concept v y)) (numbers (length v.concepts)) w in of_wholes c x t.0 (concept v t.0) h refl t.2)
      (of_links c x (concept v x) h refl)
      (mathlib.Core.List.Memᴰ.append_cases (wholes_from v facts c x) m₂))
      (mathlib.Core.List.Memᴰ.append_cases (operands_of c (concept v x)) m₁))
      (mathlib.Core.List.Memᴰ.append_cases (inclusions_from v on c x) m)

  -- a conclusion is drawn by a rule
  pub drawn_at : (f : Fact) → Memᴰ f (conclusions v on facts) → Drawn v on facts f
  drawn_at f m =
      ⊎_elim
      (λ s. let t = each_at (λ a. start_of a (concept v a)) (numbers (length v.concepts)) s in of_start t.0 (concept v t.0) (numbers_at (length v.concepts) t.0 t.1) refl t.2)
      (λ s. let t = each_at (drawn v on facts) facts s in of_drawn t.0 t.1 t.2)
      (mathlib.Core.List.Memᴰ.append_cases (starts v) m)

  -- what "c under x" gives is a conclusion
  from : {f : Fact} {c x : ℕ} → Memᴰ (under c x) facts → Memᴰ f (drawn v on facts (under c x)) → Memᴰ f (conclusions v on facts)
  from h m = mathlib.Core.List.Memᴰ.append_right (starts v) (each_of (drawn v on facts) h m)

  by_inclusions : {f : Fact} {c x : ℕ} → Memᴰ (under c x) facts → Memᴰ f (inclusions_from v on c x) → Memᴰ f (conclusions v on facts)
  by_inclusions h m = from h (mathlib.Core.List.Memᴰ.append_left _ m)

  by_parts : {f : Fact} {c x : ℕ} {k : Concept} → Memᴰ (under c x) facts → Is v x k → Memᴰ f (operands_of c k) → Memᴰ f (conclusions v on facts)
  by_parts {f} {c} {x} h i m = from h (mathlib.Core.List.Memᴰ.append_right (inclusions_from v on c x) (mathlib.Core.List.Memᴰ.append_left _ (subst (λ (q : Concept). Memᴰ f (operands_of c q)) (sym i.1) m)))

  by_wholes : {f : Fact} {c x y : ℕ} {k : Concept} → Memᴰ (under c x) facts → Is v y k → Memᴰ f (wholes_of facts c x y k) → Memᴰ f (conclusions v on facts)
  by_wholes {f} {c} {x} {y} h i m =
      let here : Memᴰ f (wholes_of facts c x y (concept v y)) = subst (λ (q : Concept). Memᴰ f (wholes_of facts c x y q)) (sym i.1) m in
      from h (mathlib.Core.List.Memᴰ.append_right (inclusions_from v on c x) (mathlib.Core.List.Memᴰ.append_right (operands_of c (concept v x)) (mathlib.Core.List.Memᴰ.append_left _
      (each_of (λ z. wholes_of facts c x z (concept v z)) (numbers_of (length v.concepts) y i.0) here))))

  by_links : {f : Fact} {d x r c : ℕ} (g : Fact) → Memᴰ (under d x) facts → Is v x (Restriction r c) → Memᴰ g facts → Memᴰ f (joined v d r c g) → Memᴰ f (conclusions v on facts)
  by_links {f} {d} {x} {r} {c} g h i l m =
      from h (mathlib.Core.List.Memᴰ.append_right (inclusions_from v on d x) (mathlib.Core.List.Memᴰ.append_right (operands_of d (concept v x)) (mathlib.Core.List.Memᴰ.append_right (wholes_from v facts d x)
      (subst (λ (q : Concept). Memᴰ f (links_of v facts d q)) (sym i.1) (each_of (joined v d r c) l m)))))

  -- what a rule draws is a conclusion
  pub drawn_of : WellFormed v → {js : List Job} {f : Fact} → Rule v on js f → ((j : Job) → Memᴰ j js → Memᴰ (fact_of j) facts) → Memᴰ f (conclusions v on facts)
  drawn_of wf (Rule.start {a = a} i) h =
      mathlib.Core.List.Memᴰ.append_left _ (each_of (λ c. start_of c (concept v c)) (numbers_of (length v.concepts) a i.0)
      (subst (λ (q : Concept). Memᴰ (under a a) (start_of a q)) (sym i.1) (mathlib.Core.List.Memᴰ.head refl)))
  drawn_of wf (Rule.stated i m o) h =
      by_inclusions (h _ (mathlib.Core.List.Memᴰ.head refl)) (each_of _ m (only_of _ (and_from (on i.code) (eqb i.sub i.sub) o (eq-eqb i.sub i.sub refl)) (mathlib.Core.List.Memᴰ.head refl)))
  drawn_of wf (Rule.left i) h = by_parts (h _ (mathlib.Core.List.Memᴰ.head refl)) i (mathlib.Core.List.Memᴰ.head refl)
  drawn_of wf (Rule.right i) h = by_parts (h _ (mathlib.Core.List.Memᴰ.head refl)) i (mathlib.Core.List.Memᴰ.tail (mathlib.Core.List.Memᴰ.head refl))
  drawn_of wf (Rule.filler i) h = by_parts (h _ (mathlib.Core.List.Memᴰ.head refl)) i (mathlib.Core.List.Memᴰ.head refl)
  drawn_of wf (Rule.top {c = c} i) h = by_wholes (h _ (mathlib.Core.List.Memᴰ.head refl)) i (only_of (eqb c c) (eq-eqb c c refl) (mathlib.Core.List.Memᴰ.head refl))
  drawn_of wf (Rule.both {c = c} {d = d} {e = e} i) h =
      by_wholes (h _ (mathlib.Core.List.Memᴰ.head refl)) i (only_of (eqb d d && has facts (under c e))
      (and_from (eqb d d) (has facts (under c e)) (eq-eqb d d refl) (has_of (under c e) facts (h _ (mathlib.Core.List.Memᴰ.tail (mathlib.Core.List.Memᴰ.head refl))))) (mathlib.Core.List.Memᴰ.head refl))
  drawn_of wf (Rule.some {d = d} i) h = by_wholes (h _ (mathlib.Core.List.Memᴰ.head refl)) i (only_of (eqb d d) (eq-eqb d d refl) (mathlib.Core.List.Memᴰ.head refl))
  drawn_of wf (Rule.follows {c = c} {d = d} {e = e} {r = r} {s = s} i b) h =
      by_links (implies s c e) (h _ (mathlib.Core.List.Memᴰ.head refl)) i (h _ (mathlib.Core.List.Memᴰ.tail (mathlib.Core.List.Memᴰ.head refl)))
      (only_of (eqb c c) (eq-eqb c c refl) (mathlib.Core.List.Memᴰ.append_left _ (only_of (v.below r s) b (mathlib.Core.List.Memᴰ.head refl))))
  drawn_of wf (Rule.spreads {c = c} {d = d} {e = e} {r = r} {s = s} {t = t} i b₁ b₂ tr) h =
      by_links (implies s c e) (h _ (mathlib.Core.List.Memᴰ.head refl)) i (h _ (mathlib.Core.List.Memᴰ.tail (mathlib.Core.List.Memᴰ.head refl)))
      (only_of (eqb c c) (eq-eqb c c refl) (mathlib.Core.List.Memᴰ.append_right (only (v.below r s) (under d e ∷ []))
      (each_of (λ n. only (v.below r n && (v.below n s && v.transitive n)) (implies n d e ∷ [])) (numbers_of v.roles t (wf.flagged t tr))
      (only_of (v.below r t && (v.below t s && v.transitive t)) (and_from (v.below r t) (v.below t s && v.transitive t) b₁ (and_from (v.below t s) (v.transitive t) b₂ tr)) (mathlib.Core.List.Memᴰ.head refl)))))

pub conclusions_drawn : ConclusionsDrawn
conclusions_drawn v wf on facts f = (
  λ h. let t = drawn_at v on facts f (has_at f (conclusions v on facts) h) in (t.0, t.1, λ j m. has_of (fact_of j) facts (t.2 j m)),
  λ t. has_of f (conclusions v on facts) (drawn_of v on facts wf t.1 (λ j m. has_at (fact_of j) facts (t.2 j m))),
)

-- what has all its conclusions is a closed table
pub closed_table : (v : Vocabulary) → WellFormed v → (on : ℕ → Bool) (facts : List Fact) → closed v on facts ≡ true → Closed v on (has facts)
closed_table v wf on facts h js f rule before =
    all_in_lem facts f (conclusions v on facts) h (drawn_of v on facts wf rule (λ j m. has_at (fact_of j) facts (before j m)))

-- what rounds add to derivable facts is derivable
pub rounds_derivable : (v : Vocabulary) (on : ℕ → Bool) (n : ℕ) (facts : List Fact) → ((f : Fact) → Memᴰ f facts → Derivable v on f) → (f : Fact) → Memᴰ f (rounds v on n facts) → Derivable v on f
rounds_derivable v on zero facts h f m = h f m
rounds_derivable v on (suc n) facts h f m = go (news facts (conclusions v on facts)) (λ g k. fresh g k) (λ gs k. rounds_derivable v on n gs k f) m
  where
    fresh : (g : Fact) → Memᴰ g (news facts (conclusions v on facts)) → Derivable v on g
    fresh g k =
        let t = drawn_at v on facts g (news_at facts g (conclusions v on facts) k) in
        by t.1 (λ j l. h (fact_of j) (t.2 j l))

    go : (gs : List Fact) → ((g : Fact) → Memᴰ g gs → Derivable v on g) → ((hs : List Fact) → ((g : Fact) → Memᴰ g hs → Derivable v on g) → Memᴰ f (rounds v on n hs) → Derivable v on f)
        → Memᴰ f (unless_none facts (λ hs. rounds v on n hs) gs) → Derivable v on f
    go [] new ih k = h f k
    go (g ∷ gs) new ih k = ih ((g ∷ gs) ++ facts) (λ f₁ l. ⊎_elim (new f₁) (h f₁) (mathlib.Core.List.Memᴰ.append_cases (g ∷ gs) l)) k

found : (v : Vocabulary) (on : ℕ → Bool) (n : ℕ) (f : Fact) → has (rounds v on n []) f ≡ true → Derivable v on f
found v on n f h = rounds_derivable v on n [] (λ g m. absurd (mathlib.Core.List.Memᴰ.not-nil m)) f (has_at f (rounds v on n []) h)

pub rounds_derive : RoundsDerive
rounds_derive v wf on n = (found v on n, λ h. least v on (has (rounds v on n [])) (closed_table v wf on (rounds v on n []) h))

pub rounds_tell : RoundsTell
rounds_tell v wf on n h a d = exact v on wf (has (rounds v on n [])) (closed_table v wf on (rounds v on n []) h) (found v on n) a d
