-- What the rules of a well formed vocabulary lead to.
use Rattle.std.proofs.Common.{◌≡◌, ℕ, ◌<◌, Bool, ◌⊎◌, List, [], ◌∷◌, length, sym, refl, ◌∙◌, subst, inl, inr, arith}
use mathlib.Core.List.Memᴰ
use mathlib.Core.List.{Memᴰ}
use Rattle.terms.specs.declared.records.Concept.TheVariants.{Restriction}
use Rattle.terms.specs.Vocabularies.{Vocabulary, Is, WellFormed}
use Rattle.reasoning.specs.Derivations.{Fact, Job, own, link, imply, fact_of, Rule, start, stated, left, right, filler, top, both, some, follows, spreads, Derivable, by}
use Rattle.reasoning.specs.Derivations.{Within, JobAt, at_left, at_filler, at_premise}
use Rattle.reasoning.proofs.Jobs.{Start}

module _ (v : Vocabulary) (wf : WellFormed v) where
  -- premises of the vocabulary give a conclusion of the vocabulary
  pub conclusion_within : {on : ℕ → Bool} {js : List Job} {f : Fact} → Rule v on js f → ((j : Job) → Memᴰ j js → Within v (fact_of j)) → Within v f
  conclusion_within (start i) h = (i.0, i.0)
  conclusion_within (stated i m o) h = ((h _ (Memᴰ.head refl)).0, (wf.stated i m).1)
  conclusion_within (left {x = x} {d = d} {e = e} i) h = let a = h _ (Memᴰ.head refl) in let b = wf.both x d e i in (a.0, omega arith)
  conclusion_within (right {x = x} {d = d} {e = e} i) h = let a = h _ (Memᴰ.head refl) in let b = wf.both x d e i in (a.0, omega arith)
  conclusion_within (filler {x = x} {r = r} {d = d} i) h = let b = wf.some x r d i in (omega arith, omega arith)
  conclusion_within (top i) h = ((h _ (Memᴰ.head refl)).0, i.0)
  conclusion_within (both i) h = ((h _ (Memᴰ.head refl)).0, i.0)
  conclusion_within (some {x = x} {s = s} {d = d} i) h = ((wf.some x s d i).0, (h _ (Memᴰ.head refl)).0, i.0)
  conclusion_within (follows i b) h = ((h _ (Memᴰ.head refl)).0, (h _ (Memᴰ.tail (Memᴰ.head refl))).2)
  conclusion_within (spreads {t = t} i a b c) h = (wf.flagged t c, (h _ (Memᴰ.head refl)).0, (h _ (Memᴰ.tail (Memᴰ.head refl))).2)

  -- the two premises of a joining rule
  joined_within : {c d e x r s : ℕ} {j : Job} → Is v x (Restriction r c) → s < v.roles → d < length v.concepts → e < length v.concepts → Memᴰ j (link d x ∷ imply s c e ∷ []) → Within v (fact_of j)
  joined_within {c} {d} {e} {x} {r} {s} {j} i ls ld le m = elim (Memᴰ.cases_cons m) [
    | inl q ↦ subst (λ (k : Job). Within v (fact_of k)) (sym q) (ld, i.0)
    | inr t ↦ subst (λ (k : Job). Within v (fact_of k)) (sym (Memᴰ.eq_of_singleton t)) (ls, (let h = wf.some x r c i in let b = i.0 in omega arith), le)
  ]

  -- a conclusion of the vocabulary, drawn with a premise of the vocabulary, has all its premises there
  pub premises_within : {on : ℕ → Bool} {js : List Job} {f : Fact} → Rule v on js f → Within v f → (i : Job) → Memᴰ i js → Within v (fact_of i) → (j : Job) → Memᴰ j js → Within v (fact_of j)
  premises_within (start i) w k l h j m = absurd (Memᴰ.not-nil m)
  premises_within (stated i n o) w k l h j m = subst (λ (q : Job). Within v (fact_of q)) (sym (Memᴰ.eq_of_singleton m)) (w.0, (wf.stated i n).0)
  premises_within (left i) w k l h j m = subst (λ (q : Job). Within v (fact_of q)) (sym (Memᴰ.eq_of_singleton m)) (w.0, i.0)
  premises_within (right i) w k l h j m = subst (λ (q : Job). Within v (fact_of q)) (sym (Memᴰ.eq_of_singleton m)) (w.0, i.0)
  premises_within (filler i) w k l h j m = subst (λ (q : Job). Within v (fact_of q)) (Memᴰ.eq_of_singleton l ∙ sym (Memᴰ.eq_of_singleton m)) h
  premises_within (top i) w k l h j m = subst (λ (q : Job). Within v (fact_of q)) (sym (Memᴰ.eq_of_singleton m)) (w.0, w.0)
  premises_within (both {x = x} {d = d} {e = e} i) w k l h j m = let b = wf.both x d e i in let n = i.0 in elim (Memᴰ.cases_cons m) [
    | inl q ↦ subst (λ (z : Job). Within v (fact_of z)) (sym q) (w.0, omega arith)
    | inr t ↦ subst (λ (z : Job). Within v (fact_of z)) (sym (Memᴰ.eq_of_singleton t)) (w.0, omega arith)
  ]
  premises_within (some {x = x} {s = s} {d = d} i) w k l h j m = let b = wf.some x s d i in let n = i.0 in subst (λ (q : Job). Within v (fact_of q)) (sym (Memᴰ.eq_of_singleton m)) (w.1, omega arith)
  premises_within (follows {r = r} {s = s} i b) w k l h j m = joined_within i (wf.on_roles r s b).1 w.0 w.1 m
  premises_within (spreads {s = s} {t = t} i a b c) w k l h j m = joined_within i (wf.on_roles t s b).1 w.1 w.2 m

  own_at : {c d : ℕ} {j : Job} → j ≡ own c d → Within v (fact_of j) → (x : ℕ) × JobAt v j x
  own_at {c} {d} {j} e w = (c, subst (λ (i : Job). JobAt v i c) (sym e) (at_left (subst (λ (i : Job). Within v (fact_of i)) e w)))

  -- two premises, of which the first is a link to a filler
  link_at : {c d e x r s : ℕ} {j : Job} → Is v x (Restriction r c) → Memᴰ j (link d x ∷ imply s c e ∷ []) → Within v (fact_of j) → (y : ℕ) × JobAt v j y
  link_at {c} {d} {e} {x} {r} {s} {j} i m w = go (Memᴰ.cases_cons m)
    where
      go : (j ≡ link d x) ⊎ Memᴰ j (imply s c e ∷ []) → (y : ℕ) × JobAt v j y
      go (inl q) = (c, subst (λ (k : Job). JobAt v k c) (sym q) (at_filler (subst (λ (k : Job). Within v (fact_of k)) q w) i))
      go (inr t) = let q = Memᴰ.eq_of_singleton t in (c, subst (λ (k : Job). JobAt v k c) (sym q) (at_premise (subst (λ (k : Job). Within v (fact_of k)) q w)))

  -- a premise of the vocabulary stands at some concept
  pub premise_at : {on : ℕ → Bool} {js : List Job} {f : Fact} → Rule v on js f → (j : Job) → Memᴰ j js → Within v (fact_of j) → (x : ℕ) × JobAt v j x
  premise_at (start i) j m w = absurd (Memᴰ.not-nil m)
  premise_at (stated i n o) j m w = own_at (Memᴰ.eq_of_singleton m) w
  premise_at (left i) j m w = own_at (Memᴰ.eq_of_singleton m) w
  premise_at (right i) j m w = own_at (Memᴰ.eq_of_singleton m) w
  premise_at (filler i) j m w = own_at (Memᴰ.eq_of_singleton m) w
  premise_at (top i) j m w = own_at (Memᴰ.eq_of_singleton m) w
  premise_at (both i) j m w = elim (Memᴰ.cases_cons m) [ inl q ↦ own_at q w | inr t ↦ own_at (Memᴰ.eq_of_singleton t) w ]
  premise_at (some i) j m w = own_at (Memᴰ.eq_of_singleton m) w
  premise_at (follows i b) j m w = link_at i m w
  premise_at (spreads i a b c) j m w = link_at i m w

  pub derivable_within : {on : ℕ → Bool} {f : Fact} → Derivable v on f → Within v f
  derivable_within (by r h) = conclusion_within r (λ j m. derivable_within (h j m))

  -- a table of the vocabulary's facts that no rule adds to has all that is derivable
  pub derivable_in : {on : ℕ → Bool} (P : Fact → Type 0) → ((js : List Job) (f : Fact) → Rule v on js f → ((j : Job) → Memᴰ j js → Within v (fact_of j) × P (fact_of j)) → P f)
      → {f : Fact} → Derivable v on f → P f
  derivable_in P step (by {js = js} {f = f} r h) = step js f r (λ j m. (derivable_within (h j m), derivable_in P step (h j m)))

-- a rule with no premise is a start, and any other has a first one
pub first_premise : {v : Vocabulary} {on : ℕ → Bool} {js : List Job} {f : Fact} → Rule v on js f → Start v f ⊎ ((j : Job) × Memᴰ j js)
first_premise (start {a = a} i) = inl (a, i, refl)
first_premise (stated i m o) = inr (_, Memᴰ.head refl)
first_premise (left i) = inr (_, Memᴰ.head refl)
first_premise (right i) = inr (_, Memᴰ.head refl)
first_premise (filler i) = inr (_, Memᴰ.head refl)
first_premise (top i) = inr (_, Memᴰ.head refl)
first_premise (both i) = inr (_, Memᴰ.head refl)
first_premise (some i) = inr (_, Memᴰ.head refl)
first_premise (follows i b) = inr (_, Memᴰ.head refl)
first_premise (spreads i a b c) = inr (_, Memᴰ.head refl)
