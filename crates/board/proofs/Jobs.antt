-- What any job draws, by the rules and by the code's list of cases.
use Rattle.std.proofs.Common.{◌≡◌, ℕ, ◌<◌, true, List, [], ◌∷◌, slice_index_or, sym, refl, ap, ◌∙◌, subst, inl, inr, ⊎_elim}
use mathlib.Core.List.Memᴰ
use mathlib.Core.List.{Memᴰ}
use Rattle.std.proofs.lemmas.Bool.{and_parts, and_from}
use Rattle.grades.specs.Kinds.{Kind, Lawful, on_at}
use Rattle.terms.specs.Rule.{blank}
use Rattle.terms.specs.Vocabularies.{Vocabulary, WellFormed, Is, concept}
use Rattle.terms.specs.declared.records.Concept.{Concept}
use Rattle.terms.specs.declared.records.Concept.TheVariants.{Atomic, Top, Conjunction, Restriction}
use Rattle.reasoning.specs.Derivations.{Rule, start, stated, left, right, filler, top, both, some, follows, spreads, Within, fact_of}
use Rattle.reasoning.specs.declared.Fact.{Fact}
use Rattle.reasoning.specs.declared.Fact.TheVariants.{Under as under}
use Rattle.reasoning.specs.declared.Job.{Job}
use Rattle.reasoning.specs.declared.Job.TheVariants.{Own as own, Link as link, Imply as imply}
use Rattle.saturation.specs.Boards.{Draws}
use Rattle.board.specs.declared.board.own.Known.{Known}
use Rattle.board.specs.OwnDraws.{ByInclusion, ByForm, ByOperand}
use Rattle.board.specs.JoinDraws.{ByRestriction, ByLinksBy, ByLink, ByJob}
use Rattle.board.proofs.Members.{member, member_at}

module _ (v : Vocabulary) (W : WellFormed v) (k : Kind) (L : Lawful k) (done : Job → ℕ) (p : ℕ) (h : p < k.points) where
  abbrev Holds : ℕ → Type 0
  Holds g = k.holds g p ≡ true

  record Brings (j : Job) (f : Fact) : Type 0 where
    pub by : ByJob j (done j) v k done f p

  meets : (x y : ℕ) → Holds x → Holds y → Holds (k.meet x y)
  meets x y s t = L.meet_holds x y p h ∙ and_from (k.holds x p) (k.holds y p) s t

  parts : (x y : ℕ) → Holds (k.meet x y) → Holds x × Holds y
  parts x y t = and_parts (k.holds x p) (k.holds y p) (sym (L.meet_holds x y p h) ∙ t)

  -- by the right concept of an own job, by another concept, and by the right concept of a link job
  abbrev known : ℕ → ℕ → Known
  known c d = record { left = c; right = d; grade = done (own c d) }

  part : {c d : ℕ} {κ : Concept} {f : Fact} → Is v d κ → ByOperand (known c d) κ v k done f p → Brings (own c d) f
  part {c} {d} {f = f} i t = record { by = inl (inr (subst (λ u. ByOperand (known c d) u v k done f p) (sym i.1) t)) }

  by_form : {c d x : ℕ} {κ : Concept} {f : Fact} → Is v x κ → ByForm (known c d) x κ v k done f p → Brings (own c d) f
  by_form {c} {d} {x} {f = f} i t = record { by = inr (x, i.0, subst (λ u. ByForm (known c d) x u v k done f p) (sym i.1) t) }

  linked : {a x r c : ℕ} {f : Fact} → Is v x (Restriction r c) → ByLink (record { left = a; role = r; filler = c; grade = done (link a x) }) v k done f p → Brings (link a x) f
  linked {a} {x} {f = f} i t = record { by = subst (λ u. ByRestriction (λ r c. ByLink (record { left = a; role = r; filler = c; grade = done (link a x) })) u v k done f p) (sym i.1) t }

  filled : {s c e x r : ℕ} {f : Fact} → Is v x (Restriction r c) → ByLinksBy (record { role = s; left = c; right = e; grade = done (imply s c e) }) x r c v k done f p → Brings (imply s c e) f
  filled {s} {c} {e} {x} {f = f} i t = record { by = (x, i.0, subst (λ u. ByRestriction (ByLinksBy (record { role = s; left = c; right = e; grade = done (imply s c e) }) x) u v k done f p) (sym i.1) t) }

  -- the job is the one premise, or one of two
  one : {j i : Job} {f : Fact} → Memᴰ j (i ∷ []) → Brings i f → Brings j f
  one {f = f} m t = subst (λ j. Brings j f) (sym (Memᴰ.eq_of_singleton m)) t

  two : {j i l : Job} {f : Fact} → Memᴰ j (i ∷ l ∷ []) → Brings i f → Brings l f → Brings j f
  two {f = f} m t u = ⊎_elim (λ e. subst (λ j. Brings j f) (sym e) t) (λ n. one n u) (Memᴰ.cases_cons m)

  rule_brings : {js : List Job} {f : Fact} → Rule v (on_at k p) js f → (j : Job) → Memᴰ j js → ((i : Job) → Memᴰ i js → Holds (done i)) → Within v f → Brings j f
  rule_brings (start i) j m all w = absurd (Memᴰ.not-nil m)
  rule_brings (stated {c = c} i n o) j m all w =
      let t = member_at n blank in
      one m (record { by = inl (inl (t.0, t.1, subst (λ u. ByInclusion (known c i.sub) u v k done (under c i.sup) p) (sym t.2) (refl, (refl, meets (done (own c i.sub)) i.code (all (own c i.sub) (Memᴰ.head refl)) o)))) })
  rule_brings (left i) j m all w = one m (part i (inl (refl, all _ (Memᴰ.head refl))))
  rule_brings (right i) j m all w = one m (part i (inr (refl, all _ (Memᴰ.head refl))))
  rule_brings (filler i) j m all w = one m (part i (refl, all _ (Memᴰ.head refl)))
  rule_brings (top i) j m all w = one m (by_form i (refl, (refl, all _ (Memᴰ.head refl))))
  rule_brings (both {c = c} {d = d} {e = e} i) j m all w =
      let s = all (own c d) (Memᴰ.head refl) in
      let t = all (own c e) (Memᴰ.tail (Memᴰ.head refl)) in
      two m (by_form i (inl (refl, (refl, meets (done (own c d)) (done (own c e)) s t)))) (by_form i (inr (refl, (refl, meets (done (own c e)) (done (own c d)) t s))))
  rule_brings (some i) j m all w = one m (by_form i (refl, (refl, all _ (Memᴰ.head refl))))
  rule_brings (follows {c = c} {d = d} {e = e} {x = x} {r = r} {s = s} i b) j m all w =
      let t = all (link d x) (Memᴰ.head refl) in
      let u = all (imply s c e) (Memᴰ.tail (Memᴰ.head refl)) in
      two m (linked i (s, (W.on_roles r s b).1, inl (b, (e, w.1, (refl, meets (done (link d x)) (done (imply s c e)) t u)))))
      (filled i (refl, inl (b, (d, w.0, (refl, meets (done (imply s c e)) (done (link d x)) u t)))))
  rule_brings (spreads {c = c} {d = d} {e = e} {x = x} {r = r} {s = s} {t = t} i b b' z) j m all w =
      let y = all (link d x) (Memᴰ.head refl) in
      let u = all (imply s c e) (Memᴰ.tail (Memᴰ.head refl)) in
      two m (linked i (s, (W.on_roles t s b').1, inr (t, w.0, ((b, b', z), (e, w.2, (refl, meets (done (link d x)) (done (imply s c e)) y u))))))
      (filled i (refl, inr (t, w.0, ((b, b', z), (d, w.1, (refl, meets (done (imply s c e)) (done (link d x)) u y))))))

  pub job_cases : (j : Job) (f : Fact) → Within v f → Draws v k done j f p → ByJob j (done j) v k done f p
  job_cases j f w (js, r, m, all) = (rule_brings r j m all w).by

  -- a use of a rule with the job among its premises: the one premise, or one of two
  uses : {j : Job} {js : List Job} {f u : Fact} → Memᴰ j js → f ≡ u → Rule v (on_at k p) js u → ((i : Job) → Memᴰ i js → Holds (done i)) → Draws v k done j f p
  uses {js = js} m q r all = (js, subst (λ w. Rule v (on_at k p) js w) (sym q) r, m, all)

  single : {j i : Job} {f u : Fact} → j ≡ i → f ≡ u → Rule v (on_at k p) (i ∷ []) u → Holds (done j) → Draws v k done j f p
  single e q r t = uses (Memᴰ.head e) q r (λ x m. subst (λ w. Holds (done w)) (e ∙ sym (Memᴰ.eq_of_singleton m)) t)

  pair : {j i l : Job} {f u : Fact} → Memᴰ j (i ∷ l ∷ []) → f ≡ u → Rule v (on_at k p) (i ∷ l ∷ []) u → Holds (done i) → Holds (done l) → Draws v k done j f p
  pair m q r s t = uses m q r (λ x n. ⊎_elim (λ e. subst (λ w. Holds (done w)) (sym e) s) (λ o. subst (λ w. Holds (done w)) (sym (Memᴰ.eq_of_singleton o)) t) (Memᴰ.cases_cons n))

  part_draws : (c d : ℕ) (f : Fact) (κ : Concept) → Is v d κ → ByOperand (known c d) κ v k done f p → Draws v k done (own c d) f p
  part_draws c d f Atomic i t = absurd t
  part_draws c d f Top i t = absurd t
  part_draws c d f (Conjunction y z) i (inl (q, t)) = single refl q (left i) t
  part_draws c d f (Conjunction y z) i (inr (q, t)) = single refl q (right i) t
  part_draws c d f (Restriction r y) i (q, t) = single refl q (filler i) t

  form_draws : (c d x : ℕ) (f : Fact) (κ : Concept) → Is v x κ → ByForm (known c d) x κ v k done f p → Draws v k done (own c d) f p
  form_draws c d x f Atomic i t = absurd t
  form_draws c d x f Top i (e, (q, t)) = single (ap (own c) (sym e)) q (top i) t
  form_draws c d x f (Conjunction y z) i (inl (e, (q, t))) =
      let u = parts (done (own c d)) (done (own c z)) t in
      pair (Memᴰ.head (ap (own c) (sym e))) q (both i) (subst (λ w. Holds (done (own c w))) (sym e) u.0) u.1
  form_draws c d x f (Conjunction y z) i (inr (e, (q, t))) =
      let u = parts (done (own c d)) (done (own c y)) t in
      pair (Memᴰ.tail (Memᴰ.head (ap (own c) (sym e)))) q (both i) u.1 (subst (λ w. Holds (done (own c w))) (sym e) u.0)
  form_draws c d x f (Restriction s y) i (e, (q, t)) = single (ap (own c) (sym e)) q (some i) t

  link_draws : (a x : ℕ) (f : Fact) (κ : Concept) → Is v x κ → ByRestriction (λ r c. ByLink (record { left = a; role = r; filler = c; grade = done (link a x) })) κ v k done f p → Draws v k done (link a x) f p
  link_draws a x f Atomic i t = absurd t
  link_draws a x f Top i t = absurd t
  link_draws a x f (Conjunction y z) i t = absurd t
  link_draws a x f (Restriction r c) i (s, l, inl (b, (e, l', (q, t)))) =
      let u = parts (done (link a x)) (done (imply s c e)) t in pair (Memᴰ.head refl) q (follows i b) u.0 u.1
  link_draws a x f (Restriction r c) i (s, l, inr (y, l', (b, (e, l'', (q, t))))) =
      let u = parts (done (link a x)) (done (imply s c e)) t in pair (Memᴰ.head refl) q (spreads i b.0 b.1 b.2) u.0 u.1

  imply_draws : (s c e x : ℕ) (f : Fact) (κ : Concept) → Is v x κ → ByRestriction (ByLinksBy (record { role = s; left = c; right = e; grade = done (imply s c e) }) x) κ v k done f p → Draws v k done (imply s c e) f p
  imply_draws s c e x f Atomic i t = absurd t
  imply_draws s c e x f Top i t = absurd t
  imply_draws s c e x f (Conjunction y z) i t = absurd t
  imply_draws s c e x f (Restriction r b) i (o, inl (b', (a, l, (q, t)))) =
      let u = parts (done (imply s c e)) (done (link a x)) t in
      pair (Memᴰ.tail (Memᴰ.head refl)) q (follows (subst (λ y. Is v x (Restriction r y)) o i) b') u.1 u.0
  imply_draws s c e x f (Restriction r b) i (o, inr (y, l, (b', (a, l', (q, t))))) =
      let u = parts (done (imply s c e)) (done (link a x)) t in
      pair (Memᴰ.tail (Memᴰ.head refl)) q (spreads (subst (λ y. Is v x (Restriction r y)) o i) b'.0 b'.1 b'.2) u.1 u.0

  pub job_draws : (j : Job) (f : Fact) → Within v (fact_of j) → ByJob j (done j) v k done f p → Draws v k done j f p
  job_draws (own c d) f w (inl (inl (n, l, (e, (q, t))))) =
      let i = slice_index_or v.inclusions n blank in
      let u = parts (done (own c d)) i.code t in
      single (ap (own c) (sym e)) q (stated i (member v.inclusions n blank l) u.1) u.0
  job_draws (own c d) f w (inl (inr t)) = part_draws c d f (concept v d) (w.1, refl) t
  job_draws (own c d) f w (inr (x, l, t)) = form_draws c d x f (concept v x) (l, refl) t
  job_draws (link a x) f w t = link_draws a x f (concept v x) (w.1, refl) t
  job_draws (imply s c e) f w (x, l, t) = imply_draws s c e x f (concept v x) (l, refl) t
