-- What a write leaves sane.
use Rattle.std.proofs.Common.{◌≡◌, ℕ, ◌<◌, true, ◌⊎◌, sym, ap, ◌∙◌, subst, inl, inr, ⊎_elim, arith}
use Rattle.std.proofs.lemmas.Bool.{cases_eq}
use Rattle.grades.specs.Kinds.{Kind}
use Rattle.reasoning.specs.declared.Fact.{Fact}
use Rattle.reasoning.specs.declared.Fact.TheVariants.{Under as under, Implies as implies}
use Rattle.reasoning.specs.declared.Job.{Job}
use Rattle.reasoning.specs.Derivations.{fact_of}
use Rattle.reasoning.proofs.Jobs.{same_job}
use Rattle.saturation.specs.Boards.{Board, On, Sane}
use Rattle.saturation.proofs.Sizes.{on_before}
use Rattle.board.specs.Moves.{Above, Wrote, Marked}

-- whether two facts are one
pub same_fact : (f h : Fact) → (f ≡ h) ⊎ (f ≡ h → ⊥)
same_fact (under c d) (under c' d') = ⊎_elim (λ p. ⊎_elim (λ q. inl (λ t. under (p t) (q t))) (λ n. inr (λ e. n (cc))) (cases_eq d d')) (λ n. inr (λ e. n (cc))) (cases_eq c c')
same_fact (under c d) (implies s c' d') = inr (λ e. let z : ◌≡◌ {A = ℕ} 0 1 = cc in omega arith)
same_fact (implies s c d) (under c' d') = inr (λ e. let z : ◌≡◌ {A = ℕ} 0 1 = cc in omega arith)
same_fact (implies s c d) (implies s' c' d') =
    ⊎_elim (λ o. ⊎_elim (λ p. ⊎_elim (λ q. inl (λ t. implies (o t) (p t) (q t))) (λ n. inr (λ e. n (cc))) (cases_eq d d')) (λ n. inr (λ e. n (cc))) (cases_eq c c')) (λ n. inr (λ e. n (cc))) (cases_eq s s')

module _ {k : Kind} {a b : Board} (S : Sane k a) where
  -- where a found grade grows
  pub wrote_sane : (f : Fact) (g : ℕ) → On a f → Above k (a.found f) g → Wrote f g a b → Sane k b
  wrote_sane f g F A W =
      record {
        found = λ h H. let H' = on_before W.sizes h H in ⊎_elim (λ e. subst (λ u. u < k.codes) (sym (ap b.found e ∙ W.here)) A.code) (λ n. subst (λ u. u < k.codes) (sym (W.found h H' n)) (S.found h H')) (same_fact h f);
        done = λ j J. let J' = on_before W.sizes (fact_of j) J in subst (λ u. u < k.codes) (sym (W.done j J')) (S.done j J');
        below = λ j p J l t.
            let J' = on_before W.sizes (fact_of j) J in
            let old = S.below j p J' l (subst (λ u. k.holds u p ≡ true) (W.done j J') t) in
            ⊎_elim
            (λ e. subst (λ u. k.holds u p ≡ true) (sym (ap b.found e ∙ W.here)) (A.more p l (subst (λ h. k.holds (a.found h) p ≡ true) e old)))
            (λ n. subst (λ u. k.holds u p ≡ true) (sym (W.found (fact_of j) J' n)) old)
            (same_fact (fact_of j) f);
      }

  -- where a job is done
  pub marked_sane : (j : Job) → On a (fact_of j) → Marked j a b → Sane k b
  marked_sane j J M =
      record {
        found = λ h H. let H' = on_before M.sizes h H in subst (λ u. u < k.codes) (sym (M.found h H')) (S.found h H');
        done = λ i I. let I' = on_before M.sizes (fact_of i) I in ⊎_elim (λ e. subst (λ u. u < k.codes) (sym (ap b.done e ∙ M.here)) (S.found (fact_of j) J)) (λ n. subst (λ u. u < k.codes) (sym (M.done i I' n)) (S.done i I')) (same_job i j);
        below = λ i p I l t.
            let I' = on_before M.sizes (fact_of i) I in
            subst (λ u. k.holds u p ≡ true) (sym (M.found (fact_of i) I'))
            (⊎_elim
            (λ e. subst (λ u. k.holds u p ≡ true) (ap b.done e ∙ M.here ∙ ap (λ u. a.found (fact_of u)) (sym e)) t)
            (λ n. S.below i p I' l (subst (λ u. k.holds u p ≡ true) (M.done i I' n) t))
            (same_job i j));
      }
