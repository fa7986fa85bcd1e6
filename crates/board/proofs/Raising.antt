-- How raises of found grades come about, and compose.
use Rattle.std.proofs.Common.{◌≡◌, ℕ, ◌<◌, Bool, true, false, ◌||◌, ◌⊎◌, sym, refl, ap, ◌∙◌, subst, inl, inr, ⊎_elim, arith}
use Rattle.std.proofs.lemmas.Bool.{cases_eq, false≢true}
use Rattle.lemmas.proofs.Tests.{same_test}
use Rattle.grades.specs.Kinds.{Kind, Lawful}
use Rattle.piles.specs.Shapes.{Shape}
use Rattle.terms.specs.Vocabularies.{Vocabulary, WellFormed}
use Rattle.reasoning.specs.Derivations.{fact_of, Within}
use Rattle.reasoning.specs.declared.Fact.{Fact}
use Rattle.reasoning.proofs.Jobs.{at_within, at_concept}
use Rattle.saturation.specs.Boards.{Board, Moment, GoesWith, On, Sane}
use Rattle.saturation.specs.declared.State.TheVariants.{Idle, Queued}
use Rattle.saturation.proofs.Sizes.{same_sizes, sizes_then, goes_then, on, on_after}
use Rattle.board.specs.Moves.{Wrote}
use Rattle.board.specs.Raises.{Raises, Touched, Works, Gains, Woken}
use Rattle.board.proofs.Staying.{same_fact}
use Rattle.board.proofs.Waking.{put_none, put_then, wakes_then}

or_true : (x y : Bool) → (x || y) ≡ true → (x ≡ true) ⊎ (y ≡ true)
or_true true y h = inl refl
or_true false y h = inr h

or_left : (x y : Bool) → x ≡ true → (x || y) ≡ true
or_left true y h = refl
or_left false y h = absurd (false≢true h)

or_right : (x y : Bool) → y ≡ true → (x || y) ≡ true
or_right true y h = refl
or_right false y h = h

-- a grade that grows twice and ends where it was has not changed
no_return : (k : Kind) → Lawful k → (x y z : ℕ) →
    ((p : ℕ) → p < k.points → k.holds x p ≡ true → k.holds y p ≡ true) → ((p : ℕ) → p < k.points → k.holds y p ≡ true → k.holds z p ≡ true) →
    y < k.codes → z < k.codes → x ≡ z → (x ≡ y) × (y ≡ z)
no_return k L x y z up up' l l' e' =
    let yz : y ≡ z = L.same y z l l' (λ p h. same_test (k.holds y p) (k.holds z p) (up' p h) (λ t. up p h (subst (λ u. k.holds u p ≡ true) (sym e') t))) in
    (e' ∙ sym yz, yz)

module _ {Y : Type 0} (v : Vocabulary) (k : Kind) (L : Lawful k) (S : Shape Y) where
  -- a grade that the found grade holds already
  pub raises_known : (f : Fact) (g : ℕ) (a : Moment Y) → k.join (a.board.found f) g ≡ a.board.found f → Raises v k S (Gains k f g) a a
  raises_known f g a e = record {
    sizes = same_sizes;
    done = λ _ _. refl;
    steps = refl;
    grows = record {
      kept = λ _ _ _ _ h. h;
      drew = λ h p w l q. subst (λ u. k.holds (a.board.found u) p ≡ true) (sym q.0)
          (subst (λ u. k.holds u p ≡ true) e (L.join_holds (a.board.found f) g p l ∙ or_right (k.holds (a.board.found f) p) (k.holds g p) q.1));
      only = λ _ _ _ _ h. inl h;
    };
    wakes = λ x i t. absurd (t.2 refl);
    states = λ x h. inl refl;
    puts = put_none S a;
  }

  module _ (f : Fact) (g : ℕ) (a b : Moment Y) (m : Board) (G : GoesWith v a.board) (F : On a.board f) (wrote : Wrote f (k.join (a.board.found f) g) a.board m)
      (new : k.join (a.board.found f) g ≡ a.board.found f → ⊥) (W : Woken v S f (record { board = m; pile = a.pile }) b) where
    at_fact : b.board.found f ≡ k.join (a.board.found f) g
    at_fact = W.grades.found f (on_after wrote.sizes f F) ∙ wrote.here

    elsewhere : (h : Fact) → On a.board h → (h ≡ f → ⊥) → b.board.found h ≡ a.board.found h
    elsewhere h w ne = W.grades.found h (on_after wrote.sizes h w) ∙ wrote.found h w ne

    truth : (h : Fact) (p : ℕ) → p < k.points → h ≡ f → k.holds (b.board.found h) p ≡ (k.holds (a.board.found h) p || k.holds g p)
    truth h p l e =
        subst (λ u. k.holds (b.board.found u) p ≡ (k.holds (a.board.found u) p || k.holds g p)) (sym e)
        (ap (λ u. k.holds u p) at_fact ∙ L.join_holds (a.board.found f) g p l)

    touch : (x : ℕ) → Works v f x → Touched v a.board b.board x
    touch x (j, w, e) = (j, w, λ q. new (sym (ap b.board.found e ∙ at_fact) ∙ sym q ∙ ap a.board.found e))

    work : (x : ℕ) → Touched v a.board b.board x → Works v f x
    work x (j, w, ne) = (j, w, ⊎_elim (λ e. e) (λ n. absurd (ne (sym (elsewhere (fact_of j) (on G (fact_of j) (at_within _ w)) n)))) (same_fact (fact_of j) f))

    -- as the states were when the grade was written
    idle_then : (x : ℕ) → x < a.board.concepts → a.board.state x ≡ Idle → m.state x ≡ Idle
    idle_then x l i = wrote.state x l ∙ i

    pub raises_new : WellFormed v → Raises v k S (Gains k f g) a b
    raises_new wf = record {
      sizes = sizes_then wrote.sizes W.grades.sizes;
      done = λ j w. W.grades.done j (on_after wrote.sizes (fact_of j) w) ∙ wrote.done j w;
      steps = W.grades.steps ∙ wrote.steps;
      grows = record {
        kept = λ h p w l t. ⊎_elim (λ e. truth h p l e ∙ or_left (k.holds (a.board.found h) p) (k.holds g p) t) (λ n. subst (λ u. k.holds u p ≡ true) (sym (elsewhere h (on G h w) n)) t) (same_fact h f);
        drew = λ h p w l q. truth h p l q.0 ∙ or_right (k.holds (a.board.found h) p) (k.holds g p) q.1;
        only = λ h p w l t. ⊎_elim (λ e. ⊎_elim inl (λ q. inr (e, q)) (or_true (k.holds (a.board.found h) p) (k.holds g p) (sym (truth h p l e) ∙ t))) (λ n. inl (subst (λ u. k.holds u p ≡ true) (elsewhere h (on G h w) n) t)) (same_fact h f);
      };
      wakes = λ x i t. let u = work x t in W.wakes x u (idle_then x (seat x u) i);
      states = λ x h. ⊎_elim (λ s. inl (s ∙ wrote.state x h)) (λ s. inr ((h, sym (wrote.state x h) ∙ s.0.1, s.0.2), touch x s.1)) (W.states x (omega (arith, wrote.sizes.concepts)));
      puts = record {
        numbers = W.puts.numbers;
        distinct = W.puts.distinct;
        each = λ x i. let w = W.puts.each x i in let l : x < a.board.concepts = omega (arith, wrote.sizes.concepts, w.0) in (l, sym (wrote.state x l) ∙ w.1, w.2);
        every = λ x w. W.puts.every x (omega (arith, wrote.sizes.concepts, w.0), wrote.state x w.0 ∙ w.1, w.2);
        became = W.puts.became;
      };
    }
      where
        seat : (x : ℕ) → Works v f x → x < a.board.concepts
        seat x u = omega (arith, G.concepts, at_concept v wf u.1)

  -- one raise after another, on boards that are sane
  module _ (P Q : Fact → ℕ → Type 0) (a b c : Moment Y) (wf : WellFormed v) (G : GoesWith v a.board) (sane_b : Sane k b.board) (sane_c : Sane k c.board) (R : Raises v k S P a b) (T : Raises v k S Q b c) where
    goes_b : GoesWith v b.board
    goes_b = goes_then G R.sizes

    back : (f : Fact) → Within v f → a.board.found f ≡ c.board.found f → (a.board.found f ≡ b.board.found f) × (b.board.found f ≡ c.board.found f)
    back f w = no_return k L (a.board.found f) (b.board.found f) (c.board.found f) (λ p h. R.grows.kept f p w h) (λ p h. T.grows.kept f p w h) (sane_b.found f (on goes_b f w)) (sane_c.found f (on (goes_then goes_b T.sizes) f w))

    later : (x : ℕ) → Touched v b.board c.board x → Touched v a.board c.board x
    later x (j, w, ne) = (j, w, λ e. ne (back (fact_of j) (at_within _ w) e).1)

    sooner : (x : ℕ) → Touched v a.board b.board x → Touched v a.board c.board x
    sooner x (j, w, ne) = (j, w, λ e. ne (back (fact_of j) (at_within _ w) e).0)

    -- a queued concept stays queued
    stays_queued : (x : ℕ) → x < b.board.concepts → b.board.state x ≡ Queued → c.board.state x ≡ Queued
    stays_queued x h q = ⊎_elim (λ s. s ∙ q) (λ s. s.0.2) (T.states x h)

    both_queues : (x : ℕ) → a.board.state x ≡ Idle → Touched v a.board c.board x → c.board.state x ≡ Queued
    both_queues x i (j, w, ne) =
        let F : Fact = fact_of j in
        let h : x < a.board.concepts = omega (arith, G.concepts, at_concept v wf w) in
        let h' : x < b.board.concepts = omega (arith, R.sizes.concepts) in
        ⊎_elim
        (λ ab. ⊎_elim (λ s. T.wakes x (s ∙ i) (j, w, λ bc. ne (ab ∙ bc))) (λ s. stays_queued x h' s.0.2) (R.states x h))
        (λ ab. stays_queued x h' (R.wakes x i (j, w, ab)))
        (cases_eq (a.board.found F) (b.board.found F))

    pub raises_then : Raises v k S (λ f p. P f p ⊎ Q f p) a c
    raises_then = record {
      sizes = sizes_then R.sizes T.sizes;
      done = λ j w. T.done j (on_after R.sizes (fact_of j) w) ∙ R.done j w;
      steps = T.steps ∙ R.steps;
      grows = record {
        kept = λ f p w h t. T.grows.kept f p w h (R.grows.kept f p w h t);
        drew = λ f p w h. ⊎_elim (λ q. T.grows.kept f p w h (R.grows.drew f p w h q)) (T.grows.drew f p w h);
        only = λ f p w h t. ⊎_elim (λ u. ⊎_elim inl (λ q. inr (inl q)) (R.grows.only f p w h u)) (λ q. inr (inr q)) (T.grows.only f p w h t);
      };
      wakes = both_queues;
      states = wakes_then S (Touched v a.board b.board) (Touched v b.board c.board) a b c R.sizes.concepts R.states T.states (Touched v a.board c.board) sooner later;
      puts = put_then S (Touched v a.board b.board) (Touched v b.board c.board) a b c R.sizes.concepts R.states T.states R.puts T.puts;
    }
