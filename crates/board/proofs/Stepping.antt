-- On boards that are sane, which all are, a mark and what it draws are a step.
use Rattle.std.proofs.Common.{◌≡◌, ℕ, ◌+◌, ◌-◌, ◌^◌, ◌<◌, min, true, sym, ap, ◌∙◌, subst, inl, inr, ⊎_elim, arith}
use Rattle.lemmas.proofs.Tests.{same_test}
use Rattle.grades.specs.Kinds.{Kind, Lawful}
use Rattle.piles.specs.Shapes.{Shape}
use Rattle.terms.specs.Vocabularies.{Vocabulary, WellFormed}
use Rattle.reasoning.specs.declared.Fact.{Fact}
use Rattle.reasoning.specs.declared.Job.{Job}
use Rattle.reasoning.specs.Derivations.{Within, JobAt, fact_of}
use Rattle.reasoning.proofs.Rules.{premises_within}
use Rattle.reasoning.proofs.Jobs.{same_job, at_within, at_concept}
use Rattle.saturation.specs.declared.State.TheVariants.{Idle, Queued, Held}
use Rattle.saturation.specs.Boards.{Board, Moment, GoesWith, SameSizes, On, Sane, First, Draws, Waits}
use Rattle.saturation.specs.Effects.{Worked, PutWoken}
use Rattle.saturation.proofs.Sizes.{sizes_then, goes_then, on, on_after}
use Rattle.board.specs.Moves.{Marked}
use Rattle.board.specs.Raises.{Raises, Touched}

module _ {Y : Type 0} (v : Vocabulary) (wf : WellFormed v) (k : Kind) (L : Lawful k) (S : Shape Y) (c : ℕ) (j : Job) (a d : Moment Y) (m b : Board)
    (G : GoesWith v a.board) (sane_a : Sane k a.board) (sane_d : Sane k d.board) (held : a.board.state c ≡ Held) (F : First v a.board c j)
    (M : Marked j a.board m) (R : Raises v k S (Draws v k m.done j) (record { board = m; pile = a.pile }) (record { board = b; pile = d.pile }))
    (counted : d.board ≡ record b { steps = min (b.steps + 1) (2 ^ 64 - 1) }) where
  seat : {i : Job} {x : ℕ} → JobAt v i x → x < a.board.concepts
  seat w = omega (arith, G.concepts, at_concept v wf w)

  -- what the count leaves of the board
  sizes_d : SameSizes a.board d.board
  sizes_d = sizes_then M.sizes (sizes_then R.sizes (record { concepts = ap (λ (u : Board). u.concepts) counted; roles = ap (λ (u : Board). u.roles) counted }))

  found_d : (f : Fact) → d.board.found f ≡ b.found f
  found_d f = ap (λ (u : Board). u.found f) counted

  done_d : (i : Job) → d.board.done i ≡ b.done i
  done_d i = ap (λ (u : Board). u.done i) counted

  state_d : (x : ℕ) → d.board.state x ≡ b.state x
  state_d x = ap (λ (u : Board). u.state x) counted

  marked : d.board.done j ≡ a.board.found (fact_of j)
  marked = done_d j ∙ R.done j (on_after M.sizes (fact_of j) (on G (fact_of j) (at_within v F.at))) ∙ M.here

  unmarked : (i : Job) → On a.board (fact_of i) → (i ≡ j → ⊥) → d.board.done i ≡ a.board.done i
  unmarked i w n = done_d i ∙ R.done i (on_after M.sizes (fact_of i) w) ∙ M.done i w n

  kept : (f : Fact) (p : ℕ) → Within v f → p < k.points → k.holds (a.board.found f) p ≡ true → k.holds (d.board.found f) p ≡ true
  kept f p w l t = subst (λ u. k.holds u p ≡ true) (sym (found_d f)) (R.grows.kept f p w l (subst (λ u. k.holds u p ≡ true) (sym (M.found f (on G f w))) t))

  -- the rules see the done grades of the marked board, which are those at the end
  same_done : (i : Job) → Within v (fact_of i) → d.board.done i ≡ m.done i
  same_done i w = done_d i ∙ R.done i (on_after M.sizes (fact_of i) (on G (fact_of i) w))

  -- a job whose fact's found grade changed waits
  waits : (i : Job) → Within v (fact_of i) → (a.board.found (fact_of i) ≡ d.board.found (fact_of i) → ⊥) → Waits d.board i
  waits i w ne e =
      ⊎_elim
      (λ q. ne (ap (λ u. a.board.found (fact_of u)) q ∙ sym marked ∙ ap d.board.done (sym q) ∙ e))
      (λ n. let t : a.board.done i ≡ d.board.found (fact_of i) = sym (unmarked i (on G (fact_of i) w) n) ∙ e in
      ne (L.same (a.board.found (fact_of i)) (d.board.found (fact_of i)) (sane_a.found (fact_of i) (on G (fact_of i) w)) (sane_d.found (fact_of i) (on (goes_then G sizes_d) (fact_of i) w))
      (λ p l. same_test (k.holds (a.board.found (fact_of i)) p) (k.holds (d.board.found (fact_of i)) p) (kept (fact_of i) p w l) (λ h. sane_a.below i p (on G (fact_of i) w) l (subst (λ u. k.holds u p ≡ true) (sym t) h)))))
      (same_job i j)

  -- what changed of the found grades changed since the mark
  since : (x : ℕ) → Touched v a.board d.board x → Touched v m b x
  since x (i, w, ne) = (i, w, λ e. ne (sym (M.found (fact_of i) (on G (fact_of i) (at_within v w))) ∙ e ∙ sym (found_d (fact_of i))))

  before : (x : ℕ) → Touched v m b x → Touched v a.board d.board x
  before x (i, w, ne) = (i, w, λ e. ne (M.found (fact_of i) (on G (fact_of i) (at_within v w)) ∙ e ∙ found_d (fact_of i)))

  pub wakes : (x : ℕ) → a.board.state x ≡ Idle → Touched v a.board d.board x → d.board.state x ≡ Queued
  wakes x i t = state_d x ∙ R.wakes x (M.state x (seat t.1) ∙ i) (since x t)

  pub leaves : (x : ℕ) → x < a.board.concepts → (a.board.state x ≡ Idle → Touched v a.board d.board x → ⊥) → d.board.state x ≡ a.board.state x
  leaves x l n = state_d x ∙ ⊎_elim (λ e. e ∙ M.state x l) (λ t. absurd (n (sym (M.state x l) ∙ t.0.1) (before x t.1))) (R.states x (omega (arith, M.sizes.concepts)))

  put : PutWoken S a d
  put = record {
    numbers = R.puts.numbers;
    distinct = R.puts.distinct;
    each = λ x i. let w = R.puts.each x i in let l : x < a.board.concepts = omega (arith, M.sizes.concepts, w.0) in (l, sym (M.state x l) ∙ w.1, state_d x ∙ w.2);
    every = λ x w. R.puts.every x (omega (arith, M.sizes.concepts, w.0), M.state x w.0 ∙ w.1, sym (state_d x) ∙ w.2);
    became = R.puts.became;
  }

  pub step_worked : Worked v k S c j a d
  step_worked = record {
    deed = record {
      sizes = sizes_d;
      within = seat F.at;
      held = held;
      first = F;
      marked = marked;
      unmarked = unmarked;
      grows = record {
        kept = kept;
        drew = λ f p w l (js, r, i, t). subst (λ u. k.holds u p ≡ true) (sym (found_d f)) (R.grows.drew f p w l (js, r, i, λ n q. subst (λ u. k.holds u p ≡ true) (same_done n (premises_within v wf r w j i (at_within v F.at) n q)) (t n q)));
        only = λ f p w l t. ⊎_elim
            (λ h. inl (subst (λ u. k.holds u p ≡ true) (M.found f (on G f w)) h))
            (λ (js, r, i, h). inr (js, r, i, λ n q. subst (λ u. k.holds u p ≡ true) (sym (same_done n (premises_within v wf r w j i (at_within v F.at) n q))) (h n q)))
            (R.grows.only f p w l (subst (λ u. k.holds u p ≡ true) (found_d f) t));
      };
      counted = ap (λ (u : Board). u.steps) counted ∙ ap (λ n. min (n + 1) (2 ^ 64 - 1)) (R.steps ∙ M.steps);
    };
    codes = λ f w. sane_d.found f (on_after sizes_d f w);
    wakes = λ x i t. wakes x i (t.0, t.1, t.2);
    leaves = λ x l n. leaves x l (λ i t. n i (t.0, t.1, t.2, waits t.0 (at_within _ t.1) t.2));
    puts = put;
  }
