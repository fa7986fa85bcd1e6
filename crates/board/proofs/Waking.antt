-- One or two concepts queued, where those are the ones with a job of the fact; and what was put into the pile, one call after another.
use Rattle.std.proofs.Common.{◌≡◌, ℕ, ◌<◌, ◌⊎◌, length, sym, refl, ap, ◌∙◌, subst, inl, inr, ⊎_elim, arith}
use Rattle.std.proofs.lemmas.Bool.{cases_eq}
use Rattle.piles.specs.Shapes.{Shape}
use Rattle.piles.proofs.Eaches.{each_none, each_one, each_then}
use Rattle.terms.specs.Vocabularies.{Vocabulary, Is, WellFormed}
use Rattle.terms.specs.declared.records.Concept.TheVariants.{Restriction}
use Rattle.reasoning.specs.Derivations.{fact_of, Within, JobAt, at_left, at_filler, at_premise}
use Rattle.reasoning.specs.declared.Fact.{Fact}
use Rattle.reasoning.specs.declared.Job.{Job}
use Rattle.saturation.specs.Boards.{Board, Moment}
use Rattle.saturation.specs.Effects.{SameGrades, Woke, PutWoken}
use Rattle.saturation.specs.declared.State.TheVariants.{Idle, Queued}
use Rattle.reasoning.specs.declared.Fact.TheVariants.{Under as under, Implies as implies}
use Rattle.reasoning.specs.declared.Job.TheVariants.{Own as own, Link as link, Imply as imply}
use Rattle.saturation.proofs.Sizes.{same_sizes, sizes_then, on_after}
use Rattle.saturation.proofs.Places.{idle≢queued}
use Rattle.board.specs.Moves.{Nudged, woke, stayed}
use Rattle.board.specs.Raises.{Wakes, Works, Woken}

-- nothing woke, and nothing was put
pub put_none : {Y : Type 0} (S : Shape Y) (a : Moment Y) → PutWoken S a a
put_none S a = each_none (λ x w. idle≢queued (a.board.state x) w.1 w.2)

module _ {Y : Type 0} (S : Shape Y) (P Q : ℕ → Type 0) (a m b : Moment Y) (same : m.board.concepts ≡ a.board.concepts) (W : Wakes P a.board m.board) (V : Wakes Q m.board b.board) where
  within : (x : ℕ) → x < a.board.concepts → x < m.board.concepts
  within x l = omega arith

  -- what woke in the first part stays queued, what wakes in the second was idle before
  first_woke : (x : ℕ) → Woke x a.board m.board → Woke x a.board b.board
  first_woke x w = (w.0, w.1, ⊎_elim (λ e. e ∙ w.2) (λ t. absurd (idle≢queued (m.board.state x) t.0.1 w.2)) (V x (within x w.0)))

  then_woke : (x : ℕ) → Woke x m.board b.board → Woke x a.board b.board
  then_woke x w = let l : x < a.board.concepts = (let u = w.0 in omega arith) in (l, ⊎_elim (λ e. sym e ∙ w.1) (λ t. absurd (idle≢queued (m.board.state x) w.1 t.0.2)) (W x l), w.2)

  one_of : (x : ℕ) → Woke x a.board b.board → Woke x a.board m.board ⊎ Woke x m.board b.board
  one_of x w = ⊎_elim (λ e. inr (within x w.0, e ∙ w.1, w.2)) (λ t. inl t.0) (W x w.0)

  pub put_then : PutWoken S a m → PutWoken S m b → PutWoken S a b
  put_then M N = each_then (λ x o n. idle≢queued (m.board.state x) n.1 o.2) (λ x w. ⊎_elim (first_woke x) (then_woke x) w) one_of M N

  pub wakes_then : (R : ℕ → Type 0) → ((x : ℕ) → P x → R x) → ((x : ℕ) → Q x → R x) → Wakes R a.board b.board
  wakes_then R p q x l = go (W x l) (V x (within x l))
    where
      go : (m.board.state x ≡ a.board.state x) ⊎ (Woke x a.board m.board × P x) → (b.board.state x ≡ m.board.state x) ⊎ (Woke x m.board b.board × Q x) → (b.board.state x ≡ a.board.state x) ⊎ (Woke x a.board b.board × R x)
      go (inl e) (inl f) = inl (f ∙ e)
      go (inr t) f = inr (first_woke x t.0, p x t.1)
      go (inl e) (inr t) = inr (then_woke x t.0, q x t.1)

-- the same grades, twice
same_then : {a m b : Board} → SameGrades a m → SameGrades m b → SameGrades a b
same_then G H = record {
  sizes = sizes_then G.sizes H.sizes;
  found = λ f w. H.found f (on_after G.sizes f w) ∙ G.found f w;
  done = λ j w. H.done j (on_after G.sizes (fact_of j) w) ∙ G.done j w;
  steps = H.steps ∙ G.steps;
}

pub same_same : {a : Board} → SameGrades a a
same_same = record { sizes = same_sizes; found = λ f w. refl; done = λ j w. refl; steps = refl }

-- one concept that is queued where it is idle
module _ {Y : Type 0} (S : Shape Y) (c : ℕ) (a b : Moment Y) (l : c < a.board.concepts) where
  pub nudged_grades : Nudged S c a b → SameGrades a.board b.board
  nudged_grades (woke i m p) = m.grades
  nudged_grades (stayed n e) = subst (λ (u : Moment Y). SameGrades a.board u.board) (sym e) same_same

  pub nudged_hit : Nudged S c a b → a.board.state c ≡ Idle → b.board.state c ≡ Queued
  nudged_hit (woke i m p) _ = m.here
  nudged_hit (stayed n e) i = absurd (n i)

  pub nudged_states : Nudged S c a b → Wakes (λ x. x ≡ c) a.board b.board
  nudged_states (woke i m p) x h = ⊎_elim (λ e. inr ((h, ap a.board.state e ∙ i, ap b.board.state e ∙ m.here), e)) (λ n. inl (m.others x h n)) (cases_eq x c)
  nudged_states (stayed n e) x h = inl (ap (λ (u : Moment Y). u.board.state x) e)

  pub nudged_puts : Nudged S c a b → PutWoken S a b
  nudged_puts (woke i m p) = each_one (l, i, m.here) (λ x w. ⊎_elim (λ e. e) (λ n. absurd (idle≢queued (a.board.state x) w.1 (sym (m.others x w.0 n) ∙ w.2))) (cases_eq x c)) p
  nudged_puts (stayed n e) = subst (λ (u : Moment Y). PutWoken S a u) (sym e) (put_none S a)

pub woken_one : {Y : Type 0} (v : Vocabulary) (S : Shape Y) (f : Fact) (c : ℕ) (a b : Moment Y) → c < a.board.concepts → Nudged S c a b → Works v f c → ((x : ℕ) → Works v f x → x ≡ c) → Woken v S f a b
woken_one v S f c a b l N W only = record {
  grades = nudged_grades S c a b l N;
  wakes = λ x w i. let e = only x w in ap b.board.state e ∙ nudged_hit S c a b l N (sym (ap a.board.state e) ∙ i);
  states = λ x h. ⊎_elim inl (λ t. inr (t.0, subst (λ u. Works v f u) (sym t.1) W)) (nudged_states S c a b l N x h);
  puts = nudged_puts S c a b l N;
}

pub woken_two : {Y : Type 0} (v : Vocabulary) (S : Shape Y) (f : Fact) (c d : ℕ) (a m b : Moment Y) → c < a.board.concepts → d < a.board.concepts → Nudged S c a m → Nudged S d m b →
    Works v f c → Works v f d → ((x : ℕ) → Works v f x → (x ≡ c) ⊎ (x ≡ d)) → Woken v S f a b
woken_two v S f c d a m b l r N M C D only =
    let G = nudged_grades S c a m l N in
    let same = G.sizes.concepts in
    let r' : d < m.board.concepts = omega arith in
    let H = nudged_grades S d m b r' M in
    let W : Wakes (λ x. x ≡ c) a.board m.board = nudged_states S c a m l N in
    let V : Wakes (λ x. x ≡ d) m.board b.board = nudged_states S d m b r' M in
    record {
      grades = same_then G H;
      wakes = λ x w i. ⊎_elim
          (λ e. let q : m.board.state x ≡ Queued = ap m.board.state e ∙ nudged_hit S c a m l N (sym (ap a.board.state e) ∙ i) in let h : x < m.board.concepts = omega arith in ⊎_elim (λ t. t ∙ q) (λ t. t.0.2) (V x h))
          (λ e. let h : x < a.board.concepts = omega arith in ⊎_elim
          (λ t. ap b.board.state e ∙ nudged_hit S d m b r' M (sym (ap m.board.state e) ∙ t ∙ i))
          (λ t. let k : x < m.board.concepts = omega arith in ⊎_elim (λ u. u ∙ t.0.2) (λ u. u.0.2) (V x k)) (W x h))
          (only x w);
      states = wakes_then S (λ x. x ≡ c) (λ x. x ≡ d) a m b same W V (Works v f) (λ x e. subst (λ u. Works v f u) (sym e) C) (λ x e. subst (λ u. Works v f u) (sym e) D);
      puts = put_then S (λ x. x ≡ c) (λ x. x ≡ d) a m b same W V (nudged_puts S c a m l N) (nudged_puts S d m b r' M);
    }

-- the concepts with a job of `under c d`
pub left_works : (v : Vocabulary) (c d : ℕ) → Within v (under c d) → Works v (under c d) c
left_works v c d w = (own c d, at_left w, refl)

pub filler_works : (v : Vocabulary) (c d r b : ℕ) → Within v (under c d) → Is v d (Restriction r b) → Works v (under c d) b
filler_works v c d r b w i = (link c d, at_filler w i, refl)

under_job : (v : Vocabulary) (c d : ℕ) {j : Job} {x : ℕ} → JobAt v j x → fact_of j ≡ under c d → (x ≡ c) ⊎ ((r : ℕ) × Is v d (Restriction r x))
under_job v c d (at_left w) e = inl (cc)
under_job v c d (at_filler {d = d'} {r = r} {b = b} w i) e = inr (r, let q : d' ≡ d = cc in subst (λ u. Is v u (Restriction r b)) q i)
under_job v c d (at_premise w) e = let z : ◌≡◌ {A = ℕ} 0 1 = cc in absurd (omega arith)

pub works_under : (v : Vocabulary) (c d x : ℕ) → Works v (under c d) x → (x ≡ c) ⊎ ((r : ℕ) × Is v d (Restriction r x))
works_under v c d x (j, w, e) = under_job v c d w e

implies_job : (v : Vocabulary) (s c d : ℕ) {j : Job} {x : ℕ} → JobAt v j x → fact_of j ≡ implies s c d → x ≡ c
implies_job v s c d (at_left w) e = let z : ◌≡◌ {A = ℕ} 0 1 = cc in absurd (omega arith)
implies_job v s c d (at_filler w i) e = let z : ◌≡◌ {A = ℕ} 0 1 = cc in absurd (omega arith)
implies_job v s c d (at_premise w) e = cc

pub works_implies : (v : Vocabulary) (s c d x : ℕ) → Works v (implies s c d) x → x ≡ c
works_implies v s c d x (j, w, e) = implies_job v s c d w e

pub premise_works : (v : Vocabulary) (s c e : ℕ) → Within v (implies s c e) → Works v (implies s c e) c
premise_works v s c e w = (imply s c e, at_premise w, refl)

pub filler_below : (v : Vocabulary) → WellFormed v → (d r b : ℕ) → Is v d (Restriction r b) → b < length v.concepts
filler_below v W d r b h = let l = (W.some d r b h).1 in omega (arith, h.0)
