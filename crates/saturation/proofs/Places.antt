-- What the states, the pile and the events keep: leases, queued concepts in the pile, and no waiting job out of sight.
use Rattle.std.proofs.Common.{◌≡◌, ℕ, zero, suc, ◌+◌, ◌<◌, true, ◌⊎◌, List, [], ◌∷◌, length, sym, refl, ap, ◌∙◌, subst, inl, inr, arith}
use Rattle.std.proofs.lemmas.Bool.{cases_eq, both_ways, eq-eqb, ne_eqb}
use mathlib.Core.List.{Memᴰ}
use Rattle.saturation.specs.declared.State.{State}
use Rattle.saturation.specs.declared.State.TheVariants.{Idle, Queued, Held}
use Rattle.terms.specs.Vocabularies.{Vocabulary, Named, WellFormed}
use Rattle.grades.specs.Kinds.{Kind}
use Rattle.piles.specs.Shapes.{Shape, put, drew, Became, nothing, and_then}
use Rattle.piles.proofs.Acts.{drawn_gone, drawn_rest, cases_in, puts_in, puts_stay, puts_out}
use Rattle.reasoning.specs.declared.Fact.TheVariants.{Under as under}
use Rattle.reasoning.specs.declared.Job.{Job}
use Rattle.reasoning.specs.declared.Job.TheVariants.{Own as own, Link as link, Imply as imply}
use Rattle.reasoning.specs.Derivations.{fact_of, JobAt, at_left, at_filler, at_premise}
use Rattle.saturation.specs.Boards.{Board, Moment, GoesWith, InPile, Waits}
use Rattle.saturation.specs.Effects.{SameGrades, PutWoken, Made, Took, Returned, Worked, Lowered, Rechecked}
use Rattle.saturation.specs.Histories.{Event, took, worked, lowered, rechecked, granted, given_back, unrechecked, held_one, held_below, held_count}
use Rattle.reasoning.proofs.Jobs.{same_job, Start, is_start, is_named_lem, at_within, at_concept}
use Rattle.saturation.proofs.Sizes.{on}

-- one of the three states
abbrev Standing : State → Type 0
Standing s = (s ≡ Idle) ⊎ (s ≡ Queued) ⊎ (s ≡ Held)

pub which : (s : State) → Standing s
which Idle = inl refl
which Queued = inr (inl refl)
which Held = inr (inr refl)

pub idle≢queued : (s : State) → s ≡ Idle → s ≡ Queued → ⊥
idle≢queued s p q = let z : ◌≡◌ {A = ℕ} 0 1 = cc in omega arith

pub idle≢held : (s : State) → s ≡ Idle → s ≡ Held → ⊥
idle≢held s p q = let z : ◌≡◌ {A = ℕ} 0 1 = cc in omega arith

pub held≢queued : (s : State) → s ≡ Held → s ≡ Queued → ⊥
held≢queued s p q = let z : ◌≡◌ {A = ℕ} 0 1 = cc in omega arith

-- the count of the held
count_same : (n : ℕ) (s t : ℕ → State) → ((x : ℕ) → x < n → held_one (t x) ≡ held_one (s x)) → held_below n t ≡ held_below n s
count_same zero s t h = refl
count_same (suc n) s t h = let i = count_same n s t (λ x l. h x (omega arith)) in let e = h n (omega arith) in omega arith

count_change : (n c : ℕ) (s t : ℕ → State) → c < n → ((x : ℕ) → x < n → (x ≡ c → ⊥) → held_one (t x) ≡ held_one (s x))
    → held_below n t + held_one (s c) ≡ held_below n s + held_one (t c)
count_change zero c s t l h = absurd (omega arith)
count_change (suc n) c s t l h = step (cases_eq c n) (λ m. count_change n c s t m (λ x k. h x (omega arith)))
  where
    step : (c ≡ n) ⊎ (c ≡ n → ⊥) → (c < n → held_below n t + held_one (s c) ≡ held_below n s + held_one (t c))
        → held_below (suc n) t + held_one (s c) ≡ held_below (suc n) s + held_one (t c)
    step (inl e) f = let i = count_same n s t (λ x k. h x (omega arith) (omega arith)) in rw e (omega arith)
    step (inr d) f = let i = f (omega arith) in let e = h n (omega arith) (λ q. d (sym q)) in omega arith

pub count_none : (n : ℕ) (s : ℕ → State) → ((x : ℕ) → x < n → held_one (s x) ≡ 0) → held_below n s ≡ 0
count_none zero s h = refl
count_none (suc n) s h = let i = count_none n s (λ x l. h x (omega arith)) in let e = h n (omega arith) in omega arith

abbrev pub Safe : Board → List Event → ℕ → Type 0
Safe b es x = (b.state x ≡ Queued) ⊎ (b.state x ≡ Held) ⊎ (unrechecked x es ≡ true)

-- a number that was drawn and put back was in the pile
was_in : {Y : Type 0} (S : Shape Y) {x : ℕ} {p q : Y} → Became S (put x ∷ drew x ∷ []) p q → (S.numbers p).holds x ≡ true
was_in S (and_then (and_then nothing d) e) = d.set.1

pub record Placed {Y : Type 0} (v : Vocabulary) (S : Shape Y) (es : List Event) (m : Moment Y) : Type 0 where
  pub leases : granted es ≡ given_back es + held_count m.board
  pub nothing_lost : (j : Job) (x : ℕ) → JobAt v j x → Waits m.board j → Safe m.board es x
  pub queued_in_pile : (x : ℕ) → x < m.board.concepts → m.board.state x ≡ Queued → InPile S x m
  pub only_queued : (x : ℕ) → InPile S x m → (x < m.board.concepts) × (m.board.state x ≡ Queued)

carry : (a b : Board) (es fs : List Event) (x : ℕ) → b.state x ≡ a.state x → (unrechecked x es ≡ true → unrechecked x fs ≡ true) → Safe a es x → Safe b fs x
carry a b es fs x e f (inl h) = inl (e ∙ h)
carry a b es fs x e f (inr (inl h)) = inr (inl (e ∙ h))
carry a b es fs x e f (inr (inr h)) = inr (inr (f h))

-- an idle concept that is safe is yet to be rechecked
pub unchecked : (b : Board) (es : List Event) (x : ℕ) → b.state x ≡ Idle → Safe b es x → unrechecked x es ≡ true
unchecked b es x s (inl h) = absurd (idle≢queued (b.state x) s h)
unchecked b es x s (inr (inl h)) = absurd (idle≢held (b.state x) s h)
unchecked b es x s (inr (inr h)) = h

waited : (v : Vocabulary) (a b : Board) (j : Job) {x : ℕ} → GoesWith v a → SameGrades a b → JobAt v j x → Waits b j → Waits a j
waited v a b j g s at h e = let w = on g (fact_of j) (at_within v at) in h (s.done j w ∙ e ∙ sym (s.found (fact_of j) w))

-- each number in the pile is queued, so no take finds one that is not
pub not_returned : {Y : Type 0} {v : Vocabulary} {S : Shape Y} {es : List Event} {x : ℕ} {a b : Moment Y} → Placed v S es a → Returned S x a b → ⊥
not_returned {S = S} {x = x} old t = let o = old.only_queued x (was_in S t.turned) in t.unqueued o.0 o.1

module _ {Y : Type 0} (v : Vocabulary) (wf : WellFormed v) (k : Kind) (S : Shape Y) where
  pub made_placed : (p : Y) (m : Moment Y) → Made v k S p m → Placed v S [] m
  made_placed p m made = record {
    leases = let z = count_none m.board.concepts m.board.state none_held in omega arith;
    nothing_lost = lost;
    queued_in_pile = λ x l q. elim (is_named_lem v x (below x l)) [
      | inl i ↦ puts_in S made.puts.numbers made.puts.became x (made.puts.every x i)
      | inr n ↦ absurd (idle≢queued (m.board.state x) (made.idle x (below x l) n) q)
    ];
    only_queued = λ x h. elim (cases_in x made.puts.numbers) [
      | inl i ↦ let n = made.puts.each x i in let l = n.0 in (omega (arith, made.goes.concepts), made.queued x n)
      | inr o ↦ absurd (both_ways ((S.numbers m.pile).holds x) (puts_out S made.puts.numbers made.puts.became x o ∙ made.empty x) h)
    ];
  }
    where
      below : (x : ℕ) → x < m.board.concepts → x < length v.concepts
      below x l = omega (arith, made.goes.concepts)

      none_held : (x : ℕ) → x < m.board.concepts → held_one (m.board.state x) ≡ 0
      none_held x l = elim (is_named_lem v x (below x l)) [ inl i ↦ ap held_one (made.queued x i) | inr n ↦ ap held_one (made.idle x (below x l) n) ]

      start_safe : (j : Job) (x : ℕ) → JobAt v j x → Start v (fact_of j) → m.board.state x ≡ Queued
      start_safe (own c d) x (at_left w) t = made.queued c (let e : under c d ≡ under t.0 t.0 = t.2 in let q : t.0 ≡ c = cc in subst (λ (y : ℕ). Named v y) q t.1)
      start_safe (link c d) x (at_filler w i) t = let e : under c d ≡ under t.0 t.0 = t.2 in let q : t.0 ≡ d = cc in let f = subst (λ (y : ℕ). Named v y) q t.1 in let g = i.1 in let o = f.1 in let z : ◌≡◌ {A = ℕ} 0 1 = cc in absurd (omega arith)
      start_safe (imply s c e) x (at_premise w) t = let q = t.2 in let z : ◌≡◌ {A = ℕ} 0 1 = cc in absurd (omega arith)

      lost : (j : Job) (x : ℕ) → JobAt v j x → Waits m.board j → Safe m.board [] x
      lost j x at h = elim (is_start v (fact_of j) (at_within v at)) [
        | inl t ↦ inl (start_safe j x at t)
        | inr n ↦ let w = at_within v at in absurd (h (made.undone j w ∙ sym (made.unfound (fact_of j) w (λ a i e. n (a, i, e)))))
      ]

  module _ (es : List Event) (a b : Moment Y) (goes : GoesWith v a.board) (old : Placed v S es a) where
    here : {j : Job} {x : ℕ} → JobAt v j x → x < a.board.concepts
    here at = let l = at_concept v wf at in omega (arith, goes.concepts)

    pub took_placed : (c : ℕ) → Took S c a b → Placed v S (took c ∷ es) b
    took_placed c t = let same = t.moved.grades.sizes.concepts in record {
      leases =
          let x = count_change a.board.concepts c a.board.state b.board.state t.within (λ x l n. ap held_one (t.moved.others x l n)) in
          let p = ap held_one t.queued in let q = ap held_one t.moved.here in let o = old.leases in rw same (omega arith);
      nothing_lost = λ j x at h. elim (cases_eq x c) [
        | inl e ↦ inr (inl (ap b.board.state e ∙ t.moved.here))
        | inr n ↦ carry a.board b.board es (took c ∷ es) x (t.moved.others x (here at) n) (λ u. u) (old.nothing_lost j x at (waited v a.board b.board j goes t.moved.grades at h))
      ];
      queued_in_pile = λ x l q. elim (cases_eq x c) [
        | inl e ↦ absurd (held≢queued (b.board.state x) (ap b.board.state e ∙ t.moved.here) q)
        | inr n ↦ let m = rw same at l in drawn_rest S t.drawn x n ∙ old.queued_in_pile x m (sym (t.moved.others x m n) ∙ q)
      ];
      only_queued = λ x h. elim (cases_eq x c) [
        | inl e ↦ absurd (both_ways ((S.numbers b.pile).holds x) (ap (S.numbers b.pile).holds e ∙ drawn_gone S t.drawn) h)
        | inr n ↦ let o = old.only_queued x (sym (drawn_rest S t.drawn x n) ∙ h) in (omega arith, t.moved.others x o.0 n ∙ o.1)
      ];
    }

    pub lowered_placed : (c : ℕ) → Lowered c a.board b.board → b.pile ≡ a.pile → Placed v S (lowered c ∷ es) b
    lowered_placed c t p = let same = t.moved.grades.sizes.concepts in record {
      leases =
          let x = count_change a.board.concepts c a.board.state b.board.state t.within (λ x l n. ap held_one (t.moved.others x l n)) in
          let p = ap held_one t.held in let q = ap held_one t.moved.here in let o = old.leases in rw same (omega arith);
      nothing_lost = λ j x at h. elim (cases_eq x c) [
        | inl e ↦ inr (inr (rw (eq-eqb x c e)))
        | inr n ↦ carry a.board b.board es (lowered c ∷ es) x (t.moved.others x (here at) n) (λ u. rw (ne_eqb x c n) u) (old.nothing_lost j x at (waited v a.board b.board j goes t.moved.grades at h))
      ];
      queued_in_pile = λ x l q. elim (cases_eq x c) [
        | inl e ↦ absurd (idle≢queued (b.board.state x) (ap b.board.state e ∙ t.moved.here) q)
        | inr n ↦ let m = rw same at l in rw p (old.queued_in_pile x m (sym (t.moved.others x m n) ∙ q))
      ];
      only_queued = λ x h. let o = old.only_queued x (rw p at h) in elim (cases_eq x c) [
        | inl e ↦ absurd (held≢queued (a.board.state x) (ap a.board.state e ∙ t.held) o.1)
        | inr n ↦ (omega arith, t.moved.others x o.0 n ∙ o.1)
      ];
    }

    -- an event that only wakes: what is not idle stays, nothing idle is taken, and no job waits out of sight at what was idle
    module _ (e : Event) (g : granted (e ∷ es) ≡ granted es) (r : given_back (e ∷ es) ≡ given_back es) (same : b.board.concepts ≡ a.board.concepts)
        (stays : (x : ℕ) → x < a.board.concepts → (a.board.state x ≡ Idle → ⊥) → b.board.state x ≡ a.board.state x)
        (untaken : (x : ℕ) → x < a.board.concepts → a.board.state x ≡ Idle → b.board.state x ≡ Held → ⊥)
        (lost : (j : Job) (x : ℕ) → JobAt v j x → Waits b.board j → a.board.state x ≡ Idle → Safe b.board (e ∷ es) x)
        (puts : PutWoken S a b) where
      kept_queued : (x : ℕ) → x < a.board.concepts → a.board.state x ≡ Queued → b.board.state x ≡ Queued
      kept_queued x l q = stays x l (λ i. idle≢queued (a.board.state x) i q) ∙ q

      kept_held : (x : ℕ) → x < a.board.concepts → a.board.state x ≡ Held → b.board.state x ≡ Held
      kept_held x l h = stays x l (λ i. idle≢held (a.board.state x) i h) ∙ h

      same_held : (x : ℕ) → x < a.board.concepts → Standing (a.board.state x) → Standing (b.board.state x) → held_one (b.board.state x) ≡ held_one (a.board.state x)
      same_held x l (inl i) (inl j) = ap held_one j ∙ sym (ap held_one i)
      same_held x l (inl i) (inr (inl q)) = ap held_one q ∙ sym (ap held_one i)
      same_held x l (inl i) (inr (inr h)) = absurd (untaken x l i h)
      same_held x l (inr (inl q)) u = ap held_one (kept_queued x l q) ∙ sym (ap held_one q)
      same_held x l (inr (inr h)) u = ap held_one (kept_held x l h) ∙ sym (ap held_one h)

      seen : (j : Job) (x : ℕ) → JobAt v j x → Waits b.board j → Standing (a.board.state x) → Safe b.board (e ∷ es) x
      seen j x at h (inl s) = lost j x at h s
      seen j x at h (inr (inl s)) = inl (kept_queued x (here at) s)
      seen j x at h (inr (inr s)) = inr (inl (kept_held x (here at) s))

      piled : (x : ℕ) → x < a.board.concepts → b.board.state x ≡ Queued → Standing (a.board.state x) → InPile S x b
      piled x l q (inl i) = puts_in S puts.numbers puts.became x (puts.every x (l, i, q))
      piled x l q (inr (inl i)) = puts_stay S puts.numbers puts.became x (old.queued_in_pile x l i)
      piled x l q (inr (inr h)) = absurd (held≢queued (b.board.state x) (kept_held x l h) q)

      in_line : (x : ℕ) → InPile S x b → Memᴰ x puts.numbers ⊎ (Memᴰ x puts.numbers → ⊥) → (x < a.board.concepts) × (b.board.state x ≡ Queued)
      in_line x h (inl m) = let w = puts.each x m in (w.0, w.2)
      in_line x h (inr n) = let o = old.only_queued x (sym (puts_out S puts.numbers puts.became x n) ∙ h) in (o.0, kept_queued x o.0 o.1)

      woken_placed : Placed v S (e ∷ es) b
      woken_placed = record {
        leases =
            let x = count_same a.board.concepts a.board.state b.board.state (λ x l. same_held x l (which (a.board.state x)) (which (b.board.state x))) in
            let o = old.leases in rw same (omega arith);
        nothing_lost = λ j x at h. seen j x at h (which (a.board.state x));
        queued_in_pile = λ x l q. piled x (rw same at l) q (which (a.board.state x));
        only_queued = λ x h. let i = in_line x h (cases_in x puts.numbers) in (omega arith, i.1);
      }

    pub rechecked_placed : (c : ℕ) → Rechecked v S c a b → Placed v S (rechecked c ∷ es) b
    rechecked_placed c t = woken_placed (rechecked c) refl refl t.grades.sizes.concepts stays untaken lost t.puts
      where
        stays : (x : ℕ) → x < a.board.concepts → (a.board.state x ≡ Idle → ⊥) → b.board.state x ≡ a.board.state x
        stays x l n = elim (cases_eq x c) [
          | inl e ↦ ap b.board.state e ∙ t.leaves (λ m. n (ap a.board.state e ∙ m.0)) ∙ sym (ap a.board.state e)
          | inr d ↦ t.others x l d
        ]

        untaken : (x : ℕ) → x < a.board.concepts → a.board.state x ≡ Idle → b.board.state x ≡ Held → ⊥
        untaken x l i h = elim (cases_eq x c) [
          | inl e ↦ let u = sym (ap b.board.state e) ∙ h in idle≢held (b.board.state c) (t.leaves (λ m. held≢queued (b.board.state c) u (t.wakes m)) ∙ sym (ap a.board.state e) ∙ i) u
          | inr d ↦ idle≢held (b.board.state x) (t.others x l d ∙ i) h
        ]

        lost : (j : Job) (x : ℕ) → JobAt v j x → Waits b.board j → a.board.state x ≡ Idle → Safe b.board (rechecked c ∷ es) x
        lost j x at h s = let w = waited v a.board b.board j goes t.grades at h in elim (cases_eq x c) [
          | inl e ↦ inl (ap b.board.state e ∙ t.wakes (sym (ap a.board.state e) ∙ s, (j, subst (JobAt v j) e at, w)))
          | inr n ↦ inr (inr (rw (ne_eqb x c n) (unchecked a.board es x s (old.nothing_lost j x at w))))
        ]

    pub worked_placed : (c : ℕ) (j : Job) → Worked v k S c j a b → Placed v S (worked c j ∷ es) b
    worked_placed c j w = woken_placed (worked c j) refl refl w.deed.sizes.concepts (λ x l n. w.leaves x l (λ i s. n i)) untaken lost w.puts
      where
        untaken : (x : ℕ) → x < a.board.concepts → a.board.state x ≡ Idle → b.board.state x ≡ Held → ⊥
        untaken x l i h = idle≢held (b.board.state x) (w.leaves x l (λ i s. held≢queued (b.board.state x) h (w.wakes x i s)) ∙ i) h

        lost : (i : Job) (x : ℕ) → JobAt v i x → Waits b.board i → a.board.state x ≡ Idle → Safe b.board (worked c j ∷ es) x
        lost i x at h s = elim (cases_eq (a.board.found (fact_of i)) (b.board.found (fact_of i))) [
          | inr d ↦ inl (w.wakes x s (i, at, d, h))
          | inl e ↦ elim (same_job i j) [
            | inl q ↦ absurd (h (subst (λ (y : Job). b.board.done y ≡ a.board.found (fact_of y)) (sym q) w.deed.marked ∙ e))
            | inr q ↦ inr (inr (unchecked a.board es x s (old.nothing_lost i x at (λ z. h (w.deed.unmarked i (on goes (fact_of i) (at_within v at)) q ∙ z ∙ e)))))
          ]
        ]
