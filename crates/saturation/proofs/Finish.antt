-- A run is a chain of effects, and a run from a board at rest with a budget for all possible pairs does all the work.
use Rattle.std.proofs.Common.{◌≡◌, ℕ, zero, suc, ◌+◌, ◌-◌, ◌<◌, ◌≤◌, true, false, ◌⊎◌, List, [], ◌∷◌, ◌++◌, length, sym, refl, ap, ◌∙◌, subst, inl, inr, append_assoc, arith}
use mathlib.Core.List.{Memᴰ}
use Rattle.std.proofs.lemmas.Bool.{cases_eq, cases_lt, cases_Bool, both_ways, eq-eqb, ne_eqb}
use Rattle.grades.specs.Kinds.{Kind, Lawful}
use Rattle.terms.specs.Vocabularies.{Vocabulary, WellFormed}
use Rattle.piles.specs.Sets.{Empty}
use Rattle.piles.specs.Shapes.{Shape}
use Rattle.reasoning.specs.declared.Job.{Job}
use Rattle.reasoning.specs.Derivations.{fact_of, JobAt}
use Rattle.reasoning.proofs.Jobs.{at_within, at_concept, is_named_lem}
use Rattle.saturation.specs.declared.State.{State}
use Rattle.saturation.specs.declared.State.TheVariants.{Idle, Queued, Held}
use Rattle.saturation.specs.declared.Outcome.{Outcome}
use Rattle.saturation.specs.declared.Outcome.TheVariants.{Finished}
use Rattle.saturation.specs.Boards.{Moment, Quiet}
use Rattle.saturation.specs.Effects.{Made}
use Rattle.saturation.specs.Histories.{Event, took, returned, worked, lowered, rechecked, other, Leads, nothing, and_then, History, granted, given_back, unrechecked, held_one, held_below, held_count}
use Rattle.saturation.specs.Runs.{Exhausts, Runs}
use Rattle.saturation.specs.AnyOrder.{possible_pairs, FreshRunFinishes, QueuedWaits, Rested, AllDone, RunsFinish, RunsLead}
use Rattle.saturation.proofs.Numbers.{Possible, few_pairs, pairs_small}
use Rattle.saturation.proofs.Sizes.{on}
use Rattle.saturation.proofs.Good.{Tally, Gap, gap}
use Rattle.saturation.proofs.Kept.{Kept, kept_step, kept_since}
use Rattle.saturation.proofs.Places.{which, not_returned, idle≢held, held≢queued, count_none}

-- ---- a run is a chain of effects

module _ {Y : Type 0} {v : Vocabulary} {k : Kind} {S : Shape Y} where
  pub join_leads : {es fs : List Event} {a b c : Moment Y} → Leads v k S es a b → Leads v k S fs b c → Leads v k S (fs ++ es) a c
  join_leads l nothing = l
  join_leads l (and_then m e) = and_then (join_leads l m) e

  exhausts_lead : {c n s : ℕ} {es : List Event} {a b : Moment Y} → Exhausts v k S c n s es a b → Leads v k S es a b
  exhausts_lead (Exhausts.quiet q) = nothing
  exhausts_lead Exhausts.spent = nothing
  exhausts_lead (Exhausts.step w x) = join_leads (and_then nothing w) (exhausts_lead x)

pub runs_lead : {Y : Type 0} (S : Shape Y) → RunsLead S
runs_lead S v k budget steps o es a b (Runs.finished q) = nothing
runs_lead S v k budget steps o es a b (Runs.spent q) = nothing
runs_lead S v k budget steps o es a b (Runs.left q u) = and_then nothing u
runs_lead S v k budget steps o es a b (Runs.dry q n m) = and_then nothing (record { board = refl; pile = λ x. refl })
runs_lead S v k budget steps o es a b (Runs.turn {steps = s} {more = m} {fs = fs} q l t x w p r y) =
    join_leads (and_then (and_then (join_leads (and_then nothing t) (exhausts_lead x)) (w, p)) r) (runs_lead S v k (budget - s) m o fs _ b y)

-- ---- the events of a turn

pub granted_of : (es fs : List Event) → granted (es ++ fs) ≡ granted es + granted fs
granted_of [] fs = omega arith
granted_of (took c ∷ es) fs = let i = granted_of es fs in omega arith
granted_of (returned x ∷ es) fs = granted_of es fs
granted_of (worked c j ∷ es) fs = granted_of es fs
granted_of (lowered c ∷ es) fs = granted_of es fs
granted_of (rechecked c ∷ es) fs = granted_of es fs
granted_of (other ∷ es) fs = granted_of es fs

pub given_back_of : (es fs : List Event) → given_back (es ++ fs) ≡ given_back es + given_back fs
given_back_of [] fs = omega arith
given_back_of (took c ∷ es) fs = given_back_of es fs
given_back_of (returned x ∷ es) fs = given_back_of es fs
given_back_of (worked c j ∷ es) fs = given_back_of es fs
given_back_of (lowered c ∷ es) fs = let i = given_back_of es fs in omega arith
given_back_of (rechecked c ∷ es) fs = given_back_of es fs
given_back_of (other ∷ es) fs = given_back_of es fs

count_zero : (n : ℕ) (s : ℕ → State) → held_below n s ≡ 0 → (x : ℕ) → x < n → held_one (s x) ≡ 0
count_zero zero s h x l = absurd (omega arith)
count_zero (suc n) s h x l = elim (cases_eq x n) [ inl e ↦ rw e (omega arith) | inr d ↦ count_zero n s (omega arith) x (omega arith) ]

module _ {Y : Type 0} (S : Shape Y) (k : Kind) (lawful : Lawful k) (v : Vocabulary) (wf : WellFormed v) where
  -- while a job waits, a pair is still to be done
  more_to_do : {es : List Event} {m : Moment Y} → Kept v k S es m → (Quiet v m.board → ⊥) → m.board.steps < possible_pairs v k
  more_to_do {m = m} o q = elim (cases_lt m.board.steps (possible_pairs v k)) [ inl l ↦ l | inr l ↦ absurd (q (all_done l)) ]
    where
      us : List (Job × ℕ)
      us = o.tally.0

      y : Tally v k m.board us
      y = o.tally.1

      one_more : (j : Job) (c : ℕ) → JobAt v j c → Gap k.points (k.holds (m.board.done j)) (k.holds (m.board.found (fact_of j))) → possible_pairs v k ≤ m.board.steps → ⊥
      one_more j c at g l =
          let p = g.0 in
          let fresh : Memᴰ (j, p) us → ⊥ = λ i. both_ways (k.holds (m.board.done j) p) g.2 (y.each (j, p) i).2 in
          let each : (u : Job × ℕ) → Memᴰ u ((j, p) ∷ us) → Possible v k u = λ u i. elim (mathlib.Core.List.Memᴰ.cases_cons i) [
            | inl e ↦ subst (Possible v k) (sym e) (at_within v at, g.1)
            | inr t ↦ let d = y.each u t in (at_within v d.0.1, d.1)
          ] in
          let few : suc (length us) ≤ possible_pairs v k = few_pairs v k ((j, p) ∷ us) (fresh, y.distinct) each in
          let c = y.count in
          omega arith

      all_done : possible_pairs v k ≤ m.board.steps → Quiet v m.board
      all_done l j c at = elim (cases_eq (m.board.done j) (m.board.found (fact_of j))) [
        | inl e ↦ e
        | inr d ↦
            let s = o.good.sane in
            let w = on o.good.goes (fact_of j) (at_within v at) in
            elim (gap k.points (k.holds (m.board.done j)) (k.holds (m.board.found (fact_of j))) (λ p b. s.below j p w b)) [
              | inl same ↦ lawful.same (m.board.done j) (m.board.found (fact_of j)) (s.done j w) (s.found (fact_of j) w) same
              | inr g ↦ absurd (one_more j c at g l)
            ]
      ]

  -- between the turns of a lone run: every lease was lowered, and every lowering rechecked
  record Paused (es : List Event) (m : Moment Y) : Type 0 where
    pub kept : Kept v k S es m
    pub balanced : granted es ≡ given_back es
    pub checked : (x : ℕ) → unrechecked x es ≡ false

  not_held : {es : List Event} {m : Moment Y} → Paused es m → (x : ℕ) → x < m.board.concepts → m.board.state x ≡ Held → ⊥
  not_held {es} {m} r x l h =
      let z : held_count m.board ≡ 0 = let a = r.kept.placed.leases in let b = r.balanced in omega arith in
      let c = count_zero m.board.concepts m.board.state z x l in
      let d : held_one (m.board.state x) ≡ 1 = ap held_one h in
      omega arith

  -- where a job waits, the pile is not empty
  not_dry : {es : List Event} {m : Moment Y} → Paused es m → (Quiet v m.board → ⊥) → Empty (S.numbers m.pile) → ⊥
  not_dry {es} {m} r q empty = q quiet
    where
      seen : (c : ℕ) → c < m.board.concepts → (m.board.state c ≡ Queued) ⊎ (m.board.state c ≡ Held) ⊎ (unrechecked c es ≡ true) → ⊥
      seen c l (inl h) = both_ways ((S.numbers m.pile).holds c) (empty c) (r.kept.placed.queued_in_pile c l h)
      seen c l (inr (inl h)) = not_held r c l h
      seen c l (inr (inr h)) = both_ways (unrechecked c es) (r.checked c) h

      quiet : Quiet v m.board
      quiet j c at = elim (cases_eq (m.board.done j) (m.board.found (fact_of j))) [
        | inl e ↦ e
        | inr d ↦ absurd (seen c (let l = at_concept v wf at in omega (arith, r.kept.good.goes.concepts)) (r.kept.placed.nothing_lost j c at d))
      ]

  -- what the steps at one concept keep and count
  record Steps (n s : ℕ) (es fs : List Event) (a b : Moment Y) : Type 0 where
    pub kept : Kept v k S (es ++ fs) b
    pub counted : b.board.steps ≡ a.board.steps + s
    pub within : s ≤ n
    pub none_granted : granted es ≡ 0
    pub none_back : given_back es ≡ 0
    pub same : (x : ℕ) → unrechecked x (es ++ fs) ≡ unrechecked x fs

  few_steps : {es : List Event} {m : Moment Y} → Kept v k S es m → m.board.steps < 2281701377
  few_steps {m = m} o =
      let y = o.tally.1 in
      let few = few_pairs v k o.tally.0 y.distinct (λ u i. let d = y.each u i in (at_within v d.0.1, d.1)) in
      let most = pairs_small v k wf lawful in
      let c = y.count in
      omega arith

  exhausted : {c n s : ℕ} {es fs : List Event} {a b : Moment Y} → Exhausts v k S c n s es a b → Kept v k S fs a → Steps n s es fs a b
  exhausted {n = n} (Exhausts.quiet q) o = record { kept = o; counted = omega arith; within = omega arith; none_granted = refl; none_back = refl; same = λ x. refl }
  exhausted Exhausts.spent o = record { kept = o; counted = omega arith; within = omega arith; none_granted = refl; none_back = refl; same = λ x. refl }
  exhausted {c} {fs = fs} {a} {b = z} (Exhausts.step {j = j} {es = es} {b = b} w x) o =
      let i = exhausted x (kept_step v wf k lawful S fs (worked c j) a b w o) in
      let few = few_steps o in
      let one : (es ++ worked c j ∷ []) ++ fs ≡ es ++ worked c j ∷ fs = append_assoc es (worked c j ∷ []) fs in
      record {
        kept = subst (λ (l : List Event). Kept v k S l z) (sym one) i.kept;
        counted = let p = i.counted in let q = w.deed.counted in omega arith;
        within = let p = i.within in omega arith;
        none_granted = let p = granted_of es (worked c j ∷ []) in let q = i.none_granted in omega arith;
        none_back = let p = given_back_of es (worked c j ∷ []) in let q = i.none_back in omega arith;
        same = λ y. ap (unrechecked y) one ∙ i.same y;
      }

  runs_out : {n s : ℕ} {o : Outcome} {es fs : List Event} {a b : Moment Y} → Runs v k S n o s es a b → Paused fs a → possible_pairs v k ≤ a.board.steps + n →
      (o ≡ Finished) × Quiet v b.board × ((gs : List Event) × Paused gs b)
  runs_out {fs = fs} (Runs.finished q) r l = (refl, q, (fs, r))
  runs_out (Runs.spent q) r l = let m = more_to_do r.kept q.0 in let z = q.1 in absurd (omega arith)
  runs_out (Runs.left q t) r l = absurd (not_returned r.kept.placed t)
  runs_out (Runs.dry q n t) r l = absurd (not_dry r q.0 t)
  runs_out {fs = fs} {a} (Runs.turn {c = c} {es = es} {b = b} {d = d} {e = e} {f = f} q p t x w u i y) r l =
      let taken = kept_step v wf k lawful S fs (took c) a b t r.kept in
      let done = exhausted x taken in
      let back = kept_step v wf k lawful S (es ++ took c ∷ fs) (lowered c) d e (w, u) done.kept in
      let again = kept_step v wf k lawful S (lowered c ∷ (es ++ took c ∷ fs)) (rechecked c) e f i back in
      let s₁ = t.moved.grades.steps in let s₂ = done.counted in let s₃ = w.moved.grades.steps in let s₄ = i.grades.steps in let s₅ = done.within in
      runs_out y
      (record {
        kept = again;
        balanced =
            let g = granted_of es (took c ∷ fs) in let h = given_back_of es (took c ∷ fs) in
            let m = done.none_granted in let n = done.none_back in let u = r.balanced in omega arith;
        checked = λ z. elim (cases_eq z c) [
          | inl e ↦ rw (eq-eqb z c e)
          | inr ne ↦ rw (ne_eqb z c ne) (done.same z ∙ r.checked z)
        ];
      })
      (omega arith)

  -- nothing is queued where no job waits, and nothing is held between turns
  all_idle : {es : List Event} {m : Moment Y} → Paused es m → Quiet v m.board → (c : ℕ) → c < m.board.concepts → m.board.state c ≡ Idle
  all_idle {m = m} r q c l = elim (which (m.board.state c)) [
    | inl e ↦ e
    | inr (inl e) ↦ absurd (r.kept.busy c l e (λ j at. q j c at))
    | inr (inr e) ↦ absurd (not_held r c l e)
  ]

  none_piled : {es : List Event} {m : Moment Y} → Paused es m → Quiet v m.board → Empty (S.numbers m.pile)
  none_piled {m = m} r q c = elim (cases_Bool ((S.numbers m.pile).holds c)) [
    | inl e ↦ let o = r.kept.placed.only_queued c e in absurd (r.kept.busy c o.0 o.1 (λ j at. q j c at))
    | inr e ↦ e
  ]

  -- a history at rest
  at_rest : {es : List Event} {m : Moment Y} → History v k S es m → Rested es m.board → Paused es m
  at_rest {es} {m} h r = record {
    kept = o;
    balanced = let z = count_none m.board.concepts m.board.state (λ x l. unheld (m.board.state x) (r.unheld x l)) in let a = o.placed.leases in omega arith;
    checked = r.looked_at;
  }
    where
      o : Kept v k S es m
      o = kept_since v wf k lawful S h.made h.led

      unheld : (s : State) → (s ≡ Held → ⊥) → held_one s ≡ 0
      unheld Idle n = refl
      unheld Queued n = refl
      unheld Held n = absurd (n refl)

  made_rested : (p : Y) (m : Moment Y) → Made v k S p m → Rested [] m.board
  made_rested p m made = record {
    unheld = λ c l h. let s : c < length v.concepts = omega (arith, made.goes.concepts) in elim (is_named_lem v c s) [
      | inl i ↦ held≢queued (m.board.state c) h (made.queued c i)
      | inr n ↦ idle≢held (m.board.state c) (made.idle c s n) h
    ];
    looked_at = λ c. refl;
  }

  run_does_all : (es fs : List Event) (a b : Moment Y) (budget steps : ℕ) (o : Outcome) → History v k S fs a → Rested fs a.board → possible_pairs v k ≤ budget → Runs v k S budget o steps es a b → (o ≡ Finished) × AllDone v S b
  run_does_all es fs a b budget steps o h r l run =
      let t = runs_out run (at_rest h r) (omega arith) in
      (t.0, record { quiet = t.1; idle = all_idle t.2.1 t.1; empty = none_piled t.2.1 t.1 })

  -- where every lease was lowered and every lowering rechecked, the board is at rest
  pub balanced_rested : {es : List Event} {m : Moment Y} → History v k S es m → granted es ≡ given_back es → ((c : ℕ) → unrechecked c es ≡ false) → Rested es m.board
  balanced_rested h e l = record { unheld = not_held (record { kept = kept_since v wf k lawful S h.made h.led; balanced = e; checked = l }); looked_at = l }

pub runs_finish : {Y : Type 0} (S : Shape Y) → RunsFinish S
runs_finish S k lawful v wf = (made_rested S k lawful v wf, run_does_all S k lawful v wf)

pub fresh_run_finishes : {Y : Type 0} (S : Shape Y) → FreshRunFinishes S
fresh_run_finishes S k lawful v wf p a b made budget steps o es l run =
    (runs_out S k lawful v wf run (record { kept = kept_since v wf k lawful S made nothing; balanced = refl; checked = λ x. refl }) (let z = made.no_steps in omega arith)).0

pub queued_waits : {Y : Type 0} (S : Shape Y) → QueuedWaits S
queued_waits S k lawful v wf es m h = (kept_since v wf k lawful S h.made h.led).busy
