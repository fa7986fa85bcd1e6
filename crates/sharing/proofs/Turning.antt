-- How the calls of workers lead on, one after another.
use Rattle.std.proofs.Common.{◌≡◌, ℕ, Bool, true, false, cond, eqb, List, [], ◌∷◌, ◌++◌, Err, Result, sym, refl, ap, ◌∙◌, subst, inl, inr, arith}
use Rattle.std.proofs.lemmas.Bool.{cases_eq, eq-eqb, ne_eqb}
use Rattle.rejections.specs.declared.Rejection.{Rejection}
use Rattle.grades.specs.Kinds.{Kind}
use Rattle.piles.specs.Shapes.{Shape, drew, Became, Acted}
use Rattle.piles.specs.Shapes as shapes
use Rattle.piles.proofs.Acts.{became_size, acted_then}
use Rattle.terms.specs.Vocabularies.{Vocabulary}
use Rattle.reasoning.specs.declared.Job.{Job}
use Rattle.saturation.specs.Boards.{Board, Moment, SameSizes}
use Rattle.saturation.specs.Effects.{Took, Lowered, Rechecked}
use Rattle.saturation.specs.Histories.{Event, took, returned, worked, lowered, rechecked, other, Effect, nothing, and_then, unrechecked}
use Rattle.saturation.proofs.Sizes.{same_sizes}
use Rattle.saturation.proofs.Places.{idle≢held, held≢queued}
use Rattle.saturation.proofs.Finish.{join_leads, granted_of, given_back_of}
use Rattle.board.specs.declared.tokens.Lease.{Lease}
use Rattle.board.specs.Rejections.{Ready}
use Rattle.board.specs.Calls.{Taken, Stepped}
use Rattle.board.proofs.Callers.{ready_then}
use Rattle.sharing.specs.Sharing.{LedBy, GaveBack, TookTurns}

-- what two lists of events both looked at, one after the other
looked_both : (x : ℕ) (es fs : List Event) → unrechecked x es ≡ false → unrechecked x fs ≡ false → unrechecked x (es ++ fs) ≡ false
looked_both x [] fs h i = i
looked_both x (took c ∷ es) fs h i = looked_both x es fs h i
looked_both x (returned c ∷ es) fs h i = looked_both x es fs h i
looked_both x (worked c j ∷ es) fs h i = looked_both x es fs h i
looked_both x (other ∷ es) fs h i = looked_both x es fs h i
looked_both x (lowered c ∷ es) fs h i = go (eqb x c) h (λ e. looked_both x es fs e i)
  where
    go : (b : Bool) → cond b true (unrechecked x es) ≡ false → (unrechecked x es ≡ false → unrechecked x (es ++ fs) ≡ false) → cond b true (unrechecked x (es ++ fs)) ≡ false
    go true e f = e
    go false e f = f e
looked_both x (rechecked c ∷ es) fs h i = go (eqb x c) h (λ e. looked_both x es fs e i)
  where
    go : (b : Bool) → cond b false (unrechecked x es) ≡ false → (unrechecked x es ≡ false → unrechecked x (es ++ fs) ≡ false) → cond b false (unrechecked x (es ++ fs)) ≡ false
    go true e f = e
    go false e f = f e

module _ {Y : Type 0} (v : Vocabulary) (k : Kind) (S : Shape Y) where
  -- one event
  led_one : (e : Event) (a b : Moment Y) → Ready v S b → Acted S a.pile b.pile → Effect v k S e a b → LedBy v k S (e ∷ []) a b
  led_one e a b r p t = record { ready = r; led = and_then nothing t; acted = p }

  -- one after the other
  onward_then : {es fs : List Event} {a b c : Moment Y} → LedBy v k S es a b → LedBy v k S fs b c → LedBy v k S (fs ++ es) a c
  onward_then o u = record { ready = u.ready; led = join_leads o.led u.led; acted = acted_then S o.acted u.acted }

  pub turns_then : {a b c : Moment Y} → Ready v S a → TookTurns v k S a b → TookTurns v k S b c → TookTurns v k S a c
  turns_then r s t = record {
    events = t.events ++ s.events;
    onward = onward_then s.onward t.onward;
    balanced = let g = granted_of t.events s.events in let h = given_back_of t.events s.events in let i = s.balanced in let j = t.balanced in omega arith;
    looked_at = λ c. looked_both c t.events s.events (t.looked_at c) (s.looked_at c);
    held = λ x l h. t.held x (omega (arith, r.goes.concepts, s.onward.ready.goes.concepts)) (s.held x l h);
  }

  -- nothing happens
  pub no_turns : (a : Moment Y) → Ready v S a → TookTurns v k S a a
  no_turns a r = record { events = []; onward = record { ready = r; led = nothing; acted = ([], shapes.nothing) }; balanced = refl; looked_at = λ c. refl; held = λ x l h. h }

  -- a call that leaves all
  idle_turn : (a b : Moment Y) → Ready v S a → b ≡ a → TookTurns v k S a b
  idle_turn a b r e = subst (λ m. TookTurns v k S a m) (sym e) (no_turns a r)

  -- a take that is rejected
  pub not_taken : (a b : Moment Y) (e : Rejection) → Ready v S a → Taken S a b (Err e) → TookTurns v k S a b
  not_taken a b e r (Taken.small_pile w s) = idle_turn a b r s
  not_taken a b e r (Taken.empty_pile w f m s) = idle_turn a b r s
  not_taken a b e r (Taken.not_queued {x = x} w t) = record {
    events = returned x ∷ [];
    onward = led_one (returned x) a b (ready_then r (subst (λ u. SameSizes a.board u) (sym t.same) same_sizes) (became_size S t.turned)) (_, t.turned) t;
    balanced = refl;
    looked_at = λ c. refl;
    held = λ y l i. ap (λ (o : Board). o.state y) t.same ∙ i;
  }

  -- a step, done or rejected
  pub stepped : (lease : Lease) (a b : Moment Y) (r : Result Job Rejection) → Ready v S a → Stepped v k S lease a b r → TookTurns v k S a b
  stepped lease a b r h (Stepped.worked {j = j} w t) = record {
    events = worked lease.concept j ∷ [];
    onward = led_one (worked lease.concept j) a b (ready_then h t.deed.sizes (became_size S t.puts.became)) (_, t.puts.became) t;
    balanced = refl;
    looked_at = λ c. refl;
    held = λ x l i. t.leaves x l (λ e u. idle≢held (a.board.state x) e i) ∙ i;
  }
  stepped lease a b r h (Stepped.unready u e) = idle_turn a b h e
  stepped lease a b r h (Stepped.unfit_lease w n e) = idle_turn a b h e
  stepped lease a b r h (Stepped.nothing_waits w i q e) = idle_turn a b h e

  -- a lowering and its recheck
  pub gave_back : (c : ℕ) (a b d : Moment Y) → Ready v S a → Lowered c a.board b.board → b.pile ≡ a.pile → Rechecked v S c b d → GaveBack v k S c a d
  gave_back c a b d r l p t =
      let low = led_one (lowered c) a b (ready_then r l.moved.grades.sizes (ap (λ q. (S.numbers q).size) p)) ([], subst (λ (q : Y). Became S [] a.pile q) (sym p) shapes.nothing) (l, p) in
      record {
        onward = onward_then low (led_one (rechecked c) b d (ready_then low.ready t.grades.sizes (became_size S t.puts.became)) (_, t.puts.became) t);
        held = λ x i n e. t.others x (omega (arith, l.moved.grades.sizes.concepts)) n ∙ l.moved.others x i n ∙ e;
      }

  -- a take, what others do while the concept is held, and its giving back
  pub whole_turn : (c : ℕ) (a b d e : Moment Y) → Ready v S a → Took S c a b → TookTurns v k S b d → GaveBack v k S c d e → TookTurns v k S a e
  whole_turn c a b d e r t m back =
      let es = m.events ++ took c ∷ [] in
      record {
        events = rechecked c ∷ lowered c ∷ es;
        onward = onward_then (onward_then (led_one (took c) a b (ready_then r t.moved.grades.sizes t.drawn.set.0) (drew c ∷ [], shapes.and_then shapes.nothing t.drawn) t) m.onward) back.onward;
        balanced = let i = granted_of m.events (took c ∷ []) in let j = given_back_of m.events (took c ∷ []) in let n = m.balanced in omega arith;
        looked_at = λ x. elim (cases_eq x c) [
          | inl q ↦ rw (eq-eqb x c q)
          | inr n ↦ rw (ne_eqb x c n) (looked_both x m.events (took c ∷ []) (m.looked_at x) refl)
        ];
        held = λ x l i.
            let n : x ≡ c → ⊥ = λ q. held≢queued (a.board.state x) i (ap a.board.state q ∙ t.queued) in
            back.held x (omega (arith, r.goes.concepts, m.onward.ready.goes.concepts)) n (m.held x (omega (arith, t.moved.grades.sizes.concepts)) (t.moved.others x l n ∙ i));
      }
