-- Steps one after another at a concept, and turns one after another.
use Rattle.std.proofs.Common.{◌≡◌, ℕ, ◌+◌, ◌-◌, ◌*◌, ◌<◌, List, [], ◌∷◌, ◌++◌, Err, sym, refl, ap, ◌∙◌, subst, subst₂, ⊎_elim, arith}
use Rattle.std.proofs.lemmas.Bool.{cases_eq}
use Rattle.rejections.specs.declared.Rejection.{Rejection}
use Rattle.grades.specs.Kinds.{Kind}
use Rattle.piles.specs.Sets.{tally, count_of}
use Rattle.piles.specs.Shapes.{Shape}
use Rattle.piles.proofs.Acts.{became_size}
use Rattle.piles.proofs.Eaches.{each_count}
use Rattle.piles.proofs.Tallies.{tally_le, tally_without}
use Rattle.terms.specs.Vocabularies.{Vocabulary}
use Rattle.reasoning.specs.declared.Job.{Job}
use Rattle.reasoning.specs.Derivations.{fact_of}
use Rattle.reasoning.proofs.Jobs.{at_within}
use Rattle.saturation.specs.declared.State.TheVariants.{Held}
use Rattle.saturation.specs.declared.Outcome.{Outcome}
use Rattle.saturation.specs.declared.Outcome.TheVariants.{Finished, Spent, Left}
use Rattle.saturation.specs.Boards.{Board, Moment, Quiet, QuietAt}
use Rattle.saturation.specs.Effects.{Took, Worked, Lowered, Rechecked}
use Rattle.saturation.specs.Histories.{Event, took, returned, worked, lowered, rechecked, other}
use Rattle.saturation.specs.Runs.{Exhausts, Runs}
use Rattle.saturation.proofs.Sizes.{sizes_then, on}
use Rattle.saturation.proofs.Places.{idle≢held, idle≢queued}
use Rattle.board.specs.Rejections.{Ready}
use Rattle.board.specs.Calls.{Taken}
use Rattle.board.specs.Running.{Ongoing, Exhausted, Turned, Rolling}
use Rattle.board.proofs.Callers.{ready_then}

module _ {Y : Type 0} {v : Vocabulary} {k : Kind} {S : Shape Y} {c : ℕ} where
  pub ongoing_none : {a : Moment Y} → a.board.state c ≡ Held → Ongoing v k S c 0 a a
  ongoing_none {a = a} h = record {
    held = h;
    still = λ _. refl;
    stepping = λ rest more es z E. (es, subst₂ (λ x y. Exhausts v k S c x y es a z) (omega arith) (omega arith) E);
  }

  module _ {steps : ℕ} {a b : Moment Y} (O : Ongoing v k S c steps a b) where
    pub ongoing_more : {j : Job} {d : Moment Y} → Worked v k S c j b d → Ongoing v k S c (steps + 1) a d
    ongoing_more {j = j} W = record {
      held = W.leaves c W.deed.within (λ i _. idle≢held (b.board.state c) i O.held) ∙ O.held;
      still = λ e. absurd (omega arith);
      stepping = λ rest more es z E.
          let T = O.stepping (rest + 1) (more + 1) (es ++ worked c j ∷ []) z (Exhausts.step W E) in
          (T.0, subst₂ (λ x y. Exhausts v k S c x y T.0 a z) (omega arith) (omega arith) T.1);
    }

    ended : (budget rest : ℕ) → steps + rest ≡ budget → (steps < budget → QuietAt v b.board c) → Exhausts v k S c rest 0 [] b b → Exhausted v k S c budget steps a b
    ended budget rest e q E =
        let T = O.stepping rest 0 [] b E in record {
          held = O.held;
          spent = omega arith;
          still = O.still;
          quiet = q;
          events = T.0;
          exhausts = subst₂ (λ x y. Exhausts v k S c x y T.0 a b) e (omega arith) T.1;
        }

    pub ongoing_quiet : {budget : ℕ} → steps < budget → QuietAt v b.board c → Exhausted v k S c budget steps a b
    ongoing_quiet {budget = budget} l Q = ended budget (budget - steps) (omega arith) (λ _. Q) (Exhausts.quiet Q)

    pub ongoing_spent : {budget : ℕ} → steps ≡ budget → Exhausted v k S c budget budget a b
    ongoing_spent {budget = budget} e = subst (λ n. Exhausted v k S c budget n a b) e (ended budget 0 (omega arith) (λ l. absurd (omega arith)) Exhausts.spent)

-- a lowering and a recheck
module _ {Y : Type 0} {v : Vocabulary} {S : Shape Y} {c : ℕ} {m b : Moment Y} {d : Board} (R : Ready v S m) (L : Lowered c m.board d) (C : Rechecked v S c (record { board = d; pile = m.pile }) b) where
  -- where no job waited before them, none waits after the lowering, and nothing is put
  turn_still : QuietAt v m.board c → count_of (S.numbers b.pile) ≡ count_of (S.numbers m.pile)
  turn_still Q = each_count (λ x w. idle≢queued (d.state x) w.1 (sym (stays x w.0) ∙ w.2)) C.puts
    where
      quiet : QuietAt v d c
      quiet j w =
          let o = on R.goes (fact_of j) (at_within v w) in
          L.moved.grades.done j o ∙ Q j w ∙ sym (L.moved.grades.found (fact_of j) o)

      stays : (x : ℕ) → x < d.concepts → b.board.state x ≡ d.state x
      stays x h = ⊎_elim (λ e. subst (λ u. b.board.state u ≡ d.state u) (sym e) (C.leaves (λ w. w.1.2 (quiet w.1.0 w.1.1)))) (C.others x h) (cases_eq x c)

  pub turned : {k : Kind} {budget steps : ℕ} {a : Moment Y} → Exhausted v k S c budget steps a m → Turned v k S c budget steps a b
  turned E = record {
    ready = ready_then R (sizes_then L.moved.grades.sizes C.grades.sizes) (became_size S C.puts.became);
    spent = E.spent;
    still = λ z l. turn_still (E.quiet (omega arith)) ∙ ap (λ (u : Moment Y). count_of (S.numbers u.pile)) (E.still z);
    events = E.events;
    done = m;
    exhausts = E.exhausts;
    idle = d;
    lowered = L;
    rechecked = C;
  }

module _ {Y : Type 0} {v : Vocabulary} {k : Kind} {S : Shape Y} {budget : ℕ} where
  pub rolling_none : {a : Moment Y} → Ready v S a → Rolling v k S budget 0 a a
  rolling_none {a = a} R = record {
    ready = R;
    spent = omega arith;
    turning = λ o more es z T. (es, subst₂ (λ x y. Runs v k S x o y es a z) (omega arith) (omega arith) T);
  }

  module _ {steps : ℕ} {a b : Moment Y} (O : Rolling v k S budget steps a b) where
    -- a take, and a turn of so many further steps
    module _ (l : steps < budget) {c more : ℕ} {d f : Moment Y} (T : Took S c b d) (U : Turned v k S c (budget - steps) more d f) where
      pub rolling_more : ¬ Quiet v b.board → Rolling v k S budget (steps + more) a f
      rolling_more W = record {
        ready = U.ready;
        spent = (let h = U.spent in let i = O.spent in omega arith);
        turning = λ o further fs z G.
            let rest : Runs v k S (budget - steps - more) o further fs f z = subst (λ x. Runs v k S x o further fs f z) (omega arith) G in
            let H = O.turning o (more + further) (fs ++ rechecked c ∷ lowered c ∷ (U.events ++ took c ∷ [])) z (Runs.turn W (omega arith) T U.exhausts U.lowered refl U.rechecked rest) in
            (H.0, subst (λ y. Runs v k S budget o y H.0 a z) (omega arith) H.1);
      }

      -- a turn uses steps up, or takes a number out of the pile for good
      pub rolling_less : (budget - (steps + more)) * 1025 + count_of (S.numbers f.pile) < (budget - steps) * 1025 + count_of (S.numbers b.pile)
      rolling_less = ⊎_elim none some (cases_eq more 0)
        where
          none : more ≡ 0 → (budget - (steps + more)) * 1025 + count_of (S.numbers f.pile) < (budget - steps) * 1025 + count_of (S.numbers b.pile)
          none z =
              let p = S.numbers b.pile in
              let q = S.numbers d.pile in
              let less = tally_without p.holds q.holds p.size c (p.below c T.drawn.set.1) T.drawn.set.1 T.drawn.set.2 in
              let size : count_of q ≡ tally q.holds p.size = ap (tally q.holds) T.drawn.set.0 in
              omega (arith, U.still z (omega arith))

          some : (more ≡ 0 → ⊥) → (budget - (steps + more)) * 1025 + count_of (S.numbers f.pile) < (budget - steps) * 1025 + count_of (S.numbers b.pile)
          some ne = let p = S.numbers f.pile in let h = tally_le p.holds p.size in let s = p.small in let m = U.spent in omega arith

    finish : (o : Outcome) (d : Moment Y) (fs : List Event) → Runs v k S (budget - steps) o 0 fs b d → (es : List Event) × Runs v k S budget o steps es a d
    finish o d fs T = let H = O.turning o 0 fs d T in (H.0, subst (λ y. Runs v k S budget o y H.0 a d) (omega arith) H.1)

    pub rolling_finished : Quiet v b.board → (es : List Event) × Runs v k S budget Finished steps es a b
    rolling_finished Q = finish Finished b [] (Runs.finished Q)

    pub rolling_spent : ¬ Quiet v b.board → steps ≡ budget → (es : List Event) × Runs v k S budget Spent steps es a b
    rolling_spent W e = finish Spent b [] (Runs.spent (W, omega arith))

    pub rolling_left : ¬ Quiet v b.board → steps < budget → {e : Rejection} {d : Moment Y} → Taken S b d (Err e) → (es : List Event) × Runs v k S budget Left steps es a d
    rolling_left W l (Taken.small_pile n _) = absurd (n O.ready.wide)
    rolling_left W l {d = d} (Taken.empty_pile _ f none e) =
        finish Left d (other ∷ []) (subst (λ u. Runs v k S (budget - steps) Left 0 (other ∷ []) b u) (sym e) (Runs.dry (W, omega arith) f none))
    rolling_left W l {d = d} (Taken.not_queued {x = x} _ R) = finish Left d (returned x ∷ []) (Runs.left (W, omega arith) R)
