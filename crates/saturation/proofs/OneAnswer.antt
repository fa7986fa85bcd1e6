-- Every history keeps its promise, and any two that end quiet found the same grades, whatever their piles.
use Rattle.std.proofs.Common.{◌≡◌, ℕ, ◌<◌, Bool, true, false, ◌&&◌, ◌⊎◌, List, sym, ap, ◌∙◌, inl, inr, arith}
use mathlib.Core.List.Memᴰ
use mathlib.Core.List.{Memᴰ}
use Rattle.std.proofs.lemmas.Bool.{cases_eq, both_ways, and_parts, and_from}
use Rattle.lemmas.proofs.Tests.{same_test}
use Rattle.grades.specs.Kinds.{Kind, Lawful}
use Rattle.terms.specs.Vocabularies.{Vocabulary, WellFormed}
use Rattle.piles.specs.Shapes.{Shape}
use Rattle.reasoning.specs.declared.Fact.{Fact}
use Rattle.reasoning.specs.declared.Fact.TheVariants.{Under as under}
use Rattle.reasoning.specs.declared.Job.{Job}
use Rattle.reasoning.specs.Derivations.{fact_of, Within, Derivable, Closed}
use Rattle.reasoning.proofs.Jobs.{inside, inside_within, within_inside, at_concept}
use Rattle.reasoning.proofs.Rules.{conclusion_within, derivable_in}
use Rattle.reasoning.proofs.Sound.{sound}
use Rattle.reasoning.proofs.Complete.{complete}
use Rattle.saturation.specs.declared.State.TheVariants.{Idle, Queued, Held}
use Rattle.saturation.specs.Boards.{Board, Moment, InLine, Quiet}
use Rattle.saturation.specs.Histories.{Event, History, unrechecked}
use Rattle.saturation.specs.AnyOrder.{Due, Promise, AnyOrder, DistinctDue}
use Rattle.saturation.proofs.Sizes.{on}
use Rattle.saturation.proofs.Good.{Tally}
use Rattle.saturation.proofs.Places.{unchecked}
use Rattle.saturation.proofs.Kept.{Kept, kept, quiet_found, due}

module _ (k : Kind) (lawful : Lawful k) (v : Vocabulary) (wf : WellFormed v) where
  -- when no job waits, a found grade holds where the fact is derivable
  found_if_derivable : {Y : Type 0} (S : Shape Y) {es : List Event} {m : Moment Y} → History v k S es m → Quiet v m.board → (f : Fact) (p : ℕ) → p < k.points → Derivable v (λ code. k.holds code p) f → k.holds (m.board.found f) p ≡ true
  found_if_derivable S {m = m} h q f p l d = derivable_in v wf (λ g. k.holds (m.board.found g) p ≡ true) (quiet_found v wf k lawful m.board (kept v wf k lawful S h).good q p l) d

  one_answer : {Y Z : Type 0} (S : Shape Y) (T : Shape Z) (es fs : List Event) (m : Moment Y) (n : Moment Z) → History v k S es m → History v k T fs n → Quiet v m.board → Quiet v n.board → (f : Fact) → Within v f → m.board.found f ≡ n.board.found f
  one_answer S T es fs m n h i q r f w =
      let a = (kept v wf k lawful S h).good in let b = (kept v wf k lawful T i).good in
      lawful.same (m.board.found f) (n.board.found f) (a.sane.found f (on a.goes f w)) (b.sane.found f (on b.goes f w)) (λ p l. same_test _ _
      (λ t. found_if_derivable T i r f p l (a.sound f p w l t)) (λ t. found_if_derivable S h q f p l (b.sound f p w l t)))

  -- a board whose waiting jobs would all be out of sight is quiet
  quiet_at_rest : {Y : Type 0} {S : Shape Y} {es : List Event} {m : Moment Y} → Kept v k S es m → ((c : ℕ) → c < m.board.concepts → (m.board.state c ≡ Idle) × (unrechecked c es ≡ false)) → Quiet v m.board
  quiet_at_rest {es = es} {m} o idle j c at = elim (cases_eq (m.board.done j) (m.board.found (fact_of j))) [
    | inl e ↦ e
    | inr n ↦ let g = o.good.goes.concepts in let l = at_concept v wf at in let t = idle c (omega arith) in absurd (both_ways (unrechecked c es) t.1 (unchecked m.board es c t.0 (o.placed.nothing_lost j c at n)))
  ]

  promise : {Y : Type 0} (S : Shape Y) (es : List Event) (m : Moment Y) → History v k S es m → Promise v k S es m
  promise S es m h = record {
    goes = o.good.goes;
    leases = o.placed.leases;
    nothing_lost = λ j c at w. in_sight c (let l = at_concept v wf at in omega (arith, o.good.goes.concepts)) (o.placed.nothing_lost j c at w);
    queued_in_pile = o.placed.queued_in_pile;
    only_queued = o.placed.only_queued;
    true_in_models = λ q a d i l p t. (
      λ x. sound v (λ code. k.holds code p) a d (o.good.sound (under a d) p (i.0, l) t x),
      λ f. (and_parts (inside v (under a d)) (k.holds (b.found (under a d)) p) (complete v (λ code. k.holds code p) wf (table p) (closed q p t) a d i l f)).1,
    );
    few_steps = some;
    exact_steps = λ one q. record { some = some; every = everything one q };
    at_rest = quiet_at_rest o;
    sane = o.good.sane;
  }
    where
      o : Kept v k S es m
      o = kept v wf k lawful S h

      b : Board
      b = m.board

      us : List (Job × ℕ)
      us = o.tally.0

      y : Tally v k b us
      y = o.tally.1

      in_sight : (c : ℕ) → c < b.concepts → (b.state c ≡ Queued) ⊎ (b.state c ≡ Held) ⊎ (unrechecked c es ≡ true) → InLine S c m ⊎ (b.state c ≡ Held) ⊎ (unrechecked c es ≡ true)
      in_sight c l (inl q) = inl (q, o.placed.queued_in_pile c l q)
      in_sight c l (inr (inl h)) = inr (inl h)
      in_sight c l (inr (inr u)) = inr (inr u)

      table : ℕ → Fact → Bool
      table p f = inside v f && k.holds (b.found f) p

      closed : Quiet v b → (p : ℕ) → p < k.points → Closed v (λ code. k.holds code p) (table p)
      closed q p l js f r z =
          let parts : (j : Job) → Memᴰ j js → Within v (fact_of j) × (k.holds (b.found (fact_of j)) p ≡ true)
          = λ j n. let t = and_parts (inside v (fact_of j)) (k.holds (b.found (fact_of j)) p) (z j n) in (inside_within v (fact_of j) t.0, t.1) in
          and_from (inside v f) (k.holds (b.found f) p) (within_inside v f (conclusion_within v wf r (λ j n. (parts j n).0))) (quiet_found v wf k lawful b o.good q p l js f r parts)

      some : DistinctDue v k b.steps
      some = record { pairs = us; distinct = y.distinct; each = λ u n. due v wf k lawful b u o.good (y.each u n); count = y.count }

      everything : k.points ≡ 1 → Quiet v b → (u : Job × ℕ) → Due v k u → Memᴰ u us
      everything one q u d =
          let l = d.point in
          let z : u.1 ≡ 0 = omega arith in
          let f = derivable_in v wf (λ f. k.holds (b.found f) u.1 ≡ true) (quiet_found v wf k lawful b o.good q u.1 l) d.derivable in
          let e : k.holds (b.done u.0) 0 ≡ true = ap (k.holds (b.done u.0)) (sym z) ∙ rw (q u.0 d.at.0 d.at.1) f in
          Memᴰ.cast (λ s. (u.0, z s)) (y.all one u.0 d.at.0 d.at.1 e)

pub any_order : {Y Z : Type 0} (S : Shape Y) (T : Shape Z) → AnyOrder S T
any_order S T k lawful v wf = (promise k lawful v wf S, one_answer k lawful v wf S T)
