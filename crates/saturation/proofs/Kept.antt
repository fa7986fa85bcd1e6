-- What every history keeps, and what it promises.
use Rattle.std.proofs.Common.{◌≡◌, ℕ, ◌<◌, true, List, [], ◌∷◌, sym, refl, ◌∙◌, subst}
use mathlib.Core.List.{Memᴰ}
use Rattle.terms.specs.Vocabularies.{Vocabulary, WellFormed}
use Rattle.grades.specs.Kinds.{Kind, Lawful}
use Rattle.piles.specs.Shapes.{Shape}
use Rattle.reasoning.specs.declared.Fact.{Fact}
use Rattle.reasoning.specs.declared.Job.{Job}
use Rattle.reasoning.specs.Derivations.{fact_of, Within, Rule}
use Rattle.saturation.specs.declared.State.TheVariants.{Idle, Held}
use Rattle.saturation.specs.Boards.{Board, Moment, Quiet}
use Rattle.saturation.specs.Effects.{Made}
use Rattle.saturation.specs.Histories.{Event, took, returned, worked, lowered, rechecked, other, Effect, Leads, nothing, and_then, History}
use Rattle.saturation.specs.AnyOrder.{Due}
use Rattle.reasoning.proofs.Jobs.{at_within}
use Rattle.reasoning.proofs.Rules.{premise_at}
use Rattle.saturation.proofs.Sizes.{on}
use Rattle.saturation.proofs.Good.{Good, Tally, Done, good_same, tally_same, made_good, made_tally, worked_good, worked_tally}
use Rattle.saturation.proofs.Places.{idle≢queued, held≢queued, Placed, not_returned, made_placed, took_placed, lowered_placed, rechecked_placed, worked_placed}
use Rattle.saturation.proofs.Busy.{Busy, made_busy, moved_busy, rechecked_busy, worked_busy}

pub record Kept {Y : Type 0} (v : Vocabulary) (k : Kind) (S : Shape Y) (es : List Event) (m : Moment Y) : Type 0 where
  pub good : Good v k m.board
  pub placed : Placed v S es m
  pub tally : (us : List (Job × ℕ)) × Tally v k m.board us
  pub busy : Busy v m.board

module _ (v : Vocabulary) (wf : WellFormed v) (k : Kind) (lawful : Lawful k) where
  module _ {Y : Type 0} (S : Shape Y) where
    -- one event more
    pub kept_step : (es : List Event) (e : Event) (a b : Moment Y) → Effect v k S e a b → Kept v k S es a → Kept v k S (e ∷ es) b
    kept_step es (took c) a b t o = record {
      good = good_same v wf k lawful t.moved.grades o.good;
      placed = took_placed v wf k S es a b o.good.goes o.placed c t;
      tally = (o.tally.0, tally_same v wf k lawful o.good.goes t.moved.grades o.tally.1);
      busy = moved_busy v wf k lawful a.board b.board o.good.goes c Held (held≢queued Held refl) t.moved o.busy;
    }
    kept_step es (returned x) a b t o = absurd (not_returned o.placed t)
    kept_step es (worked c j) a b t o = record {
      good = worked_good v wf k lawful c j a.board b.board t.deed o.good t.codes;
      placed = worked_placed v wf k S es a b o.good.goes o.placed c j t;
      tally = worked_tally v wf k lawful c j a.board b.board t.deed o.good o.tally.0 o.tally.1;
      busy = worked_busy v wf k lawful S c a b o.good.goes j t o.good.sane o.busy;
    }
    kept_step es (lowered c) a b t o = record {
      good = good_same v wf k lawful t.0.moved.grades o.good;
      placed = lowered_placed v wf k S es a b o.good.goes o.placed c t.0 t.1;
      tally = (o.tally.0, tally_same v wf k lawful o.good.goes t.0.moved.grades o.tally.1);
      busy = moved_busy v wf k lawful a.board b.board o.good.goes c Idle (idle≢queued Idle refl) t.0.moved o.busy;
    }
    kept_step es (rechecked c) a b t o = record {
      good = good_same v wf k lawful t.grades o.good;
      placed = rechecked_placed v wf k S es a b o.good.goes o.placed c t;
      tally = (o.tally.0, tally_same v wf k lawful o.good.goes t.grades o.tally.1);
      busy = rechecked_busy v wf k lawful S c a b o.good.goes t o.busy;
    }
    kept_step es other a b t o =
        let p = o.placed in
        let same : Kept v k S (other ∷ es) (record { board = a.board; pile = b.pile }) = record {
          good = o.good;
          placed = record {
            leases = p.leases;
            nothing_lost = p.nothing_lost;
            queued_in_pile = λ x l q. t.pile x ∙ p.queued_in_pile x l q;
            only_queued = λ x i. p.only_queued x (sym (t.pile x) ∙ i);
          };
          tally = o.tally;
          busy = o.busy;
        } in
        subst (λ (u : Board). Kept v k S (other ∷ es) (record { board = u; pile = b.pile })) (sym t.board) same

    -- a making keeps it, and so does each event after it
    pub kept_since : {es : List Event} {p : Y} {a b : Moment Y} → Made v k S p a → Leads v k S es a b → Kept v k S es b
    kept_since {p = p} {a = a} h nothing = record {
      good = made_good v wf k lawful a h;
      placed = made_placed v wf k S p a h;
      tally = ([], made_tally v wf k lawful a h);
      busy = made_busy v wf k lawful a h;
    }
    kept_since h (and_then {es = es} {e = e} {b = b} {c = c} l t) = kept_step es e b c t (kept_since h l)

    pub kept : {es : List Event} {m : Moment Y} → History v k S es m → Kept v k S es m
    kept h = kept_since h.made h.led

  -- a quiet board has all that a rule draws from what it has
  pub quiet_found : (b : Board) → Good v k b → Quiet v b → (p : ℕ) → p < k.points → (js : List Job) (f : Fact) → Rule v (λ code. k.holds code p) js f
      → ((j : Job) → Memᴰ j js → Within v (fact_of j) × (k.holds (b.found (fact_of j)) p ≡ true)) → k.holds (b.found f) p ≡ true
  quiet_found b g q p l js f r h =
      g.complete js f p l r (λ j m. let t = h j m in let at = premise_at v wf r j m t.0 in (t.0, rw (q j at.0 at.1) t.1))

  pub due : (b : Board) (u : Job × ℕ) → Good v k b → Done v k b u → Due v k u
  due b u g d = let w = at_within v d.0.1 in record {
    at = d.0;
    point = d.1;
    derivable = g.sound (fact_of u.0) u.1 w d.1 (g.sane.below u.0 u.1 (on g.goes (fact_of u.0) w) d.1 d.2);
  }
