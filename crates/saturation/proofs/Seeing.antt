-- What leads on over a pile leads on over one that follows it; and a history over any pile is one over what is seen of it.
use Rattle.std.proofs.Common.{ℕ, List, ap, ◌∙◌}
use Rattle.grades.specs.Kinds.{Kind}
use Rattle.piles.specs.Shapes.{Shape, PutEach, seen, any_pile}
use Rattle.piles.proofs.Following.{Follows, seen_follows, drawn_along, became_along}
use Rattle.terms.specs.Vocabularies.{Vocabulary}
use Rattle.saturation.specs.declared.Outcome.{Outcome}
use Rattle.saturation.specs.Boards.{Moment}
use Rattle.saturation.specs.Effects.{Made, Took, Returned, Rechecked}
use Rattle.saturation.specs.Histories.{Event, took, returned, worked, lowered, rechecked, other, Effect, Leads, nothing, and_then, History, Led}
use Rattle.saturation.specs.Runs.{Exhausts, Runs}
use Rattle.saturation.specs.AnyOrder.{CallsSeen}

module _ {Y Z : Type 0} {S : Shape Y} {T : Shape Z} {f : Y → Z} (F : Follows S T f) where
  -- a moment, with the pile that follows
  abbrev pub along : Moment Y → Moment Z
  along m = record { board = m.board; pile = f m.pile }

  puts_along : {P : ℕ → Type 0} {p q : Y} → PutEach S P p q → PutEach T P (f p) (f q)
  puts_along t = record { numbers = t.numbers; distinct = t.distinct; each = t.each; every = t.every; became = became_along F t.became }

  module _ (v : Vocabulary) (k : Kind) where
    pub made_along : {p : Y} {m : Moment Y} → Made v k S p m → Made v k T (f p) (along m)
    made_along {p} t = record {
      goes = t.goes;
      started = t.started;
      unfound = t.unfound;
      undone = t.undone;
      queued = t.queued;
      idle = t.idle;
      no_steps = t.no_steps;
      empty = rw (F.numbers p) t.empty;
      puts = puts_along t.puts;
    }

    took_along : (c : ℕ) (a b : Moment Y) → Took S c a b → Took T c (along a) (along b)
    took_along c a b t = record { drawn = drawn_along F t.drawn; within = t.within; queued = t.queued; moved = t.moved }

    returned_along : (x : ℕ) (a b : Moment Y) → Returned S x a b → Returned T x (along a) (along b)
    returned_along x a b t = record { unqueued = t.unqueued; turned = became_along F t.turned; same = t.same }

    rechecked_along : (c : ℕ) (a b : Moment Y) → Rechecked v S c a b → Rechecked v T c (along a) (along b)
    rechecked_along c a b t = record { within = t.within; wakes = t.wakes; leaves = t.leaves; others = t.others; grades = t.grades; puts = puts_along t.puts }

    effect_along : (e : Event) (a b : Moment Y) → Effect v k S e a b → Effect v k T e (along a) (along b)
    effect_along (took c) a b t = took_along c a b t
    effect_along (returned x) a b t = returned_along x a b t
    effect_along (worked c j) a b t = record { deed = t.deed; codes = t.codes; wakes = t.wakes; leaves = t.leaves; puts = puts_along t.puts }
    effect_along (lowered c) a b t = (t.0, ap f t.1)
    effect_along (rechecked c) a b t = rechecked_along c a b t
    effect_along other a b t = record { board = t.board; pile = λ x. rw (F.numbers b.pile) (rw (F.numbers a.pile) (t.pile x)) }

    pub leads_along : {es : List Event} {a b : Moment Y} → Leads v k S es a b → Leads v k T es (along a) (along b)
    leads_along nothing = nothing
    leads_along (and_then {e = e} {b = b} {c = c} l t) = and_then (leads_along l) (effect_along e b c t)

    exhausts_along : {c budget steps : ℕ} {es : List Event} {a b : Moment Y} → Exhausts v k S c budget steps es a b → Exhausts v k T c budget steps es (along a) (along b)
    exhausts_along (Exhausts.quiet q) = Exhausts.quiet q
    exhausts_along Exhausts.spent = Exhausts.spent
    exhausts_along {c = c} {a = a} (Exhausts.step {j = j} {b = b} w x) = Exhausts.step (effect_along (worked c j) a b w) (exhausts_along x)

    pub runs_along : {budget steps : ℕ} {o : Outcome} {es : List Event} {a b : Moment Y} → Runs v k S budget o steps es a b → Runs v k T budget o steps es (along a) (along b)
    runs_along (Runs.finished q) = Runs.finished q
    runs_along (Runs.spent q) = Runs.spent q
    runs_along {a = a} {b = b} (Runs.left {x = x} q u) = Runs.left q (returned_along x a b u)
    runs_along {a = a} (Runs.dry q n m) = Runs.dry q (F.front a.pile ∙ n) (rw (F.numbers a.pile) m)
    runs_along {a = a} (Runs.turn {c = c} {b = b} {e = e} {f = g} q l t x w p r y) =
        Runs.turn q l (took_along c a b t) (exhausts_along x) w (ap f p) (rechecked_along c e g r) (runs_along y)

pub calls_seen : {Y : Type 0} (S : Shape Y) → CallsSeen S
calls_seen S =
    let F = seen_follows S in
    record {
      made = λ v k p m t. made_along F v k t;
      led = λ v k es a b t. leads_along F v k t;
      ran = λ v k budget steps o es a b t. runs_along F v k t;
    }

pub history_seen : {Y : Type 0} {v : Vocabulary} {k : Kind} {S : Shape Y} {es : List Event} {m : Moment Y} → History v k S es m →
    History v k any_pile es (along (seen_follows S) m)
history_seen {v = v} {k} {S} h =
    let F = seen_follows S in
    record { before = seen S h.before; begin = along F h.begin; made = made_along F v k h.made; led = leads_along F v k h.led }

-- so some calls led to its board
pub led : {Y : Type 0} {v : Vocabulary} {k : Kind} {S : Shape Y} {es : List Event} {m : Moment Y} → History v k S es m → Led v k m.board
led {S = S} {es} {m} h = record { events = es; pile = seen S m.pile; history = history_seen h }
