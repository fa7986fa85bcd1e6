-- What takes and runs note in a log.
use Rattle.std.proofs.Common.{◌≡◌, ℕ, List, [], ◌∷◌, ◌++◌, Some, Result, sym, refl, ap, ◌∙◌, subst, arith}
use Rattle.rejections.specs.declared.Rejection.{Rejection}
use Rattle.rejections.specs.declared.Rejection.TheVariants.{SmallPile, EmptyPile, NotQueued}
use Rattle.grades.specs.Kinds.{Kind}
use Rattle.piles.specs.declared.log.Log.{Log}
use Rattle.std.specs.Borrow.{MutBor}
use Rattle.piles.specs.Shapes.{Shape, borrowed, Became, Acted, nothing, and_then, put, drew, puts}
use Rattle.piles.specs.Records.{Record, all_noted}
use Rattle.piles.specs.Logs.{pile_of, record_of, logged}
use Rattle.piles.proofs.Following.{Follows, below_follows, became_along}
use Rattle.piles.proofs.Logs.{log_noted, lent_stays, none_drawn, noted_then}
use Rattle.terms.specs.Vocabularies.{Vocabulary}
use Rattle.saturation.specs.declared.Outcome.{Outcome}
use Rattle.saturation.specs.Boards.{Moment}
use Rattle.saturation.specs.Histories.{Event, took, returned, worked, lowered, rechecked, other}
use Rattle.saturation.specs.Runs.{Exhausts, Runs}
use Rattle.saturation.proofs.Seeing.{along, runs_along}
use Rattle.board.specs.Rejections.{Ready, Unready}
use Rattle.board.specs.declared.board.running.Ran.{Ran}
use Rattle.board.specs.declared.tokens.Lease.{Lease}
use Rattle.board.specs.Calls as calls
use Rattle.board.specs.Calls.{Taken, RanBy}
use Rattle.sharing.specs.Sharing.{SharedBy}
use Rattle.sharing.proofs.Ending.{ran_acted}
use Rattle.sharing.specs.Noting.{drawn_in_events, TakeNoted, RunNoted, BothNoted}

-- the draws of some events after others, and what is then noted
drawn_then : (es fs : List Event) → drawn_in_events (es ++ fs) ≡ drawn_in_events es ++ drawn_in_events fs
drawn_then [] fs = refl
drawn_then (took c ∷ es) fs = ap (λ (xs : List ℕ). c ∷ xs) (drawn_then es fs)
drawn_then (returned x ∷ es) fs = ap (λ (xs : List ℕ). x ∷ xs) (drawn_then es fs)
drawn_then (worked c j ∷ es) fs = drawn_then es fs
drawn_then (lowered c ∷ es) fs = drawn_then es fs
drawn_then (rechecked c ∷ es) fs = drawn_then es fs
drawn_then (other ∷ es) fs = drawn_then es fs

events_noted : (es fs : List Event) (r : Record) → all_noted (drawn_in_events (es ++ fs)) r ≡ all_noted (drawn_in_events es) (all_noted (drawn_in_events fs) r)
events_noted es fs r = ap (λ (xs : List ℕ). all_noted xs r) (drawn_then es fs) ∙ noted_then (drawn_in_events es) (drawn_in_events fs) r

module _ {Y : Type 0} (S : Shape Y) where
  puts_noted : (xs : List ℕ) {p q : Log Y} → Became (logged S) (puts xs) p q → record_of q ≡ record_of p
  puts_noted xs {p} b = log_noted S b ∙ ap (λ (ys : List ℕ). all_noted ys (record_of p)) (none_drawn xs)

  front_returned : {x : ℕ} {p q : Log Y} → Became (logged S) (put x ∷ drew x ∷ []) p q → S.front (pile_of p) ≡ Some x
  front_returned (and_then (and_then nothing d) e) = d.front

  pub took_noted : {a b : Moment (Log Y)} {r : Result Lease Rejection} → Taken (logged S) a b r → TakeNoted (S.front (pile_of a.pile)) (record_of a.pile) (record_of b.pile) r
  took_noted (calls.took w t) = TakeNoted.leased t.drawn.front t.drawn.more.1
  took_noted (calls.small_pile w e) = TakeNoted.rejected (λ (q : SmallPile ≡ NotQueued). let z : ◌≡◌ {A = ℕ} 0 1 = cc in omega arith) (ap (λ (u : Moment (Log Y)). record_of u.pile) e)
  took_noted (calls.empty_pile w f n e) = TakeNoted.rejected (λ (q : EmptyPile ≡ NotQueued). let z : ◌≡◌ {A = ℕ} 0 1 = cc in omega arith) (ap (λ (u : Moment (Log Y)). record_of u.pile) e)
  took_noted (calls.not_queued {x = x} w t) = TakeNoted.put_back {x = x} (front_returned t.turned) (log_noted S t.turned)

  module _ (v : Vocabulary) (k : Kind) where
    exhausts_noted : {c budget steps : ℕ} {es : List Event} {a b : Moment (Log Y)} → Exhausts v k (logged S) c budget steps es a b →
        record_of b.pile ≡ all_noted (drawn_in_events es) (record_of a.pile)
    exhausts_noted (Exhausts.quiet q) = refl
    exhausts_noted Exhausts.spent = refl
    exhausts_noted {c = c} {a = a} (Exhausts.step {j = j} {es = es} w x) =
        exhausts_noted x ∙ ap (all_noted (drawn_in_events es)) (puts_noted w.puts.numbers w.puts.became) ∙ sym (events_noted es (worked c j ∷ []) (record_of a.pile))

    runs_noted : {budget steps : ℕ} {o : Outcome} {es : List Event} {a b : Moment (Log Y)} → Runs v k (logged S) budget o steps es a b →
        record_of b.pile ≡ all_noted (drawn_in_events es) (record_of a.pile)
    runs_noted (Runs.finished q) = refl
    runs_noted (Runs.spent q) = refl
    runs_noted (Runs.left q u) = log_noted S u.turned
    runs_noted (Runs.dry q n m) = refl
    runs_noted {a = a} (Runs.turn {c = c} {es = es} {fs = fs} {d = d} {e = e} {f = f} q l t x w p r y) =
        let drawn = exhausts_noted x ∙ ap (all_noted (drawn_in_events es)) t.drawn.more.1 in
        let rechecked_too : record_of f.pile ≡ record_of d.pile = puts_noted r.puts.numbers r.puts.became ∙ ap record_of p in
        runs_noted y ∙ ap (all_noted (drawn_in_events fs)) (rechecked_too ∙ drawn ∙ sym (events_noted es (took c ∷ []) (record_of a.pile)))
        ∙ sym (events_noted fs (rechecked c ∷ lowered c ∷ (es ++ took c ∷ [])) (record_of a.pile))

-- a run over a pile is one over a pile that follows it
module _ {Y Z : Type 0} {S : Shape Y} {T : Shape Z} {f : Y → Z} (F : Follows S T f) where
  ready_along : {v : Vocabulary} (m : Moment Y) → Ready v S m → Ready v T (along F m)
  ready_along m w = record { goes = w.goes; wide = rw (F.numbers m.pile) w.wide }

  unready_along : {v : Vocabulary} (m : Moment Y) {e : Rejection} → Unready v S m e → Unready v T (along F m) e
  unready_along m (Unready.other_terms h) = Unready.other_terms h
  unready_along m (Unready.small_pile g h) = Unready.small_pile g (rw (F.numbers m.pile) h)

  pub ran_along : (v : Vocabulary) (k : Kind) {budget : ℕ} {a b : Moment Y} {r : Result Ran Rejection} → RanBy v k S budget a b r → RanBy v k T budget (along F a) (along F b) r
  ran_along v k {a = a} (RanBy.ran es w t) = RanBy.ran es (ready_along a w) (runs_along F v k t)
  ran_along v k {a = a} (RanBy.unready u e) = RanBy.unready (unready_along a u) (ap (along F) e)

-- and of a run over a log, the same events are noted over whatever follows the log
pub ran_noted : {Y Z : Type 0} (T : Shape Z) {S : Shape Y} {f : Log Z → Y} (F : Follows (logged T) S f) (v : Vocabulary) (k : Kind)
    {budget : ℕ} {a b : Moment (Log Z)} {r : Result Ran Rejection} → RanBy v k (logged T) budget a b r →
    RunNoted v k S budget (along F a) (along F b) (record_of a.pile) (record_of b.pile) r
ran_noted T F v k {a = a} (RanBy.ran es w t) = RunNoted.ran es (ready_along F a w) (runs_along F v k t) (runs_noted T v k t)
ran_noted T F v k {a = a} (RanBy.unready u e) = RunNoted.unready (unready_along F a u) (ap (along F) e) (ap (λ (m : Moment (Log _)). record_of m.pile) e)

-- a run leaves the borrow of a pile to the same pile
pub ran_lent : {Y : Type 0} (S : Shape Y) {v : Vocabulary} {k : Kind} {budget : ℕ} {a b : Moment (Log (MutBor Y))} {r : Result Ran Rejection} →
    RanBy v k (logged (borrowed S)) budget a b r → (pile_of b.pile).ghost_name ≡ (pile_of a.pile).ghost_name
ran_lent S t = lent_stays S (ran_acted (logged (borrowed S)) t).1

-- two logs, whatever workers do
module _ {Y : Type 0} (S : Shape Y) where
  shared_acted : {v : Vocabulary} {k : Kind} {words after : List ℕ} {p : Y} {m : Moment Y} → SharedBy v k S words p m after → Acted S p m.pile
  shared_acted (SharedBy.done o w) = w.acted
  shared_acted {p = p} (SharedBy.rejected u) = ([], subst (λ (q : Y). Became S [] p q) (sym u.pile) nothing)

pub both_noted : {Y : Type 0} (S : Shape Y) {v : Vocabulary} {k : Kind} {words after : List ℕ} {p : Log (Log Y)} {m : Moment (Log (Log Y))} →
    SharedBy v k (logged (logged S)) words p m after → BothNoted S p m.pile
both_noted S t =
    let acted = shared_acted (logged (logged S)) t in
    record {
      acts = acted.0;
      became = acted.1;
      upper = log_noted (logged S) acted.1;
      lower = log_noted S (became_along (below_follows (logged S)) acted.1);
    }
