-- What calls make of a pile that is known: the order of a ring, and the rest of a list.
use Rattle.std.proofs.Common.{◌≡◌, ℕ, List, [], ◌∷◌, ◌++◌, Result, sym, ap, ◌∙◌, append-nil, arith}
use Rattle.std.proofs.lemmas.Bool.{cond-false}
use Rattle.rejections.specs.declared.Rejection.{Rejection}
use Rattle.rejections.specs.declared.Rejection.TheVariants.{SmallPile, EmptyPile, NotQueued}
use Rattle.piles.specs.declared.ring.Ring.{Ring}
use Rattle.piles.specs.Shapes.{Became, nothing, and_then, put, drew}
use Rattle.piles.specs.Chains.{has}
use Rattle.piles.specs.Orders.{order, ring_shape}
use Rattle.piles.specs.declared.marks.Marks.{Marks}
use Rattle.piles.specs.Lists.{RestKept}
use Rattle.piles.specs.Tables.{marks_shape}
use Rattle.piles.proofs.Acts.{drawn_gone, ring_became, marks_became, puts_behind}
use Rattle.grades.specs.Kinds.{Kind}
use Rattle.terms.specs.Vocabularies.{Vocabulary}
use Rattle.reasoning.specs.declared.Job.{Job}
use Rattle.saturation.specs.Boards.{Moment}
use Rattle.board.specs.declared.tokens.Lease.{Lease}
use Rattle.board.specs.Calls as calls
use Rattle.board.specs.declared.board.running.Ran.{Ran}
use Rattle.board.specs.Calls.{Taken, Stepped, RanBy}
use Rattle.sharing.specs.Sharing.{TookFirst, ComesBehind}
use Rattle.sharing.proofs.Ending.{ran_acted}

-- a number that was drawn from a ring and put back is behind the others
turned : {x : ℕ} {p q : Ring} → Became ring_shape (put x ∷ drew x ∷ []) p q → (zs : List ℕ) × (order p ≡ x ∷ zs) × (order q ≡ zs ++ x ∷ [])
turned {x} (and_then (and_then {r = m} nothing d) e) =
    (order m, d.more.0, e.more.0 ∙ cond-false (has x (order m)) (order m) (order m ++ x ∷ []) (m.visits x ∙ drawn_gone ring_shape d))

-- a call that leaves all
same_order : {a b : Moment Ring} → b ≡ a → ComesBehind (order a.pile) (order b.pile)
same_order {a = a} e = ([], ap (λ (m : Moment Ring). order m.pile) e ∙ sym (append-nil (order a.pile)))

pub took_first : {a b : Moment Ring} {r : Result Lease Rejection} → Taken ring_shape a b r → TookFirst (order a.pile) (order b.pile) r
took_first (calls.took w t) = TookFirst.leased t.drawn.more.0
took_first (calls.small_pile w e) = TookFirst.rejected (λ (q : SmallPile ≡ NotQueued). let z : ◌≡◌ {A = ℕ} 0 1 = cc in omega arith) (ap (λ (u : Moment Ring). order u.pile) e)
took_first (calls.empty_pile w f n e) = TookFirst.rejected (λ (q : EmptyPile ≡ NotQueued). let z : ◌≡◌ {A = ℕ} 0 1 = cc in omega arith) (ap (λ (u : Moment Ring). order u.pile) e)
took_first (calls.not_queued {x = x} w t) = let h = turned t.turned in TookFirst.behind {x = x} h.0 h.1 h.2

-- what a step, done or rejected, makes of a ring's order
pub stepped_behind : {v : Vocabulary} {k : Kind} {lease : Lease} {a b : Moment Ring} {r : Result Job Rejection} → Stepped v k ring_shape lease a b r → ComesBehind (order a.pile) (order b.pile)
stepped_behind (calls.worked w t) = let h = puts_behind t.puts.numbers _ in (h.0, ring_became t.puts.became ∙ h.1)
stepped_behind (Stepped.unready u e) = same_order e
stepped_behind (Stepped.unfit_lease w n e) = same_order e
stepped_behind (Stepped.nothing_waits w i q e) = same_order e

-- what a run, done or rejected, leaves of the list under a table of marks
pub ran_over : {v : Vocabulary} {k : Kind} {budget : ℕ} {a b : Moment Marks} {r : Result Ran Rejection} → RanBy v k marks_shape budget a b r → RestKept a.pile.list b.pile.list
ran_over t = marks_became (ran_acted marks_shape t).1
