use Rattle.std.proofs.Common.{◌≡◌, refl}
use Rattle.terms.specs.Vocabularies.{concept}
use Rattle.board.specs.OwnDraws.{ByForm}
use Rattle.board.proofs.Sessions.{session_at, session_then, session_guarded, session_raised, session_none}
use Rattle.board.proofs.board.session.Session.draw_concept.Goals as goal

pub returns-in-Atomic : goal.returns-in-Atomic
returns-in-Atomic g c = session_at (ByForm c.args.known c.args.x) (λ v. concept v c.args.x) c.in-Atomic.ensures (session_none (λ done d f p t. t))

pub returns-then-known : goal.returns-then-known
returns-then-known g c =
    let o = c.args.known in
    session_at (ByForm o c.args.x) (λ v. concept v c.args.x) c.in-Top.ensures
    (session_guarded (λ _. o.left ≡ o.right) c.if-known.true (session_raised c.raise.ensures.same c.raise.ensures.raised (λ _ _. o.grade) (λ done d. refl)))

pub returns-else-known : goal.returns-else-known
returns-else-known g c = session_at (ByForm c.args.known c.args.x) (λ v. concept v c.args.x) c.in-Top.ensures (session_none (λ done d f p t. c.if-known.false t.0))

pub returns-in-Conjunction : goal.returns-in-Conjunction
returns-in-Conjunction g c =
    session_at (ByForm c.args.known c.args.x) (λ v. concept v c.args.x) c.in-Conjunction.ensures (session_then g.met.K.GradeKind.lawful c.draw_both.ensures c.draw_both-in-Conjunction.ensures)

pub returns-then-d-known : goal.returns-then-d-known
returns-then-d-known g c =
    let o = c.args.known in
    let R = c.raise-then-d-known.ensures in
    session_at (ByForm o c.args.x) (λ v. concept v c.args.x) c.in-Restriction.ensures
    (session_guarded (λ _. c.in-Restriction.d ≡ o.right) c.if-d-known.true (session_raised R.same R.raised (λ _ _. o.grade) (λ done d. refl)))

pub returns-else-d-known : goal.returns-else-d-known
returns-else-d-known g c = session_at (ByForm c.args.known c.args.x) (λ v. concept v c.args.x) c.in-Restriction.ensures (session_none (λ done d f p t. c.if-d-known.false t.0))
