use Rattle.std.proofs.Common.{refl, sym, ◌∙◌, ⊎_elim}
use Rattle.terms.specs.Vocabularies.{concept}
use Rattle.board.specs.OwnDraws.{ByOperand}
use Rattle.board.proofs.Sessions.{session_at, session_then, session_raised, session_none}
use Rattle.board.proofs.board.session.Session.draw_operands.Goals as goal

pub returns-in-Atomic : goal.returns-in-Atomic
returns-in-Atomic g c =
    let o = c.args.known in
    ⊎_elim
    (λ e. session_at (ByOperand o) (λ v. concept v o.right) (sym e ∙ c.concept_at.ensures) (session_none (λ done d f p t. t)))
    (λ e. session_at (ByOperand o) (λ v. concept v o.right) (sym e ∙ c.concept_at.ensures) (session_none (λ done d f p t. t))) c.in-Atomic.is

pub returns-in-Conjunction : goal.returns-in-Conjunction
returns-in-Conjunction g c =
    let o = c.args.known in
    let R = c.raise.ensures in
    let T = c.raise-in-Conjunction.ensures in
    session_at (ByOperand o) (λ v. concept v o.right) c.in-Conjunction.ensures
    (session_then g.met.K.GradeKind.lawful (session_raised R.same R.raised (λ _ _. o.grade) (λ done d. refl)) (session_raised T.same T.raised (λ _ _. o.grade) (λ done d. refl)))
