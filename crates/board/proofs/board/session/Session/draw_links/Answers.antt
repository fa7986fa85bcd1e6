use Rattle.std.proofs.Common.{◌≡◌, ◌∙◌}
use Rattle.terms.specs.Vocabularies.{concept}
use Rattle.board.specs.JoinDraws.{ByRestriction, ByLinksBy}
use Rattle.board.proofs.Sessions.{session_at, session_guarded, session_none, session_unrestricted}
use Rattle.board.proofs.board.session.Session.draw_links.Goals as goal

pub returns-then-b-implication : goal.returns-then-b-implication
returns-then-b-implication g c =
    let m = c.args.implication in
    session_at (ByRestriction (ByLinksBy m c.args.x)) (λ v. concept v c.args.x) c.in-Restriction.ensures (session_guarded (λ _. c.in-Restriction.b ≡ m.left) c.if-b-implication.true c.draw_join.ensures)

pub returns-else-b-implication : goal.returns-else-b-implication
returns-else-b-implication g c =
    session_at (ByRestriction (ByLinksBy c.args.implication c.args.x)) (λ v. concept v c.args.x) c.in-Restriction.ensures (session_none (λ done d f p t. c.if-b-implication.false t.0))

pub returns-in_default : goal.returns-in_default
returns-in_default g c = session_unrestricted (ByLinksBy c.args.implication c.args.x) c.args.x (λ r b e. c.in_default.not-Restriction r b (c.concept_at.ensures ∙ e))
