use Rattle.std.proofs.Common.{sym, ◌∙◌}
use Rattle.terms.specs.Vocabularies.{concept}
use Rattle.board.specs.JoinDraws.{ByRestriction, ByLink, ByJob}
use Rattle.board.proofs.Sessions.{session_at, session_unrestricted}
use Rattle.board.proofs.board.session.Session.draw.Goals as goal

pub returns-in-Own : goal.returns-in-Own
returns-in-Own g c = session_at (λ j. ByJob j c.args.grade) (λ _. c.args.job) (sym c.in-Own.is) c.draw_own.ensures

pub returns-in-Restriction : goal.returns-in-Restriction
returns-in-Restriction g c =
    session_at (λ j. ByJob j c.args.grade) (λ _. c.args.job) (sym c.in-Link.is)
    (session_at (ByRestriction (λ r b. ByLink (record { left = c.in-Link.left; role = r; filler = b; grade = c.args.grade }))) (λ v. concept v c.in-Link.right) c.in-Restriction.ensures c.draw_link.ensures)

pub returns-in_default : goal.returns-in_default
returns-in_default g c =
    session_at (λ j. ByJob j c.args.grade) (λ _. c.args.job) (sym c.in-Link.is)
    (session_unrestricted (λ r b. ByLink (record { left = c.in-Link.left; role = r; filler = b; grade = c.args.grade })) c.in-Link.right (λ r b e. c.in_default.not-Restriction r b (c.concept_at.ensures ∙ e)))

pub returns-in-Imply : goal.returns-in-Imply
returns-in-Imply g c = session_at (λ j. ByJob j c.args.grade) (λ _. c.args.job) (sym c.in-Imply.is) c.draw_implication.ensures
