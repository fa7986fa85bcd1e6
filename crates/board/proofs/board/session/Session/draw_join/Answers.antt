use Rattle.std.proofs.Common.{◌≡◌, true, sym, ⊎_elim}
use Rattle.terms.specs.Views.{terms_of}
use Rattle.terms.proofs.Formed.{well_formed}
use Rattle.board.specs.declared.board.joins.Head.TheVariants.{Follows}
use Rattle.board.specs.JoinDraws.{ByPartners}
use Rattle.board.proofs.Sessions.{session_guarded, session_then, session_none}
use Rattle.board.proofs.board.session.Session.draw_join.Goals as goal

pub returns-then-is_below : goal.returns-then-is_below
returns-then-is_below g c =
    let j = c.args.join in
    let b = (terms_of c.args.self.now.terms.now).below j.link j.implication in
    session_then g.met.K.GradeKind.lawful (session_guarded {P = ByPartners c.args.partners Follows j.grade} (λ v. v.below j.link j.implication ≡ true) (sym {b = b} c.if-is_below.ensures) c.draw_partners.ensures) c.draw_spreads.ensures

pub returns-else-is_below : goal.returns-else-is_below
returns-else-is_below g c =
    let t = c.args.self.now.terms.now in
    let j = c.args.join in
    let no_way : (terms_of t).below j.link j.implication ≡ true → ⊥ = λ b. cc (b, c.if-is_below.ensures) in
    session_none (λ done d f p. ⊎_elim (λ u. no_way u.0) (λ u. no_way ((well_formed t).chains j.link u.0 j.implication u.2.0.0 u.2.0.1)))
