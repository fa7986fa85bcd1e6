use Rattle.std.proofs.Common.{rules, sym, ap, ◌∙◌}
use Rattle.std.proofs.lemmas.Bool.{false≢true}
use Rattle.board.specs.Raises.{Gains}
use Rattle.board.specs.JoinDraws.{partner, conclusion, ByPartner}
use Rattle.board.specs.Sessions.{SessionDrawn}
use Rattle.board.proofs.Sessions.{met, session_at, session_raised, session_none}
use Rattle.board.proofs.board.session.Session.draw_partner.Goals as goal

pub returns-then-met-none : goal.returns-then-met-none
returns-then-met-none g c =
    let s = c.args.self.now in
    let u = c.args.grade in
    let j = partner c.args.partners c.args.i in
    session_at (λ f _ k done. Gains k f (k.meet u (done j))) (λ _. conclusion c.args.partners c.args.head c.args.i) c.fact.ensures
    (session_raised {a = s} (search rules) c.raise.ensures.raised (λ k done. k.meet u (done j)) (λ done d. met s done u c.meet-met.ensures c.done.ensures c.job.ensures (d j (search rules))))

pub returns-else-met-none : goal.returns-else-met-none
returns-else-met-none g c =
    let s = c.args.self.now in
    let u = c.args.grade in
    let j = partner c.args.partners c.args.i in
    let D : SessionDrawn (ByPartner c.args.partners c.args.head u c.args.i) s s =
    session_none (λ done d f p t.
    let e = sym c.none.ensures ∙ sym c.if-met-none.false ∙ met s done u c.meet-met.ensures c.done.ensures c.job.ensures (d j (search rules)) in
    false≢true (sym (g.met.K.GradeKind.lawful.none_holds p) ∙ ap (λ x. g.K.GradeKind.kind.holds x p) e ∙ t.1)) in
    record { same = search rules; raises = D.raises }
