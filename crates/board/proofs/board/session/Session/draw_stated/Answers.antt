use Rattle.std.proofs.Common.{◌≡◌, length, slice_index_or, sym, ap, ◌∙◌, subst, arith}
use Rattle.terms.specs.Rule.{blank}
use Rattle.terms.specs.Views.{terms_of}
use Rattle.board.specs.OwnDraws.{ByInclusion, ByStated}
use Rattle.board.specs.Sessions.{SessionDrawn}
use Rattle.board.proofs.Sessions.{session_at, session_guarded, session_raised, session_none, rounds_none, rounds_more, rounds_all}
use Rattle.board.proofs.board.session.Session.draw_stated.Goals as goal
use Rattle.board.proofs.board.session.Session.draw_stated.Goals.{then-inclusion-known, else-inclusion-known}

pub loop-inclusion-init : goal.loop-inclusion-init
loop-inclusion-init g c = rounds_none

pub loop-inclusion-preserved : goal.loop-inclusion-preserved
loop-inclusion-preserved g c =
    let o = c.args.known in
    let i = c.loop-inclusion.inclusion-index in
    let a = c.loop-inclusion.self in
    let x = slice_index_or c.inclusions-inclusion-items.result.now i blank in
    let e : x ≡ slice_index_or (terms_of a.terms.now).inclusions i blank =
    ap (λ u. slice_index_or u i blank) c.inclusions-inclusion-items.ensures ∙ ap (λ t. slice_index_or (terms_of t).inclusions i blank) (sym c.loop-inclusion.invariant.same.terms) in
    let turn : SessionDrawn (ByInclusion o x) a c.if-inclusion-known.self =
    elim c.if-inclusion-known.branch [
      | then-inclusion-known w ↦
          subst (λ b. SessionDrawn (ByInclusion o x) a b) (sym w.self-is)
          (session_guarded (λ _. x.sub ≡ o.right) w.if-inclusion-known.true (session_raised w.raise.ensures.same w.raise.ensures.raised (λ k _. k.meet o.grade x.code) (λ done d. w.meet-grade.ensures)))
      | else-inclusion-known w ↦ subst (λ b. SessionDrawn (ByInclusion o x) a b) (sym w.self-is) (session_none (λ done d f p t. w.if-inclusion-known.false t.0))
    ] in
    rounds_more (ByStated o) g.met.K.GradeKind.lawful c.loop-inclusion.invariant (session_at (ByInclusion o) (λ v. slice_index_or v.inclusions i blank) e turn)

pub returns : goal.returns
returns g c =
    let e : c.loop-inclusion.inclusion-index ≡ length (terms_of c.args.self.now.terms.now).inclusions = omega (arith, ap length c.inclusions-inclusion-items.ensures) in
    rounds_all (λ v. length v.inclusions) (ByStated c.args.known) e c.loop-inclusion.invariant
