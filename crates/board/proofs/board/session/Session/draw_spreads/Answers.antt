use Rattle.std.proofs.Common.{◌≡◌, sym, subst, arith}
use Rattle.terms.specs.Views.{terms_of}
use Rattle.board.specs.declared.board.joins.Head.TheVariants.{Spreads}
use Rattle.board.specs.JoinDraws.{SpreadsBy, ByPartners, BySpreads}
use Rattle.board.specs.Sessions.{SessionDrawn}
use Rattle.board.proofs.Sessions.{session_guarded, session_none, rounds_none, rounds_more, rounds_all}
use Rattle.board.proofs.board.session.Session.draw_spreads.Goals as goal
use Rattle.board.proofs.board.session.Session.draw_spreads.Goals.{then-is_below+then-is_below-2+then-is_transitive, else-is_below, else-is_below-via-then-is_below+then-is_below-2+else-is_transitive, else-is_below-via-then-is_below+else-is_below-2, else-is_below-via-else-is_below}

pub loop-t-init : goal.loop-t-init
loop-t-init g c = rounds_none

pub loop-t-preserved : goal.loop-t-preserved
loop-t-preserved g c =
    let v = terms_of c.args.self.now.terms.now in
    let j = c.args.join in
    let t = c.loop-t.t in
    let a = c.loop-t.self in
    let I = c.loop-t.invariant in
    let P = BySpreads c.args.partners j in
    let turn : SessionDrawn (P t) a c.if-is_below.self =
    elim c.if-is_below.branch [
      | then-is_below+then-is_below-2+then-is_transitive w ↦
          let B : SpreadsBy j t v = (sym {b = v.below j.link t} w.if-is_below.ensures, sym {b = v.below t j.implication} w.if-is_below-2.ensures, sym {b = v.transitive t} w.if-is_transitive.ensures) in
          subst (λ b. SessionDrawn (P t) a b) (sym w.self-is) (session_guarded {P = ByPartners c.args.partners (Spreads t) j.grade} (SpreadsBy j t) (subst (λ s. SpreadsBy j t (terms_of s)) (sym I.same.terms) B) w.draw_partners.ensures)
      | else-is_below w ↦
          subst (λ b. SessionDrawn (P t) a b) (sym w.self-is) (session_none (λ done d f p u.
          let B = subst (λ s. SpreadsBy j t (terms_of s)) I.same.terms u.0 in
          elim w.else-is_below.branch [
            | else-is_below-via-then-is_below+then-is_below-2+else-is_transitive w' ↦ cc (w'.if-is_transitive.ensures, B.2)
            | else-is_below-via-then-is_below+else-is_below-2 w' ↦ cc (w'.if-is_below-2.ensures, B.1)
            | else-is_below-via-else-is_below w' ↦ cc (w'.if-is_below.ensures, B.0)
          ]))
    ] in
    rounds_more P g.met.K.GradeKind.lawful I turn

pub returns : goal.returns
returns g c =
    let e : c.loop-t.t ≡ (terms_of c.args.self.now.terms.now).roles = omega arith in
    rounds_all (λ v. v.roles) (BySpreads c.args.partners c.args.join) e c.loop-t.invariant
