use Rattle.std.proofs.Common.{◌≡◌, ℕ, sym, refl, ap, ◌∙◌, subst}
use Rattle.terms.specs.Views.{terms_of}
use Rattle.terms.proofs.Formed.{well_formed}
use Rattle.reasoning.specs.declared.Fact.{Fact}
use Rattle.reasoning.specs.Derivations.{Within, fact_of}
use Rattle.reasoning.proofs.Jobs.{at_within}
use Rattle.saturation.specs.Boards.{Board, Moment, On, Draws}
use Rattle.saturation.proofs.Sizes.{on_after}
use Rattle.board.specs.Views.{view}
use Rattle.board.specs.JoinDraws.{ByJob}
use Rattle.board.specs.Raises.{Raises}
use Rattle.board.specs.Sessions.{at}
use Rattle.board.proofs.Jobs.{job_cases, job_draws}
use Rattle.board.proofs.Sessions.{on_board, raises_alike}
use Rattle.board.proofs.Stepping.{step_worked}
use Rattle.board.proofs.board.session.Session.work.Goals as goal

graded : (found : Fact → ℕ) {x y : ℕ} {h i : Fact} → x ≡ found h → h ≡ i → y ≡ found i → x ≡ y
graded found a b c = a ∙ ap found b ∙ sym c

pub found-grade-requires : goal.found-grade-requires
found-grade-requires g c =
    let s = c.args.self.now in
    subst (λ f. On (view s.board.now) f) (sym c.fact_of.ensures) (on_board s (fact_of c.in_ok-job.job) (at_within _ c.in_ok-job.ensures.at))

pub mark_done-requires : goal.mark_done-requires
mark_done-requires g c = on_board c.args.self.now (fact_of c.in_ok-job.job) (at_within _ c.in_ok-job.ensures.at)

pub draw-requires : goal.draw-requires
draw-requires g c =
    let f = fact_of c.in_ok-job.job in
    on_after c.mark_done.ensures.marked.sizes f (on_board c.args.self.now f (at_within _ c.in_ok-job.ensures.at))

pub returns-clause-work : goal.returns-clause-work
returns-clause-work g c =
    let s = c.args.self.now in
    let v = terms_of s.terms.now in
    let k = g.K.GradeKind.kind in
    let L = g.met.K.GradeKind.lawful in
    let W = well_formed s.terms.now in
    let S = g.P.Pile.shape in
    let j = c.in_ok-job.job in
    let F = c.in_ok-job.ensures in
    let w : Within v (fact_of j) = at_within _ F.at in
    let M = c.mark_done.ensures.marked in
    let m : Board = view c.mark_done.new.self in
    let b : Board = view c.draw.new.self.board.now in
    let x : Moment g.row.P.Denot = record { board = m; pile = s.pile.now } in
    let y : Moment g.row.P.Denot = record { board = b; pile = c.draw.new.self.pile.now } in
    let d : Moment g.row.P.Denot = record { board = view c.count.new.self; pile = c.draw.new.self.pile.now } in
    let e : c.found-grade.result ≡ m.done j = graded (view s.board.now).found c.found-grade.ensures c.fact_of.ensures M.here in
    let R : Raises v k S (Draws v k m.done j) x y =
    raises_alike {a = x} {b = y} (Draws v k m.done j) (subst (λ u. Raises v k S (ByJob j u v k m.done) x y) e (c.draw.ensures.raises m.done (λ _ _. refl)))
    (λ f p _ h. job_draws v W k L m.done p h j f w) (λ f p u h. job_cases v W k L m.done p h j f u) in
    step_worked v W k L S c.args.c j (at s) d m b s.ready.goes s.board.now.sane c.count.new.self.sane c.requires.1 F M R c.count.ensures.counted
