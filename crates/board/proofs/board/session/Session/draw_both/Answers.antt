use Rattle.std.proofs.Common.{◌≡◌, rules, refl}
use Rattle.reasoning.specs.declared.Job.TheVariants.{Own as own}
use Rattle.board.proofs.Sessions.{met, session_raised, session_guarded, session_none}
use Rattle.board.proofs.board.session.Session.draw_both.Goals as goal

pub returns-then-near-known : goal.returns-then-near-known
returns-then-near-known g c =
    let s = c.args.self.now in
    let o = c.args.known in
    let j = own o.left c.args.far in
    session_guarded (λ _. c.args.near ≡ o.right) c.if-near-known.true
    (session_raised {a = s} (search rules) c.raise.ensures.raised (λ k done. k.meet o.grade (done j))
    (λ done d. met s done o.grade c.meet.ensures c.done-h.ensures refl (d j (c.requires.left, c.requires.far))))

pub returns-else-near-known : goal.returns-else-near-known
returns-else-near-known g c = session_none (λ done d f p t. c.if-near-known.false t.0)
