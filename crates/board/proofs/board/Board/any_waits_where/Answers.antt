use Rattle.std.proofs.Common.{◌≡◌, ℕ, rules, tests, arith, refl}
use Rattle.std.proofs.lemmas.Iterator.{YieldsList-from_range, cases_from_any}
use Rattle.terms.specs.Views.{terms_of}
use Rattle.saturation.specs.Boards.{QuietAt, Quiet}
use Rattle.board.specs.Words.{is_idle}
use Rattle.board.specs.Views.{view}
use Rattle.board.proofs.Ranges.{any_of_range}
use Rattle.board.proofs.Finding.{some_waits, none_waits}
use Rattle.board.proofs.board.Board.any_waits_where.Goals as goal

pub returns : goal.returns
returns g c =
    let v = terms_of c.args.terms.now in
    let b = view c.args.self.now in
    let n = c.args.self.now.counts.concepts in
    let P = λ (x : ℕ). is_idle (b.state x) ≡ c.args.idle → QuietAt v b x in
    any_of_range P (Quiet v b → ⊥) n c.any.result
    (cases_from_any _ _ c.any.result (λ x. Quiet v b → ⊥) P c.any.ensures.ran (YieldsList-from_range 0 n n refl (omega arith)) (λ x q k. grind (arith, tests, some_waits)) (λ x q k. (search (rules, tests), grind (arith, tests, none_waits))))
