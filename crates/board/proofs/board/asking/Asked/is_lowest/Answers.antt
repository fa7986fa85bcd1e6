use Rattle.std.proofs.Common.{ℕ, Bool, not, refl, ◌∙◌, arith, rules, tests}
use Rattle.std.proofs.lemmas.Iterator.{YieldsList-from_range}
use Rattle.std.proofs.lemmas.Iterator.Search.{all_from_yields_List}
use Rattle.saturation.specs.Deciding.{mate_test}
use Rattle.board.specs.Asking.{asked_of}
use Rattle.board.proofs.Ranges.{all_of_range}
use Rattle.board.proofs.board.asking.Asked.is_lowest.Goals as goal

pub returns : goal.returns
returns g c =
    let n = c.args.b in
    let f : ℕ → Bool = λ x. not (asked_of mate_test g.K.GradeKind.kind c.args.self.now n x) in
    all_from_yields_List f _ _ c.all.result c.all.ensures.ran (YieldsList-from_range 0 n n refl (omega arith)) (λ x b q k. search (rules, tests)) ∙ all_of_range f n
