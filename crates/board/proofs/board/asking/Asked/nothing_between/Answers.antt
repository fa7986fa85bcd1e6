use Rattle.std.proofs.Common.{ℕ, Bool, not, refl, ap, ◌∙◌, arith, rules, tests}
use Rattle.std.proofs.lemmas.Iterator.{YieldsList-from_range}
use Rattle.std.proofs.lemmas.Iterator.Search.{all_from_yields_List}
use Rattle.lemmas.specs.Tests.{every}
use Rattle.saturation.specs.Deciding.{between_test}
use Rattle.board.specs.Asking.{asked_of}
use Rattle.board.proofs.Ranges.{all_of_range}
use Rattle.board.proofs.board.asking.Asked.nothing_between.Goals as goal

pub returns : goal.returns
returns g c =
    let s = c.args.self.now in
    let n = s.board.now.counts.concepts in
    let f : ℕ → Bool = λ x. not (asked_of between_test g.K.GradeKind.kind s s.concept c.args.b x) in
    all_from_yields_List f _ _ c.all.result c.all.ensures.ran (YieldsList-from_range 0 n n refl (omega arith)) (λ x b q k. search (rules, tests)) ∙ all_of_range f n ∙ ap (λ m. every m f) s.goes.concepts
