use Rattle.std.proofs.Common.{length, sym, subst}
use Rattle.terms.specs.Views.{terms_of}
use Rattle.terms.proofs.Formed.{well_formed}
use Rattle.saturation.specs.Boards.{Board}
use Rattle.saturation.specs.Histories.{Led}
use Rattle.board.specs.Views.{moment}
use Rattle.board.specs.Questions.{Settled}
use Rattle.board.proofs.Callers.{made_in_order}
use Rattle.listing.proofs.Ending.{run_ends}
use Rattle.listing.proofs.classification.classify.Goals as goal

pub returns : goal.returns
returns g c =
    let v = terms_of c.args.terms.now in
    let k = g.K.GradeKind.kind in
    let a = moment c.make-board.result c.make-board.new.pile in
    let b = moment c.run.new.self c.run.new.pile in
    let M = made_in_order c.requires c.make-board.ensures.made in
    let end = run_ends k g.met.K.GradeKind.lawful v (well_formed c.args.terms.now) g.P.Pile.shape (length c.args.words.now) c.args.pile.now a b c.run.result c.requires M c.run.ensures.ran in
    record {
      settled = subst (λ (o : Board). Settled v o) (sym c.close.ensures.view) end.0;
      led = subst (λ (o : Board). Led v k o) (sym c.close.ensures.view) end.1;
    }
