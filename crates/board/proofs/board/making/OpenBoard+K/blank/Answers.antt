use Rattle.terms.specs.Views.{terms_of}
use Rattle.board.proofs.Blanks.{blank_words, blank_sane}
use Rattle.board.proofs.board.making.OpenBoard+K.blank.Goals as goal

pub invariant_of-result-clause-sane : goal.invariant_of-result-clause-sane
invariant_of-result-clause-sane g c =
    let v = terms_of c.args.terms.now in
    let k = g.K.GradeKind.kind in
    blank_sane v k _ g.met.K.GradeKind.lawful
    (blank_words v k c.of-counts.result.concepts c.of-counts.result.roles c.words.result c.none.result c.args.words.now c.fill.new.words c.fill-2.new.words (record { concepts = c.of-counts.ensures.concepts; roles = c.of-counts.ensures.roles }) c.words.ensures c.none.ensures c.fill.ensures c.fill-2.ensures)

pub returns-clause-blank : goal.returns-clause-blank
returns-clause-blank g c =
    blank_words (terms_of c.args.terms.now) g.K.GradeKind.kind c.of-counts.result.concepts c.of-counts.result.roles c.words.result c.none.result c.args.words.now c.fill.new.words c.fill-2.new.words (record { concepts = c.of-counts.ensures.concepts; roles = c.of-counts.ensures.roles }) c.words.ensures c.none.ensures c.fill.ensures c.fill-2.ensures
