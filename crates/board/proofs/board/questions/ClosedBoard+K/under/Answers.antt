use Rattle.std.proofs.Common.{rules, ◌<◌, length, sym, ◌∙◌, arith}
use Rattle.std.proofs.lemmas.Bool.{both_ways}
use Rattle.terms.specs.Views.{terms_of}
use Rattle.terms.proofs.Formed.{well_formed}
use Rattle.terms.proofs.Namings.{named_is, is_named_lem}
use Rattle.board.specs.Views.{view}
use Rattle.board.specs.Questions.{answer, unsettled, no_concept}
use Rattle.board.proofs.Questioned.{settled_of, under_truth}
use Rattle.board.proofs.board.questions.ClosedBoard+K.under.Goals as goal
use Rattle.board.proofs.board.questions.ClosedBoard+K.under.Goals.{then-not-is_named-via-then-not-is_named, then-not-is_named-via-else-not-is_named+then-from-self}

pub returns-in_err-settled-clause-answer : goal.returns-in_err-settled-clause-answer
returns-in_err-settled-clause-answer g c = search (rules, unsettled)

pub returns-then-not-is_named-clause-answer : goal.returns-then-not-is_named-clause-answer
returns-then-not-is_named-clause-answer g c =
    let s = settled_of c.in_ok-settled.ensures in
    elim c.then-not-is_named.branch [
      | then-not-is_named-via-then-not-is_named w ↦ no_concept s (λ i l. both_ways _ (sym c.is_named.ensures ∙ w.if-not-is_named.true) (is_named_lem (terms_of c.args.terms.now) c.args.a i))
      | then-not-is_named-via-else-not-is_named+then-from-self w ↦ no_concept s (λ i l. omega arith)
    ]

pub found-requires : goal.found-requires
found-requires g c =
    let s = settled_of c.in_ok-settled.ensures in
    let i = named_is (terms_of c.args.terms.now) c.args.a (sym c.if-not-is_named.ensures) in
    (omega arith, omega arith)

pub returns : goal.returns
returns g c =
    let v = terms_of c.args.terms.now in
    let b = view c.args.self.now in
    let s = settled_of c.in_ok-settled.ensures in
    let i = named_is v c.args.a (sym c.if-not-is_named.ensures) in
    let l : c.args.d < length v.concepts = omega arith in
    rw c.found.ensures (record { answer = answer s i l; truth = under_truth g.K.GradeKind.kind g.met.K.GradeKind.lawful v (well_formed c.args.terms.now) b s.quiet c.args.a c.args.d i l })
