use Rattle.std.proofs.Common.{rules, ◌≡◌, ℕ, ◌<◌, List, length, drop, sym, refl, ◌∙◌, subst, arith}
use Rattle.std.proofs.lemmas.Bool.{both_ways}
use Rattle.terms.specs.Views.{terms_of}
use Rattle.terms.proofs.Formed.{well_formed}
use Rattle.terms.proofs.Namings.{named_is, is_named_lem}
use Rattle.board.specs.Views.{view}
use Rattle.board.specs.Asking.{picked, under_test, wanted_test}
use Rattle.board.specs.Questions.{answer, unsettled, no_concept, no_point, short_list, ListTruth}
use Rattle.board.proofs.Asked.{wanted_list}
use Rattle.board.proofs.Questioned.{settled_of, list_truth, front_of}
use Rattle.board.proofs.board.questions.ClosedBoard+K.fill.Goals as goal

pub returns-in_err-settled-clause-answer : goal.returns-in_err-settled-clause-answer
returns-in_err-settled-clause-answer g c = search (rules, unsettled, refl)

pub returns-then-not-is_named-clause-answer : goal.returns-then-not-is_named-clause-answer
returns-then-not-is_named-clause-answer g c =
    let s = settled_of c.in_ok-settled.ensures in
    no_concept refl s (λ i. both_ways _ (sym c.is_named.ensures ∙ c.if-not-is_named.true) (is_named_lem (terms_of c.args.terms.now) c.args.a i))

pub returns-then-point-points-clause-answer : goal.returns-then-point-points-clause-answer
returns-then-point-points-clause-answer g c =
    let s = settled_of c.in_ok-settled.ensures in
    let i = named_is (terms_of c.args.terms.now) c.args.a (sym c.if-not-is_named.ensures) in
    no_point refl s i (omega arith)

pub invariant_of-asked : goal.invariant_of-asked
invariant_of-asked g c =
    let s = settled_of c.in_ok-settled.ensures in
    let i = named_is (terms_of c.args.terms.now) c.args.a (sym c.if-not-is_named.ensures) in
    record { goes = s.goes; within = omega arith }

pub returns-then-count-list-clause-answer : goal.returns-then-count-list-clause-answer
returns-then-count-list-clause-answer g c =
    let k = g.K.GradeKind.kind in
    let s = settled_of c.in_ok-settled.ensures in
    let i = named_is (terms_of c.args.terms.now) c.args.a (sym c.if-not-is_named.ensures) in
    short_list refl s i (omega arith) _ (wanted_list (terms_of c.args.terms.now) k (view c.args.self.now) c.args.point c.args.a i c.args.question s.goes.concepts)
    (omega arith)

pub returns : goal.returns
returns g c =
    let v = terms_of c.args.terms.now in
    let k = g.K.GradeKind.kind in
    let b = view c.args.self.now in
    let s = settled_of c.in_ok-settled.ensures in
    let i = named_is v c.args.a (sym c.if-not-is_named.ensures) in
    let xs : List ℕ = picked (wanted_test c.args.question v (under_test k b c.args.point) c.args.a) b.concepts in
    let is = wanted_list v k b c.args.point c.args.a i c.args.question s.goes.concepts in
    let point : c.args.point < k.points = omega arith in
    let count : c.count_wanted-count.result ≡ length xs = c.count_wanted-count.ensures in
    rw count (record {
      answer = answer s i point xs is c.write_wanted.ensures (omega arith);
      truth = subst (λ (ys : List ℕ). ListTruth c.args.question v k b c.args.a c.args.point ys) (sym (front_of xs (drop (length xs) c.args.list.now) c.write_wanted.new.list c.write_wanted.ensures))
          (list_truth k g.met.K.GradeKind.lawful v (well_formed c.args.terms.now) b s.quiet c.args.question c.args.a c.args.point xs i point is);
    })
