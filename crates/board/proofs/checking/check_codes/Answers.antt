use Rattle.std.proofs.Common.{◌<◌, ◌≤◌, get_or, subst, rules, tests, arith}
use Rattle.std.proofs.lemmas.Bool.{MatchBool-at_true, MatchBool-at_false}
use Rattle.std.proofs.lemmas.Iterator.{cases_from_any, YieldsList-from_slice}
use Rattle.terms.specs.declared.records.Inclusion.{Inclusion}
use Rattle.terms.specs.Rule.{blank}
use Rattle.terms.specs.Views.{terms_of}
use Rattle.board.specs.Rejections.{foreign_code}
use Rattle.board.proofs.Members.{member, member_at}
use Rattle.board.proofs.checking.check_codes.Goals as goal

pub returns-then-any : goal.returns-then-any
returns-then-any g c = λ words s.
    let k = g.K.GradeKind.kind in
    let all = (terms_of c.args.terms.now).inclusions in
    let r = cases_from_any _ _ _ (λ (i : Inclusion). k.codes ≤ i.code) (λ (i : Inclusion). i.code < k.codes) c.any.ensures.ran
    (YieldsList-from_slice all cc) (λ x q h. search (rules, tests)) (λ x q h. search (rules, tests)) in
    let w = MatchBool-at_true _ _ c.if-any.true r in
    foreign_code {i = get_or all w.0 blank} (member all w.0 blank w.1) (w.2 blank)

pub returns : goal.returns
returns g c = λ i m.
    let k = g.K.GradeKind.kind in
    let all = (terms_of c.args.terms.now).inclusions in
    let r = cases_from_any _ _ _ (λ (i : Inclusion). k.codes ≤ i.code) (λ (i : Inclusion). i.code < k.codes) c.any.ensures.ran
    (YieldsList-from_slice all cc) (λ x q h. search (rules, tests)) (λ x q h. search (rules, tests)) in
    let w = member_at m blank in
    subst (λ (u : Inclusion). u.code < k.codes) w.2 (MatchBool-at_false _ _ c.if-any.false r w.0 blank (omega arith) w.1)
