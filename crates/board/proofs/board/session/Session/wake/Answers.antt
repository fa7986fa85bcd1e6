use Rattle.std.proofs.Common.{◌≡◌, sym, ◌∙◌, subst, inl, inr, ⊎_elim, arith}
use Rattle.terms.specs.Vocabularies.{Is}
use Rattle.terms.specs.declared.records.Concept.{Concept}
use Rattle.terms.specs.declared.records.Concept.TheVariants.{Restriction}
use Rattle.terms.specs.Views.{terms_of}
use Rattle.terms.proofs.Formed.{well_formed}
use Rattle.reasoning.specs.Derivations.{Within}
use Rattle.reasoning.specs.declared.Fact.TheVariants.{Under as under, Implies as implies}
use Rattle.saturation.proofs.Sizes.{within}
use Rattle.board.specs.Views.{moment}
use Rattle.board.specs.Sessions.{at}
use Rattle.board.specs.Raises.{Woken}
use Rattle.board.proofs.Waking.{woken_one, woken_two, left_works, filler_works, works_under, works_implies, premise_works, filler_below}
use Rattle.board.proofs.board.session.Session.wake.Goals as goal

one_filler : {k : Concept} {r x r' x' : _} → k ≡ Restriction r x → k ≡ Restriction r' x' → x ≡ x'
one_filler p q = cc

pub returns-in-Restriction-clause-woken : goal.returns-in-Restriction-clause-woken
returns-in-Restriction-clause-woken g c =
    let s = c.args.self.now in
    let v = terms_of s.terms.now in
    let n = c.in-Under.c in
    let d = c.in-Under.d in
    let b = c.in-Restriction.b in
    let r = c.in-Restriction.field-0 in
    let w : Within v (under n d) = subst (λ f. Within v f) c.in-Under.is (within s.ready.goes c.args.fact c.requires) in
    let i : Is v d (Restriction r b) = (w.1, sym c.in-Restriction.ensures) in
    let M = moment c.queue.new.self c.queue.new.pile in
    let B = moment c.queue-in-Restriction.new.self c.queue-in-Restriction.new.pile in
    subst (λ f. Woken v g.P.Pile.shape f (at s) B) (sym c.in-Under.is)
    (woken_two v g.P.Pile.shape (under n d) n b (at s) M B (omega (arith, w.0, s.ready.goes.concepts)) (omega (arith, s.ready.goes.concepts, filler_below v (well_formed s.terms.now) d r b i))
    c.queue.ensures.nudged c.queue-in-Restriction.ensures.nudged (left_works v n d w) (filler_works v n d r b w i)
    (λ x u. ⊎_elim inl (λ t. inr (one_filler t.1.1 i.1)) (works_under v n d x u)))

pub returns-in_default-clause-woken : goal.returns-in_default-clause-woken
returns-in_default-clause-woken g c =
    let s = c.args.self.now in
    let v = terms_of s.terms.now in
    let n = c.in-Under.c in
    let d = c.in-Under.d in
    let w : Within v (under n d) = subst (λ f. Within v f) c.in-Under.is (within s.ready.goes c.args.fact c.requires) in
    let B = moment c.queue.new.self c.queue.new.pile in
    subst (λ f. Woken v g.P.Pile.shape f (at s) B) (sym c.in-Under.is)
    (woken_one v g.P.Pile.shape (under n d) n (at s) B (omega (arith, w.0, s.ready.goes.concepts)) c.queue.ensures.nudged (left_works v n d w)
    (λ x u. ⊎_elim (λ e. e) (λ t. absurd (c.in_default.not-Restriction t.0 x (c.concept_at.ensures ∙ t.1.1))) (works_under v n d x u)))

pub returns-in-Implies-clause-woken : goal.returns-in-Implies-clause-woken
returns-in-Implies-clause-woken g c =
    let s = c.args.self.now in
    let v = terms_of s.terms.now in
    let r = c.in-Implies.field-0 in
    let n = c.in-Implies.c in
    let e = c.in-Implies.field-2 in
    let w : Within v (implies r n e) = subst (λ f. Within v f) c.in-Implies.is (within s.ready.goes c.args.fact c.requires) in
    let B = moment c.queue-in-Implies.new.self c.queue-in-Implies.new.pile in
    subst (λ f. Woken v g.P.Pile.shape f (at s) B) (sym c.in-Implies.is)
    (woken_one v g.P.Pile.shape (implies r n e) n (at s) B (omega (arith, w.1, s.ready.goes.concepts)) c.queue-in-Implies.ensures.nudged (premise_works v r n e w) (works_implies v r n e))
