use Rattle.std.proofs.Common.{◌≡◌, ℕ, sym, ap, ◌∙◌, arith, rules, tests}
use Rattle.std.specs.Option.{option_map}
use Rattle.terms.specs.declared.records.Concept.{Concept}
use Rattle.terms.specs.declared.records.Concept.TheVariants.{Restriction}
use Rattle.terms.specs.Vocabularies.{Is}
use Rattle.terms.specs.Views.{terms_of}
use Rattle.board.specs.Views.{view}
use Rattle.board.proofs.Finding.{leftmost, best_same, best_next}
use Rattle.board.proofs.board.Board.better_link.Goals as goal

one_filler : {k : Concept} {r x r' x' : ℕ} → k ≡ Restriction r x → k ≡ Restriction r' x' → x ≡ x'
one_filler p q = cc

pub returns-in_default : goal.returns-in_default
returns-in_default g c =
    best_same (terms_of c.args.terms.now) (view c.args.self.now) c.args.c c.args.x c.args.best c.requires.best (λ r i. absurd (c.in_default.not-Restriction r c.args.c (c.concept_at.ensures ∙ i.1)))

pub returns-then-b-c : goal.returns-then-b-c
returns-then-b-c g c =
    best_same (terms_of c.args.terms.now) (view c.args.self.now) c.args.c c.args.x c.args.best c.requires.best (λ r i. let e = one_filler (sym c.in-Restriction.ensures) i.1 in absurd (omega arith))

pub returns : goal.returns
returns g c =
    let v = terms_of c.args.terms.now in
    let b = view c.args.self.now in
    let end : c.map_or-end.result ≡ leftmost b.concepts c.args.best = search (rules, tests) in
    let new : c.map.result ≡ option_map (λ a. record { left = a; right = c.args.x }) c.first_in.result = search (rules, tests) in
    let i : Is v c.args.x (Restriction c.in-Restriction.field-0 c.args.c) = (omega arith, sym c.in-Restriction.ensures ∙ ap (Restriction c.in-Restriction.field-0) c.if-b-c.false) in
    rw (c.or.ensures, new) (best_next v b c.args.c c.args.x c.args.best c.map_or-end.result c.in-Restriction.field-0 c.first_in.result end c.requires.best i c.first_in.ensures)
