use Rattle.std.proofs.Common.{◌≡◌, length, Err, sym, refl, ap, ◌∙◌, subst, ap₂}
use Rattle.std.proofs.lemmas.Result.{err_from_is_err_and}
use Rattle.terms.specs.declared.tally.Room.{Room}
use Rattle.terms.specs.Counting.{room_for}
use Rattle.terms.specs.Lent.{room_of}
use Rattle.terms.specs.Views.{terms_of}
use Rattle.sheet.specs.Sheet.{sheet_of}
use Rattle.sheet.specs.Written.{ReadAs}
use Rattle.listing.specs.Stories.{lists, Told}
use Rattle.listing.proofs.classification.list.Goals as goal

pub returns-then-text-gt4000-clause-told : goal.returns-then-text-gt4000-clause-told
returns-then-text-gt4000-clause-told c = Told.too_long refl c.if-text-gt4000.true

pub returns-in_err-read-clause-told : goal.returns-in_err-read-clause-told
returns-in_err-read-clause-told c =
    let p = err_from_is_err_and c.from_residual.result c.from_residual.ensures.1 in
    let room : room_of c.empty-terms.result ≡ lists = ap₂ room_for (ap length c.empty-terms.ensures.concepts.0) (ap length c.empty-terms.ensures.inclusions.0) in
    rw (p.1, p.2) (Told.no_sheet refl c.if-text-gt4000.false (subst (λ (m : Room). sheet_of m c.args.text.now ≡ Err c.in_err-read.field-0.0) room (sym c.read.ensures.result ∙ c.in_err-read.was)))

pub returns-in_err-list_terms-clause-told : goal.returns-in_err-list_terms-clause-told
returns-in_err-list_terms-clause-told c =
    let p = err_from_is_err_and c.from_residual-in_err-list_terms.result c.from_residual-in_err-list_terms.ensures.1 in
    let room : room_of c.empty-terms.result ≡ lists = ap₂ room_for (ap length c.empty-terms.ensures.concepts.0) (ap length c.empty-terms.ensures.inclusions.0) in
    rw (p.1, p.2) (Told.no_board c.if-text-gt4000.false (subst (λ (m : Room). ReadAs m c.args.text.now c.in_ok-read.field-0 (terms_of c.read.new.terms)) room c.in_ok-read.ensures.law) c.in_err-list_terms.ensures.listed)

pub returns-clause-told : goal.returns-clause-told
returns-clause-told c =
    let room : room_of c.empty-terms.result ≡ lists = ap₂ room_for (ap length c.empty-terms.ensures.concepts.0) (ap length c.empty-terms.ensures.inclusions.0) in
    Told.listed c.if-text-gt4000.false (subst (λ (m : Room). ReadAs m c.args.text.now c.in_ok-read.field-0 (terms_of c.read.new.terms)) room c.in_ok-read.ensures.law) c.in_ok-list_terms.ensures.listed
