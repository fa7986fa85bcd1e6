use Rattle.std.proofs.Common.{◌≡◌, ℕ, ◌/◌, List, length, Ok, Err, Result, sym, ap, ◌∙◌, subst}
use Rattle.terms.specs.declared.tally.Room.{Room}
use Rattle.terms.specs.declared.tally.Tally.{Tally}
use Rattle.terms.specs.Contents.{vocabulary_of}
use Rattle.terms.specs.Counting.{none_of}
use Rattle.terms.specs.Lent.{room_of, Added}
use Rattle.sheet.specs.declared.fault.Fault.{Fault}
use Rattle.sheet.specs.Sheet.{lines_in, count_lines, sheet_of, entries_of, TookEntries}
use Rattle.sheet.proofs.Exits.{broke, cases_of_err}
use Rattle.sheet.proofs.Replacing.{replaced, sheet_cut, sheet_ok, sheet_err}
use Rattle.sheet.proofs.SheetsRead.{length_lines, reads_as, refuses}
use Rattle.sheet.proofs.reading.read.Goals as goal
use Rattle.sheet.proofs.reading.read.Goals.{After-none-tally}

-- the tally begins with nothing and the room of the terms' lists
begun : (c : After-none-tally) → c.none-tally.result ≡ none_of (room_of c.args.terms.now)
begun c = c.none-tally.ensures ∙ ap (λ (t : Tally). none_of t.room) c.tally.ensures

-- so what was counted is what the sheet says
counted_by : (text : List ℕ) (ls : List (List ℕ)) (t : Tally) (m : Room) (r : Result Tally Fault) → ls ≡ lines_in text → t ≡ none_of m → count_lines 1 ls t ≡ r
    → count_lines 1 (lines_in text) (none_of m) ≡ r
counted_by text ls t m r p q e = ap (λ xs. count_lines 1 xs (none_of m)) (sym p) ∙ ap (count_lines 1 ls) (sym q) ∙ e

pub returns-in_err-lines-clause-law : goal.returns-in_err-lines-clause-law
returns-in_err-lines-clause-law c =
    let text = c.args.text.now in
    let m = room_of c.args.terms.now in
    let f = c.in_err-lines.field-0.0 in
    let h = c.in_err-lines.ensures in
    let e : c.from_residual.result ≡ Err f = broke c.from_residual.result f c.from_residual.ensures.1 in
    let s : sheet_of m text ≡ Err f = sheet_cut m text h.0 ∙ ap {A = Fault} {B = Result ℕ Fault} Err (sym h.1) in
    cases_of_err _ _ e (refuses m text f s)

pub returns-in_err-take_lines-clause-law : goal.returns-in_err-take_lines-clause-law
returns-in_err-take_lines-clause-law c =
    let text = c.args.text.now in
    let m = room_of c.args.terms.now in
    let f = c.in_err-take_lines.field-0.0 in
    let h = c.in_ok-lines.ensures in
    let e : c.from_residual-in_err-take_lines.result ≡ Err f = broke c.from_residual-in_err-take_lines.result f c.from_residual-in_err-take_lines.ensures.1 in
    let k : count_lines 1 (lines_in text) (none_of m) ≡ Err f =
    counted_by text c.in_ok-lines.lines.now c.none-tally.result m (Err f) h.1 (begun (goal.at.returns-in_err-take_lines-clause-law c).After-none-tally) c.in_err-take_lines.ensures in
    let s : sheet_of m text ≡ Err f = sheet_err m text h.0 f k in
    cases_of_err _ _ e (refuses m text f s)

pub returns : goal.returns
returns c =
    let text = c.args.text.now in
    let t = c.args.terms.now in
    let u = c.take_lines-2.new.into in
    let m = room_of t in
    let h = c.in_ok-lines.ensures in
    let w = c.in_ok-take_lines.ensures in
    let k : count_lines 1 (lines_in text) (none_of m) ≡ Ok c.take_lines.new.into =
    counted_by text c.in_ok-lines.lines.now c.none-tally.result m (Ok c.take_lines.new.into) h.1 (begun (goal.at.returns c).After-none-tally) w.counts_on in
    let n : length c.in_ok-lines.lines.now ≡ length text / 20 = ap length h.1 ∙ length_lines (length text / 20) text in
    let s : sheet_of m text ≡ Ok (length c.in_ok-lines.lines.now) = sheet_ok m text h.0 c.take_lines.new.into k ∙ ap {A = ℕ} {B = Result ℕ Fault} Ok (sym n) in
    let r = replaced t c.clear.new.self u (entries_of (lines_in text)) c.clear.ensures.contents c.clear.ensures.lists
    (subst (λ ls. TookEntries Added (entries_of ls) c.clear.new.self u) h.1 c.in_ok-take_lines-2.ensures.taken) in
    record { result = sym s; terms = r; law = reads_as m text _ _ s (ap vocabulary_of r.0) }
