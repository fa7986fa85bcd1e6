-- Terms that are cleared and then filled with what lines state.
use Rattle.std.proofs.Common.{◌≡◌, ℕ, ◌+◌, ◌/◌, ◌%◌, ◌≤◌, eqb, List, length, Ok, Err, Result, refl, ap, ◌∙◌, arith}
use Rattle.std.proofs.lemmas.Bool.{cond-true, cond-false, eq-eqb, ne_eqb}
use Rattle.terms.specs.declared.entry.Entry.{Entry}
use Rattle.terms.specs.declared.tally.Room.{Room}
use Rattle.terms.specs.declared.tally.Tally.{Tally}
use Rattle.terms.specs.declared.terms.Terms.{Terms}
use Rattle.terms.specs.Contents.{nothing}
use Rattle.terms.specs.Counting.{none_of}
use Rattle.terms.specs.Entries.{with_entries}
use Rattle.terms.specs.Lent.{WrittenOver, Added}
use Rattle.terms.specs.Views.{contents_of}
use Rattle.terms.proofs.Filling.{same_lists, filled_on, added_more}
use Rattle.sheet.specs.declared.fault.Fault.{Fault}
use Rattle.sheet.specs.Faults.{and_then, unfinished}
use Rattle.sheet.specs.Sheet.{lines_in, count_lines, sheet_of, TookEntries, none, more}

-- ---- what the terms hold

-- terms that took entries one after another
record Grown (es : List Entry) (s u : Terms) : Type 0 where
  contents : contents_of u ≡ with_entries es (contents_of s)
  lists : WrittenOver s u
  concepts : s.concept_count ≤ u.concept_count
  inclusions : s.inclusion_count ≤ u.inclusion_count

grown : {es : List Entry} {s u : Terms} → TookEntries Added es s u → Grown es s u
grown {es} {s} none = record { contents = refl; lists = same_lists s s refl refl refl refl; concepts = omega arith; inclusions = omega arith }
grown (more {e} {es} {s} {t} {u} a k) =
    let g = grown k in
    let m = added_more e s t a in
    record {
      contents = g.contents ∙ ap (with_entries es) a.0;
      lists = filled_on s t u g.concepts g.inclusions a.1 g.lists;
      concepts = omega arith;
      inclusions = omega arith;
    }

pub replaced : (t c u : Terms) (es : List Entry) → contents_of c ≡ nothing → WrittenOver t c → TookEntries Added es c u → (contents_of u ≡ with_entries es nothing) × WrittenOver t u
replaced t c u es e f k =
    let g = grown k in
    (g.contents ∙ ap (with_entries es) e, filled_on t c u g.concepts g.inclusions f g.lists)

-- ---- what the sheet says

module _ (m : Room) (text : List ℕ) where
  pub sheet_cut : (length text % 20 ≡ 0 → ⊥) → sheet_of m text ≡ Err (unfinished (length text / 20 + 1))
  sheet_cut h = cond-false (eqb (length text % 20) 0) _ _ (ne_eqb (length text % 20) 0 h)

  sheet_whole : length text % 20 ≡ 0 → (r : Result Tally Fault) → count_lines 1 (lines_in text) (none_of m) ≡ r → sheet_of m text ≡ and_then r (λ _. Ok (length text / 20))
  sheet_whole h r e = cond-true (eqb (length text % 20) 0) _ _ (eq-eqb (length text % 20) 0 h) ∙ ap (λ (q : Result Tally Fault). and_then q (λ _. Ok (length text / 20))) e

  pub sheet_ok : length text % 20 ≡ 0 → (t : Tally) → count_lines 1 (lines_in text) (none_of m) ≡ Ok t → sheet_of m text ≡ Ok (length text / 20)
  sheet_ok h t e = sheet_whole h (Ok t) e

  pub sheet_err : length text % 20 ≡ 0 → (f : Fault) → count_lines 1 (lines_in text) (none_of m) ≡ Err f → sheet_of m text ≡ Err f
  sheet_err h f e = sheet_whole h (Err f) e
