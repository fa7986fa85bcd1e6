use Rattle.std.proofs.Common.{◌≡◌, ◌*◌}
use Rattle.listing.specs.Pages.{RowsAt}
use Rattle.terms.specs.Views.{terms_of}
use Rattle.board.specs.Views.{view}
use Rattle.listing.specs.Rows.{all_rows, code_to_list}
use Rattle.listing.proofs.rows.SettledBoard.write_all.Given as goal

-- the rows of the concepts so far are written
abbrev pub invariant-loop-a : goal.invariant-loop-a
invariant-loop-a g l = record {
  printed : RowsAt (all_rows (code_to_list (terms_of l.self.terms.now) g.K.GradeKind.kind (view l.self.board.now)) l.concepts l.a) 0 l.page.filled (19 * l.concepts * l.a) l.initial.page.bytes.now l.page.bytes.now;
  lent : l.page.bytes.ghost_name ≡ l.initial.page.bytes.ghost_name;
}
