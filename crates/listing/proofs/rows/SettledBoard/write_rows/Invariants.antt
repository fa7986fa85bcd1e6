use Rattle.std.proofs.Common.{◌≡◌, ◌*◌}
use Rattle.terms.specs.Views.{terms_of}
use Rattle.board.specs.Views.{view}
use Rattle.listing.specs.Rows.{rows_up_to, code_to_list}
use Rattle.listing.specs.Pages.{RowsAt}
use Rattle.listing.proofs.rows.SettledBoard.write_rows.Given as goal

-- the rows of the concepts so far are written
abbrev pub invariant-loop-d : goal.invariant-loop-d
invariant-loop-d g l = record {
  printed : RowsAt (rows_up_to (code_to_list (terms_of l.self.terms.now) g.K.GradeKind.kind (view l.self.board.now)) l.a l.d) l.initial.page.filled l.page.filled (19 * l.d) l.initial.page.bytes.now l.page.bytes.now;
  lent : l.page.bytes.ghost_name ≡ l.initial.page.bytes.ghost_name;
}
