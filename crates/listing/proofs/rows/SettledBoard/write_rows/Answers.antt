use Rattle.std.proofs.Common.{ℕ, ◌+◌, ◌*◌, [], ◌∷◌, ◌++◌, Option, sym, refl, ◌∙◌, arith}
use Rattle.listing.specs.declared.page.Row.{Row}
use Rattle.terms.specs.Views.{terms_of}
use Rattle.board.specs.Views.{view}
use Rattle.listing.specs.Rows.{rows_up_to, code_to_list}
use Rattle.listing.proofs.Rowing.{printed_more, printed_same, rows_some, rows_none}
use Rattle.listing.proofs.rows.SettledBoard.write_rows.Goals as goal
use Rattle.listing.proofs.rows.SettledBoard.write_rows.Goals.{in-Some, in_default}

pub loop-d-preserved : goal.loop-d-preserved
loop-d-preserved g c =
    let grade : ℕ → ℕ → Option ℕ = code_to_list (terms_of c.args.self.now.terms.now) g.K.GradeKind.kind (view c.args.self.now.board.now) in
    let a = c.args.a in
    let d = c.loop-d.d in
    let p = c.args.page.now in
    let q = c.loop-d.page in
    elim c.match-listed.branch [
      | in-Some w ↦
          let r : Row = record { sub = a; sup = d; code = w.in-Some.code } in
          let n = w.push.new.self in
          rw (w.page-is) (record {
            printed = printed_same (rows_up_to grade a (d + 1)) (rows_up_to grade a d ++ r ∷ []) p.filled n.filled n.filled (19 * d + 19) (19 * (d + 1)) p.bytes.now n.bytes.now n.bytes.now
                (rows_some grade a d w.in-Some.code (sym w.in-Some.ensures)) refl refl (omega arith)
                (printed_more (rows_up_to grade a d) (r ∷ []) p.filled q.filled n.filled (19 * d) 19 p.bytes.now q.bytes.now n.bytes.now (omega arith) c.loop-d.invariant.printed w.push.ensures.printed);
            lent = w.push.ensures.lent ∙ c.loop-d.invariant.lent;
          })
      | in_default w ↦
          rw (w.page-is) (record {
            printed = printed_same (rows_up_to grade a (d + 1)) (rows_up_to grade a d) p.filled q.filled q.filled (19 * d) (19 * (d + 1)) p.bytes.now q.bytes.now q.bytes.now
                (rows_none grade a d (sym w.in_default.ensures)) refl refl (omega arith) c.loop-d.invariant.printed;
            lent = c.loop-d.invariant.lent;
          })
    ]
