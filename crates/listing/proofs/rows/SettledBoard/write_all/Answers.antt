use Rattle.std.proofs.Common.{ℕ, ◌+◌, ◌*◌, ◌≤◌, List, ◌++◌, length, Option, refl, ap, ◌∙◌, mul-le-mul_left, mul-add, arith}
use Rattle.terms.specs.Views.{terms_of}
use Rattle.board.specs.Views.{view}
use Rattle.listing.specs.Rows.{rows_up_to, all_rows, code_to_list}
use Rattle.listing.proofs.Rowing.{printed_more, printed_same, rows_next}
use Rattle.listing.proofs.rows.SettledBoard.write_all.Goals as goal

-- there is room for the rows of one more concept
room : (n a : ℕ) (page : List ℕ) → a + 1 ≤ n → 19 * n * n ≤ length page → 19 * n * a + 19 * n ≤ length page
room n a page l h = let m = mul-le-mul_left (19 * n) l in let e = mul-add (19 * n) a 1 in omega arith

pub loop-a-preserved : goal.loop-a-preserved
loop-a-preserved g c =
    let grade : ℕ → ℕ → Option ℕ = code_to_list (terms_of c.args.self.now.terms.now) g.K.GradeKind.kind (view c.args.self.now.board.now) in
    let n = c.args.concepts in
    let a = c.loop-a.a in
    let p = c.new-page.result in
    let q = c.loop-a.page in
    let r = c.write_rows.new.page in
    let h = room n a p.bytes.now (omega arith) (omega (arith, ap length c.new-page.ensures.bytes, c.requires)) in
    record {
      printed = printed_same (all_rows grade n (a + 1)) (all_rows grade n a ++ rows_up_to grade a n) 0 r.filled r.filled
          (19 * n * a + 19 * n) (19 * n * (a + 1)) p.bytes.now r.bytes.now r.bytes.now (rows_next grade n a) refl refl (let e = mul-add (19 * n) a 1 in omega arith)
          (printed_more (all_rows grade n a) (rows_up_to grade a n) 0 q.filled r.filled (19 * n * a) (19 * n) p.bytes.now q.bytes.now r.bytes.now
          (omega arith) c.loop-a.invariant.printed c.write_rows.ensures.printed);
      lent = c.write_rows.ensures.lent ∙ c.loop-a.invariant.lent;
    }
