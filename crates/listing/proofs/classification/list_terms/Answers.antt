use Rattle.std.proofs.Common.{◌≤◌, length, refl, ap, arith}
use Rattle.std.proofs.lemmas.Result.{err_from_is_err_and}
use Rattle.terms.specs.Views.{terms_of}
use Rattle.terms.proofs.Formed.{well_formed}
use Rattle.piles.specs.Orders.{in_ring}
use Rattle.board.specs.Views.{view}
use Rattle.listing.specs.Rows.{code_to_list, all_rows}
use Rattle.listing.proofs.Ending.{truly_listed, page_room, page_few, no_board, board_listed}
use Rattle.listing.proofs.classification.list_terms.Goals as goal

pub returns-in_err-check : goal.returns-in_err-check
returns-in_err-check g c =
    let p = err_from_is_err_and c.from_residual.result c.from_residual.ensures.1 in
    rw (p.1, p.2) (record {
      listed = no_board (terms_of c.args.terms.now) g.K.GradeKind.kind c.args.page.now 17640 (in_ring c.new-ring.result) _ refl
          (omega (arith, c.requires.few, c.new-ring.ensures.size)) c.new-ring.ensures.none c.in_err-check.ensures;
      fits = tt;
    })

pub write_all-requires : goal.write_all-requires
write_all-requires g c = page_room (length c.concepts.result.now) c.args.page.now (omega (arith, ap length c.concepts.ensures, c.requires.few)) c.requires.room

pub returns : goal.returns
returns g c =
    let v = terms_of c.args.terms.now in
    let k = g.K.GradeKind.kind in
    let b = view c.classify-board.result in
    let n = length c.concepts.result.now in
    let order = c.in_ok-check.ensures in
    let small : n ≤ 40 = omega (arith, ap length c.concepts.ensures, c.requires.few) in
    let few = page_few n small in
    let w = rw (c.new-settled.ensures.board, c.new-settled.ensures.terms) at c.write_all.ensures in
    record {
      listed = board_listed v k 17640 _ c.write_all.result (all_rows (code_to_list v k b) n n) c.args.page.now c.write_all.new.bytes refl order.coded order.enough
          (truly_listed k g.met.K.GradeKind.lawful v (well_formed c.args.terms.now) b c.classify-board.ensures.led c.classify-board.ensures.settled.quiet n (ap length c.concepts.ensures)) w;
      fits = omega (arith, w.1, w.2);
    }
