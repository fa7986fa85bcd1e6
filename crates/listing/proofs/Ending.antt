-- A fresh board that is run has no job waiting, and what it then lists is the truth.
use Rattle.std.proofs.Common.{◌≡◌, ℕ, ◌*◌, ◌<◌, ◌≤◌, false, List, [], length, Some, Ok, Err, Result, sym, refl, ap, ◌∙◌, inl, inr, arith}
use Rattle.std.proofs.lemmas.Bool.{both_ways}
use Rattle.std.proofs.lemmas.Nat.{mul-le}
use Rattle.rejections.specs.declared.Rejection.{Rejection}
use Rattle.grades.specs.Kinds.{Kind, Lawful}
use Rattle.piles.specs.Sets.{Numbers}
use Rattle.piles.specs.Shapes.{Shape, any_pile}
use Rattle.terms.specs.Vocabularies.{Vocabulary, Named, WellFormed}
use Rattle.terms.proofs.Namings.{is_named_lem}
use Rattle.reasoning.specs.declared.Fact.TheVariants.{Under as under}
use Rattle.saturation.specs.Boards.{Board, Moment, Quiet}
use Rattle.saturation.specs.Effects.{Made}
use Rattle.saturation.specs.Histories.{nothing, History, Led}
use Rattle.saturation.specs.AnyOrder.{Promise}
use Rattle.saturation.specs.Answers.{Grade}
use Rattle.saturation.proofs.Sizes.{on}
use Rattle.saturation.proofs.Finish.{runs_finish}
use Rattle.saturation.proofs.OneAnswer.{any_order}
use Rattle.saturation.proofs.Truths.{one_grade}
use Rattle.saturation.proofs.Seeing.{led}
use Rattle.board.specs.declared.board.running.Ran.{Ran}
use Rattle.board.specs.Layout.{words_needed}
use Rattle.board.specs.Rejections.{InOrder, CheckRejected, Coded}
use Rattle.board.specs.Calls.{RanBy}
use Rattle.board.specs.Questions.{Settled}
use Rattle.board.proofs.Readiness.{made_ready}
use Rattle.board.proofs.Finishing.{runs_out}
use Rattle.listing.specs.declared.page.Row.{Row}
use Rattle.listing.specs.Rows.{code_to_list, all_rows}
use Rattle.listing.specs.Listings.{Listed, Listing}
use Rattle.listing.specs.Pages.{page_of, RowsAt}
use Rattle.listing.specs.Stories.{ListedOr}
use Rattle.listing.proofs.Ordering.{all_rows_lem}
use Rattle.listing.proofs.Asking.{lists, lists_what}

module _ (k : Kind) (lawful : Lawful k) (v : Vocabulary) (wf : WellFormed v) where
  -- a fresh board that was run can be asked, and calls led to it
  pub run_ends : {Y : Type 0} (S : Shape Y) (words : ℕ) (p : Y) (a b : Moment Y) (r : Result Ran Rejection) → InOrder v k words (S.numbers p) → Made v k S p a →
      RanBy v k S 18446744073709551615 a b r → Settled v b.board × Led v k b.board
  run_ends S words p a b r o M run =
      let fresh : History v k S [] a = record { before = p; begin = a; made = M; led = nothing } in
      let end = runs_out 18446744073709551615 lawful wf (omega arith) (made_ready o M) fresh ((runs_finish S k lawful v wf).0 p a M) run in
      let h : History v k S end.0 b = record { before = p; begin = a; made = M; led = end.1 } in
      (record { goes = ((any_order S S k lawful v wf).0 end.0 b h).goes; quiet = end.2.quiet }, led h)

  -- the rows of a board on which no job waits, whatever led to it, are the listing of its vocabulary
  pub truly_listed : (b : Board) → Led v k b → Quiet v b → (n : ℕ) → n ≡ length v.concepts → Listing v k (all_rows (code_to_list v k b) n n)
  truly_listed b l q n e = all_rows_lem (code_to_list v k b) n (Listed v k) to from
    where
      promise : Promise v k any_pile l.events (record { board = b; pile = l.pile })
      promise = (any_order any_pile any_pile k lawful v wf).0 l.events (record { board = b; pile = l.pile }) l.history

      found : (a d : ℕ) → Named v a → d < length v.concepts → Grade v k a d (b.found (under a d))
      found a d i l = record { is_code = promise.sane.found (under a d) (on promise.goes (under a d) (i.0, l)); truthful = promise.true_in_models q a d i l }

      to : (r : Row) → r.sub < n → r.sup < n → code_to_list v k b r.sub r.sup ≡ Some r.code → Listed v k r
      to r l m g =
          let w = lists_what v k b r.sub r.sup r.code g in
          record {
            sub_named = w.1;
            sup_named = w.2;
            different = w.0;
            some = λ z. w.3 (sym w.4 ∙ z);
            grade = rw w.4 (found r.sub r.sup w.1 w.2.0);
          }

      from : (r : Row) → Listed v k r → (r.sub < n) × (r.sup < n) × (code_to_list v k b r.sub r.sup ≡ Some r.code)
      from r d =
          let i = d.sub_named in
          let j = d.sup_named in
          let same : b.found (under r.sub r.sup) ≡ r.code = one_grade v k lawful (found r.sub r.sup i j.0) d.grade in
          (omega (arith, i.0), omega (arith, j.0), lists v k b r.sub r.sup d.different (is_named_lem v r.sub i) (is_named_lem v r.sup j) (λ z. d.some (sym same ∙ z)) ∙ ap Some same)

-- a page has room for the rows of 40 concepts
pub page_few : (n : ℕ) → n ≤ 40 → 19 * n * n ≤ 30400
page_few n l =
    let a : 19 * n ≤ 19 * 40 = omega arith in
    mul-le (19 * n) n (19 * 40) 40 a l

pub page_room : (n : ℕ) (page : List ℕ) → n ≤ 40 → 30400 ≤ length page → 19 * n * n ≤ length page
page_room n page l h = let a = page_few n l in omega arith

-- a check of 40 slots and 17,640 words can only find a foreign code, or too few words
pub no_board : (v : Vocabulary) (k : Kind) (page : List ℕ) (words : ℕ) (s : Numbers) (e : Rejection) → words ≡ 17640 → length v.concepts ≤ s.size → ((x : ℕ) → s.holds x ≡ false) → CheckRejected v k words s e → ListedOr v k page page (Err e)
no_board v k page words s e w l h (CheckRejected.foreign_code m c) = ListedOr.foreign_code refl m c
no_board v k page words s e w l h (CheckRejected.too_few_words c m) = ListedOr.too_few_words refl c (omega arith)
no_board v k page words s e w l h (CheckRejected.unfit_pile c m (inl t)) = absurd (omega arith)
no_board v k page words s e w l h (CheckRejected.unfit_pile c m (inr t)) = absurd (both_ways (s.holds t.0) (h t.0) t.1)

pub board_listed : (v : Vocabulary) (k : Kind) (words n size : ℕ) (rows : List Row) (before after : List ℕ) → words ≡ 17640 → Coded v k → words_needed (length v.concepts) v.roles ≤ words → Listing v k rows →
    RowsAt rows 0 size n before after → ListedOr v k before after (Ok size)
board_listed v k words n size rows before after e c l is w =
    let q : size ≡ length (page_of rows) = omega (arith, w.1) in
    rw q (ListedOr.listing c (omega arith) rows is w.0)
