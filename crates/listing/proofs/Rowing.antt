-- Rows written one behind the other.
use Rattle.std.proofs.Common.{◌≡◌, ℕ, ◌+◌, ◌≤◌, List, [], ◌∷◌, ◌++◌, length, Some, None, Option, sym, refl, ap, ◌∙◌, append_assoc, append-nil, add-one, arith, length-append}
use Rattle.listing.specs.declared.page.Row.{Row}
use Rattle.listing.specs.Pages.{row_bytes, put_at, page_of, RowsAt}
use Rattle.listing.specs.Rows.{row_of, rows_up_to, all_rows}
use Rattle.listing.proofs.Putting.{put_behind}

page_behind : (xs ys : List Row) → page_of (xs ++ ys) ≡ page_of xs ++ page_of ys
page_behind [] ys = refl
page_behind (x ∷ xs) ys = ap (λ (zs : List ℕ). row_bytes x ++ zs) (page_behind xs ys) ∙ sym (append_assoc (row_bytes x) (page_of xs) (page_of ys))

-- more rows behind them
pub printed_more : (xs ys : List Row) (filled at end most more : ℕ) (entry page page' : List ℕ) → filled + most ≤ length entry
    → RowsAt xs filled at most entry page → RowsAt ys at end more page page' → RowsAt (xs ++ ys) filled end (most + more) entry page'
printed_more xs ys filled at end most more entry page page' l a b =
    let e = page_behind xs ys in
    let n = length-append (page_of xs) (page_of ys) in (
      b.0 ∙ ap (put_at at (page_of ys)) a.0 ∙ put_behind filled at (page_of xs) (page_of ys) entry a.1 (omega (arith, a.2)) ∙ ap (λ (zs : List ℕ). put_at filled zs entry) (sym e),
      omega (arith, a.1, b.1, ap length e),
      omega (arith, a.2, b.2, ap length e),
    )

pub rows_some : (grade : ℕ → ℕ → Option ℕ) (a n g : ℕ) → grade a n ≡ Some g → rows_up_to grade a (n + 1) ≡ rows_up_to grade a n ++ record { sub = a; sup = n; code = g } ∷ []
rows_some grade a n g e = rw add-one (ap (λ (o : Option ℕ). rows_up_to grade a n ++ row_of a n o) e)

pub rows_none : (grade : ℕ → ℕ → Option ℕ) (a n : ℕ) → grade a n ≡ None → rows_up_to grade a (n + 1) ≡ rows_up_to grade a n
rows_none grade a n e = rw add-one (ap (λ (o : Option ℕ). rows_up_to grade a n ++ row_of a n o) e ∙ append-nil (rows_up_to grade a n))

-- the same rows, in other words
pub printed_same : (xs ys : List Row) (filled at at' most most' : ℕ) (entry page page' : List ℕ) → xs ≡ ys → at' ≡ at → page' ≡ page → most ≤ most' → RowsAt ys filled at most entry page → RowsAt xs filled at' most' entry page'
printed_same xs ys filled at at' most most' entry page page' e p q l w =
    let n = ap (λ (zs : List Row). length (page_of zs)) e in
    (q ∙ w.0 ∙ ap (λ (zs : List Row). put_at filled (page_of zs) entry) (sym e), omega (arith, w.1), omega (arith, w.2))

pub rows_next : (grade : ℕ → ℕ → Option ℕ) (n a : ℕ) → all_rows grade n (a + 1) ≡ all_rows grade n a ++ rows_up_to grade a n
rows_next grade n a = rw add-one refl
