-- The bytes of a listing.
use Rattle.std.specs.Prelude.{◌≡◌, ℕ, ◌+◌, ◌≤◌, List, [], ◌∷◌, ◌++◌, length, take, drop}
use Rattle.std.specs.List.{flat_map}
use Rattle.terms.specs.Lent.{onto}
use Rattle.sheet.specs.Columns.{six_columns}
use Rattle.listing.specs.declared.page.Row.{Row}

-- three numbers in six columns each, and a line feed
abbrev pub three_columns : ℕ → ℕ → ℕ → List ℕ
three_columns a b c = six_columns a ++ (six_columns b ++ (six_columns c ++ 10 ∷ []))

-- the line of a row
abbrev pub row_bytes : Row → List ℕ
row_bytes r = three_columns r.sub r.sup r.code

-- the page with bytes in the place of those from a place on
abbrev pub put_at : ℕ → List ℕ → List ℕ → List ℕ
put_at at bytes page = take at page ++ onto bytes (drop at page)

-- the lines of the rows, one after the other
abbrev pub page_of : List Row → List ℕ
page_of rows = flat_map row_bytes rows

-- behind the first bytes of the page stand the lines of the rows, up to the place that is answered, in at most so many bytes
abbrev pub RowsAt : List Row → ℕ → ℕ → ℕ → List ℕ → List ℕ → Type 0
RowsAt rows filled end most entry page = (page ≡ put_at filled (page_of rows) entry) × (end ≡ filled + length (page_of rows)) × (length (page_of rows) ≤ most)
