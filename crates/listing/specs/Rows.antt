-- The rows of a listing, by the code to list of each pair of concepts.
use Rattle.std.specs.Prelude.{ℕ, zero, suc, cond, not, ◌&&◌, List, [], ◌∷◌, ◌++◌, Some, None, Option, ◌==◌}
use Rattle.grades.specs.Kinds.{Kind}
use Rattle.terms.specs.Vocabularies.{Vocabulary, is_named}
use Rattle.reasoning.specs.declared.Fact.TheVariants.{Under as under}
use Rattle.saturation.specs.Boards.{Board}
use Rattle.listing.specs.declared.page.Row.{Row}

-- the code to list for a and d: that of "a under d", where they are different named concepts and it is not "none"
abbrev pub code_to_list : Vocabulary → Kind → Board → ℕ → ℕ → Option ℕ
code_to_list v k b a d = cond ((not (a == d) && (is_named v a && is_named v d)) && not (b.found (under a d) == k.none)) (Some (b.found (under a d))) None

-- the row of two concepts and a code
abbrev pub row : ℕ → ℕ → ℕ → Row
row a d g = record { sub = a; sup = d; code = g }

-- the row of a and d, if there is a code to list
abbrev pub row_of : ℕ → ℕ → Option ℕ → List Row
row_of a d None = []
row_of a d (Some g) = row a d g ∷ []

-- the rows of a and the numbers below n
abbrev pub rows_up_to : (ℕ → ℕ → Option ℕ) → ℕ → ℕ → List Row
rows_up_to grade a zero = []
rows_up_to grade a (suc n) = rows_up_to grade a n ++ row_of a n (grade a n)

-- the rows of the numbers below i, by n concepts
abbrev pub all_rows : (ℕ → ℕ → Option ℕ) → ℕ → ℕ → List Row
all_rows grade n zero = []
all_rows grade n (suc i) = all_rows grade n i ++ rows_up_to grade i n
