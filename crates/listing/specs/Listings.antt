-- What a listing says of a vocabulary.
use Rattle.std.specs.Prelude.{◌≡◌, ◌<◌, ◌⊎◌, List, ◌≢◌}
use Rattle.grades.specs.Kinds.{Kind}
use Rattle.terms.specs.Vocabularies.{Vocabulary, Named}
use Rattle.saturation.specs.Answers.{Grade, ListBy}
use Rattle.listing.specs.declared.page.Row.{Row}

-- two different named concepts, and the grade of the first under the second, which is not "none"
pub record Listed (v : Vocabulary) (k : Kind) (r : Row) : Type 0 where
  pub sub_named : Named v r.sub
  pub sup_named : Named v r.sup
  pub different : r.sub ≢ r.sup
  pub some : r.code ≢ k.none
  pub grade : Grade v k r.sub r.sup r.code

-- by the first concept, and then by the second
abbrev pub Precedes : Row → Row → Type 0
Precedes r s = (r.sub < s.sub) ⊎ ((r.sub ≡ s.sub) × (r.sup < s.sup))

-- the listing of a vocabulary: the rows of all that is listed, in order
abbrev pub Listing : Vocabulary → Kind → List Row → Type 0
Listing v k rows = ListBy Precedes (Listed v k) rows
