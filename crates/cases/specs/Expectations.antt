-- What a worked case expects of its vocabulary, and what that says of all finite models.
use Rattle.std.specs.Prelude.{◌≡◌, ℕ, ◌<◌, List, length, Err, Result, ◌≢◌}
use mathlib.Core.List.{Memᴰ}
use Rattle.rejections.specs.declared.Rejection.{Rejection}
use Rattle.rejections.specs.declared.Rejection.TheVariants.{NoSuchConcept}
use Rattle.grades.specs.Kinds.{Kind, Lawful}
use Rattle.grades.specs.Plain.{plain}
use Rattle.grades.specs.Releases.{releases}
use Rattle.grades.specs.Views.{views}
use Rattle.terms.specs.Vocabularies.{Vocabulary, Named, WellFormed}
use Rattle.reasoning.specs.declared.Fact.TheVariants.{Under as under}
use Rattle.saturation.specs.Boards.{Board, Quiet}
use Rattle.saturation.specs.Histories.{Led}
use Rattle.saturation.specs.AnyOrder.{AllDue}
use Rattle.saturation.specs.Answers.{TrulyUnder, Grade, Mate, Parent, ListOf}
use Rattle.board.specs.Layout.{needed_for}
use Rattle.board.specs.Questions.{Settled, Under}
use Rattle.listing.specs.declared.page.Row.{Row}
use Rattle.listing.specs.Listings.{Listing}

-- the names of the kinds of grade
pub data KindName : Type 0 where
  Plain Releases Views : KindName

-- the kind with a name
abbrev pub kind_of : KindName → Kind
kind_of Plain = plain
kind_of Releases = releases
kind_of Views = views

-- the grade of one concept under another; the listing; the steps of a finished board; a concept's mates and its parents at a point; the words
-- that a board needs; a number of which `under` says that there is no such concept
pub data Expectation : Type 0 where
  grade : ℕ → ℕ → ℕ → Expectation
  listing : List Row → Expectation
  steps : ℕ → Expectation
  mates : ℕ → ℕ → List ℕ → Expectation
  parents : ℕ → ℕ → List ℕ → Expectation
  words : ℕ → Expectation
  unknown : ℕ → Expectation

-- the listing of a vocabulary; and any two different named concepts that have no row there have the grade "none"
pub record WholeListing (v : Vocabulary) (k : Kind) (rows : List Row) : Type 0 where
  pub listing : Listing v k rows
  pub others : (a d : ℕ) → Named v a → Named v d → (a ≢ d) → ((r : Row) → Memᴰ r rows → (r.sub ≡ a) × (r.sup ≡ d) → ⊥) → Grade v k a d k.none

-- what an expectation says of a vocabulary
abbrev pub Met : Vocabulary → Kind → Expectation → Type 0
Met v k (grade a d code) = Named v a × (d < length v.concepts) × Grade v k a d code
Met v k (listing rows) = WholeListing v k rows
Met v k (steps n) = AllDue v k n
Met v k (mates a p xs) = Named v a × (p < k.points) × ListOf (Mate v (TrulyUnder v k p) a) xs
Met v k (parents a p xs) = Named v a × (p < k.points) × ListOf (Parent v (TrulyUnder v k p) a) xs
Met v k (words n) = needed_for v ≡ n
Met v k (unknown a) = (b : Board) → Settled v b → (d : ℕ) (r : Result ℕ Rejection) → Under v b a d r → r ≡ Err NoSuchConcept

-- on any board on which no job waits, a grade as expected is the one that was found, and with one point the steps are as many as expected
abbrev pub BoardsAnswer : Type 0
BoardsAnswer = (k : Kind) → Lawful k → (v : Vocabulary) → WellFormed v → (b : Board) → Led v k b → Quiet v b →
    ((a d code : ℕ) → Named v a → d < length v.concepts → Grade v k a d code → b.found (under a d) ≡ code)
    × ((n : ℕ) → k.points ≡ 1 → AllDue v k n → b.steps ≡ n)
