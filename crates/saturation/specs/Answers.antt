-- What the questions to a finished board answer, over a relation "lies under" between concepts: the board's own, or that of all finite models.
use Rattle.std.specs.Prelude.{◌≡◌, ℕ, ◌<◌, ◌≤◌, true, List, [], ◌∷◌, length, Decides, ◌≢◌}
use mathlib.Core.List.{Memᴰ}
use Rattle.grades.specs.Kinds.{Kind, Lawful, on_at}
use Rattle.terms.specs.Vocabularies.{Vocabulary, Named, WellFormed}
use Rattle.reasoning.specs.declared.Fact.TheVariants.{Under as under}
use Rattle.reasoning.specs.Models.{Entails}
use Rattle.piles.specs.Shapes.{Shape}
use Rattle.saturation.specs.Boards.{Board, Moment, Quiet}
use Rattle.saturation.specs.Histories.{Event, History}

-- on the board, c lies under d at the point
abbrev pub FoundUnder : Kind → Board → ℕ → ℕ → ℕ → Type 0
FoundUnder k b p c d = k.holds (b.found (under c d)) p ≡ true

-- in every finite model at the point, c lies under d
abbrev pub TrulyUnder : Vocabulary → Kind → ℕ → ℕ → ℕ → Type 0
TrulyUnder v k p c d = Entails v (on_at k p) c d

-- the grade holds a point exactly where c lies under d in every finite model
abbrev pub Truthful : Vocabulary → Kind → ℕ → ℕ → ℕ → Type 0
Truthful v k c d g = (p : ℕ) → p < k.points → Decides (k.holds g p) (TrulyUnder v k p c d)

-- the number is a code of the kind, and the truthful grade of c under d
pub record Grade (v : Vocabulary) (k : Kind) (c d g : ℕ) : Type 0 where
  pub is_code : g < k.codes
  pub truthful : Truthful v k c d g

-- the board found the truthful grade of each named concept under any other
abbrev pub TrueGrades : Vocabulary → Kind → Board → Type 0
TrueGrades v k b = (a d : ℕ) → Named v a → d < length v.concepts → Truthful v k a d (b.found (under a d))

-- b is a mate of a: another named concept, each under the other
abbrev pub Mate : Vocabulary → (ℕ → ℕ → Type 0) → ℕ → ℕ → Type 0
Mate v Under a b = Named v b × (b ≢ a) × Under a b × Under b a

-- c lies strictly between a and b
abbrev pub Between : Vocabulary → (ℕ → ℕ → Type 0) → ℕ → ℕ → ℕ → Type 0
Between v Under a b c = Named v c × Under a c × Under c b × (Under c a → ⊥) × (Under b c → ⊥)

-- b is a parent of a: named, above a and not below it, the lowest number among itself and its mates, and with nothing between
abbrev pub Parent : Vocabulary → (ℕ → ℕ → Type 0) → ℕ → ℕ → Type 0
Parent v Under a b = Named v b × Under a b × (Under b a → ⊥) × ((c : ℕ) → Mate v Under b c → b ≤ c) × ((c : ℕ) → Between v Under a b c → ⊥)

-- each entry of the list precedes those after it
abbrev pub Ascending : {A : Type 0} → (A → A → Type 0) → List A → Type 0
Ascending Precedes [] = Unit {0}
Ascending {A} Precedes (x ∷ xs) = ((y : A) → Memᴰ y xs → Precedes x y) × Ascending Precedes xs

-- the ascending list of exactly the entries with the property
pub record ListBy {A : Type 0} (Precedes : A → A → Type 0) (P : A → Type 0) (xs : List A) : Type 0 where
  pub ascending : Ascending Precedes xs
  pub each : (x : A) → Memᴰ x xs → P x
  pub every : (x : A) → P x → Memᴰ x xs

-- the ascending list of exactly the numbers with the property
abbrev pub ListOf : (ℕ → Type 0) → List ℕ → Type 0
ListOf P xs = ListBy (λ x y. x < y) P xs

-- the grades, the mates and the parents that a board answers are those of the models
pub record AnswersTrue (v : Vocabulary) (k : Kind) (b : Board) : Type 0 where
  pub under_true : TrueGrades v k b
  pub mates_true : (a p : ℕ) (xs : List ℕ) → Named v a → p < k.points → ListOf (Mate v (FoundUnder k b p) a) xs → ListOf (Mate v (TrulyUnder v k p) a) xs
  pub parents_true : (a p : ℕ) (xs : List ℕ) → Named v a → p < k.points → ListOf (Parent v (FoundUnder k b p) a) xs → ListOf (Parent v (TrulyUnder v k p) a) xs

-- whatever was called, in whatever order, over whatever pile: what a board on which no job waits answers is what all finite models say
abbrev pub QuietAnswersTrue : {Y : Type 0} → Shape Y → Type 0
QuietAnswersTrue {Y} S = (k : Kind) → Lawful k → (v : Vocabulary) → WellFormed v → (es : List Event) (m : Moment Y) → History v k S es m → Quiet v m.board → AnswersTrue v k m.board
