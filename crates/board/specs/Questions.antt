-- What questions answer, and when they are rejected.
use Rattle.std.specs.Prelude.{◌≡◌, ℕ, ◌<◌, ◌≤◌, List, length, Ok, Err, Result}
use Rattle.rejections.specs.declared.Rejection.{Rejection}
use Rattle.rejections.specs.declared.Rejection.TheVariants.{OtherTerms, JobWaits, NoSuchConcept, NoSuchPoint, ShortList}
use Rattle.grades.specs.Kinds.{Kind}
use Rattle.terms.specs.Vocabularies.{Vocabulary, Named}
use Rattle.terms.specs.Lent.{onto}
use Rattle.reasoning.specs.declared.Fact.TheVariants.{Under as under}
use Rattle.saturation.specs.Boards.{Board, GoesWith, Quiet}
use Rattle.saturation.specs.Histories.{Led}
use Rattle.saturation.specs.Answers.{FoundUnder, TrulyUnder, Truthful, Mate, Parent, ListOf}
use Rattle.board.specs.declared.board.asking.Question.{Question}
use Rattle.board.specs.declared.board.asking.Question.TheVariants.{Mates, Parents}

-- the board can be asked: it goes with the vocabulary, and no job waits
pub record Settled (v : Vocabulary) (b : Board) : Type 0 where
  pub goes : GoesWith v b
  pub quiet : Quiet v b

-- the board can be asked, or the first reason why not: it does not go with the vocabulary (11), or a job waits (17)
pub data SettledOr (v : Vocabulary) (b : Board) : Result (Unit {0}) Rejection → Type 0 where
  settled : Settled v b → SettledOr v b (Ok tt)
  other_terms : ¬ GoesWith v b → SettledOr v b (Err OtherTerms)
  job_waits : GoesWith v b → ¬ Quiet v b → SettledOr v b (Err JobWaits)

-- "a under d" is answered by its found grade; it is rejected as above, or since a is no named concept or d is no concept (18)
pub data Under (v : Vocabulary) (b : Board) (a d : ℕ) : Result ℕ Rejection → Type 0 where
  answer : Settled v b → Named v a → d < length v.concepts → Under v b a d (Ok (b.found (under a d)))
  unsettled : {e : Rejection} → SettledOr v b (Err e) → Under v b a d (Err e)
  no_concept : Settled v b → (Named v a → d < length v.concepts → ⊥) → Under v b a d (Err NoSuchConcept)

-- what is asked for
abbrev pub Wanted : Question → Vocabulary → (ℕ → ℕ → Type 0) → ℕ → ℕ → Type 0
Wanted Mates v Lies a b = Mate v Lies a b
Wanted Parents v Lies a b = Parent v Lies a b

-- the mates or the parents of a at the point p: the front of the list is the ascending list of exactly these, its rest is as before, and their
-- count is answered; it is rejected as above, or since a is no named concept (18), the kind lacks the point (19), or the list is shorter (20),
-- and then leaves the list as it was
pub data Filled (q : Question) (v : Vocabulary) (k : Kind) (b : Board) (a p : ℕ) (before after : List ℕ) : Result ℕ Rejection → Type 0 where
  answer : Settled v b → Named v a → p < k.points → (xs : List ℕ) → ListOf (Wanted q v (FoundUnder k b p) a) xs → after ≡ onto xs before → length xs ≤ length before →
      Filled q v k b a p before after (Ok (length xs))
  unsettled : {e : Rejection} → after ≡ before → SettledOr v b (Err e) → Filled q v k b a p before after (Err e)
  no_concept : after ≡ before → Settled v b → ¬ Named v a → Filled q v k b a p before after (Err NoSuchConcept)
  no_point : after ≡ before → Settled v b → Named v a → k.points ≤ p → Filled q v k b a p before after (Err NoSuchPoint)
  short_list : after ≡ before → Settled v b → Named v a → p < k.points → (xs : List ℕ) → ListOf (Wanted q v (FoundUnder k b p) a) xs → length before < length xs →
      Filled q v k b a p before after (Err ShortList)

-- whatever calls led to this board, the grade g holds a point just where every finite model has a inside d
abbrev pub UnderTruth : Vocabulary → Kind → Board → ℕ → ℕ → ℕ → Type 0
UnderTruth v k b a d g = Led v k b → Truthful v k a d g

-- whatever calls led to this board, the list is that of the mates or the parents in all finite models
abbrev pub ListTruth : Question → Vocabulary → Kind → Board → ℕ → ℕ → List ℕ → Type 0
ListTruth q v k b a p xs = Led v k b → ListOf (Wanted q v (TrulyUnder v k p) a) xs
