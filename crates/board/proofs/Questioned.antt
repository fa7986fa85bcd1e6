-- What the questions answer is what all finite models say.
use Rattle.std.proofs.Common.{◌≡◌, ℕ, ◌<◌, List, ◌++◌, length, take, Ok, refl, ap, ◌∙◌}
use Rattle.std.proofs.lemmas.List.{take_at}
use Rattle.grades.specs.Kinds.{Kind, Lawful}
use Rattle.terms.specs.Vocabularies.{Vocabulary, Named, WellFormed}
use Rattle.reasoning.specs.declared.Fact.TheVariants.{Under as under}
use Rattle.piles.specs.Shapes.{any_pile}
use Rattle.saturation.specs.Boards.{Board, Quiet}
use Rattle.saturation.specs.Histories.{Led}
use Rattle.saturation.specs.Answers.{FoundUnder, ListOf, AnswersTrue}
use Rattle.saturation.proofs.Truths.{quiet_answers_true}
use Rattle.board.specs.declared.board.asking.Question.{Question}
use Rattle.board.specs.declared.board.asking.Question.TheVariants.{Mates, Parents}
use Rattle.board.specs.Questions.{Settled, SettledOr, settled, Wanted, UnderTruth, ListTruth}

-- a board that was accepted can be asked
pub settled_of : {v : Vocabulary} {b : Board} {x : Unit {0}} → SettledOr v b (Ok x) → Settled v b
settled_of (settled s) = s

module _ (k : Kind) (lawful : Lawful k) (v : Vocabulary) (wf : WellFormed v) (b : Board) (q : Quiet v b) where
  truths : Led v k b → AnswersTrue v k b
  truths l = quiet_answers_true any_pile k lawful v wf l.events (record { board = b; pile = l.pile }) l.history q

  pub under_truth : (a d : ℕ) → Named v a → d < length v.concepts → UnderTruth v k b a d (b.found (under a d))
  under_truth a d i l h = (truths h).under_true a d i l

  pub list_truth : (w : Question) (a p : ℕ) (xs : List ℕ) → Named v a → p < k.points → ListOf (Wanted w v (FoundUnder k b p) a) xs → ListTruth w v k b a p xs
  list_truth Mates a p xs i l o h = (truths h).mates_true a p xs i l o
  list_truth Parents a p xs i l o h = (truths h).parents_true a p xs i l o

-- the front of a list that was written
pub front_of : (xs ys list : List ℕ) → list ≡ xs ++ ys → take (length xs) list ≡ xs
front_of xs ys list e = ap (take (length xs)) e ∙ take_at xs ys (length xs) refl
