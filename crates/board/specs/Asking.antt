-- The tests by which questions pick their answers.
use Rattle.std.specs.Prelude.{ℕ, Bool, List, filter}
use Rattle.std.specs.List.{range_with_len}
use Rattle.grades.specs.Kinds.{Kind}
use Rattle.terms.specs.Vocabularies.{Vocabulary}
use Rattle.terms.specs.Views.{terms_of}
use Rattle.reasoning.specs.declared.Fact.TheVariants.{Under as under}
use Rattle.saturation.specs.Boards.{Board}
use Rattle.saturation.specs.Deciding.{mate_test, parent_test}
use Rattle.board.specs.declared.board.asking.Question.{Question}
use Rattle.board.specs.declared.board.asking.Question.TheVariants.{Mates, Parents}
use Rattle.board.specs.declared.board.asking.Asked.{Asked}
use Rattle.board.specs.Views.{view}

-- the numbers below n that pass the test, ascending
abbrev pub picked : (ℕ → Bool) → ℕ → List ℕ
picked f n = filter f (range_with_len 0 n)

-- the test of FoundUnder
abbrev pub under_test : Kind → Board → ℕ → ℕ → ℕ → Bool
under_test k b p c d = k.holds (b.found (under c d)) p

-- the test of what is asked
abbrev pub wanted_test : Question → Vocabulary → (ℕ → ℕ → Bool) → ℕ → ℕ → Bool
wanted_test Mates v lies a b = mate_test v lies a b
wanted_test Parents v lies a b = parent_test v lies a b

-- a test, told which concepts lie under which at the point that is asked about
abbrev pub asked_of : {X T : Type 0} {g : _} → (Vocabulary → (ℕ → ℕ → Bool) → T) → Kind → Asked X g → T
asked_of test k a = test (terms_of a.terms.now) (under_test k (view a.board.now) a.point)

-- the test of what is asked of the concept
abbrev pub wanted : {X : Type 0} {g : _} → Kind → Asked X g → ℕ → Bool
wanted k a b = asked_of (wanted_test a.question) k a a.concept b

-- the concepts that belong to the answer, ascending
abbrev pub answer_of : {X : Type 0} {g : _} → Kind → Asked X g → List ℕ
answer_of k a = picked (wanted k a) (view a.board.now).concepts
