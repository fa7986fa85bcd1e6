-- Making a board, part by part.
use Rattle.std.specs.Prelude.{◌≡◌, ℕ, ◌<◌, ◌≤◌, List, length, ◌≢◌, slice_index}
use Rattle.grades.specs.Kinds.{Kind}
use Rattle.piles.specs.Shapes.{Shape, PutEach}
use Rattle.terms.specs.Vocabularies.{Vocabulary, Named}
use Rattle.reasoning.specs.declared.Fact.{Fact}
use Rattle.reasoning.specs.declared.Fact.TheVariants.{Under as under}
use Rattle.reasoning.specs.declared.Job.{Job}
use Rattle.reasoning.specs.Derivations.{Within, fact_of}
use Rattle.saturation.specs.declared.State.TheVariants.{Idle, Queued}
use Rattle.saturation.specs.Boards.{Board, Moment, GoesWith, On}
use Rattle.board.specs.Moves.{Wrote, Nudged}
use Rattle.board.specs.Rejections.{Ready}

-- the words from low up to high are g, and the others as before
pub record FilledWords (low high g : ℕ) (a b : List ℕ) : Type 0 where
  pub inside : (i : ℕ) → low ≤ i → i < high → slice_index b i ≡ g
  pub before : (i : ℕ) → i < low → slice_index b i ≡ slice_index a i
  pub past : (i : ℕ) → high ≤ i → slice_index b i ≡ slice_index a i

-- nothing is found or done, and every concept is idle
pub record Blank (v : Vocabulary) (k : Kind) (b : Board) : Type 0 where
  pub goes : GoesWith v b
  pub found : (f : Fact) → On b f → b.found f ≡ k.none
  pub done : (j : Job) → On b (fact_of j) → b.done j ≡ k.none
  pub state : (c : ℕ) → c < b.concepts → b.state c ≡ Idle
  pub steps : b.steps ≡ 0

-- the start fact of a is found, and a is queued, where it is named
pub data Started {Y : Type 0} (v : Vocabulary) (k : Kind) (S : Shape Y) (a : ℕ) (m n : Moment Y) : Type 0 where
  started : {b : Board} → Named v a → Wrote (under a a) k.all m.board b → Nudged S a (record { board = b; pile = m.pile }) n → Started v k S a m n
  unnamed : ¬ Named v a → n ≡ m → Started v k S a m n

-- the start facts of the concepts below i are found, and those concepts are queued and put into the pile p
pub record Begun {Y : Type 0} (v : Vocabulary) (k : Kind) (S : Shape Y) (p : Y) (i : ℕ) (m : Moment Y) : Type 0 where
  pub ready : Ready v S m
  pub steps : m.board.steps ≡ 0
  pub started : (a : ℕ) → a < i → Named v a → m.board.found (under a a) ≡ k.all
  pub unfound : (f : Fact) → Within v f → ((a : ℕ) → a < i → Named v a → f ≢ under a a) → m.board.found f ≡ k.none
  pub undone : (j : Job) → Within v (fact_of j) → m.board.done j ≡ k.none
  pub queued : (a : ℕ) → a < i → Named v a → m.board.state a ≡ Queued
  pub idle : (c : ℕ) → c < length v.concepts → (c < i → Named v c → ⊥) → m.board.state c ≡ Idle
  pub puts : PutEach S (λ a. (a < i) × Named v a) p m.pile
