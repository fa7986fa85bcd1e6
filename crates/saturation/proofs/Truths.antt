-- Grades, mates and parents on a quiet board are those of all finite models.
use Rattle.std.proofs.Common.{◌≡◌, ℕ, ◌<◌, List}
use Rattle.std.proofs.lemmas.Bool.Decides.{same_from_decides}
use Rattle.grades.specs.Kinds.{Kind, Lawful}
use Rattle.terms.specs.Vocabularies.{Vocabulary, Named}
use Rattle.piles.specs.Shapes.{Shape}
use Rattle.saturation.specs.Answers.{FoundUnder, TrulyUnder, Grade, Mate, Between, Parent, ListOf, QuietAnswersTrue}
use Rattle.saturation.proofs.OneAnswer.{any_order}

-- two concepts have one grade
pub one_grade : (v : Vocabulary) (k : Kind) → Lawful k → {c d g h : ℕ} → Grade v k c d g → Grade v k c d h → g ≡ h
one_grade v k lawful {g = g} {h = h} a b = lawful.same g h a.is_code b.is_code (λ p l. same_from_decides (k.holds g p) (k.holds h p) (a.truthful p l) (b.truthful p l))

-- two relations that agree between named concepts
abbrev Agree : Vocabulary → (ℕ → ℕ → Type 0) → (ℕ → ℕ → Type 0) → Type 0
Agree v R S = (a d : ℕ) → Named v a → Named v d → (R a d → S a d) × (S a d → R a d)

flip : (v : Vocabulary) {R S : ℕ → ℕ → Type 0} → Agree v R S → Agree v S R
flip v h a d i j = let t = h a d i j in (t.1, t.0)

mate : (v : Vocabulary) {R S : ℕ → ℕ → Type 0} → Agree v R S → (a b : ℕ) → Named v a → Mate v R a b → Mate v S a b
mate v h a b i m = (m.0, m.1, (h a b i m.0).0 m.2, (h b a m.0 i).0 m.3)

between : (v : Vocabulary) {R S : ℕ → ℕ → Type 0} → Agree v R S → (a b c : ℕ) → Named v a → Named v b → Between v R a b c → Between v S a b c
between v h a b c i j m = (m.0, (h a c i m.0).0 m.1, (h c b m.0 j).0 m.2, (λ s. m.3 ((h c a m.0 i).1 s)), (λ s. m.4 ((h b c j m.0).1 s)))

parent : (v : Vocabulary) {R S : ℕ → ℕ → Type 0} → Agree v R S → (a b : ℕ) → Named v a → Parent v R a b → Parent v S a b
parent v h a b i m =
    let j = m.0 in
    (j, (h a b i j).0 m.1, (λ s. m.2 ((h b a j i).1 s)), (λ c n. m.3 c (mate v (flip v h) b c j n)), (λ c n. m.4 c (between v (flip v h) a b c i j n)))

listed : {P Q : ℕ → Type 0} {xs : List ℕ} → ((x : ℕ) → P x → Q x) → ((x : ℕ) → Q x → P x) → ListOf P xs → ListOf Q xs
listed f g l = record { ascending = l.ascending; each = λ x m. f x (l.each x m); every = λ x q. l.every x (g x q) }

pub quiet_answers_true : {Y : Type 0} (S : Shape Y) → QuietAnswersTrue S
quiet_answers_true S k lawful v wf es m h q =
    let t = ((any_order S S k lawful v wf).0 es m h).true_in_models q in
    let agree : (p : ℕ) → p < k.points → Agree v (FoundUnder k m.board p) (TrulyUnder v k p) = λ p l a d i j. t a d i j.0 p l in
    record {
      under_true = t;
      mates_true = λ a p xs i l o. listed (λ x. mate v (agree p l) a x i) (λ x. mate v (flip v (agree p l)) a x i) o;
      parents_true = λ a p xs i l o. listed (λ x. parent v (agree p l) a x i) (λ x. parent v (flip v (agree p l)) a x i) o;
    }
