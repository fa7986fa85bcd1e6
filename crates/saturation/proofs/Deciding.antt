-- The tests of mates and parents decide what they are named after, where the test of "lies under" does so between named concepts.
use Rattle.std.proofs.Common.{ℕ, ◌≤◌, Bool, not, length, Decides, arith}
use Rattle.std.proofs.lemmas.Bool.Decides.{Decides-not, Decides-eqb, Decides-and, Decides-like}
use Rattle.lemmas.proofs.Tests.{decides_then, decides_every}
use Rattle.terms.specs.Vocabularies.{Vocabulary, Named, is_named}
use Rattle.terms.proofs.Namings.{named_is, is_named_lem}
use Rattle.saturation.specs.Answers.{Mate, Between, Parent}
use Rattle.saturation.specs.Deciding.{mate_test, between_test, lowest_test, parent_test}

pub named_decides : (v : Vocabulary) (a : ℕ) → Decides (is_named v a) (Named v a)
named_decides v a = (named_is v a, is_named_lem v a)

module _ (v : Vocabulary) (under : ℕ → ℕ → Bool) (Under : ℕ → ℕ → Type 0) (told : (a d : ℕ) → Named v a → Named v d → Decides (under a d) (Under a d)) where
  pub mate_decides : (a b : ℕ) → Named v a → Decides (mate_test v under a b) (Mate v Under a b)
  mate_decides a b ia =
      Decides-like (mate_test v under a b) (λ t. (t.0, t.1.0, t.1.1.0, t.1.1.1)) (λ m. (m.0, (m.1, (m.2, m.3))))
      (decides_then _ _ (named_decides v b) (λ ib. Decides-and _ _ (Decides-not _ (Decides-eqb b a)) (Decides-and _ _ (told a b ia ib) (told b a ib ia))))

  between_decides : (a b c : ℕ) → Named v a → Named v b → Decides (between_test v under a b c) (Between v Under a b c)
  between_decides a b c ia ib =
      Decides-like (between_test v under a b c) (λ t. (t.0, t.1.0, t.1.1.0, t.1.1.1.0, t.1.1.1.1)) (λ m. (m.0, (m.1, (m.2, (m.3, m.4)))))
      (decides_then _ _ (named_decides v c) (λ ic.
      Decides-and _ _ (told a c ia ic) (Decides-and _ _ (told c b ic ib) (Decides-and _ _ (Decides-not _ (told c a ic ia)) (Decides-not _ (told b c ib ic))))))

  lowest_decides : (b : ℕ) → Named v b → Decides (lowest_test v under b) ((c : ℕ) → Mate v Under b c → b ≤ c)
  lowest_decides b ib =
      decides_every b (λ c. not (mate_test v under b c)) (λ c. Mate v Under b c → b ≤ c)
      (λ c l. Decides-like (not (mate_test v under b c)) (λ n m. absurd (n m)) (λ h m. let z = h m in omega arith) (Decides-not _ (mate_decides b c ib))) (λ c l m. l)

  pub parent_decides : (a b : ℕ) → Named v a → Decides (parent_test v under a b) (Parent v Under a b)
  parent_decides a b ia =
      let n = length v.concepts in
      Decides-like (parent_test v under a b) (λ t. (t.0, t.1.0, t.1.1.0, t.1.1.1.0, t.1.1.1.1)) (λ m. (m.0, (m.1, (m.2, (m.3, m.4)))))
      (decides_then _ _ (named_decides v b) (λ ib.
      Decides-and _ _ (told a b ia ib)
      (Decides-and _ _ (Decides-not _ (told b a ib ia))
      (Decides-and _ _ (lowest_decides b ib)
      (decides_every n (λ c. not (between_test v under a b c)) (λ c. Between v Under a b c → ⊥)
      (λ c l. Decides-not _ (between_decides a b c ia ib)) (λ c l m. absurd (let z = m.0.0 in omega arith)))))))
