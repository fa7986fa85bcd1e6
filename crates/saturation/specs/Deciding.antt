-- Tests of what the questions answer, over a test of "lies under".
use Rattle.std.specs.Prelude.{ℕ, Bool, not, ◌&&◌, length, ◌==◌}
use Rattle.lemmas.specs.Tests.{every}
use Rattle.terms.specs.Vocabularies.{Vocabulary, is_named}

-- the test of Mate
abbrev pub mate_test : Vocabulary → (ℕ → ℕ → Bool) → ℕ → ℕ → Bool
mate_test v under a b = is_named v b && (not (b == a) && (under a b && under b a))

-- the test of Between
abbrev pub between_test : Vocabulary → (ℕ → ℕ → Bool) → ℕ → ℕ → ℕ → Bool
between_test v under a b c = is_named v c && (under a c && (under c b && (not (under c a) && not (under b c))))

-- no mate of b has a lower number
abbrev pub lowest_test : Vocabulary → (ℕ → ℕ → Bool) → ℕ → Bool
lowest_test v under b = every b (λ c. not (mate_test v under b c))

-- no concept lies between a and b
abbrev pub nothing_between_test : Vocabulary → (ℕ → ℕ → Bool) → ℕ → ℕ → Bool
nothing_between_test v under a b = every (length v.concepts) (λ c. not (between_test v under a b c))

-- the test of Parent
abbrev pub parent_test : Vocabulary → (ℕ → ℕ → Bool) → ℕ → ℕ → Bool
parent_test v under a b = is_named v b && (under a b && (not (under b a) && (lowest_test v under b && nothing_between_test v under a b)))
