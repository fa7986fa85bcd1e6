-- A board's sizes: those of its vocabulary, and those that it had.
use Rattle.std.proofs.Common.{ℕ, sym, refl, ◌∙◌, subst₂}
use Rattle.terms.specs.Vocabularies.{Vocabulary}
use Rattle.reasoning.specs.declared.Fact.{Fact}
use Rattle.reasoning.specs.Derivations.{Fits, Within}
use Rattle.saturation.specs.Boards.{Board, GoesWith, SameSizes, On}

pub same_sizes : {a : Board} → SameSizes a a
same_sizes = record { concepts = refl; roles = refl }

pub sizes_then : {a b c : Board} → SameSizes a b → SameSizes b c → SameSizes a c
sizes_then s t = record { concepts = t.concepts ∙ s.concepts; roles = t.roles ∙ s.roles }

pub goes_then : {v : Vocabulary} {a b : Board} → GoesWith v a → SameSizes a b → GoesWith v b
goes_then g s = record { concepts = s.concepts ∙ g.concepts; roles = s.roles ∙ g.roles }

-- a fact of the vocabulary is one of a board that goes with it, and the other way round
pub on : {v : Vocabulary} {b : Board} → GoesWith v b → (f : Fact) → Within v f → On b f
on g f w = subst₂ (λ (n m : ℕ). Fits n m f) (sym g.concepts) (sym g.roles) w

pub within : {v : Vocabulary} {b : Board} → GoesWith v b → (f : Fact) → On b f → Within v f
within g f w = subst₂ (λ (n m : ℕ). Fits n m f) g.concepts g.roles w

-- so with the board that had the sizes
pub on_after : {a b : Board} → SameSizes a b → (f : Fact) → On a f → On b f
on_after s f w = subst₂ (λ (n m : ℕ). Fits n m f) (sym s.concepts) (sym s.roles) w

pub on_before : {a b : Board} → SameSizes a b → (f : Fact) → On b f → On a f
on_before s f w = subst₂ (λ (n m : ℕ). Fits n m f) s.concepts s.roles w
