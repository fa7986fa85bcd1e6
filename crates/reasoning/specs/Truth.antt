-- Derivability and truth in all finite models are one.
use Rattle.std.specs.Prelude.{◌≡◌, ℕ, ◌<◌, Bool, true, length, Decides}
use Rattle.terms.specs.Vocabularies.{Vocabulary, Named, WellFormed}
use Rattle.reasoning.specs.Models.{Entails}
use Rattle.reasoning.specs.Derivations.{Fact, under, Derivable, Closed}

-- what is derivable holds in every finite model
abbrev pub Sound : Type 0
Sound = (v : Vocabulary) (on : ℕ → Bool) (a d : ℕ) → Derivable v on (under a d) → Entails v on a d

-- what holds of a named concept in every finite model stands in every closed table
abbrev pub Complete : Type 0
Complete = (v : Vocabulary) (on : ℕ → Bool) → WellFormed v → (table : Fact → Bool) → Closed v on table → (a d : ℕ) → Named v a → d < length v.concepts → Entails v on a d → table (under a d) ≡ true

-- what is derivable stands in every closed table
abbrev pub Least : Type 0
Least = (v : Vocabulary) (on : ℕ → Bool) (table : Fact → Bool) → Closed v on table → (f : Fact) → Derivable v on f → table f ≡ true

-- the table has a named concept under another just where every finite model has it inside
abbrev pub Tells : Vocabulary → (ℕ → Bool) → (Fact → Bool) → Type 0
Tells v on table = (a d : ℕ) → Named v a → d < length v.concepts → Decides (table (under a d)) (Entails v on a d)

-- so does a closed table of derivable facts
abbrev pub Exact : Type 0
Exact = (v : Vocabulary) (on : ℕ → Bool) → WellFormed v → (table : Fact → Bool) → Closed v on table → ((f : Fact) → table f ≡ true → Derivable v on f) →
    Tells v on table
