-- The facts that a classification finds, the jobs that bring them to the rules, and the rules.
use Rattle.std.specs.Prelude.{◌≡◌, ℕ, ◌<◌, Bool, true, List, [], ◌∷◌, length}
use mathlib.Core.List.{Memᴰ}
use Rattle.terms.specs.declared.records.Concept.TheVariants.{Top, Conjunction, Restriction}
use Rattle.terms.specs.declared.records.Inclusion.{Inclusion}
use Rattle.terms.specs.Vocabularies.{Vocabulary, Is, Named}
use Rattle.reasoning.specs.Models.{Below, IsTransitive}
-- `under c d`: c lies inside d. `implies s c e`: whatever s relates to an element of c lies inside e.
pub use Rattle.reasoning.specs.declared.Fact.{Fact}
pub use Rattle.reasoning.specs.declared.Fact.TheVariants.{Under as under, Implies as implies}
-- a fact at a concept where rules use it: an own job at its left concept, a link job at the filler of its right concept, an implication job
-- at its left concept
pub use Rattle.reasoning.specs.declared.Job.{Job}
pub use Rattle.reasoning.specs.declared.Job.TheVariants.{Own as own, Link as link, Imply as imply}

-- the fact of a job
abbrev pub fact_of : Job → Fact
fact_of (own c d) = under c d
fact_of (link c d) = under c d
fact_of (imply s c e) = implies s c e

-- one use of a rule: its premises, by the jobs that bring them, and its conclusion; `on` says which codes hold
pub data Rule (v : Vocabulary) (on : ℕ → Bool) : List Job → Fact → Type 0 where
  start : {a : ℕ} → Named v a → Rule v on [] (under a a)
  stated : {c : ℕ} → (i : Inclusion) → Memᴰ i v.inclusions → on i.code ≡ true → Rule v on (own c i.sub ∷ []) (under c i.sup)
  left : {c x d e : ℕ} → Is v x (Conjunction d e) → Rule v on (own c x ∷ []) (under c d)
  right : {c x d e : ℕ} → Is v x (Conjunction d e) → Rule v on (own c x ∷ []) (under c e)
  filler : {c x r d : ℕ} → Is v x (Restriction r d) → Rule v on (own c x ∷ []) (under d d)
  top : {c x : ℕ} → Is v x Top → Rule v on (own c c ∷ []) (under c x)
  both : {c x d e : ℕ} → Is v x (Conjunction d e) → Rule v on (own c d ∷ own c e ∷ []) (under c x)
  some : {c x s d : ℕ} → Is v x (Restriction s d) → Rule v on (own c d ∷ []) (implies s c x)
  follows : {c d e x r s : ℕ} → Is v x (Restriction r c) → Below v on r s → Rule v on (link d x ∷ imply s c e ∷ []) (under d e)
  spreads : {c d e x r s t : ℕ} → Is v x (Restriction r c) → Below v on r t → Below v on t s → IsTransitive v on t → Rule v on (link d x ∷ imply s c e ∷ []) (implies t d e)

-- finitely many uses of the rules lead to the fact
pub data Derivable (v : Vocabulary) (on : ℕ → Bool) : Fact → Type 0 where
  by : {js : List Job} {f : Fact} → Rule v on js f → ((j : Job) → Memᴰ j js → Derivable v on (fact_of j)) → Derivable v on f

-- a table of facts that no rule adds to
abbrev pub Closed : Vocabulary → (ℕ → Bool) → (Fact → Bool) → Type 0
Closed v on table = (js : List Job) (f : Fact) → Rule v on js f → ((j : Job) → Memᴰ j js → table (fact_of j) ≡ true) → table f ≡ true

-- the fact is one of so many concepts and roles
abbrev pub Fits : ℕ → ℕ → Fact → Type 0
Fits n m (under c d) = (c < n) × (d < n)
Fits n m (implies s c e) = (s < m) × (c < n) × (e < n)

-- the fact is one of the vocabulary
abbrev pub Within : Vocabulary → Fact → Type 0
Within v f = Fits (length v.concepts) v.roles f

-- the job stands at the concept
pub data JobAt (v : Vocabulary) : Job → ℕ → Type 0 where
  at_left : {c d : ℕ} → Within v (under c d) → JobAt v (own c d) c
  at_filler : {c d r b : ℕ} → Within v (under c d) → Is v d (Restriction r b) → JobAt v (link c d) b
  at_premise : {s c e : ℕ} → Within v (implies s c e) → JobAt v (imply s c e) c
