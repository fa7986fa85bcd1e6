-- What an own job draws, by the number of the inclusion or the concept that the rule goes by.
use Rattle.std.specs.Prelude.{◌≡◌, ℕ, ◌<◌, ◌⊎◌, length, slice_index_or}
use Rattle.grades.specs.Kinds.{Kind}
use Rattle.terms.specs.declared.records.Inclusion.{Inclusion}
use Rattle.terms.specs.declared.records.Concept.{Concept}
use Rattle.terms.specs.declared.records.Concept.TheVariants.{Atomic, Top, Conjunction, Restriction}
use Rattle.terms.specs.Rule.{blank}
use Rattle.terms.specs.Vocabularies.{concept, Vocabulary}
use Rattle.reasoning.specs.declared.Fact.{Fact}
use Rattle.reasoning.specs.declared.Fact.TheVariants.{Under as under, Implies as implies}
use Rattle.reasoning.specs.declared.Job.{Job}
use Rattle.reasoning.specs.declared.Job.TheVariants.{Own as own}
use Rattle.board.specs.declared.board.own.Known.{Known}
use Rattle.board.specs.Raises.{Gains}

-- what is drawn from a vocabulary, in a kind and with these done grades: which facts, at which points
abbrev pub Drawing : Type 1
Drawing = Vocabulary → Kind → (Job → ℕ) → Fact → ℕ → Type 0

-- by the one or by the other
abbrev pub Either : Drawing → Drawing → Drawing
Either P Q v k done f p = P v k done f p ⊎ Q v k done f p

-- by one of the numbers below n
abbrev pub AnyBelow : (Vocabulary → ℕ) → (ℕ → Drawing) → Drawing
AnyBelow n P v k done f p = (i : ℕ) × (i < n v) × P i v k done f p

-- the rule stated: by an inclusion of the right concept
abbrev pub ByInclusion : Known → Inclusion → Drawing
ByInclusion o i v k done f p = (i.sub ≡ o.right) × Gains k (under o.left i.sup) (k.meet o.grade i.code) f p

-- by the inclusion with the number i
abbrev pub ByStated : Known → ℕ → Drawing
ByStated o i v = ByInclusion o (slice_index_or v.inclusions i blank) v

-- the rule both: by the conjunction x of near and far, where near is the right concept
abbrev pub ByBoth : Known → ℕ → ℕ → ℕ → Drawing
ByBoth o x near far v k done f p = (near ≡ o.right) × Gains k (under o.left x) (k.meet o.grade (done (own o.left far))) f p

-- the rules top, both and some: by the concept x, which is what is stated
abbrev pub ByForm : Known → ℕ → Concept → Drawing
ByForm o x Atomic v k done f p = ⊥
ByForm o x Top v k done f p = (o.left ≡ o.right) × Gains k (under o.left x) o.grade f p
ByForm o x (Conjunction d e) v k done f p = ByBoth o x d e v k done f p ⊎ ByBoth o x e d v k done f p
ByForm o x (Restriction s d) v k done f p = (d ≡ o.right) × Gains k (implies s o.left x) o.grade f p

-- by the concept with the number x
abbrev pub ByConcept : Known → ℕ → Drawing
ByConcept o x v = ByForm o x (concept v x) v

-- the rules left, right and filler: by what the right concept is
abbrev pub ByOperand : Known → Concept → Drawing
ByOperand o Atomic v k done f p = ⊥
ByOperand o Top v k done f p = ⊥
ByOperand o (Conjunction d e) v k done f p = Gains k (under o.left d) o.grade f p ⊎ Gains k (under o.left e) o.grade f p
ByOperand o (Restriction s d) v k done f p = Gains k (under d d) o.grade f p

-- by the operands or the filler of the right concept
abbrev pub ByOperands : Known → Drawing
ByOperands o v = ByOperand o (concept v o.right) v

-- by any of these
abbrev pub ByOwn : Known → Drawing
ByOwn o = Either (Either (AnyBelow (λ v. length v.inclusions) (ByStated o)) (ByOperands o)) (AnyBelow (λ v. length v.concepts) (ByConcept o))
