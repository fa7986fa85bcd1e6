-- What a link job and an implication job draw together, by the number that the other premise goes by.
use Rattle.std.specs.Prelude.{◌≡◌, ℕ, ◌<◌, true, ◌⊎◌, length}
use Rattle.terms.specs.declared.records.Concept.{Concept}
use Rattle.terms.specs.declared.records.Concept.TheVariants.{Atomic, Top, Conjunction, Restriction}
use Rattle.terms.specs.Vocabularies.{concept, Vocabulary}
use Rattle.reasoning.specs.declared.Fact.{Fact}
use Rattle.reasoning.specs.declared.Fact.TheVariants.{Under as under, Implies as implies}
use Rattle.reasoning.specs.declared.Job.{Job}
use Rattle.reasoning.specs.declared.Job.TheVariants.{Own as own, Link as link, Imply as imply}
use Rattle.board.specs.declared.board.joins.Partners.{Partners}
use Rattle.board.specs.declared.board.joins.Partners.TheVariants.{Implications, Links}
use Rattle.board.specs.declared.board.joins.Head.{Head}
use Rattle.board.specs.declared.board.joins.Head.TheVariants.{Follows, Spreads}
use Rattle.board.specs.declared.board.joins.Join.{Join}
use Rattle.board.specs.declared.board.joins.Link.{Link}
use Rattle.board.specs.declared.board.joins.Implication.{Implication}
use Rattle.board.specs.declared.board.finding.Series.{Series}
use Rattle.board.specs.declared.board.finding.Series.TheVariants as series
use Rattle.board.specs.Raises.{Gains}
use Rattle.board.specs.Searches.{job_of}
use Rattle.board.specs.OwnDraws.{Drawing, AnyBelow, ByOwn}

-- the series of the jobs that can be the other premise
abbrev pub series_of : Partners → Series
series_of (Implications a s c) = series.Implications s c
series_of (Links x e) = series.Links x

-- the job of the other premise that goes by the number i
abbrev pub partner : Partners → ℕ → Job
partner ps i = job_of (series_of ps) i

-- what it leads to
abbrev pub conclusion : Partners → Head → ℕ → Fact
conclusion (Implications a s c) Follows i = under a i
conclusion (Implications a s c) (Spreads t) i = implies t a i
conclusion (Links x e) Follows i = under i e
conclusion (Links x e) (Spreads t) i = implies t i e

-- the numbers name concepts and roles
abbrev pub Placed : Vocabulary → Partners → Type 0
Placed v (Implications a s c) = (a < length v.concepts) × (s < v.roles) × (c < length v.concepts)
Placed v (Links x e) = (x < length v.concepts) × (e < length v.concepts)

-- a transitive role that is drawn through is a role
abbrev pub Heads : Vocabulary → Head → Type 0
Heads v Follows = Unit {0}
Heads v (Spreads t) = t < v.roles

-- by one partner
abbrev pub ByPartner : Partners → Head → ℕ → ℕ → Drawing
ByPartner ps h g i v k done f p = Gains k (conclusion ps h i) (k.meet g (done (partner ps i))) f p

-- by any partner
abbrev pub ByPartners : Partners → Head → ℕ → Drawing
ByPartners ps h g = AnyBelow (λ v. length v.concepts) (ByPartner ps h g)

-- the role t is transitive, and between the roles of the link and the implication
abbrev pub SpreadsBy : Join → ℕ → Vocabulary → Type 0
SpreadsBy j t v = (v.below j.link t ≡ true) × (v.below t j.implication ≡ true) × (v.transitive t ≡ true)

-- the rule spreads: through such a role
abbrev pub BySpreads : Partners → Join → ℕ → Drawing
BySpreads ps j t v k done f p = SpreadsBy j t v × ByPartners ps (Spreads t) j.grade v k done f p

-- by both joining rules: where the link's role lies below the implication's, and through the roles between them
abbrev pub ByJoin : Partners → Join → Drawing
ByJoin ps j v k done f p = ((v.below j.link j.implication ≡ true) × ByPartners ps Follows j.grade v k done f p) ⊎ AnyBelow (λ u. u.roles) (BySpreads ps j) v k done f p

-- by the link of a concept under a restriction, and its partners by the role s
abbrev pub ByLinkAt : Link → ℕ → Drawing
ByLinkAt l s = ByJoin (Implications l.left s l.filler) (record { link = l.role; implication = s; grade = l.grade })

-- by its partners by any role
abbrev pub ByLink : Link → Drawing
ByLink l = AnyBelow (λ v. v.roles) (ByLinkAt l)

-- by the concept that is stated, where it restricts a role to a concept
abbrev pub ByRestriction : (ℕ → ℕ → Drawing) → Concept → Drawing
ByRestriction P Atomic v k done f p = ⊥
ByRestriction P Top v k done f p = ⊥
ByRestriction P (Conjunction d e) v k done f p = ⊥
ByRestriction P (Restriction r b) v k done f p = P r b v k done f p

-- by the implication, and its partners by the concept x, a restriction of the role r to the job's left concept
abbrev pub ByLinksBy : Implication → ℕ → ℕ → ℕ → Drawing
ByLinksBy m x r b v k done f p = (b ≡ m.left) × ByJoin (Links x m.right) (record { link = r; implication = m.role; grade = m.grade }) v k done f p

-- by its partners by the concept with the number x
abbrev pub ByLinksAt : Implication → ℕ → Drawing
ByLinksAt m x v = ByRestriction (ByLinksBy m x) (concept v x) v

-- by its partners by any concept
abbrev pub ByImplication : Implication → Drawing
ByImplication m = AnyBelow (λ v. length v.concepts) (ByLinksAt m)

-- by a job, at the points of g
abbrev pub ByJob : Job → ℕ → Drawing
ByJob (own c d) g v = ByOwn (record { left = c; right = d; grade = g }) v
ByJob (link a x) g v = ByRestriction (λ r c. ByLink (record { left = a; role = r; filler = c; grade = g })) (concept v x) v
ByJob (imply s c e) g v = ByImplication (record { role = s; left = c; right = e; grade = g }) v
