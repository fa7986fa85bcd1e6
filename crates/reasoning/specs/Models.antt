-- Finite models of a vocabulary at a point, where `on` says which codes hold.
use Rattle.std.specs.Prelude.{◌≡◌, ℕ, ◌<◌, Bool, true}
use mathlib.Core.List.{Memᴰ}
use Rattle.terms.specs.declared.records.Concept.TheVariants.{Atomic, Top, Conjunction, Restriction}
use Rattle.terms.specs.declared.records.Inclusion.{Inclusion}
use Rattle.terms.specs.Vocabularies.{Vocabulary, Is}

-- elements are the numbers below `size`; each atomic concept has a set of them, and each role a set of pairs
pub record Structure : Type 0 where
  pub size : ℕ
  pub inhabited : 0 < size
  pub atom : ℕ → ℕ → Bool
  pub pairs : ℕ → ℕ → ℕ → Bool

-- element x belongs to concept c
pub data In (v : Vocabulary) (m : Structure) : ℕ → ℕ → Type 0 where
  atomic : {c x : ℕ} → Is v c Atomic → m.atom c x ≡ true → In v m c x
  top : {c x : ℕ} → Is v c Top → In v m c x
  both : {c d e x : ℕ} → Is v c (Conjunction d e) → In v m d x → In v m e x → In v m c x
  some : {c r d x y : ℕ} → Is v c (Restriction r d) → m.pairs r x y ≡ true → y < m.size → In v m d y → In v m c x

-- every element of c is one of d
abbrev pub Inside : Vocabulary → Structure → ℕ → ℕ → Type 0
Inside v m c d = (x : ℕ) → x < m.size → In v m c x → In v m d x

-- r ≤ s at the point: the order of the roles, which today is the same at every point
abbrev pub Below : Vocabulary → (ℕ → Bool) → ℕ → ℕ → Type 0
Below v on r s = v.below r s ≡ true

-- the role is transitive at the point, which today is the same at every point
abbrev pub IsTransitive : Vocabulary → (ℕ → Bool) → ℕ → Type 0
IsTransitive v on t = v.transitive t ≡ true

-- the structure obeys the roles' order and transitivity and the inclusions whose codes hold
pub record Model (v : Vocabulary) (on : ℕ → Bool) (m : Structure) : Type 0 where
  pub ordered : (r s x y : ℕ) → Below v on r s → x < m.size → y < m.size → m.pairs r x y ≡ true → m.pairs s x y ≡ true
  pub joined : (r x y z : ℕ) → IsTransitive v on r → x < m.size → y < m.size → z < m.size → m.pairs r x y ≡ true → m.pairs r y z ≡ true → m.pairs r x z ≡ true
  pub included : (i : Inclusion) → Memᴰ i v.inclusions → on i.code ≡ true → Inside v m i.sub i.sup

-- a lies inside d in every finite model
abbrev pub Entails : Vocabulary → (ℕ → Bool) → ℕ → ℕ → Type 0
Entails v on a d = (m : Structure) → Model v on m → Inside v m a d
