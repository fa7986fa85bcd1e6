-- Saturation by rounds: what the rules draw from a list of facts joins the list, round by round, until a round adds nothing.
use Rattle.std.specs.Prelude.{◌≡◌, ℕ, zero, suc, Bool, true, false, cond, ◌&&◌, ◌||◌, List, [], ◌∷◌, ◌++◌, length, Decides, ◌==◌}
use mathlib.Core.List.{Memᴰ}
use Rattle.std.specs.List.{flat_map, list_any, list_all}
use Rattle.terms.specs.declared.records.Concept.{Concept}
use Rattle.terms.specs.declared.records.Concept.TheVariants.{Atomic, Top, Conjunction, Restriction}
use Rattle.terms.specs.Vocabularies.{concept, Vocabulary, WellFormed}
use Rattle.reasoning.specs.declared.Fact.{Fact}
use Rattle.reasoning.specs.declared.Fact.TheVariants.{Under as under, Implies as implies}
use Rattle.reasoning.specs.declared.Job.{Job}
use Rattle.reasoning.specs.Truth.{Tells}
use Rattle.reasoning.specs.Derivations.{fact_of, Rule, Derivable}

-- the numbers below n
abbrev pub numbers : ℕ → List ℕ
numbers zero = []
numbers (suc n) = n ∷ numbers n

-- what each entry of a list gives, in one list
abbrev pub each : {A B : Type 0} → List A → (A → List B) → List B
each xs f = flat_map f xs

-- the list, if the test passes
abbrev pub only : {A : Type 0} → Bool → List A → List A
only true xs = xs
only false xs = []

-- whether two facts are the same
abbrev pub same : Fact → Fact → Bool
same (under a b) (under c d) = a == c && b == d
same (under a b) (implies t c d) = false
same (implies s a b) (under c d) = false
same (implies s a b) (implies t c d) = s == t && (a == c && b == d)

-- whether the fact stands in the list
abbrev pub has : List Fact → Fact → Bool
has facts f = list_any (same f) facts

-- the rule start: the start fact of a, if a is named
abbrev pub start_of : ℕ → Concept → List Fact
start_of a Atomic = under a a ∷ []
start_of a Top = []
start_of a (Conjunction d e) = []
start_of a (Restriction r d) = []

-- the rules left, right and filler: what "c under x" gives by the way in which x is made
abbrev pub operands_of : ℕ → Concept → List Fact
operands_of c Atomic = []
operands_of c Top = []
operands_of c (Conjunction d e) = under c d ∷ under c e ∷ []
operands_of c (Restriction r d) = under d d ∷ []

-- the rules top, both and some: what "c under x" gives by the way in which y is made
abbrev pub wholes_of : List Fact → ℕ → ℕ → ℕ → Concept → List Fact
wholes_of facts c x y Atomic = []
wholes_of facts c x y Top = only (c == x) (under c y ∷ [])
wholes_of facts c x y (Conjunction d e) = only (d == x && has facts (under c e)) (under c y ∷ [])
wholes_of facts c x y (Restriction s d) = only (d == x) (implies s c y ∷ [])

-- the rules follows and spreads: what "d under the restriction of r to c" gives with one other fact
abbrev pub joined : Vocabulary → ℕ → ℕ → ℕ → Fact → List Fact
joined v d r c (under a b) = []
joined v d r c (implies s b e) =
    only (c == b)
    (only (v.below r s) (under d e ∷ [])
    ++ each (numbers v.roles) (λ t. only (v.below r t && (v.below t s && v.transitive t)) (implies t d e ∷ [])))

-- what "d under x" gives with other facts, if x is a restriction
abbrev pub links_of : Vocabulary → List Fact → ℕ → Concept → List Fact
links_of v facts d Atomic = []
links_of v facts d Top = []
links_of v facts d (Conjunction a b) = []
links_of v facts d (Restriction r c) = each facts (joined v d r c)

-- the rule stated: what "c under x" gives by the inclusions
abbrev pub inclusions_from : Vocabulary → (ℕ → Bool) → ℕ → ℕ → List Fact
inclusions_from v on c x = each v.inclusions (λ i. only (on i.code && x == i.sub) (under c i.sup ∷ []))

-- what "c under x" gives by what is made of x
abbrev pub wholes_from : Vocabulary → List Fact → ℕ → ℕ → List Fact
wholes_from v facts c x = each (numbers (length v.concepts)) (λ y. wholes_of facts c x y (concept v y))

-- what a fact gives, alone or with others
abbrev pub drawn : Vocabulary → (ℕ → Bool) → List Fact → Fact → List Fact
drawn v on facts (implies s c e) = []
drawn v on facts (under c x) = inclusions_from v on c x ++ (operands_of c (concept v x) ++ (wholes_from v facts c x ++ links_of v facts c (concept v x)))

-- the start facts
abbrev pub starts : Vocabulary → List Fact
starts v = each (numbers (length v.concepts)) (λ a. start_of a (concept v a))

-- all that one use of a rule draws from the facts, where `on` says which codes hold
abbrev pub conclusions : Vocabulary → (ℕ → Bool) → List Fact → List Fact
conclusions v on facts = starts v ++ each facts (drawn v on facts)

-- whether all of a list stand among the facts
abbrev pub all_in : List Fact → List Fact → Bool
all_in facts fs = list_all (has facts) fs

-- whether the facts have all their conclusions
abbrev pub closed : Vocabulary → (ℕ → Bool) → List Fact → Bool
closed v on facts = all_in facts (conclusions v on facts)

-- those of a list that the facts lack, each once
abbrev pub news : List Fact → List Fact → List Fact
news facts [] = []
news facts (f ∷ fs) = let rest = news facts fs in cond (has facts f || has rest f) rest (f ∷ rest)

-- go on with the news, if there are any
abbrev pub unless_none : List Fact → (List Fact → List Fact) → List Fact → List Fact
unless_none facts next [] = facts
unless_none facts next (f ∷ fs) = next ((f ∷ fs) ++ facts)

-- the facts after n rounds, or after fewer if a round adds nothing
abbrev pub rounds : Vocabulary → (ℕ → Bool) → ℕ → List Fact → List Fact
rounds v on zero facts = facts
rounds v on (suc n) facts = unless_none facts (λ gs. rounds v on n gs) (news facts (conclusions v on facts))

-- the conclusions are exactly what a rule draws from the facts
abbrev pub ConclusionsDrawn : Type 0
ConclusionsDrawn = (v : Vocabulary) → WellFormed v → (on : ℕ → Bool) (facts : List Fact) (f : Fact) →
    Decides (has (conclusions v on facts) f) ((js : List Job) × Rule v on js f × ((j : Job) → Memᴰ j js → has facts (fact_of j) ≡ true))

-- what rounds find is derivable, and if it has all its conclusions, it is all that is derivable
abbrev pub RoundsDerive : Type 0
RoundsDerive = (v : Vocabulary) → WellFormed v → (on : ℕ → Bool) (n : ℕ) →
    ((f : Fact) → has (rounds v on n []) f ≡ true → Derivable v on f)
    × (closed v on (rounds v on n []) ≡ true → (f : Fact) → Derivable v on f → has (rounds v on n []) f ≡ true)

-- if what rounds find has all its conclusions, it has a named concept under another just where every finite model says so
abbrev pub RoundsTell : Type 0
RoundsTell = (v : Vocabulary) → WellFormed v → (on : ℕ → Bool) (n : ℕ) → closed v on (rounds v on n []) ≡ true →
    Tells v on (has (rounds v on n []))
