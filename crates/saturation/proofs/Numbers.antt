-- The jobs of a vocabulary, each with a point, as numbers below the count of possible pairs.
use Rattle.std.proofs.Common.{◌≡◌, ℕ, ◌+◌, ◌*◌, ◌/◌, ◌%◌, ◌<◌, ◌≤◌, List, length, sym, ap, ◌∙◌, arith}
use mathlib.Core.List.{Memᴰ}
use Rattle.std.proofs.lemmas.Nat.{mul-add-lt, div-mul-add, mod-mul-add, mul-le}
use Rattle.grades.specs.Kinds.{Kind, Lawful}
use Rattle.terms.specs.Vocabularies.{Vocabulary, WellFormed}
use Rattle.reasoning.specs.declared.Job.{Job}
use Rattle.reasoning.specs.declared.Job.TheVariants.{Own as own, Link as link, Imply as imply}
use Rattle.reasoning.specs.Derivations.{fact_of, Within}
use Rattle.piles.specs.Shapes.{Distinct}
use Rattle.saturation.specs.AnyOrder.{possible_pairs}
use Rattle.saturation.proofs.Lists.{few}

-- a job by its sort and role, its left concept and its right concept
abbrev plane : Job → ℕ
plane (own c d) = 0
plane (link c d) = 1
plane (imply s c e) = 2 + s

abbrev row : Job → ℕ
row (own c d) = c
row (link c d) = c
row (imply s c e) = c

abbrev column : Job → ℕ
column (own c d) = d
column (link c d) = d
column (imply s c e) = e

same_parts : (i j : Job) → plane i ≡ plane j → row i ≡ row j → column i ≡ column j → i ≡ j
same_parts (own a b) (own c d) p q r = cc
same_parts (own a b) (link c d) p q r = absurd (omega arith)
same_parts (own a b) (imply s c d) p q r = absurd (omega arith)
same_parts (link a b) (own c d) p q r = absurd (omega arith)
same_parts (link a b) (link c d) p q r = cc
same_parts (link a b) (imply s c d) p q r = absurd (omega arith)
same_parts (imply t a b) (own c d) p q r = absurd (omega arith)
same_parts (imply t a b) (link c d) p q r = absurd (omega arith)
same_parts (imply t a b) (imply s c d) p q r = let e : t ≡ s = omega arith in cc

-- a number in base w tells its digits
digits : (w a b c d : ℕ) → b < w → d < w → a * w + b ≡ c * w + d → (a ≡ c) × (b ≡ d)
digits w a b c d p q e =
    (sym (div-mul-add a w b p) ∙ ap (λ n. n / w) e ∙ div-mul-add c w d q, sym (mod-mul-add a w b p) ∙ ap (λ n. n % w) e ∙ mod-mul-add c w d q)

module _ (v : Vocabulary) where
  abbrev size : ℕ
  size = length v.concepts

  abbrev number : Job → ℕ
  number j = (plane j * size + row j) * size + column j

  row_lt : (j : Job) → Within v (fact_of j) → row j < size
  row_lt (own c d) w = w.0
  row_lt (link c d) w = w.0
  row_lt (imply s c e) w = w.1

  column_lt : (j : Job) → Within v (fact_of j) → column j < size
  column_lt (own c d) w = w.1
  column_lt (link c d) w = w.1
  column_lt (imply s c e) w = w.2

  plane_lt : (j : Job) → Within v (fact_of j) → plane j < 2 + v.roles
  plane_lt (own c d) w = omega arith
  plane_lt (link c d) w = omega arith
  plane_lt (imply s c e) w = let h = w.0 in omega arith

  small : (j : Job) → Within v (fact_of j) → number j < ((2 + v.roles) * size) * size
  small j w =
      let h = mul-add-lt (plane j) size (row j) (2 + v.roles) (plane_lt j w) (row_lt j w) in
      let i = mul-add-lt (plane j * size + row j) size (column j) (size * (2 + v.roles)) h (column_lt j w) in
      omega arith

  apart : (i j : Job) → Within v (fact_of i) → Within v (fact_of j) → number i ≡ number j → i ≡ j
  apart i j w x e =
      let t = digits size (plane i * size + row i) (column i) (plane j * size + row j) (column j) (column_lt i w) (column_lt j x) e in
      let u = digits size (plane i) (row i) (plane j) (row j) (row_lt i w) (row_lt j x) t.0 in
      same_parts i j u.0 u.1 t.1

  module _ (k : Kind) where
    -- a pair of the vocabulary and the kind
    abbrev pub Possible : Job × ℕ → Type 0
    Possible u = Within v (fact_of u.0) × (u.1 < k.points)

    abbrev pair_number : Job × ℕ → ℕ
    pair_number u = number u.0 * k.points + u.1

    pairs_apart : (x y : Job × ℕ) → Possible x → Possible y → pair_number x ≡ pair_number y → x ≡ y
    pairs_apart x y w z e =
        let t = digits k.points (number x.0) x.1 (number y.0) y.1 w.1 z.1 e in
        let p = apart x.0 y.0 w.0 z.0 t.0 in
        let q = t.1 in
        λ i. (p i, q i)

    -- distinct pairs are at most the possible ones
    pub few_pairs : (us : List (Job × ℕ)) → Distinct us → ((u : Job × ℕ) → Memᴰ u us → Possible u) → length us ≤ possible_pairs v k
    few_pairs us d h =
        few Possible pair_number pairs_apart (possible_pairs v k) us d (λ u m.
        let w = h u m in
        let s = mul-add-lt (number u.0) k.points u.1 (((2 + v.roles) * size) * size) (small u.0 w.0) w.1 in
        (w, omega arith))

    -- and those are few
    pub pairs_small : WellFormed v → Lawful k → possible_pairs v k < 2281701377
    pairs_small wf lawful =
        let a : (2 + v.roles) * size ≤ 34 * 1024 = mul-le (2 + v.roles) size 34 1024 (let h = wf.few_roles in omega arith) wf.few_concepts in
        let b : ((2 + v.roles) * size) * size ≤ (34 * 1024) * 1024 = mul-le ((2 + v.roles) * size) size (34 * 1024) 1024 a wf.few_concepts in
        let c = mul-le (((2 + v.roles) * size) * size) k.points ((34 * 1024) * 1024) 64 b lawful.few_points in
        omega arith
