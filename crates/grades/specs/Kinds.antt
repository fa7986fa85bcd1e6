-- What a kind of grade is, and the laws that every kind keeps.
use Rattle.std.specs.Prelude.{◌≡◌, ℕ, ◌<◌, ◌≤◌, Bool, true, false, ◌&&◌, ◌||◌}

-- how many points and codes there are, which points each code holds, and the operations on codes
pub record Kind : Type 0 where
  pub points : ℕ
  pub codes : ℕ
  pub all : ℕ
  pub none : ℕ
  pub holds : ℕ → ℕ → Bool
  pub join : ℕ → ℕ → ℕ
  pub meet : ℕ → ℕ → ℕ

-- whether a code holds at the point
abbrev pub on_at : Kind → ℕ → ℕ → Bool
on_at k p code = k.holds code p

-- joins and meets of any two numbers are codes, so one that is no code, which holds nothing, counts there as "none"
pub record Lawful (k : Kind) : Type 0 where
  pub some_point : 1 ≤ k.points
  pub few_points : k.points ≤ 64
  pub few_codes : k.codes ≤ 65536
  pub all_code : k.all < k.codes
  pub none_code : k.none < k.codes
  pub all_holds : (p : ℕ) → p < k.points → k.holds k.all p ≡ true
  pub none_holds : (p : ℕ) → k.holds k.none p ≡ false
  pub join_code : (a b : ℕ) → k.join a b < k.codes
  pub join_holds : (a b p : ℕ) → p < k.points → k.holds (k.join a b) p ≡ (k.holds a p || k.holds b p)
  pub meet_code : (a b : ℕ) → k.meet a b < k.codes
  pub meet_holds : (a b p : ℕ) → p < k.points → k.holds (k.meet a b) p ≡ (k.holds a p && k.holds b p)
  pub same : (a b : ℕ) → a < k.codes → b < k.codes → ((p : ℕ) → p < k.points → k.holds a p ≡ k.holds b p) → a ≡ b
  pub foreign : (a p : ℕ) → k.codes ≤ a → k.holds a p ≡ false
  pub beyond : (a p : ℕ) → k.points ≤ p → k.holds a p ≡ false
