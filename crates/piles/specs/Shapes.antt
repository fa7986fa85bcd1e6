-- What every pile shows of its state, and what puts and draws make of it.
use Rattle.std.specs.Prelude.{◌≡◌, ℕ, ◌≤◌, List, [], ◌∷◌, Some, None, Ok, Err, Option, Result}
use mathlib.Core.List.{Memᴰ}
use Rattle.std.specs.Borrow.{MutBor}
use Rattle.rejections.specs.declared.Rejection.{Rejection}
use Rattle.rejections.specs.declared.Rejection.TheVariants.{NotBelowSize}
use Rattle.piles.specs.Sets.{Numbers, Empty, Put, Drew}

-- what a pile shows of a state: the set that it holds, the number that a draw takes, and what else a put and a draw make of the state
pub record Shape (Y : Type 0) : Type 1 where
  pub numbers : Y → Numbers
  pub front : Y → Option ℕ
  pub put : Y → ℕ → Y → Type 0
  pub drew : Y → ℕ → Y → Type 0

-- a borrowed pile shows what the pile does, and stays the same reference
abbrev pub borrowed : {Y : Type 0} → Shape Y → Shape (MutBor Y)
borrowed S = record {
  numbers = λ p. S.numbers p.now;
  front = λ p. S.front p.now;
  put = λ p x q. (q.ghost_name ≡ p.ghost_name) × S.put p.now x q.now;
  drew = λ p x q. (q.ghost_name ≡ p.ghost_name) × S.drew p.now x q.now;
}

-- x was put in
pub record PutIn {Y : Type 0} (S : Shape Y) (x : ℕ) (p q : Y) : Type 0 where
  pub set : Put (S.numbers p) (S.numbers q) x
  pub more : S.put p x q

-- x was drawn: it was the front
pub record DrawnOut {Y : Type 0} (S : Shape Y) (x : ℕ) (p q : Y) : Type 0 where
  pub front : S.front p ≡ Some x
  pub set : Drew (S.numbers p) (S.numbers q) x
  pub more : S.drew p x q

-- a put that was answered so
abbrev pub PutBy : {Y : Type 0} → Shape Y → ℕ → Y → Y → Result (Unit {0}) Rejection → Type 0
PutBy S x p q (Ok _) = PutIn S x p q
PutBy S x p q (Err e) = (e ≡ NotBelowSize) × ((S.numbers p).size ≤ x) × (q ≡ p)

-- a draw that was answered so
abbrev pub DrewBy : {Y : Type 0} → Shape Y → Y → Y → Option ℕ → Type 0
DrewBy S p q None = (S.front p ≡ None) × Empty (S.numbers p) × (q ≡ p)
DrewBy S p q (Some x) = DrawnOut S x p q

-- one put or one draw
pub data Act : Type 0 where
  put : ℕ → Act
  drew : ℕ → Act

-- what it makes of the pile
abbrev pub Does : {Y : Type 0} → Shape Y → Act → Y → Y → Type 0
Does S (put x) p q = PutIn S x p q
Does S (drew x) p q = DrawnOut S x p q

-- these puts and draws and no others, the latest first, led from p to q
pub data Became {Y : Type 0} (S : Shape Y) : List Act → Y → Y → Type 0 where
  nothing : {p : Y} → Became S [] p p
  and_then : {es : List Act} {e : Act} {p q r : Y} → Became S es p q → Does S e q r → Became S (e ∷ es) p r

-- some puts and draws and no others led from p to q
abbrev pub Acted : {Y : Type 0} → Shape Y → Y → Y → Type 0
Acted S p q = (es : List Act) × Became S es p q

-- the puts of these numbers, the latest first
abbrev pub puts : List ℕ → List Act
puts [] = []
puts (x ∷ xs) = put x ∷ puts xs

-- no entry stands twice in the list
abbrev pub Distinct : {A : Type 0} → List A → Type 0
Distinct [] = Unit {0}
Distinct (x ∷ xs) = (Memᴰ x xs → ⊥) × Distinct xs

-- exactly the numbers with the property were put in, in some order, each once
pub record PutEach {Y : Type 0} (S : Shape Y) (P : ℕ → Type 0) (p q : Y) : Type 0 where
  pub numbers : List ℕ
  pub distinct : Distinct numbers
  pub each : (x : ℕ) → Memᴰ x numbers → P x
  pub every : (x : ℕ) → P x → Memᴰ x numbers
  pub became : Became S (puts numbers) p q

-- what every pile shows, and no more: its set and its front
pub record Seen : Type 0 where
  pub numbers : Numbers
  pub front : Option ℕ

-- so much of a state
abbrev pub seen : {Y : Type 0} → Shape Y → Y → Seen
seen S p = record { numbers = S.numbers p; front = S.front p }

-- a pile of which no more is known
abbrev pub any_pile : Shape Seen
any_pile = record { numbers = λ p. p.numbers; front = λ p. p.front; put = λ _ _ _. Unit {0}; drew = λ _ _ _. Unit {0} }
