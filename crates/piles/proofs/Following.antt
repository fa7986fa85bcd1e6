-- A pile that follows another: what is seen of it, or the pile below a log, which the log has or borrows.
use Rattle.std.proofs.Common.{◌≡◌, ℕ, List, refl, ◌∙◌}
use Rattle.piles.specs.Shapes.{Shape, seen, any_pile, borrowed, PutIn, DrawnOut, Act, put, drew, Became, nothing, and_then}
use Rattle.piles.specs.Logs.{pile_of, logged}

-- f makes of each state one of another shape, which holds the same, has the same front, and is put and drawn likewise
pub record Follows {Y Z : Type 0} (S : Shape Y) (T : Shape Z) (f : Y → Z) : Type 0 where
  pub numbers : (p : Y) → T.numbers (f p) ≡ S.numbers p
  pub front : (p : Y) → T.front (f p) ≡ S.front p
  pub put : (p : Y) (x : ℕ) (q : Y) → S.put p x q → T.put (f p) x (f q)
  pub drew : (p : Y) (x : ℕ) (q : Y) → S.drew p x q → T.drew (f p) x (f q)

module _ {Y : Type 0} (S : Shape Y) where
  -- the pile itself
  pub same_follows : Follows S S (λ p. p)
  same_follows = record { numbers = λ p. refl; front = λ p. refl; put = λ p x q d. d; drew = λ p x q d. d }

  -- a pile, by its set and its front
  pub seen_follows : Follows S any_pile (seen S)
  seen_follows = record { numbers = λ p. refl; front = λ p. refl; put = λ p x q d. tt; drew = λ p x q d. tt }

  -- the pile below a log
  pub below_follows : Follows (logged S) S pile_of
  below_follows = record { numbers = λ l. refl; front = λ l. refl; put = λ l x m d. d.0; drew = λ l x m d. d.0 }

  -- the pile that a log borrows
  pub lent_follows : Follows (logged (borrowed S)) S (λ l. (pile_of l).now)
  lent_follows = record { numbers = λ l. refl; front = λ l. refl; put = λ l x m d. d.0.1; drew = λ l x m d. d.0.1 }

-- so it goes along with puts and draws
module _ {Y Z : Type 0} {S : Shape Y} {T : Shape Z} {f : Y → Z} (F : Follows S T f) where
  put_along : {x : ℕ} {p q : Y} → PutIn S x p q → PutIn T x (f p) (f q)
  put_along {x} {p} {q} d = record { set = rw (F.numbers p) (rw (F.numbers q) d.set); more = F.put p x q d.more }

  pub drawn_along : {x : ℕ} {p q : Y} → DrawnOut S x p q → DrawnOut T x (f p) (f q)
  drawn_along {x} {p} {q} d = record { front = F.front p ∙ d.front; set = rw (F.numbers p) (rw (F.numbers q) d.set); more = F.drew p x q d.more }

  pub became_along : {es : List Act} {p q : Y} → Became S es p q → Became T es (f p) (f q)
  became_along nothing = nothing
  became_along (and_then {e = put x} b d) = and_then (became_along b) (put_along d)
  became_along (and_then {e = drew x} b d) = and_then (became_along b) (drawn_along d)
