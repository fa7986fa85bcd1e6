-- Members of a list, by their places.
use Rattle.std.proofs.Common.{◌≡◌, ℕ, zero, suc, ◌<◌, List, [], ◌∷◌, length, get_or, sym, refl, arith}
use mathlib.Core.List.{Memᴰ}

pub member : {A : Type 0} (xs : List A) (i : ℕ) (d : A) → i < length xs → Memᴰ (get_or xs i d) xs
member [] i d h = absurd (omega arith)
member (x ∷ xs) zero d h = Memᴰ.head refl
member (x ∷ xs) (suc i) d h = Memᴰ.tail (member xs i d (omega arith))

pub member_at : {A : Type 0} {x : A} {xs : List A} → Memᴰ x xs → (d : A) → (i : ℕ) × (i < length xs) × (get_or xs i d ≡ x)
member_at (Memᴰ.head e) d = (0, omega arith, sym e)
member_at (Memᴰ.tail m) d = let t = member_at m d in (suc t.0, (let l = t.1 in omega arith), t.2)
