-- Lists whose used front grows.
use Rattle.std.proofs.Common.{◌≡◌, ℕ, ◌+◌, ◌<◌, ◌≤◌, List, ◌++◌, length, take, drop, set, sym, ap, ◌∙◌, arith}
use Rattle.std.proofs.lemmas.List.{drop-set-lt, length-set, length-take-le, take-append-drop}
use Rattle.terms.specs.Lent.{onto}

-- a list is its own front written over it
pub over_itself : {A : Type 0} (n : ℕ) (xs : List A) → n ≤ length xs → xs ≡ onto (take n xs) xs
over_itself n xs h = sym (take-append-drop n xs) ∙ ap (λ m. take n xs ++ drop m xs) (sym (length-take-le n xs h))

-- and so is a list with one more element in its front
pub over_more : {A : Type 0} (xs : List A) (n : ℕ) (v : A) → n < length xs → set xs n v ≡ onto (take (n + 1) (set xs n v)) xs
over_more xs n v h =
    let long : n + 1 ≤ length (set xs n v) = omega (arith, length-set xs n v) in
    sym (take-append-drop (n + 1) (set xs n v))
    ∙ ap (λ ys. take (n + 1) (set xs n v) ++ ys) (drop-set-lt (n + 1) xs n v (omega arith))
    ∙ ap (λ m. take (n + 1) (set xs n v) ++ drop m xs) (sym (length-take-le (n + 1) (set xs n v) long))
