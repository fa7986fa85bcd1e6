-- Tests over lists, and of two tests that agree.
use Rattle.std.proofs.Common.{◌≡◌, Bool, true, false, not, List, [], ◌∷◌, sym, subst, inl, inr}
use mathlib.Core.List.Memᴰ
use mathlib.Core.List.{Memᴰ}
use Rattle.std.specs.List.{list_all}
use Rattle.std.proofs.lemmas.Bool.{and_parts, not-true}

pub all_at : {X : Type 0} (p : X → Bool) (xs : List X) → list_all p xs ≡ true → (x : X) → Memᴰ x xs → p x ≡ true
all_at p [] h x m = absurd (Memᴰ.not-nil m)
all_at p (y ∷ ys) h x m =
    let t = and_parts (p y) (list_all p ys) h in
    elim (Memᴰ.cases_cons m) [ inl e ↦ subst (λ z. p z ≡ true) (sym e) t.0 | inr k ↦ all_at p ys t.1 x k ]

-- two tests have one answer
abbrev pub agree : Bool → Bool → Bool
agree true c = c
agree false c = not c

pub agree_true : (b c : Bool) → agree b c ≡ true → b ≡ c
agree_true true c h = sym h
agree_true false c h = sym (not-true c h)
