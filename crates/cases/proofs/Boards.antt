-- A finished board answers what is expected.
use Rattle.std.proofs.Common.{◌≡◌, suc, ◌≤◌, List, [], ◌∷◌, length, sym, refl, ap, ◌∙◌, inl, inr, arith}
use mathlib.Core.List.Memᴰ
use mathlib.Core.List.{Memᴰ}
use Rattle.reasoning.specs.declared.Fact.TheVariants.{Under as under}
use Rattle.piles.specs.Shapes.{Distinct, any_pile}
use Rattle.saturation.proofs.Sizes.{on}
use Rattle.saturation.proofs.OneAnswer.{any_order}
use Rattle.saturation.proofs.Truths.{one_grade}
use Rattle.cases.specs.Expectations.{BoardsAnswer}

-- a list without one of its members
without : {A : Type 0} {x : A} (ys : List A) → Memᴰ x ys → List A
without [] m = []
without (y ∷ ys) (Memᴰ.head e) = ys
without (y ∷ ys) (Memᴰ.tail m) = y ∷ without ys m

without_length : {A : Type 0} {x : A} (ys : List A) (m : Memᴰ x ys) → length ys ≡ suc (length (without ys m))
unfolding without
without_length [] m = absurd (Memᴰ.not-nil m)
without_length (y ∷ ys) (Memᴰ.head e) = refl
without_length (y ∷ ys) (Memᴰ.tail m) = ap suc (without_length ys m)

-- all others stay
without_keeps : {A : Type 0} {x z : A} (ys : List A) (m : Memᴰ x ys) → (z ≡ x → ⊥) → Memᴰ z ys → Memᴰ z (without ys m)
unfolding without
without_keeps [] m ne k = absurd (Memᴰ.not-nil m)
without_keeps (y ∷ ys) (Memᴰ.head e) ne k = elim (Memᴰ.cases_cons k) [ inl q ↦ absurd (ne (q ∙ sym e)) | inr t ↦ t ]
without_keeps (y ∷ ys) (Memᴰ.tail m) ne k = elim (Memᴰ.cases_cons k) [ inl q ↦ Memᴰ.head q | inr t ↦ Memᴰ.tail (without_keeps ys m ne t) ]

-- distinct members of a list are not more than it has
no_more : {A : Type 0} (xs ys : List A) → Distinct xs → ((x : A) → Memᴰ x xs → Memᴰ x ys) → length xs ≤ length ys
no_more [] ys d sub = omega arith
no_more (x ∷ xs) ys d sub =
    let m = sub x (Memᴰ.head refl) in
    let r = no_more xs (without ys m) d.1 (λ z k. without_keeps ys m (λ e. d.0 (Memᴰ.cast (sym e) k)) (sub z (Memᴰ.tail k))) in
    omega (arith, without_length ys m)

pub boards_answer : BoardsAnswer
boards_answer k lawful v wf b l quiet =
    let promise = (any_order any_pile any_pile k lawful v wf).0 l.events (record { board = b; pile = l.pile }) l.history in (
      λ a d code i l g.
          one_grade v k lawful (record { is_code = promise.sane.found (under a d) (on promise.goes (under a d) (i.0, l)); truthful = promise.true_in_models quiet a d i l }) g,
      λ n single s.
          let t = promise.exact_steps single quiet in
          let few : length t.some.pairs ≤ length s.some.pairs = no_more t.some.pairs s.some.pairs t.some.distinct (λ u w. s.every u (t.some.each u w)) in
          let many : length s.some.pairs ≤ length t.some.pairs = no_more s.some.pairs t.some.pairs s.some.distinct (λ u w. t.every u (s.some.each u w)) in
          omega (arith, t.some.count, s.some.count),
    )
