-- What puts and draws do to the set, one after the other.
use Rattle.std.proofs.Common.{◌≡◌, ℕ, ◌<◌, List, [], ◌∷◌, ◌++◌, Some, None, Ok, Err, Option, Result, sym, refl, ap, ◌∙◌, subst, ◌⊎◌, inl, inr, ⊎_elim, append_assoc, append-nil, false, true, arith}
use mathlib.Core.List.Memᴰ
use mathlib.Core.List.{Memᴰ}
use Rattle.std.proofs.lemmas.Bool.{cases_eq, cases_Bool, cond-true, cond-false}
use Rattle.piles.proofs.Changes.{with_same, with_other, without_same, without_other}
use Rattle.rejections.specs.declared.Rejection.{Rejection}
use Rattle.piles.specs.declared.ring.Ring.{Ring}
use Rattle.piles.specs.declared.marks.Marks.{Marks}
use Rattle.piles.specs.Lists.{RestKept}
use Rattle.piles.specs.Tables.{marks_shape}
use Rattle.piles.specs.Shapes.{Shape, PutIn, DrawnOut, PutBy, DrewBy, Act, put, drew, Does, Became, Acted, nothing, and_then, puts}
use Rattle.piles.specs.Chains.{has}
use Rattle.piles.specs.Orders.{order, ring_shape, queued, behind, order_after}

module _ {Y : Type 0} (S : Shape Y) where
  -- no act changes the size
  pub does_size : (e : Act) {p q : Y} → Does S e p q → (S.numbers q).size ≡ (S.numbers p).size
  does_size (put x) d = d.set.0
  does_size (drew x) d = d.set.0

  pub became_size : {es : List Act} {p q : Y} → Became S es p q → (S.numbers q).size ≡ (S.numbers p).size
  became_size nothing = refl
  became_size (and_then {e = e} b d) = does_size e d ∙ became_size b

  -- one list of acts after another
  pub became_then : {es fs : List Act} {p q r : Y} → Became S es p q → Became S fs q r → Became S (fs ++ es) p r
  became_then b nothing = b
  became_then b (and_then c d) = and_then (became_then b c) d

  pub acted_then : {p q r : Y} → Acted S p q → Acted S q r → Acted S p r
  acted_then f g = (g.0 ++ f.0, became_then f.1 g.1)

  -- and a put or a draw after them, however it was answered
  pub acted_put : (x : ℕ) {p q r : Y} → Acted S p q → (o : Result (Unit {0}) Rejection) → PutBy S x q r o → Acted S p r
  acted_put x a (Ok u) b = (put x ∷ a.0, and_then a.1 b)
  acted_put x {p = p} a (Err e) b = subst (λ u. Acted S p u) (sym b.2) a

  pub acted_draw : {p q r : Y} → Acted S p q → (o : Option ℕ) → DrewBy S q r o → Acted S p r
  acted_draw a (Some x) b = (drew x ∷ a.0, and_then a.1 b)
  acted_draw {p = p} a None b = subst (λ u. Acted S p u) (sym b.2) a

-- the order of a ring
pub ring_became : {es : List Act} {p q : Ring} → Became ring_shape es p q → order q ≡ order_after es (order p)
ring_became nothing = refl
ring_became (and_then {e = put x} b d) = d.more.0 ∙ ap (λ xs. queued xs x) (ring_became b)
ring_became (and_then {e = drew x} b d) = ap behind (sym d.more.0) ∙ ap behind (ring_became b)

-- a number below the size is put in
pub put_ok : {Y : Type 0} (S : Shape Y) (x : ℕ) (p q : Y) (r : Result (Unit {0}) Rejection) → x < (S.numbers p).size → PutBy S x p q r → PutIn S x p q
put_ok S x p q (Ok _) l d = d
put_ok S x p q (Err e) l d = absurd (let u = d.1 in omega arith)

-- so a number that was drawn can be put back
pub put_back : {Y : Type 0} (S : Shape Y) (x : ℕ) (p q z : Y) (r : Result (Unit {0}) Rejection) → DrawnOut S x p q → PutBy S x q z r → Became S (put x ∷ drew x ∷ []) p z
put_back S x p q z r D P =
    let l = (S.numbers p).below x D.set.1 in
    and_then (and_then nothing D) (put_ok S x q z r (omega (arith, D.set.0)) P)

-- numbers that are put in come behind those that a ring held
pub puts_behind : (xs ys : List ℕ) → (zs : List ℕ) × (order_after (puts xs) ys ≡ ys ++ zs)
puts_behind [] ys = ([], sym (append-nil ys))
puts_behind (x ∷ xs) ys = let h = puts_behind xs ys in elim (cases_Bool (has x (order_after (puts xs) ys))) [
  | inl t ↦ (h.0, cond-true (has x (order_after (puts xs) ys)) _ _ t ∙ h.1)
  | inr f ↦ (h.0 ++ x ∷ [], cond-false (has x (order_after (puts xs) ys)) _ _ f ∙ ap (λ (us : List ℕ). us ++ x ∷ []) h.1 ∙ append_assoc ys h.0 (x ∷ []))
]

-- the list's rest under a table of marks
pub marks_became : {es : List Act} {p q : Marks} → Became marks_shape es p q → RestKept p.list q.list
marks_became nothing = record { same = refl; kept = refl }
marks_became (and_then {e = put x} b d) = let r = marks_became b in record { same = d.more.same ∙ r.same; kept = d.more.kept ∙ r.kept }
marks_became (and_then {e = drew x} b d) = let r = marks_became b in record { same = d.more.same ∙ r.same; kept = d.more.kept ∙ r.kept }

-- what a draw leaves of the set
module _ {Y : Type 0} (S : Shape Y) where
  pub drawn_gone : {x : ℕ} {p q : Y} → DrawnOut S x p q → (S.numbers q).holds x ≡ false
  drawn_gone {x} {p} d = d.set.2 x ∙ without_same (S.numbers p).holds x x refl

  pub drawn_rest : {x : ℕ} {p q : Y} → DrawnOut S x p q → (y : ℕ) → (y ≡ x → ⊥) → (S.numbers q).holds y ≡ (S.numbers p).holds y
  drawn_rest {x} {p} d y ne = d.set.2 y ∙ without_other (S.numbers p).holds x y ne

-- a number is in a list or not
pub cases_in : (x : ℕ) (xs : List ℕ) → Memᴰ x xs ⊎ (Memᴰ x xs → ⊥)
cases_in x [] = inr (λ m. absurd (Memᴰ.not-nil m))
cases_in x (y ∷ ys) = elim (cases_eq x y) [
  | inl e ↦ inl (Memᴰ.head e)
  | inr n ↦ elim (cases_in x ys) [ inl m ↦ inl (Memᴰ.tail m) | inr o ↦ inr (λ m. ⊎_elim n o (Memᴰ.cases_cons m)) ]
]

-- what puts leave of the set
module _ {Y : Type 0} (S : Shape Y) where
  pub puts_out : (xs : List ℕ) {p q : Y} → Became S (puts xs) p q → (x : ℕ) → (Memᴰ x xs → ⊥) → (S.numbers q).holds x ≡ (S.numbers p).holds x
  puts_out [] nothing x n = refl
  puts_out (y ∷ ys) (and_then {q = m} b d) x n = d.set.2 x ∙ with_other (S.numbers m).holds y x (λ e. n (Memᴰ.head e)) ∙ puts_out ys b x (λ i. n (Memᴰ.tail i))

  pub puts_stay : (xs : List ℕ) {p q : Y} → Became S (puts xs) p q → (x : ℕ) → (S.numbers p).holds x ≡ true → (S.numbers q).holds x ≡ true
  puts_stay [] nothing x h = h
  puts_stay (y ∷ ys) (and_then {q = m} b d) x h = d.set.2 x ∙ elim (cases_eq x y) [ inl e ↦ with_same (S.numbers m).holds y x e | inr n ↦ with_other (S.numbers m).holds y x n ∙ puts_stay ys b x h ]

  pub puts_in : (xs : List ℕ) {p q : Y} → Became S (puts xs) p q → (x : ℕ) → Memᴰ x xs → (S.numbers q).holds x ≡ true
  puts_in [] nothing x i = absurd (Memᴰ.not-nil i)
  puts_in (y ∷ ys) (and_then {q = m} b d) x i = d.set.2 x ∙ elim (cases_eq x y) [
    | inl e ↦ with_same (S.numbers m).holds y x e
    | inr n ↦ with_other (S.numbers m).holds y x n ∙ puts_in ys b x (⊎_elim (λ e. absurd (n e)) (λ t. t) (Memᴰ.cases_cons i))
  ]
