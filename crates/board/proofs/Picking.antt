-- Writing the numbers that pass a test.
use Rattle.std.proofs.Common.{◌≡◌, ℕ, zero, suc, ◌+◌, ◌<◌, ◌≤◌, Bool, true, false, cond, List, [], ◌∷◌, ◌++◌, length, drop, set, refl, ap, ◌∙◌, subst, inl, inr, append_assoc, append-nil, add-one, arith, length-append, drop-cons}
use Rattle.std.specs.List.{range_with_len, filter}
use Rattle.std.proofs.lemmas.Bool.{cases_eq}
use Rattle.std.proofs.lemmas.List.Elements.{filter-append}
use Rattle.terms.specs.Lent.{onto}
use Rattle.board.specs.Asking.{picked}
use Rattle.board.proofs.Ranges.{range_more}

picked_more : (f : ℕ → Bool) (n : ℕ) → picked f (suc n) ≡ picked f n ++ cond (f n) (n ∷ []) []
picked_more f n = ap (filter f) (range_more n) ∙ filter-append f (range_with_len 0 n) (n ∷ [])

picked_yes : (f : ℕ → Bool) (n : ℕ) → f n ≡ true → picked f (n + 1) ≡ picked f n ++ n ∷ []
picked_yes f n e = rw add-one (picked_more f n ∙ ap (λ (b : Bool). picked f n ++ cond b (n ∷ []) []) e)

picked_no : (f : ℕ → Bool) (n : ℕ) → f n ≡ false → picked f (n + 1) ≡ picked f n
picked_no f n e = rw add-one (picked_more f n ∙ ap (λ (b : Bool). picked f n ++ cond b (n ∷ []) []) e ∙ append-nil (picked f n))

-- there is room for one more where there is room for all
pub room_for_one : (f : ℕ → Bool) (i n : ℕ) → i < n → f i ≡ true → length (picked f i) + 1 ≤ length (picked f n)
room_for_one f i zero l e = absurd (omega arith)
room_for_one f i (suc n) l e = elim (cases_eq i n) [
  | inl q ↦ subst (λ m. length (picked f i) + 1 ≤ length (picked f m)) {x = i + 1} {y = suc n} (omega arith) (simp (picked_yes f i e, length-append) (omega arith))
  | inr d ↦ simp (picked_more f n, length-append) (let h = room_for_one f i n (omega arith) e in omega arith)
]

-- one more is written behind what is written
set_behind : (xs zs : List ℕ) (x : ℕ) → set (xs ++ zs) (length xs) x ≡ xs ++ set zs 0 x
set_behind [] zs x = refl
set_behind (y ∷ xs) zs x = ap (λ l. y ∷ l) (set_behind xs zs x)

onto_more : (xs ys : List ℕ) (x : ℕ) → length xs < length ys → set (onto xs ys) (length xs) x ≡ onto (xs ++ x ∷ []) ys
onto_more xs ys x l =
    set_behind xs (drop (length xs) ys) x
    ∙ ap (λ zs. xs ++ set zs 0 x) (drop-cons ys (length xs) 0 l)
    ∙ (simp (length-append, append_assoc, add-one))

-- what is written so far, and one more or none
pub record Written (f : ℕ → Bool) (i count : ℕ) (entry now : List ℕ) : Type 0 where
  pub filled : count ≡ length (picked f i)
  pub list : now ≡ onto (picked f i) entry

pub written_more : (f : ℕ → Bool) (i n count : ℕ) (entry now : List ℕ) → Written f i count entry now → i < n → length (picked f n) ≤ length entry → f i ≡ true → Written f (i + 1) (count + 1) entry (set now count i)
written_more f i n count entry now w l r e =
    let more = picked_yes f i e in
    let room = room_for_one f i n l e in
    record {
      filled = simp (more, length-append) (omega arith);
      list = rw (w.list, w.filled, more) (onto_more (picked f i) entry i (omega arith));
    }

pub written_none : (f : ℕ → Bool) (i count : ℕ) (entry now : List ℕ) → Written f i count entry now → f i ≡ false → Written f (i + 1) count entry now
written_none f i count entry now w e = let same = picked_no f i e in record { filled = rw same w.filled; list = rw same w.list }
