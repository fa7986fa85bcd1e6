-- A table that turns, read from one of its places on.
use Rattle.std.proofs.Common.{◌≡◌, ◌≢◌, ℕ, zero, suc, ◌+◌, ◌-◌, ◌%◌, ◌<◌, ◌≤◌, ◌⊎◌, min, List, ◌∷◌, length, get_or, take, set, sym, ap, ◌∙◌, inl, inr, mod-eq_of_lt, arith, length-append, length-drop, length-set, length-take, length-take-le, get_or-drop, get_or-take, get_or-set_same, get_or-set_other}
use native.Mathlib.Nat.{mod-eq-sub-mod}
use Rattle.std.proofs.lemmas.List.{same_lists, get_or_append_left, get_or-append_right}
use Rattle.std.proofs.lemmas.Bool.{cases_lt}
use Rattle.piles.specs.Records.{window}

-- a place below 128 is past the end once at most
turned : (j : ℕ) → j < 128 → ((j < 64) × (j % 64 ≡ j)) ⊎ ((64 ≤ j) × (j % 64 ≡ j - 64))
turned j below = elim (cases_lt j 64) [
  | inl low ↦ inl (low, mod-eq_of_lt low)
  | inr high ↦ inr (high, mod-eq-sub-mod high ∙ mod-eq_of_lt (omega arith))
]

module _ (k n : ℕ) (xs : List ℕ) (start : k < 64) (few : n ≤ 64) (whole : length xs ≡ 64) where
  -- what is read has n entries, and its entry i stands i places after k
  length_window : length (window k n xs) ≡ n
  length_window = length-take-le n _ (simp (length-append, length-drop) (omega (arith, length-take-le k xs (omega arith))))

  get_or_window : (i d : ℕ) → i < n → get_or (window k n xs) i d ≡ get_or xs ((k + i) % 64) d
  get_or_window i d in_range =
      let length_tail = length-drop k xs in
      get_or-take n _ i d in_range ∙ elim (turned (k + i) (omega arith)) [
        | inl straight ↦ get_or_append_left _ _ d i (omega arith) ∙ get_or-drop k xs i d ∙ ap (λ j. get_or xs j d) (omega arith)
        | inr around ↦ get_or-append_right _ _ (64 - k) i d (omega arith) (omega arith) ∙ get_or-take k xs _ d (omega arith) ∙ ap (λ j. get_or xs j d) (omega arith)
      ]

module _ (k n : ℕ) (xs : List ℕ) (start : k < 64) (few : n ≤ 64) (whole : length xs ≡ 64) where
  -- the place before k, which is the last one before the first
  abbrev before : ℕ
  before = (k + 64 - 1) % 64

  -- from there on, each place is one further than from k on, and in 63 places it does not come again
  before_is : (before < 64) × ((j : ℕ) → j < 63 → ((before + suc j) % 64 ≡ (k + j) % 64) × ((k + j) % 64 ≢ before))
  before_is = let at = turned (k + 64 - 1) (omega arith) in (grind (arith, at), λ j l. (grind (arith, at, turned (k + j), turned (before + suc j)), λ e. grind (arith, at, turned (k + j))))

  -- an entry that is written there and read from there on comes before the others, and the last of 64 is read no more
  pub window_noted : (x : ℕ) → window before (min (n + 1) 64) (set xs before x) ≡ x ∷ take 63 (window k n xs)
  window_noted x =
      let ys = set xs before x in
      let whole_ys : length ys ≡ 64 = length-set xs before x ∙ whole in
      let m = min (n + 1) 64 in
      let length_old = length_window k n xs start few whole in
      let length_new = length_window before m ys before_is.0 (omega arith) whole_ys in
      let read : (i d : ℕ) → i < m → get_or (window before m ys) i d ≡ get_or ys ((before + i) % 64) d = get_or_window before m ys before_is.0 (omega arith) whole_ys in
      let entry : (i d : ℕ) → i < m → get_or (window before m ys) i d ≡ get_or (x ∷ take 63 (window k n xs)) i d = elim [
        | zero ↦ λ d l. read 0 d l ∙ ap (λ h. get_or ys h d) (ap (λ h. h % 64) (omega arith) ∙ mod-eq_of_lt before_is.0) ∙ get_or-set_same xs before x d (omega (arith, before_is.0))
        | suc j ↦ λ d l. let b = before_is.1 j (omega arith) in
            read (suc j) d (omega arith) ∙ ap (λ h. get_or ys h d) b.0 ∙ get_or-set_other xs before ((k + j) % 64) x d b.1
            ∙ sym (get_or_window k n xs start few whole j d (omega arith)) ∙ sym (get_or-take 63 (window k n xs) j d (omega arith))
      ] in
      same_lists _ _ (length_new ∙ omega (arith, length_old, length-take 63 (window k n xs))) (λ i d h. entry i d (omega (arith, length_new)))
