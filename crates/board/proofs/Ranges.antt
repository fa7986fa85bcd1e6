-- What is known of a call that runs through the numbers below a bound.
use Rattle.std.proofs.Common.{◌≡◌, ℕ, zero, suc, ◌+◌, ◌<◌, Bool, true, false, ◌&&◌, Option, Some, None, MatchOption, MatchBool, ◌∷◌, [], ◌++◌, length, sym, refl, ap, ◌∙◌, subst, add-one, arith}
use Rattle.std.specs.Fn.{Called}
use Rattle.std.specs.Iterator.Runs.{Run, SomeRun, ItemsCountUp, AllItemsGive, IsFirstToGive}
use Rattle.std.specs.List.{range_with_len, list_all, AllWithin, HoldsAt}
use Rattle.std.specs.Option.{IfSome, IsSomeAnd}
use Rattle.std.proofs.iter.Yields.{nat_range_steps}
use Rattle.std.proofs.iter.runs.Sources.{range_runs}
use Rattle.std.proofs.lemmas.Iterator.Adapters.{option_map_id}
use Rattle.std.proofs.lemmas.List.FromFn.{length-range_with_len, get_or-range_with_len, map-range_with_len_more}
use Rattle.std.proofs.lemmas.List.Folds.{list_all-append}
use denote.Param.Members.{Mut}
use mathlib.Core.List.{map-id}
use Rattle.lemmas.specs.Tests.{every}

pub range_more : (n : ℕ) → range_with_len 0 (suc n) ≡ range_with_len 0 n ++ n ∷ []
range_more n =
    ap (range_with_len 0) (sym (add-one n)) ∙ sym (map-id (range_with_len 0 (n + 1))) ∙ map-range_with_len_more (λ x. x) 0 n n (omega arith) ∙ ap (λ xs. xs ++ n ∷ []) (map-id (range_with_len 0 n))

turned : (x y : Bool) → (x && (y && true)) ≡ (y && x)
turned true true = refl
turned true false = refl
turned false true = refl
turned false false = refl

pub all_of_range : (f : ℕ → Bool) (n : ℕ) → list_all f (range_with_len 0 n) ≡ every n f
all_of_range f zero = refl
all_of_range f (suc n) =
    ap (list_all f) (range_more n) ∙ list_all-append f (range_with_len 0 n) (n ∷ []) ∙ ap (λ x. x && (f n && true)) (all_of_range f n) ∙ turned (every n f) (f n)

-- a fact that some number brings, or one of each number
pub any_of_range : (P : ℕ → Type 0) (Q : Type 0) (n : ℕ) (r : Bool) → MatchBool r ((k : ℕ) × (k < length (range_with_len 0 n)) × HoldsAt (λ _. Q) (range_with_len 0 n) k) (AllWithin P (range_with_len 0 n) 0 (length (range_with_len 0 n))) → MatchBool r Q ((k : ℕ) → k < n → P k)
any_of_range P Q n true h = h.2 0
any_of_range P Q n false h = λ k l. subst P (get_or-range_with_len 0 n k 0 l ∙ omega arith) (h k 0 (omega arith) (omega (arith, length-range_with_len 0 n)))

-- what `find_map` answers: nothing, where nothing is found at any number, or what is found at the first number at which something is
pub first_mapped : {F B : Type 0} {g : Mut F (ℕ × Unit {0}) (Option B)} (n : ℕ) (f : F) (r : Option B) (Yes : B → ℕ → Type 0) (No : ℕ → Type 0)
    → SomeRun nat_range_steps (record { start = 0; end = n }) (λ p. MatchOption r ((p.whole ≡ true) × AllItemsGive p g f None) (λ y. (i : ℕ) × (i < p.len) × (p.len ≡ i + 1) × IsFirstToGive p g f (Some y) None i))
    → ((x : ℕ) (a : Option B) (q : F) → Called g f (x, tt) a q → (q ≡ f) × MatchOption a (No x) (λ y. Yes y x))
    → MatchOption r ((k : ℕ) → k < n → No k) (λ y. (i : ℕ) × (i < n) × Yes y i × ((k : ℕ) → k < i → No k))
first_mapped {F} {B} {g} n f r Yes No d call = go r d.2
  where
    p : Run nat_range_steps
    p = d.0

    up : ItemsCountUp p p.from.start p.from.end
    up = range_runs p p.seen

    start : p.from.start ≡ 0
    start = ap (λ t. t.start) d.1

    end : p.from.end ≡ n
    end = ap (λ t. t.end) d.1

    at : (k : ℕ) → k < p.len → p.at k ≡ Some k
    at k l = sym (option_map_id (p.at k)) ∙ up.3 k l ∙ ap Some (omega (arith, start))

    says : (k : ℕ) → k < p.len → (a : Option B) → IsSomeAnd (p.at k) (λ x. Called g f (x, tt) a f) → MatchOption a (No k) (λ y. Yes y k)
    says k l a h = (call k a f (subst (λ o. IsSomeAnd o (λ x. Called g f (x, tt) a f)) (at k l) h)).1

    go : (o : Option B) → MatchOption o ((p.whole ≡ true) × AllItemsGive p g f None) (λ y. (i : ℕ) × (i < p.len) × (p.len ≡ i + 1) × IsFirstToGive p g f (Some y) None i) → MatchOption o ((k : ℕ) → k < n → No k) (λ y. (i : ℕ) × (i < n) × Yes y i × ((k : ℕ) → k < i → No k))
    go None h = λ k l. (call k None f (subst (λ o. IfSome o (λ x. Called g f (x, tt) None f)) (at k (omega (arith, up.1 h.0, start, end))) (h.1 (λ a b q c. (call a.0 b q c).0) k))).1
    go (Some y) h =
        let here = h.3 (λ a b q c. (call a.0 b q c).0) in
        (h.0, omega (arith, up.0, start, end, h.1), says h.0 h.1 (Some y) here.0, λ k l. says k (omega (arith, h.1)) None (here.1 k l))
