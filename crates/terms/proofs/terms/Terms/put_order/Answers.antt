use Rattle.std.proofs.Common.{◌≡◌, ℕ, ◌+◌, ◌<◌, ◌≤◌, List, ◌++◌, map, length, get_or, take, drop, set, sym, refl, ap, ◌∙◌, subst, arith, length-append, length-drop, length-take, rules}
use lib.ListN.{length-map}
use Rattle.std.proofs.lemmas.List.{get_or_default, append-nil, take_all, drop_all}
use Rattle.std.proofs.lemmas.List.Edits.{map_over_more}
use Rattle.terms.specs.Entries.{climbed, with_order}
use Rattle.terms.specs.Rule.{Reflexive, Transitive, OnRoles}
use Rattle.terms.specs.Views.{contents_of}
use Rattle.terms.proofs.Filling.{same_lists}
use Rattle.terms.proofs.Preorder.{pair_reflexive, pair_transitive, pair_on}
use Rattle.terms.proofs.terms.Terms.put_order.Goals as goal

over_length : (f : ℕ → ℕ) (xs ys : List ℕ) (i : ℕ) → i ≤ length xs → ys ≡ map f (take i xs) ++ drop i xs → length ys ≡ length xs
over_length f xs ys i h e = ap length e ∙ simp (length-append, length-map, length-take, length-drop) (omega arith)

step : (f : ℕ → ℕ) (xs ys : List ℕ) (i w : ℕ) → i < length xs → ys ≡ map f (take i xs) ++ drop i xs → w ≡ f (get_or ys i 0)
    → set ys i w ≡ map f (take (i + 1) xs) ++ drop (i + 1) xs
step f xs ys i w h e p =
    let lt : i < length ys = omega (arith, over_length f xs ys i (omega arith) e) in
    ap (set ys i) p ∙ map_over_more f xs ys i (get_or ys i 0) h e (get_or_default ys i 0 (get_or ys i 0) lt)

done : (f : ℕ → ℕ) (xs ys : List ℕ) (i : ℕ) → length xs ≤ i → ys ≡ map f (take i xs) ++ drop i xs → ys ≡ map f xs
done f xs ys i h e = e ∙ simp (take_all, drop_all, append-nil)

pub loop-row-preserved : goal.loop-row-preserved
loop-row-preserved c =
    let s = c.args.self.now in
    let long : length s.order ≡ 32 = search rules in
    step (climbed c.args.r (get_or s.order c.args.s 0)) s.order c.loop-row.row-items c.loop-row.row-index c.climb.result (omega arith) c.loop-row.invariant c.climb.ensures

pub invariant_of-self : goal.invariant_of-self
invariant_of-self c =
    let s = c.args.self.now in
    let n = s.role_count in
    let long : length s.order ≡ 32 = search rules in
    let e : map (climbed c.args.r (get_or s.order c.args.s 0)) s.order ≡ c.loop-row.row-items = sym (done _ _ _ c.loop-row.row-index (omega arith) c.loop-row.invariant) in record { fits = s.fits; earlier = s.earlier; named = s.named; reflexive = subst (Reflexive n) e (pair_reflexive s.order c.args.r c.args.s n s.reflexive); chains = subst Transitive e (pair_transitive s.order c.args.r c.args.s s.chains); on_roles = subst (OnRoles n) e (pair_on s.order c.args.r c.args.s n s.on_roles); flagged = s.flagged }

pub returns : goal.returns
returns c =
    let s = c.args.self.now in
    let long : length s.order ≡ 32 = search rules in (
      ap (with_order (contents_of s)) (done _ _ _ c.loop-row.row-index (omega arith) c.loop-row.invariant),
      same_lists s _ refl refl refl refl,
    )
