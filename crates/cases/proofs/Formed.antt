-- A computed test that contents are those of a well formed vocabulary.
use Rattle.std.proofs.Common.{◌≡◌, ℕ, ◌/◌, ◌%◌, ◌^◌, ◌<◌, ◌≤◌, Bool, true, cond, ◌&&◌, ltb, leb, List, length, get_or, subst, ⊎_elim, zero-lt-suc, arith}
use Rattle.std.specs.List.{list_all}
use native.Mathlib.Nat.{div-eq_of_lt, pow-le-pow_right}
use Rattle.std.proofs.lemmas.List.{get_or_past}
use Rattle.std.proofs.lemmas.Bool.{and_parts, eqb-true, ltb-true, leb-true, lt-ltb, le-ltb, cond-true, cond-false, cases_lt}
use Rattle.lemmas.specs.Tests.{every, if_then}
use Rattle.lemmas.proofs.Tests.{every_at, if_at}
use Rattle.terms.specs.declared.records.Concept.{Concept}
use Rattle.terms.specs.declared.records.Concept.TheVariants.{Atomic, Top, Conjunction, Restriction}
use Rattle.terms.specs.declared.records.Inclusion.{Inclusion}
use Rattle.terms.specs.Contents.{Contents, bit, vocabulary_of}
use Rattle.terms.specs.Vocabularies.{WellFormed}
use Rattle.cases.proofs.Tests.{all_at}

-- a word below 2 ^ n has no bit from n on
low_bits : (w n k : ℕ) → w < 2 ^ n → bit w k ≡ true → k < n
low_bits w n k l h =
    ⊎_elim (λ low. low) (λ high. absurd (
    let m : 2 ^ n ≤ 2 ^ k = pow-le-pow_right (zero-lt-suc 1) high in
    let z : w / 2 ^ k ≡ 0 = div-eq_of_lt (omega arith) in
    let o : (w / 2 ^ k) % 2 ≡ 1 = eqb-true ((w / 2 ^ k) % 2) 1 h in omega arith)) (cases_lt k n)

-- the operands of concept c are earlier, and its role is one
abbrev operands_fit : ℕ → ℕ → Concept → Bool
operands_fit roles c Atomic = true
operands_fit roles c Top = true
operands_fit roles c (Conjunction d e) = ltb d c && ltb e c
operands_fit roles c (Restriction r d) = ltb r roles && ltb d c

-- the inclusion names concepts
abbrev sides_fit : ℕ → Inclusion → Bool
sides_fit n i = ltb i.sub n && ltb i.sup n

-- what is above q is above r too, if q is
abbrev row_fits : ℕ → List ℕ → ℕ → ℕ → Bool
row_fits roles order r q = if_then (bit (get_or order r 0) q) (every roles (λ t. if_then (bit (get_or order q 0) t) (bit (get_or order r 0) t)))

-- row r has no bit but those of roles, and none at all if r is no role
abbrev row_ends : ℕ → List ℕ → ℕ → Bool
row_ends roles order r = ltb (get_or order r 0) (cond (ltb r roles) (2 ^ roles) 1)

abbrev lists_fit : Contents → Bool
lists_fit s =
    leb (length s.concepts) 1024
    && (leb (length s.inclusions) 4096
    && (every (length s.concepts) (λ c. operands_fit s.roles c (get_or s.concepts c Atomic))
    && list_all (sides_fit (length s.concepts)) s.inclusions))

abbrev roles_fit : Contents → Bool
roles_fit s =
    leb s.roles 32
    && (every s.roles (λ r. bit (get_or s.order r 0) r)
    && (every s.roles (λ r. every s.roles (λ q. row_fits s.roles s.order r q))
    && (every (length s.order) (row_ends s.roles s.order)
    && ltb s.transitive (2 ^ s.roles))))

abbrev pub formed : Contents → Bool
formed s = lists_fit s && roles_fit s

-- a row that has a bit is a role's, and so is the bit
ends : (roles : ℕ) (order : List ℕ) → every (length order) (row_ends roles order) ≡ true → (r q : ℕ) → bit (get_or order r 0) q ≡ true → (r < roles) × (q < roles)
ends roles order h r q b = ⊎_elim inside outside (cases_lt r (length order))
  where
    row : ℕ
    row = get_or order r 0

    empty : row < 1 → (r < roles) × (q < roles)
    empty l = let z = low_bits row 0 q l b in absurd (omega arith)

    outside : length order ≤ r → (r < roles) × (q < roles)
    outside l = empty (let e : row ≡ 0 = get_or_past order r 0 l in omega arith)

    inside : r < length order → (r < roles) × (q < roles)
    inside l =
        let low : row < cond (ltb r roles) (2 ^ roles) 1 = ltb-true row (cond (ltb r roles) (2 ^ roles) 1) (every_at (length order) (row_ends roles order) h r l) in
        ⊎_elim
        (λ k. (k, low_bits row roles q (subst (λ (n : ℕ). row < n) (cond-true (ltb r roles) (2 ^ roles) 1 (lt-ltb r roles k)) low) b))
        (λ k. empty (subst (λ (n : ℕ). row < n) (cond-false (ltb r roles) (2 ^ roles) 1 (le-ltb r roles k)) low))
        (cases_lt r roles)

pub formed_well : (s : Contents) → formed s ≡ true → WellFormed (vocabulary_of s)
formed_well s h =
    let n = length s.concepts in
    let m = s.roles in
    let fit = λ (c : ℕ). operands_fit m c (get_or s.concepts c Atomic) in
    let halves = and_parts (lists_fit s) (roles_fit s) h in
    let l₁ = and_parts (leb n 1024) _ halves.0 in
    let l₂ = and_parts (leb (length s.inclusions) 4096) _ l₁.1 in
    let l₃ = and_parts (every n fit) (list_all (sides_fit n) s.inclusions) l₂.1 in
    let r₁ = and_parts (leb m 32) _ halves.1 in
    let r₂ = and_parts (every m (λ r. bit (get_or s.order r 0) r)) _ r₁.1 in
    let r₃ = and_parts (every m (λ r. every m (λ q. row_fits m s.order r q))) _ r₂.1 in
    let r₄ = and_parts (every (length s.order) (row_ends m s.order)) (ltb s.transitive (2 ^ m)) r₃.1 in
    let within = ends m s.order r₄.0 in
    record {
      both = λ c d e i.
          let t = and_parts (ltb d c) (ltb e c) (subst (λ (k : Concept). operands_fit m c k ≡ true) i.1 (every_at n fit l₃.0 c i.0)) in
          (ltb-true d c t.0, ltb-true e c t.1);
      some = λ c r d i.
          let t = and_parts (ltb r m) (ltb d c) (subst (λ (k : Concept). operands_fit m c k ≡ true) i.1 (every_at n fit l₃.0 c i.0)) in
          (ltb-true r m t.0, ltb-true d c t.1);
      stated = λ i k.
          let t = and_parts (ltb i.sub n) (ltb i.sup n) (all_at (sides_fit n) s.inclusions l₃.1 i k) in
          (ltb-true i.sub n t.0, ltb-true i.sup n t.1);
      few_concepts = leb-true n 1024 l₁.0;
      few_inclusions = leb-true (length s.inclusions) 4096 l₂.0;
      few_roles = leb-true m 32 r₁.0;
      reflexive = λ r l. every_at m (λ r. bit (get_or s.order r 0) r) r₂.0 r l;
      chains = λ r q t a b.
          let w = within r q a in
          let z = within q t b in
          let row = every_at m (λ q. row_fits m s.order r q) (every_at m (λ r. every m (λ q. row_fits m s.order r q)) r₃.0 r w.0) q w.1 in
          let up = if_at (bit (get_or s.order r 0) q) _ row a in
          if_at (bit (get_or s.order q 0) t) _ (every_at m _ up t z.1) b;
      on_roles = within;
      flagged = λ r b. low_bits s.transitive m r (ltb-true s.transitive (2 ^ m) r₄.1) b;
    }
