-- What a field says: its columns are a number after spaces, or spaces alone.
use Rattle.std.proofs.Common.{◌≡◌, ℕ, zero, suc, ◌+◌, ◌-◌, ◌*◌, ◌/◌, ◌%◌, ◌^◌, ◌<◌, ◌≤◌, Bool, true, false, cond, ◌&&◌, eqb, ltb, leb, List, [], ◌∷◌, ◌++◌, length, replicate, Some, None, Ok, Err, decimal, Option, sym, refl, ap, ◌∙◌, subst, append_assoc, arith, length-append}
use lib.ListN.{length-replicate}
use Rattle.std.proofs.lemmas.Nat.{div-mul-add, mod-mul-add, div-add-mod'}
use Rattle.std.proofs.lemmas.Fmt.{decimal_digit, decimal_step, decimal_by_steps}
use Rattle.std.proofs.lemmas.List.{append-nil}
use Rattle.std.proofs.lemmas.Bool.{le-leb, lt-ltb, ne_eqb, leb-true, ltb-true, eqb-true, and_parts, and_from, cond-true, cond-false}
use Rattle.sheet.specs.Field.{Read, no_field, is_digit, column_of, scan, field_of}
use Rattle.sheet.specs.Columns.{blank, six_columns}
use Rattle.sheet.specs.Written.{FieldLaw}
use Rattle.sheet.specs.Faults.{and_then}

-- ---- a number is read

digit_is : (d : ℕ) → d < 10 → is_digit (48 + d) ≡ true
digit_is d h = and_from (leb 48 (48 + d)) (leb (48 + d) 57) (le-leb 48 (48 + d) (omega arith)) (le-leb (48 + d) 57 (omega arith))

first_digit : (d : ℕ) → d < 10 → column_of None (48 + d) ≡ Ok (Some d)
first_digit d h =
    cond-false (eqb (48 + d) 32) _ _ (ne_eqb (48 + d) 32 (λ e. omega arith))
    ∙ cond-true (is_digit (48 + d)) _ _ (digit_is d h)
    ∙ ap (λ n. Ok (Some n)) (let e : 48 + d - 48 ≡ d = omega arith in e)

more_digit : (m d : ℕ) → d < 10 → 0 < m → m * 10 + d ≤ 65535 → column_of (Some m) (48 + d) ≡ Ok (Some (m * 10 + d))
more_digit m d h pos small =
    let e : 48 + d - 48 ≡ d = omega arith in
    cond-true (is_digit (48 + d) && (ltb 0 m && leb (m * 10 + (48 + d - 48)) 65535)) _ _
    (and_from _ _ (digit_is d h) (and_from _ _ (lt-ltb 0 m pos) (le-leb (m * 10 + (48 + d - 48)) 65535 (omega arith))))
    ∙ ap (λ n. Ok (Some (m * 10 + n))) e

scan_on : (v : Option ℕ) (xs ys : List ℕ) → scan v (xs ++ ys) ≡ and_then (scan v xs) (λ w. scan w ys)
scan_on v [] ys = refl
scan_on v (x ∷ xs) ys = at_column (λ w. scan_on w xs ys) (column_of v x)
  where
    at_column : ((w : Option ℕ) → scan w (xs ++ ys) ≡ and_then (scan w xs) (λ u. scan u ys)) → (r : Read) → and_then r (λ w. scan w (xs ++ ys)) ≡ and_then (and_then r (λ w. scan w xs)) (λ w. scan w ys)
    at_column ih (Ok w) = ih w
    at_column ih (Err e) = refl

scan_decimal : (n : ℕ) → n < 2 ^ 64 → n ≤ 65535 → scan None (decimal n) ≡ Ok (Some n)
scan_decimal n big = decimal_by_steps (λ m ds. m ≤ 65535 → scan None ds ≡ Ok (Some m))
    (λ m h _. ap (λ (r : Read). and_then r (λ w. scan w [])) (first_digit m h))
    (λ m ds h ih small.
    let q = div-add-mod' m 10 in
    scan_on None ds ((48 + m % 10) ∷ [])
    ∙ ap (λ (r : Read). and_then r (λ w. scan w ((48 + m % 10) ∷ []))) (ih (omega arith))
    ∙ ap (λ (r : Read). and_then r (λ w. scan w [])) (more_digit (m / 10) (m % 10) (omega arith) (omega arith) (omega (arith, q)))
    ∙ ap (λ x. Ok (Some x)) q)
    n big

spaces : (k : ℕ) (xs : List ℕ) → scan None (replicate k 32 ++ xs) ≡ scan None xs
spaces zero xs = refl
spaces (suc k) xs = spaces k xs

blanks : (k : ℕ) → scan None (replicate k 32) ≡ Ok None
blanks zero = refl
blanks (suc k) = blanks k

-- ---- and nothing else is

bad : {P : Type 0} (n : Option ℕ) → ◌≡◌ {A = Read} no_field (Ok n) → P
bad n e = let z : ◌≡◌ {A = ℕ} 0 1 = cc in absurd (omega arith)

decimal_more : (m c : ℕ) → 0 < m → m ≤ 65535 → 48 ≤ c → c ≤ 57 → decimal (m * 10 + (c - 48)) ≡ decimal m ++ (c ∷ [])
decimal_more m c pos small lo hi =
    decimal_step (m * 10 + (c - 48)) (omega arith) (omega arith)
    ∙ ap (λ x. decimal x ++ ((48 + (m * 10 + (c - 48)) % 10) ∷ [])) (div-mul-add m 10 (c - 48) (omega arith))
    ∙ ap (λ x. decimal m ++ (x ∷ [])) (let e : 48 + (m * 10 + (c - 48)) % 10 ≡ c = omega (arith, mod-mul-add m 10 (c - 48) (omega arith)) in e)

-- after a number m: the rest are its further digits
after_number : (cs : List ℕ) (m : ℕ) (v : Option ℕ) → m ≤ 65535 → scan (Some m) cs ≡ Ok v
    → (n : ℕ) × (v ≡ Some n) × (n ≤ 65535) × (decimal m ++ cs ≡ decimal n)
after_number [] m v small e = (m, sym (cc), small, append-nil (decimal m))
after_number (c ∷ cs) m v small e = at_test (λ k. after_number cs k v) (is_digit c && (ltb 0 m && leb (m * 10 + (c - 48)) 65535)) refl e
  where
    at_test : ((k : ℕ) → k ≤ 65535 → scan (Some k) cs ≡ Ok v → (n : ℕ) × (v ≡ Some n) × (n ≤ 65535) × (decimal k ++ cs ≡ decimal n))
        → (b : Bool) → (is_digit c && (ltb 0 m && leb (m * 10 + (c - 48)) 65535)) ≡ b
        → and_then (cond b (Ok (Some (m * 10 + (c - 48)))) no_field) (λ w. scan w cs) ≡ Ok v
        → (n : ℕ) × (v ≡ Some n) × (n ≤ 65535) × (decimal m ++ (c ∷ cs) ≡ decimal n)
    at_test ih false p e = bad v e
    at_test ih true p e =
        let h = and_parts (is_digit c) _ p in
        let d = and_parts (leb 48 c) (leb c 57) h.0 in
        let g = and_parts (ltb 0 m) (leb (m * 10 + (c - 48)) 65535) h.1 in
        let r = ih (m * 10 + (c - 48)) (leb-true (m * 10 + (c - 48)) 65535 g.1) e in (
          r.0,
          r.1,
          r.2,
          sym (append_assoc (decimal m) (c ∷ []) cs)
              ∙ ap (λ ds. ds ++ cs) (sym (decimal_more m c (ltb-true 0 m g.0) small (leb-true 48 c d.0) (leb-true c 57 d.1)))
              ∙ r.3,
        )

-- what a field says: a number after spaces, or spaces alone
data Said : List ℕ → Option ℕ → Type 0 where
  a_number : (k n : ℕ) (cs : List ℕ) → n ≤ 65535 → cs ≡ replicate k 32 ++ decimal n → Said cs (Some n)
  nothing : (cs : List ℕ) → cs ≡ replicate (length cs) 32 → Said cs None

more_space : {cs : List ℕ} {v : Option ℕ} (c : ℕ) → c ≡ 32 → Said cs v → Said (c ∷ cs) v
more_space c e (a_number k n cs small p) = a_number (suc k) n (c ∷ cs) small (ap (λ x. x ∷ cs) e ∙ ap (λ xs. 32 ∷ xs) p)
more_space c e (nothing cs p) = nothing (c ∷ cs) (ap (λ x. x ∷ cs) e ∙ ap (λ xs. 32 ∷ xs) p)

said : (cs : List ℕ) (v : Option ℕ) → scan None cs ≡ Ok v → Said cs v
said [] v e = let p : None ≡ v = cc in subst (Said []) p (nothing [] refl)
said (c ∷ cs) v e = at_space (said cs v) (eqb c 32) refl e
  where
    at_digit : (b : Bool) → is_digit c ≡ b → and_then (cond b (Ok (Some (c - 48))) no_field) (λ w. scan w cs) ≡ Ok v → Said (c ∷ cs) v
    at_digit false p e = bad v e
    at_digit true p e =
        let d = and_parts (leb 48 c) (leb c 57) p in
        let lo = leb-true 48 c d.0 in
        let hi = leb-true c 57 d.1 in
        let r = after_number cs (c - 48) v (omega arith) e in
        let one : decimal (c - 48) ≡ c ∷ [] = decimal_digit (c - 48) (omega arith) ∙ ap (λ x. x ∷ []) (let q : 48 + (c - 48) ≡ c = omega arith in q) in
        subst (Said (c ∷ cs)) (sym r.1) (a_number 0 r.0 (c ∷ cs) r.2 (ap (λ ds. ds ++ cs) (sym one) ∙ r.3))

    at_space : (scan None cs ≡ Ok v → Said cs v) → (b : Bool) → eqb c 32 ≡ b → and_then (cond b (Ok None) (cond (is_digit c) (Ok (Some (c - 48))) no_field)) (λ w. scan w cs) ≡ Ok v → Said (c ∷ cs) v
    at_space ih true p e = more_space c (eqb-true c 32 p) (ih e)
    at_space ih false p e = at_digit (is_digit c) refl e

said_number : {cs : List ℕ} {n : ℕ} → Said cs (Some n) → (n ≤ 65535) × ((k : ℕ) × (cs ≡ replicate k 32 ++ decimal n))
said_number (a_number k n cs small p) = (small, (k, p))

said_blank : {cs : List ℕ} → Said cs None → cs ≡ replicate (length cs) 32
said_blank (nothing cs p) = p

-- ---- six columns

pub number_read : (n : ℕ) → n ≤ 65535 → field_of (six_columns n) ≡ Ok (Some n)
unfolding six_columns
number_read n small = spaces (6 - length (decimal n)) (decimal n) ∙ scan_decimal n (omega arith) small

pub read_number : (cs : List ℕ) (n : ℕ) → length cs ≡ 6 → field_of cs ≡ Ok (Some n) → (cs ≡ six_columns n) × (n ≤ 65535)
unfolding six_columns
read_number cs n long e =
    let h = said_number (said cs (Some n) e) in
    let k : h.1.0 ≡ 6 - length (decimal n) = omega (arith, ap length h.1.1, length-append (replicate h.1.0 32) (decimal n), length-replicate {A = ℕ} h.1.0 32) in
    (subst (λ q. cs ≡ replicate q 32 ++ decimal n) k h.1.1, h.0)

pub blank_read : field_of blank ≡ Ok None
blank_read = refl

pub read_blank : (cs : List ℕ) → length cs ≡ 6 → field_of cs ≡ Ok None → cs ≡ blank
read_blank cs long e = said_blank (said cs None e) ∙ ap (λ n. replicate n 32) long

pub field_law : (cs : List ℕ) → FieldLaw cs (field_of cs)
field_law cs = record {
  number = λ n long. (λ e. read_number cs n long e, λ h. ap field_of h.0 ∙ number_read n h.1);
  nothing = λ long. (λ e. read_blank cs long e, λ h. ap field_of h);
}
