-- A line states an entry exactly where it is the entry's written form.
use Rattle.std.proofs.Common.{◌≡◌, ℕ, ◌+◌, ◌-◌, ◌≤◌, Bool, true, false, cond, eqb, ltb, ◌⊎◌, List, [], ◌∷◌, ◌++◌, length, get_or, take, drop, replicate, Some, None, Ok, Err, decimal, Option, Result, sym, refl, ap, ◌∙◌, subst, inl, inr, ⊎_elim, arith, length-append, length-drop, length-take}
use lib.ListN.{length-replicate}
use Rattle.std.proofs.lemmas.Fmt.{length-decimal-le}
use Rattle.std.proofs.lemmas.List.{take-append-le, drop-append-le, take-append-drop, take_all, drop_all, drop-drop, take_more, get_or-append_right}
use Rattle.std.proofs.lemmas.Bool.{eqb-true}
use Rattle.rejections.specs.declared.Rejection.TheVariants.{NoLineFeed}
use Rattle.terms.specs.declared.records.Concept.TheVariants as concept
use Rattle.terms.specs.declared.entry.Entry.{Entry}
use Rattle.terms.specs.declared.entry.Entry.TheVariants as entry
use Rattle.sheet.specs.declared.fault.LineFault.{LineFault}
use Rattle.sheet.specs.declared.kind.LineKind.{LineKind}
use Rattle.sheet.specs.declared.kind.LineKind.TheVariants as kind
use Rattle.sheet.specs.declared.line.Numbers.{Numbers}
use Rattle.sheet.specs.Columns.{blank, six_columns}
use Rattle.sheet.specs.Faults.{and_then, raised, placed, on_line, line_fault}
use Rattle.sheet.specs.Field.{Read, field_of}
use Rattle.sheet.specs.Line.{kind_of, count_of, as_wanted, field_at, numbers_of, three_of, entry_of, ended_by, kind_line, line_of}
use Rattle.sheet.specs.Written.{written, Small, LineLaw}
use Rattle.sheet.proofs.FieldsRead.{number_read, read_number, read_blank}

abbrev Field : Type 0
Field = Result ℕ LineFault

-- ---- lists in parts

pub front : (n : ℕ) (f g : List ℕ) → length f ≡ n → take n (f ++ g) ≡ f
front n f g e = take-append-le n f g (omega arith) ∙ take_all n f (omega arith)

pub behind : (n : ℕ) (f g : List ℕ) → length f ≡ n → drop n (f ++ g) ≡ g
behind n f g e = drop-append-le n f g (omega arith) ∙ ap (λ xs. xs ++ g) (drop_all n f (omega arith))

-- three parts of six
second : (f g h : List ℕ) → length f ≡ 6 → length g ≡ 6 → take 6 (drop 6 (f ++ (g ++ h))) ≡ g
second f g h lf lg = ap (take 6) (behind 6 f (g ++ h) lf) ∙ front 6 g h lg

third : (f g h : List ℕ) → length f ≡ 6 → length g ≡ 6 → length h ≡ 6 → take 6 (drop 12 (f ++ (g ++ h))) ≡ h
third f g h lf lg lh = ap (take 6) (sym (drop-drop 6 6 (f ++ (g ++ h))) ∙ ap (drop 6) (behind 6 f (g ++ h) lf) ∙ behind 6 g h lg) ∙ take_all 6 h (omega arith)

pub parted : (fs : List ℕ) → length fs ≡ 18 → fs ≡ take 6 fs ++ (take 6 (drop 6 fs) ++ take 6 (drop 12 fs))
parted fs e =
    sym (take-append-drop 6 fs)
    ∙ ap (λ xs. take 6 fs ++ xs) (sym (take-append-drop 6 (drop 6 fs)))
    ∙ ap (λ xs. take 6 fs ++ (take 6 (drop 6 fs) ++ xs)) (drop-drop 6 6 fs ∙ sym (take_all 6 (drop 12 fs) (simp length-drop (omega arith))))

pub six_long : (n : ℕ) → n ≤ 65535 → length (six_columns n) ≡ 6
unfolding six_columns
six_long n small =
    let few : length (decimal n) ≤ 5 = length-decimal-le 5 n (omega arith) (omega arith) (omega arith) in
    length-append (replicate (6 - length (decimal n)) 32) (decimal n) ∙ (let e : length (replicate (6 - length (decimal n)) 32) + length (decimal n) ≡ 6 = omega (arith, length-replicate {A = ℕ} (6 - length (decimal n)) 32) in e)

-- ---- what is written is read

fields_of : (n : ℕ) (f g h : List ℕ) (a b c : ℕ) → length f ≡ 6 → length g ≡ 6 → length h ≡ 6
    → field_at (ltb 0 n) 2 f ≡ Ok a → field_at (ltb 1 n) 8 g ≡ Ok b → field_at (ltb 2 n) 14 h ≡ Ok c
    → numbers_of n (f ++ (g ++ h)) ≡ Ok (record { first = a; second = b; third = c })
fields_of n f g h a b c lf lg lh p q r =
    let all = f ++ (g ++ h) in
    let x : field_at (ltb 0 n) 2 (take 6 all) ≡ Ok a = ap (field_at (ltb 0 n) 2) (front 6 f (g ++ h) lf) ∙ p in
    let y : field_at (ltb 1 n) 8 (take 6 (drop 6 all)) ≡ Ok b = ap (field_at (ltb 1 n) 8) (second f g h lf lg) ∙ q in
    let z : field_at (ltb 2 n) 14 (take 6 (drop 12 all)) ≡ Ok c = ap (field_at (ltb 2 n) 14) (third f g h lf lg lh) ∙ r in
    ap (λ (u : Field). three_of u (field_at (ltb 1 n) 8 (take 6 (drop 6 all))) (field_at (ltb 2 n) 14 (take 6 (drop 12 all)))) x
    ∙ ap (λ (u : Field). three_of (Ok a) u (field_at (ltb 2 n) 14 (take 6 (drop 12 all)))) y
    ∙ ap (λ (u : Field). three_of (Ok a) (Ok b) u) z

line_of_lem : (letter : ℕ) (k : LineKind) (f g h : List ℕ) (a b c : ℕ) → kind_of letter ≡ Some k → length f ≡ 6 → length g ≡ 6 → length h ≡ 6
    → field_at (ltb 0 (count_of k)) 2 f ≡ Ok a → field_at (ltb 1 (count_of k)) 8 g ≡ Ok b → field_at (ltb 2 (count_of k)) 14 h ≡ Ok c
    → line_of (letter ∷ ((f ++ (g ++ h)) ++ (10 ∷ []))) ≡ Ok (entry_of k (record { first = a; second = b; third = c }))
line_of_lem letter k f g h a b c p lf lg lh x y z =
    let all = f ++ (g ++ h) in
    let n : Numbers = record { first = a; second = b; third = c } in
    let long : length all ≡ 18 = simp length-append (omega arith) in
    let q : numbers_of (count_of k) (take 18 (all ++ (10 ∷ []))) ≡ Ok n = ap (numbers_of (count_of k)) (front 18 all (10 ∷ []) long) ∙ fields_of (count_of k) f g h a b c lf lg lh x y z in
    let feed : get_or (all ++ (10 ∷ [])) 18 0 ≡ 10 = get_or-append_right all (10 ∷ []) 18 18 0 long (omega arith) in
    ap (λ (o : Option LineKind). kind_line o (take 18 (all ++ (10 ∷ []))) (get_or (all ++ (10 ∷ [])) 18 0)) p
    ∙ ap (λ (r : Result Numbers LineFault). and_then r (λ m. ended_by (get_or (all ++ (10 ∷ [])) 18 0) (entry_of k m))) q
    ∙ ap (λ d. ended_by d (entry_of k n)) feed

number_field : (column n : ℕ) → n ≤ 65535 → field_at true column (six_columns n) ≡ Ok n
number_field column n small = ap (λ (r : Read). raised on_line (placed column (and_then r (as_wanted true)))) (number_read n small)

pub written_read : (e : Entry) → Small e → line_of (written e) ≡ Ok e
written_read (entry.Concept concept.Atomic) s = line_of_lem 65 kind.Atomic blank blank blank 0 0 0 refl refl refl refl refl refl refl
written_read (entry.Concept concept.Top) s = line_of_lem 84 kind.Top blank blank blank 0 0 0 refl refl refl refl refl refl refl
written_read (entry.Concept (concept.Conjunction c d)) s =
    line_of_lem 78 kind.Conjunction (six_columns c) (six_columns d) blank c d 0 refl (six_long c s.0) (six_long d s.1.0) refl (number_field 2 c s.0) (number_field 8 d s.1.0) refl
written_read (entry.Concept (concept.Restriction r c)) s =
    line_of_lem 69 kind.Restriction (six_columns r) (six_columns c) blank r c 0 refl (six_long r s.0) (six_long c s.1.0) refl (number_field 2 r s.0) (number_field 8 c s.1.0) refl
written_read entry.Role s = line_of_lem 82 kind.Role blank blank blank 0 0 0 refl refl refl refl refl refl refl
written_read (entry.Order r q) s =
    line_of_lem 73 kind.Order (six_columns r) (six_columns q) blank r q 0 refl (six_long r s.0) (six_long q s.1.0) refl (number_field 2 r s.0) (number_field 8 q s.1.0) refl
written_read (entry.Transitive r) s =
    line_of_lem 80 kind.Transitive (six_columns r) blank blank r 0 0 refl (six_long r s.0) refl refl (number_field 2 r s.0) refl refl
written_read (entry.Inclusion i) s =
    line_of_lem 83 kind.Inclusion (six_columns i.sub) (six_columns i.sup) (six_columns i.code) i.sub i.sup i.code refl
    (six_long i.sub s.0) (six_long i.sup s.1.0) (six_long i.code s.1.1.0)
    (number_field 2 i.sub s.0) (number_field 8 i.sup s.1.0) (number_field 14 i.code s.1.1.0)

-- ---- what is read was written

code_of : LineKind → ℕ
code_of kind.Atomic = 65
code_of kind.Top = 84
code_of kind.Conjunction = 78
code_of kind.Restriction = 69
code_of kind.Role = 82
code_of kind.Order = 73
code_of kind.Transitive = 80
code_of kind.Inclusion = 83

peel : (c d : ℕ) (j k : LineKind) (rest : Option LineKind) → cond (eqb c d) (Some j) rest ≡ Some k → ((c ≡ d) × (j ≡ k)) ⊎ (rest ≡ Some k)
peel c d j k rest e = at_test (eqb c d) (eqb-true c d) e
  where
    at_test : (b : Bool) → (b ≡ true → c ≡ d) → cond b (Some j) rest ≡ Some k → ((c ≡ d) × (j ≡ k)) ⊎ (rest ≡ Some k)
    at_test true f e = inl (f refl, cc)
    at_test false f e = inr e

kind_letter : (c : ℕ) (k : LineKind) → kind_of c ≡ Some k → c ≡ code_of k
unfolding code_of
kind_letter c k e =
    ⊎_elim (λ p. p.0 ∙ ap code_of p.1) (λ e.
    ⊎_elim (λ p. p.0 ∙ ap code_of p.1) (λ e.
    ⊎_elim (λ p. p.0 ∙ ap code_of p.1) (λ e.
    ⊎_elim (λ p. p.0 ∙ ap code_of p.1) (λ e.
    ⊎_elim (λ p. p.0 ∙ ap code_of p.1) (λ e.
    ⊎_elim (λ p. p.0 ∙ ap code_of p.1) (λ e.
    ⊎_elim (λ p. p.0 ∙ ap code_of p.1) (λ e.
    ⊎_elim (λ p. p.0 ∙ ap code_of p.1) (λ e. let z : ◌≡◌ {A = ℕ} 0 1 = cc in absurd (omega arith))
    (peel c 83 kind.Inclusion k _ e)) (peel c 80 kind.Transitive k _ e)) (peel c 73 kind.Order k _ e)) (peel c 82 kind.Role k _ e))
    (peel c 69 kind.Restriction k _ e)) (peel c 78 kind.Conjunction k _ e)) (peel c 84 kind.Top k _ e)) (peel c 65 kind.Atomic k _ e)

field_number : (column : ℕ) (cs : List ℕ) (x : ℕ) → length cs ≡ 6 → field_at true column cs ≡ Ok x → (cs ≡ six_columns x) × (x ≤ 65535)
field_number column cs x long e = read_number cs x long (at_read (field_of cs) e)
  where
    at_read : (r : Read) → raised on_line (placed column (and_then r (as_wanted true))) ≡ Ok x → r ≡ Ok (Some x)
    at_read (Ok (Some n)) e = cc
    at_read (Ok None) e = let z : ◌≡◌ {A = ℕ} 0 1 = cc in absurd (omega arith)
    at_read (Err y) e = let z : ◌≡◌ {A = ℕ} 0 1 = cc in absurd (omega arith)

field_blank : (column : ℕ) (cs : List ℕ) (x : ℕ) → length cs ≡ 6 → field_at false column cs ≡ Ok x → cs ≡ blank
field_blank column cs x long e = read_blank cs long (at_read (field_of cs) e)
  where
    at_read : (r : Read) → raised on_line (placed column (and_then r (as_wanted false))) ≡ Ok x → r ≡ Ok None
    at_read (Ok (Some n)) e = let z : ◌≡◌ {A = ℕ} 0 1 = cc in absurd (omega arith)
    at_read (Ok None) e = refl
    at_read (Err y) e = let z : ◌≡◌ {A = ℕ} 0 1 = cc in absurd (omega arith)

three_ok : (x y z : Field) (n : Numbers) → three_of x y z ≡ Ok n → (x ≡ Ok n.first) × (y ≡ Ok n.second) × (z ≡ Ok n.third)
three_ok (Ok a) (Ok b) (Ok c) n e =
    let p : record { first = a; second = b; third = c } ≡ n = cc in
    (ap (λ (m : Numbers). Ok m.first) p, ap (λ (m : Numbers). Ok m.second) p, ap (λ (m : Numbers). Ok m.third) p)
three_ok (Ok a) (Ok b) (Err c) n e = let z : ◌≡◌ {A = ℕ} 0 1 = cc in absurd (omega arith)
three_ok (Ok a) (Err b) z n e = let z : ◌≡◌ {A = ℕ} 0 1 = cc in absurd (omega arith)
three_ok (Err a) y z n e = let z : ◌≡◌ {A = ℕ} 0 1 = cc in absurd (omega arith)

same_line : (c : ℕ) {f g h f' g' h' : List ℕ} → f ≡ f' → g ≡ g' → h ≡ h' → c ∷ ((f ++ (g ++ h)) ++ (10 ∷ [])) ≡ c ∷ ((f' ++ (g' ++ h')) ++ (10 ∷ []))
same_line c p q r = cc

-- a line of a sort with its fields is the written form of what it states
line_written : (k : LineKind) (n : Numbers) (f g h : List ℕ) → length f ≡ 6 → length g ≡ 6 → length h ≡ 6
    → field_at (ltb 0 (count_of k)) 2 f ≡ Ok n.first → field_at (ltb 1 (count_of k)) 8 g ≡ Ok n.second → field_at (ltb 2 (count_of k)) 14 h ≡ Ok n.third
    → (code_of k ∷ ((f ++ (g ++ h)) ++ (10 ∷ [])) ≡ written (entry_of k n)) × Small (entry_of k n)
unfolding code_of
line_written kind.Atomic n f g h lf lg lh x y z = (same_line 65 (field_blank 2 f n.first lf x) (field_blank 8 g n.second lg y) (field_blank 14 h n.third lh z), tt)
line_written kind.Top n f g h lf lg lh x y z = (same_line 84 (field_blank 2 f n.first lf x) (field_blank 8 g n.second lg y) (field_blank 14 h n.third lh z), tt)
line_written kind.Conjunction n f g h lf lg lh x y z =
    let p = field_number 2 f n.first lf x in
    let q = field_number 8 g n.second lg y in
    (same_line 78 p.0 q.0 (field_blank 14 h n.third lh z), (p.1, (q.1, tt)))
line_written kind.Restriction n f g h lf lg lh x y z =
    let p = field_number 2 f n.first lf x in
    let q = field_number 8 g n.second lg y in
    (same_line 69 p.0 q.0 (field_blank 14 h n.third lh z), (p.1, (q.1, tt)))
line_written kind.Role n f g h lf lg lh x y z = (same_line 82 (field_blank 2 f n.first lf x) (field_blank 8 g n.second lg y) (field_blank 14 h n.third lh z), tt)
line_written kind.Order n f g h lf lg lh x y z =
    let p = field_number 2 f n.first lf x in
    let q = field_number 8 g n.second lg y in
    (same_line 73 p.0 q.0 (field_blank 14 h n.third lh z), (p.1, (q.1, tt)))
line_written kind.Transitive n f g h lf lg lh x y z =
    let p = field_number 2 f n.first lf x in
    (same_line 80 p.0 (field_blank 8 g n.second lg y) (field_blank 14 h n.third lh z), (p.1, tt))
line_written kind.Inclusion n f g h lf lg lh x y z =
    let p = field_number 2 f n.first lf x in
    let q = field_number 8 g n.second lg y in
    let r = field_number 14 h n.third lh z in
    (same_line 83 p.0 q.0 r.0, (p.1, (q.1, (r.1, tt))))

-- twenty columns are a letter, eighteen columns and one more
whole_line : (l : List ℕ) → length l ≡ 20 → l ≡ get_or l 0 0 ∷ (take 18 (drop 1 l) ++ (get_or l 19 0 ∷ []))
whole_line [] e = absurd (omega arith)
whole_line (x ∷ xs) e = ap (λ ys. x ∷ ys) (sym (take_all 19 xs (omega arith)) ∙ take_more xs 18 0 (omega arith))

-- the parts of a line that is read
record Parts (o : Option LineKind) (fs : List ℕ) (c : ℕ) (e : Entry) : Type 0 where
  sort : LineKind
  is_sort : o ≡ Some sort
  numbers : Numbers
  are_numbers : numbers_of (count_of sort) fs ≡ Ok numbers
  feed : c ≡ 10
  states : entry_of sort numbers ≡ e

parts : (o : Option LineKind) (fs : List ℕ) (c : ℕ) (e : Entry) → kind_line o fs c ≡ Ok e → Parts o fs c e
parts None fs c e h = let z : ◌≡◌ {A = ℕ} 0 1 = cc in absurd (omega arith)
parts (Some k) fs c e h = at_numbers (numbers_of (count_of k) fs) refl h
  where
    at_feed : (n : Numbers) (b : Bool) → (b ≡ true → c ≡ 10) → numbers_of (count_of k) fs ≡ Ok n
        → ◌≡◌ {A = Result Entry LineFault} (cond b (Ok (entry_of k n)) (Err (line_fault NoLineFeed 20))) (Ok e) → Parts (Some k) fs c e
    at_feed n true f p h = record { sort = k; is_sort = refl; numbers = n; are_numbers = p; feed = f refl; states = cc }
    at_feed n false f p h = let z : ◌≡◌ {A = ℕ} 0 1 = cc in absurd (omega arith)

    at_numbers : (r : Result Numbers LineFault) → numbers_of (count_of k) fs ≡ r → and_then r (λ n. ended_by c (entry_of k n)) ≡ Ok e → Parts (Some k) fs c e
    at_numbers (Ok n) p h = at_feed n (eqb c 10) (eqb-true c 10) p h
    at_numbers (Err x) p h = let z : ◌≡◌ {A = ℕ} 0 1 = cc in absurd (omega arith)

pub read_written : (l : List ℕ) (e : Entry) → length l ≡ 20 → line_of l ≡ Ok e → (l ≡ written e) × Small e
read_written l e long h =
    let p = parts (kind_of (get_or l 0 0)) (take 18 (drop 1 l)) (get_or l 19 0) e h in
    let k = p.sort in
    let n = p.numbers in
    let fs = take 18 (drop 1 l) in
    let lfs : length fs ≡ 18 = simp (length-take, length-drop) (omega arith) in
    let t = three_ok (field_at (ltb 0 (count_of k)) 2 (take 6 fs)) (field_at (ltb 1 (count_of k)) 8 (take 6 (drop 6 fs))) (field_at (ltb 2 (count_of k)) 14 (take 6 (drop 12 fs))) n p.are_numbers in
    let w = line_written k n (take 6 fs) (take 6 (drop 6 fs)) (take 6 (drop 12 fs))
    (simp (length-take, length-drop) (omega arith)) (simp (length-take, length-drop) (omega arith)) (simp (length-take, length-drop) (omega arith)) t.0 t.1 t.2 in
    let q : l ≡ code_of k ∷ ((take 6 fs ++ (take 6 (drop 6 fs) ++ take 6 (drop 12 fs))) ++ (10 ∷ [])) =
    whole_line l long
    ∙ ap (λ c. c ∷ (fs ++ (get_or l 19 0 ∷ []))) (kind_letter (get_or l 0 0) k p.is_sort)
    ∙ ap (λ c. code_of k ∷ (fs ++ (c ∷ []))) p.feed
    ∙ ap (λ xs. code_of k ∷ (xs ++ (10 ∷ []))) (parted fs lfs) in
    (q ∙ w.0 ∙ ap written p.states, subst Small p.states w.1)

pub line_law : (l : List ℕ) → length l ≡ 20 → LineLaw l (line_of l)
line_law l long e = (λ h. read_written l e long h, λ h. ap line_of h.0 ∙ written_read e h.1)
