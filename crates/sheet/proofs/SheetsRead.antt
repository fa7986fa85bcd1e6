-- A text is read exactly where it is the written form of entries that may each come where they stand.
use Rattle.std.proofs.Common.{◌≡◌, ℕ, zero, suc, ◌+◌, ◌*◌, ◌/◌, ◌%◌, Bool, true, false, cond, eqb, List, [], ◌∷◌, ◌++◌, map, length, take, drop, Ok, Err, Result, sym, refl, ap, ◌∙◌, subst, arith, length-append, length-drop, length-take}
use Rattle.std.specs.Simd.{first_chunks}
use Rattle.std.proofs.lemmas.List.{take-append-drop, nil_from_length}
use Rattle.std.proofs.lemmas.Bool.{cond-true, eq-eqb, eqb-true}
use Rattle.terms.specs.declared.entry.Entry.{Entry}
use Rattle.terms.specs.declared.tally.Room.{Room}
use Rattle.terms.specs.declared.tally.Tally.{Tally}
use Rattle.terms.specs.Counting.{Verdict, verdict_of, counted, none_of, AllAllowed}
use Rattle.terms.specs.Contents.{nothing, vocabulary_of}
use Rattle.terms.specs.Entries.{with_entries}
use Rattle.terms.specs.Statements.{Says}
use Rattle.terms.specs.Vocabularies.{Vocabulary}
use Rattle.terms.proofs.Allowing.{allows, allowed_ok}
use Rattle.terms.proofs.Stated.{entries_say}
use Rattle.sheet.specs.declared.fault.Fault.{Fault}
use Rattle.sheet.specs.declared.fault.LineFault.{LineFault}
use Rattle.sheet.specs.Columns.{blank, six_columns}
use Rattle.sheet.specs.Faults.{and_then, raised, placed, in_sheet, blamed, unfinished}
use Rattle.sheet.specs.Line.{line_of}
use Rattle.sheet.specs.Sheet.{lines_in, allowed_at, count_lines, sheet_of, stated_by, entries_of}
use Rattle.sheet.specs.Written.{numbers_in, fields_for, written, written_all, AllSmall, Small, EachSmall, Writes, ReadAs, ReadAsNone}
use Rattle.sheet.proofs.LinesRead.{front, behind, six_long, written_read, read_written}
use Rattle.sheet.proofs.Taking.{step_ok}

-- ---- a text in its lines

joined : List (List ℕ) → List ℕ
joined [] = []
joined (l ∷ ls) = l ++ joined ls

AllLong : List (List ℕ) → Type 0
AllLong [] = Unit {0}
AllLong (l ∷ ls) = (length l ≡ 20) × AllLong ls

lines_joined : (k : ℕ) (xs : List ℕ) → length xs ≡ k * 20 → (joined (first_chunks 20 k xs) ≡ xs) × AllLong (first_chunks 20 k xs)
unfolding joined AllLong
lines_joined zero xs e = (sym (nil_from_length xs (omega arith)), tt)
lines_joined (suc k) xs e =
    let h = lines_joined k (drop 20 xs) (simp length-drop (omega arith)) in
    (ap (λ ys. take 20 xs ++ ys) h.0 ∙ take-append-drop 20 xs, (simp length-take (omega arith), h.1))

-- ---- what is read was written

-- lines that are all read
record Whole (t : Tally) (ls : List (List ℕ)) : Type 0 where
  form : joined ls ≡ written_all (entries_of ls)
  small : EachSmall (entries_of ls)
  allowed : AllAllowed t (entries_of ls)
  many : length (entries_of ls) ≡ length ls

whole : (k : ℕ) (ls : List (List ℕ)) (t u : Tally) → AllLong ls → count_lines k ls t ≡ Ok u → Whole t ls
unfolding joined AllLong
whole k [] t u long h = record { form = refl; small = tt; allowed = tt; many = refl }
whole k (l ∷ ls) t u long h = at_line (λ s. whole (k + 1) ls s u long.1) (line_of l) refl h
  where
    with_entry_lem : (e : Entry) → line_of l ≡ Ok e → verdict_of t e ≡ Ok tt → Whole (counted e t) ls → Whole t (l ∷ ls)
    with_entry_lem e p v w =
        let q = read_written l e long.0 p in
        let s : entries_of (l ∷ ls) ≡ e ∷ entries_of ls = ap (λ (r : Result Entry LineFault). stated_by r ++ entries_of ls) p in
        record {
          form = ap (λ xs. xs ++ joined ls) q.0 ∙ ap (λ xs. written e ++ xs) w.form ∙ ap written_all (sym s);
          small = subst EachSmall (sym s) (q.1, w.small);
          allowed = subst (AllAllowed t) (sym s) (allows t e v, w.allowed);
          many = ap length s ∙ ap suc w.many;
        }

    at_verdict : ((s : Tally) → count_lines (k + 1) ls s ≡ Ok u → Whole s ls) → (e : Entry) → line_of l ≡ Ok e → (v : Verdict) → verdict_of t e ≡ v
        → and_then (and_then (raised blamed (placed k v)) (λ _. Ok (counted e t))) (λ s. count_lines (k + 1) ls s) ≡ Ok u → Whole t (l ∷ ls)
    at_verdict ih e p (Ok x) q h = with_entry_lem e p q (ih (counted e t) h)
    at_verdict ih e p (Err x) q h = let z : ◌≡◌ {A = ℕ} 0 1 = cc in absurd (omega arith)

    at_line : ((s : Tally) → count_lines (k + 1) ls s ≡ Ok u → Whole s ls) → (r : Result Entry LineFault) → line_of l ≡ r
        → and_then (and_then (raised in_sheet (placed k r)) (λ e. and_then (allowed_at k t e) (λ _. Ok (counted e t)))) (λ s. count_lines (k + 1) ls s) ≡ Ok u → Whole t (l ∷ ls)
    at_line ih (Ok e) p h = at_verdict ih e p (verdict_of t e) refl h
    at_line ih (Err x) p h = let z : ◌≡◌ {A = ℕ} 0 1 = cc in absurd (omega arith)

count_ok : (r : Result Tally Fault) (n m : ℕ) → ◌≡◌ {A = Result ℕ Fault} (and_then r (λ _. Ok m)) (Ok n) → (t : Tally) × (r ≡ Ok t) × (n ≡ m)
count_ok (Ok t) n m e = (t, refl, cc)
count_ok (Err f) n m e = let z : ◌≡◌ {A = ℕ} 0 1 = cc in absurd (omega arith)

-- an accepted text has whole lines, which are all read
accepted : (m : Room) (text : List ℕ) (n : ℕ) → sheet_of m text ≡ Ok n
    → (length text % 20 ≡ 0) × ((t : Tally) × (count_lines 1 (lines_in text) (none_of m) ≡ Ok t) × (n ≡ length text / 20))
accepted m text n e = at_test (eqb (length text % 20) 0) (eqb-true (length text % 20) 0) e
  where
    at_test : (b : Bool) → (b ≡ true → length text % 20 ≡ 0)
        → cond b (and_then (count_lines 1 (lines_in text) (none_of m)) (λ _. Ok (length text / 20))) (Err (unfinished (length text / 20 + 1))) ≡ Ok n
        → (length text % 20 ≡ 0) × ((t : Tally) × (count_lines 1 (lines_in text) (none_of m) ≡ Ok t) × (n ≡ length text / 20))
    at_test true f e = (f refl, count_ok (count_lines 1 (lines_in text) (none_of m)) n (length text / 20) e)
    at_test false f e = let z : ◌≡◌ {A = ℕ} 0 1 = cc in absurd (omega arith)

pub length_lines : (k : ℕ) (xs : List ℕ) → length (first_chunks 20 k xs) ≡ k
length_lines zero xs = refl
length_lines (suc k) xs = ap suc (length_lines k (drop 20 xs))

pub writes_of : (m : Room) (text : List ℕ) (n : ℕ) → sheet_of m text ≡ Ok n → Writes m text (entries_of (lines_in text)) × (n ≡ length (entries_of (lines_in text)))
writes_of m text n e =
    let a = accepted m text n e in
    let k = length text / 20 in
    let j = lines_joined k text (omega (arith, a.0)) in
    let w = whole 1 (lines_in text) (none_of m) a.1.0 j.1 a.1.1 in
    (record { form = sym j.0 ∙ w.form; small = w.small; allowed = w.allowed }, a.1.2 ∙ sym (w.many ∙ length_lines k text))

-- ---- what is written is read

fields_long : (ns : List ℕ) → AllSmall ns → length (fields_for ns) ≡ 18
fields_long [] s = refl
fields_long (a ∷ []) s = length-append (six_columns a) (blank ++ blank) ∙ ap (λ n. n + 12) (six_long a s.0)
fields_long (a ∷ b ∷ []) s =
    length-append (six_columns a) (six_columns b ++ blank)
    ∙ (let e : length (six_columns a) + length (six_columns b ++ blank) ≡ 18 = omega (arith, length-append (six_columns b) blank, six_long a s.0, six_long b s.1.0) in e)
fields_long (a ∷ b ∷ c ∷ ns) s =
    length-append (six_columns a) (six_columns b ++ six_columns c)
    ∙ (let e : length (six_columns a) + length (six_columns b ++ six_columns c) ≡ 18 = omega (arith, length-append (six_columns b) (six_columns c), six_long a s.0, six_long b s.1.0, six_long c s.1.1.0) in e)

written_long : (e : Entry) → Small e → length (written e) ≡ 20
written_long e s = ap suc (length-append (fields_for (numbers_in e)) (10 ∷ []) ∙ ap (λ n. n + 1) (fields_long (numbers_in e) s))

all_long : (es : List Entry) → EachSmall es → length (written_all es) ≡ length es * 20
all_long [] s = refl
all_long (e ∷ es) s = let k : length (written e) + length (written_all es) ≡ suc (length es) * 20 = omega (arith, written_long e s.0, all_long es s.1) in length-append (written e) (written_all es) ∙ k

lines_back : (es : List Entry) → EachSmall es → first_chunks 20 (length es) (written_all es) ≡ map written es
lines_back [] s = refl
lines_back (e ∷ es) s =
    ap (λ xs. xs ∷ first_chunks 20 (length es) (drop 20 (written_all (e ∷ es)))) (front 20 (written e) (written_all es) (written_long e s.0))
    ∙ ap (λ xs. written e ∷ first_chunks 20 (length es) xs) (behind 20 (written e) (written_all es) (written_long e s.0))
    ∙ ap (λ xs. written e ∷ xs) (lines_back es s.1)

entries_back : (es : List Entry) → EachSmall es → entries_of (map written es) ≡ es
entries_back [] s = refl
entries_back (e ∷ es) s = ap (λ (r : Result Entry LineFault). stated_by r ++ entries_of (map written es)) (written_read e s.0) ∙ ap (λ xs. e ∷ xs) (entries_back es s.1)

count_back : (k : ℕ) (es : List Entry) (t : Tally) → EachSmall es → AllAllowed t es → (u : Tally) × (count_lines k (map written es) t ≡ Ok u)
count_back k [] t s a = (t, refl)
count_back k (e ∷ es) t s a =
    let h = count_back (k + 1) es (counted e t) s.1 a.1 in
    (h.0, ap (λ (r : Result Tally Fault). and_then r (λ u. count_lines (k + 1) (map written es) u)) (step_ok k (written e) t e (written_read e s.0) (allowed_ok t e a.0)) ∙ h.1)

-- the lines of a written text
lines_written : (text : List ℕ) (es : List Entry) → text ≡ written_all es → EachSmall es → (length text ≡ length es * 20) × (lines_in text ≡ map written es)
lines_written text es p s =
    let long : length text ≡ length es * 20 = ap length p ∙ all_long es s in
    let k : length text / 20 ≡ length es = omega arith in
    (long, ap (λ n. first_chunks 20 n text) k ∙ ap (first_chunks 20 (length es)) p ∙ lines_back es s)

pub entries_only : (text : List ℕ) (es : List Entry) → text ≡ written_all es → EachSmall es → es ≡ entries_of (lines_in text)
entries_only text es p s = sym (ap entries_of (lines_written text es p s).1 ∙ entries_back es s)

pub accepts : (m : Room) (text : List ℕ) (es : List Entry) → Writes m text es → sheet_of m text ≡ Ok (length text / 20)
accepts m text es w =
    let l = lines_written text es w.form w.small in
    let c = count_back 1 es (none_of m) w.small w.allowed in
    cond-true (eqb (length text % 20) 0) _ _ (eq-eqb (length text % 20) 0 (omega (arith, l.0)))
    ∙ ap (λ (r : Result Tally Fault). and_then r (λ _. Ok (length text / 20))) (ap (λ ls. count_lines 1 ls (none_of m)) l.1 ∙ c.1)

-- a text with a fault is the written form of no such entries
pub refuses : (m : Room) (text : List ℕ) (f : Fault) → sheet_of m text ≡ Err f → ReadAsNone m text
refuses m text f e es w = let a = accepts m text es w in let z : ◌≡◌ {A = ℕ} 0 1 = cc in omega arith

pub reads_as : (m : Room) (text : List ℕ) (n : ℕ) (v : Vocabulary) → sheet_of m text ≡ Ok n → v ≡ vocabulary_of (with_entries (entries_of (lines_in text)) nothing) → ReadAs m text n v
reads_as m text n v e p =
    let w = writes_of m text n e in
    record {
      entries = entries_of (lines_in text);
      writes = w.0;
      lines = w.1;
      says = subst (Says (entries_of (lines_in text))) (sym p) (entries_say m (entries_of (lines_in text)) w.0.allowed);
      only = λ es x. entries_only text es x.form x.small;
    }
