-- Taking what lines state, one after another.
use Rattle.std.proofs.Common.{◌≡◌, ℕ, ◌+◌, ◌<◌, List, [], ◌∷◌, ◌++◌, length, get_or, take, drop, Ok, Result, sym, refl, ap, ◌∙◌, subst, append_assoc}
use Rattle.std.proofs.lemmas.List.{at_drop_more, take_more, append-nil}
use Rattle.terms.specs.declared.entry.Entry.{Entry}
use Rattle.terms.specs.declared.tally.Tally.{Tally}
use Rattle.terms.specs.Counting.{Verdict, verdict_of, counted}
use Rattle.sheet.specs.declared.fault.Fault.{Fault}
use Rattle.sheet.specs.declared.fault.LineFault.{LineFault}
use Rattle.sheet.specs.Faults.{and_then, raised, placed, in_sheet, blamed}
use Rattle.sheet.specs.Line.{line_of}
use Rattle.sheet.specs.Sheet.{allowed_at, line_step, count_lines, stated_by, entries_of, TookEntries, none, more}

-- ---- one line

pub step_ok : (k : ℕ) (l : List ℕ) (t : Tally) (e : Entry) → line_of l ≡ Ok e → verdict_of t e ≡ Ok tt → line_step k l t ≡ Ok (counted e t)
step_ok k l t e p q =
    ap (λ (r : Result Entry LineFault). and_then (raised in_sheet (placed k r)) (λ x. and_then (allowed_at k t x) (λ _. Ok (counted x t)))) p
    ∙ ap (λ (v : Verdict). and_then (raised blamed (placed k v)) (λ _. Ok (counted e t))) q

-- ---- the counts, line by line

count_next : (k : ℕ) (ls : List (List ℕ)) (i : ℕ) (t : Tally) → i < length ls
    → count_lines k (drop i ls) t ≡ and_then (line_step k (get_or ls i []) t) (λ u. count_lines (k + 1) (drop (i + 1) ls) u)
count_next k ls i t h = at_drop_more (λ xs. count_lines k xs t) ls i [] h

pub count_on : (k : ℕ) (ls : List (List ℕ)) (i : ℕ) (t u : Tally) → i < length ls → line_step k (get_or ls i []) t ≡ Ok u
    → count_lines k (drop i ls) t ≡ count_lines (k + 1) (drop (i + 1) ls) u
count_on k ls i t u h e = count_next k ls i t h ∙ ap (λ (r : Result Tally Fault). and_then r (λ x. count_lines (k + 1) (drop (i + 1) ls) x)) e

-- ---- the entries, line by line

entries_on : (ls ms : List (List ℕ)) → entries_of (ls ++ ms) ≡ entries_of ls ++ entries_of ms
entries_on [] ms = refl
entries_on (l ∷ ls) ms = ap (λ es. stated_by (line_of l) ++ es) (entries_on ls ms) ∙ sym (append_assoc (stated_by (line_of l)) (entries_of ls) (entries_of ms))

entries_push : (ls : List (List ℕ)) (i : ℕ) (e : Entry) → i < length ls → line_of (get_or ls i []) ≡ Ok e
    → entries_of (take (i + 1) ls) ≡ entries_of (take i ls) ++ (e ∷ [])
entries_push ls i e h p =
    ap entries_of (take_more ls i [] h) ∙ entries_on (take i ls) (get_or ls i [] ∷ [])
    ∙ ap (λ es. entries_of (take i ls) ++ es) (append-nil (stated_by (line_of (get_or ls i []))) ∙ ap stated_by p)

took_push : {S : Type 0} {grows : Entry → S → S → Type 0} {es : List Entry} {s t : S} (e : Entry) (u : S) → TookEntries grows es s t → grows e t u → TookEntries grows (es ++ (e ∷ [])) s u
took_push e u none g = more g none
took_push e u (more h k) g = more h (took_push e u k g)

pub took_more : {S : Type 0} (grows : Entry → S → S → Type 0) (ls : List (List ℕ)) (i : ℕ) (e : Entry) (s t u : S) → i < length ls → line_of (get_or ls i []) ≡ Ok e
    → TookEntries grows (entries_of (take i ls)) s t → grows e t u → TookEntries grows (entries_of (take (i + 1) ls)) s u
took_more grows ls i e s t u h p k g = subst (λ es. TookEntries grows es s u) (sym (entries_push ls i e h p)) (took_push e u k g)
