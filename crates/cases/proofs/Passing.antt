-- Each case, as a test that computes.
use Rattle.std.proofs.Common.{◌≡◌, ℕ, suc, ◌<◌, Bool, true, false, cond, not, ◌&&◌, ◌||◌, eqb, ltb, List, [], ◌∷◌, map, length, get_or, Ok, Err, Decides, Result, sym, refl, ap, subst, subst₂, inl, inr, arith}
use mathlib.Core.List.Memᴰ
use mathlib.Core.List.{Memᴰ}
use Rattle.std.specs.List.{list_all, range_with_len}
use Rattle.std.proofs.lemmas.List.FromFn.{get_or-map-range_with_len}
use Rattle.std.proofs.lemmas.Bool.{and_parts, and_from, or_cases, ltb-true, eqb-true, false≢true, not_from_false, cases_Bool}
use Rattle.std.proofs.lemmas.Bool.Decides.{Decides-at, Decides-eqb, Decides-not, Decides-and}
use Rattle.rejections.specs.declared.Rejection.{Rejection}
use Rattle.rejections.specs.declared.Rejection.TheVariants.{NoSuchConcept}
use Rattle.lemmas.specs.Tests.{every, if_then}
use Rattle.lemmas.proofs.Tests.{every_at, if_at}
use Rattle.grades.specs.Kinds.{Kind, Lawful, on_at}
use Rattle.grades.specs.Laws.{plain_lawful, releases_lawful, views_lawful}
use Rattle.terms.specs.declared.records.Inclusion.{Inclusion}
use Rattle.terms.specs.Contents.{Contents, vocabulary_of}
use Rattle.terms.specs.Vocabularies.{Vocabulary, Named, is_named, WellFormed}
use Rattle.reasoning.specs.declared.Fact.{Fact}
use Rattle.reasoning.specs.declared.Fact.TheVariants.{Under as under}
use Rattle.reasoning.specs.Derivations.{Derivable}
use Rattle.saturation.specs.Boards.{Board}
use Rattle.saturation.specs.Answers.{TrulyUnder, Grade, Mate, Parent}
use Rattle.saturation.specs.Deciding.{mate_test, parent_test}
use Rattle.saturation.proofs.Deciding.{named_decides, mate_decides, parent_decides}
use Rattle.saturation.proofs.Truths.{one_grade}
use Rattle.board.specs.Layout.{words_needed}
use Rattle.board.specs.Questions.{Settled, Under, answer, unsettled, no_concept, other_terms, job_waits}
use Rattle.sheet.specs.declared.fault.Fault.{Fault}
use Rattle.listing.specs.declared.page.Row.{Row}
use Rattle.listing.specs.Listings.{Listed, Precedes}
use Rattle.cases.specs.Rounds.{has, closed, rounds}
use Rattle.cases.specs.Sheets.{reading, stated}
use Rattle.cases.specs.Expectations.{KindName, Plain, Releases, Views, kind_of, Expectation, grade, listing, steps, mates, parents, words, unknown, WholeListing, Met}
use Rattle.cases.specs.Cases.{Case, Holds, cases, WorkedCasesHold}
use Rattle.cases.proofs.Rounds.{rounds_derive, rounds_tell}
use Rattle.cases.proofs.Tests.{all_at, agree, agree_true}
use Rattle.cases.proofs.Formed.{formed, formed_well}
use Rattle.cases.proofs.Answers.{ascending, ascending_at, lists, lists_true}
use Rattle.cases.proofs.Steps.{pairs, counts, steps_true}

-- ---- the tests, over what was found at each point

abbrev grade_test : Kind → (ℕ → List Fact) → ℕ → ℕ → ℕ → Bool
grade_test k facts a d code = ltb code k.codes && every k.points (λ p. agree (k.holds code p) (has (facts p) (under a d)))

abbrev row_test : Vocabulary → Kind → (ℕ → List Fact) → Row → Bool
row_test v k facts r = is_named v r.sub && (is_named v r.sup && (not (eqb r.sub r.sup) && (not (eqb r.code k.none) && grade_test k facts r.sub r.sup r.code)))

abbrev precedes_test : Row → Row → Bool
precedes_test r s = ltb r.sub s.sub || (eqb r.sub s.sub && ltb r.sup s.sup)

-- no row is of the two
abbrev unlisted : List Row → ℕ → ℕ → Bool
unlisted rows a d = list_all (λ (r : Row). not (eqb r.sub a && eqb r.sup d)) rows

abbrev other_test : Vocabulary → Kind → (ℕ → List Fact) → List Row → ℕ → ℕ → Bool
other_test v k facts rows a d = if_then (is_named v a && (is_named v d && (not (eqb a d) && unlisted rows a d))) (grade_test k facts a d k.none)

abbrev listing_test : Vocabulary → Kind → (ℕ → List Fact) → List Row → Bool
listing_test v k facts rows = ascending precedes_test rows && (list_all (row_test v k facts) rows && every (length v.concepts) (λ a. every (length v.concepts) (other_test v k facts rows a)))

abbrev met_test : Vocabulary → Kind → (ℕ → List Fact) → Expectation → Bool
met_test v k facts (grade a d code) = is_named v a && (ltb d (length v.concepts) && grade_test k facts a d code)
met_test v k facts (listing rows) = listing_test v k facts rows
met_test v k facts (steps n) = counts n (pairs v k facts)
met_test v k facts (mates a p xs) = is_named v a && (ltb p k.points && lists (length v.concepts) (mate_test v (λ c d. has (facts p) (under c d)) a) xs)
met_test v k facts (parents a p xs) = is_named v a && (ltb p k.points && lists (length v.concepts) (parent_test v (λ c d. has (facts p) (under c d)) a) xs)
met_test v k facts (words n) = eqb (words_needed (length v.concepts) v.roles) n
met_test v k facts (unknown a) = not (is_named v a)

-- more rounds than any case needs
abbrev enough : ℕ
enough = 1000

-- the facts of each point
abbrev tables : Vocabulary → Kind → List (List Fact)
tables v k = map (λ p. rounds v (on_at k p) enough []) (range_with_len 0 k.points)

-- the tables are closed, and every expectation is met
abbrev tables_test : Vocabulary → Kind → List Expectation → List (List Fact) → Bool
tables_test v k es ts = every k.points (λ p. closed v (on_at k p) (get_or ts p [])) && list_all (met_test v k (λ p. get_or ts p [])) es

abbrev codes_fit : Kind → List Inclusion → Bool
codes_fit k is = list_all (λ (i : Inclusion). ltb i.code k.codes) is

abbrev contents_test : Kind → List Expectation → Contents → Bool
contents_test k es s = formed s && (codes_fit k s.inclusions && tables_test (vocabulary_of s) k es (tables (vocabulary_of s) k))

-- so many lines were read
abbrev read_test : ℕ → Result ℕ Fault → Bool
read_test n (Ok m) = eqb m n
read_test n (Err e) = false

read_true : (n : ℕ) (r : Result ℕ Fault) → read_test n r ≡ true → r ≡ Ok n
read_true n (Ok m) h = ap Ok (eqb-true m n h)
read_true n (Err e) h = absurd (false≢true h)

abbrev passes : Case → Bool
passes c = read_test (length c.sheet) (reading c.sheet) && contents_test (kind_of c.kind) c.expected (stated c.sheet)

-- ---- what passes is true

-- what is no named concept is not answered for
unknown_true : (v : Vocabulary) (a : ℕ) → (Named v a → ⊥) → (b : Board) → Settled v b → (d : ℕ) (r : Result ℕ Rejection) → Under v b a d r → r ≡ Err NoSuchConcept
unknown_true v a n b q d r (answer s i l) = absurd (n i)
unknown_true v a n b q d r (unsettled (other_terms h)) = absurd (h q.goes)
unknown_true v a n b q d r (unsettled (job_waits s h)) = absurd (h q.quiet)
unknown_true v a n b q d r (no_concept s h) = refl

module _ (v : Vocabulary) (wf : WellFormed v) (k : Kind) (lawful : Lawful k) (facts : ℕ → List Fact)
    (derives : (p : ℕ) → p < k.points → (f : Fact) → Decides (has (facts p) f) (Derivable v (on_at k p) f))
    (tells : (p : ℕ) → p < k.points → (a d : ℕ) → Named v a → d < length v.concepts → Decides (has (facts p) (under a d)) (TrulyUnder v k p a d)) where
  grade_true : (a d code : ℕ) → Named v a → d < length v.concepts → grade_test k facts a d code ≡ true → Grade v k a d code
  grade_true a d code i l h =
      let t = and_parts (ltb code k.codes) (every k.points (λ p. agree (k.holds code p) (has (facts p) (under a d)))) h in
      record {
        is_code = ltb-true code k.codes t.0;
        truthful = λ p o.
            Decides-at (k.holds code p) (has (facts p) (under a d))
            (agree_true (k.holds code p) (has (facts p) (under a d)) (every_at k.points (λ p. agree (k.holds code p) (has (facts p) (under a d))) t.1 p o)) (tells p o a d i l);
      }

  row_true : (r : Row) → row_test v k facts r ≡ true → Listed v k r
  row_true r h =
      let t₁ = and_parts (is_named v r.sub) _ h in
      let t₂ = and_parts (is_named v r.sup) _ t₁.1 in
      let t₃ = and_parts (not (eqb r.sub r.sup)) _ t₂.1 in
      let t₄ = and_parts (not (eqb r.code k.none)) (grade_test k facts r.sub r.sup r.code) t₃.1 in
      let i = (named_decides v r.sub).0 t₁.0 in
      let j = (named_decides v r.sup).0 t₂.0 in
      record {
        sub_named = i;
        sup_named = j;
        different = (Decides-not _ (Decides-eqb r.sub r.sup)).0 t₃.0;
        some = (Decides-not _ (Decides-eqb r.code k.none)).0 t₄.0;
        grade = grade_true r.sub r.sup r.code i j.0 t₄.1;
      }

  -- two rows of the same concepts are one
  one_row : (r s : Row) → Listed v k r → Listed v k s → (s.sub ≡ r.sub) × (s.sup ≡ r.sup) → r ≡ s
  one_row r s a b e =
      let code : r.code ≡ s.code = one_grade v k lawful a.grade (subst₂ (λ (c d : ℕ). Grade v k c d s.code) e.0 e.1 b.grade) in
      λ i. record { sub = sym e.0 i; sup = sym e.1 i; code = code i }

  -- what is listed has its row, unless there is none of its concepts
  row_there : (rows : List Row) → ((s : Row) → Memᴰ s rows → Listed v k s) → (r : Row) → Listed v k r → (unlisted rows r.sub r.sup ≡ true → ⊥) → Memᴰ r rows
  row_there [] all r d h = absurd (h refl)
  row_there (s ∷ rows) all r d h = elim (cases_Bool (eqb s.sub r.sub && eqb s.sup r.sup)) [
    | inl t ↦ Memᴰ.head (one_row r s d (all s (Memᴰ.head refl)) ((Decides-and _ _ (Decides-eqb s.sub r.sub) (Decides-eqb s.sup r.sup)).0 t))
    | inr f ↦ Memᴰ.tail (row_there rows (λ x m. all x (Memᴰ.tail m)) r d (λ u. h (and_from _ _ (not_from_false _ f) u)))
  ]

  unlisted_of : (rows : List Row) (a d : ℕ) → ((r : Row) → Memᴰ r rows → (r.sub ≡ a) × (r.sup ≡ d) → ⊥) → unlisted rows a d ≡ true
  unlisted_of [] a d h = refl
  unlisted_of (r ∷ rows) a d h =
      and_from _ _ ((Decides-not _ (Decides-and _ _ (Decides-eqb r.sub a) (Decides-eqb r.sup d))).1 (h r (Memᴰ.head refl))) (unlisted_of rows a d (λ s m. h s (Memᴰ.tail m)))

  listing_true : (rows : List Row) → listing_test v k facts rows ≡ true → WholeListing v k rows
  listing_true rows h = record {
    listing = record {
      ascending = ascending_at precedes_test Precedes precedes rows t.0;
      each = each;
      every = λ r d. row_there rows each r d (λ u. d.some (one_grade v k lawful d.grade (other r.sub r.sup d.sub_named d.sup_named d.different u)));
    };
    others = λ a d i j ne no_row. other a d i j ne (unlisted_of rows a d no_row);
  }
    where
      n : ℕ
      n = length v.concepts

      t : (ascending precedes_test rows ≡ true) × ((list_all (row_test v k facts) rows && every n (λ a. every n (other_test v k facts rows a))) ≡ true)
      t = and_parts (ascending precedes_test rows) _ h

      u : (list_all (row_test v k facts) rows ≡ true) × (every n (λ a. every n (other_test v k facts rows a)) ≡ true)
      u = and_parts (list_all (row_test v k facts) rows) _ t.1

      precedes : (r s : Row) → precedes_test r s ≡ true → Precedes r s
      precedes r s e = elim (or_cases (ltb r.sub s.sub) _ e) [
        | inl l ↦ inl (ltb-true r.sub s.sub l)
        | inr b ↦ let w = and_parts (eqb r.sub s.sub) (ltb r.sup s.sup) b in inr (eqb-true r.sub s.sub w.0, ltb-true r.sup s.sup w.1)
      ]

      each : (r : Row) → Memᴰ r rows → Listed v k r
      each r m = row_true r (all_at (row_test v k facts) rows u.0 r m)

      -- any other two have "none"
      other : (a d : ℕ) → Named v a → Named v d → (a ≡ d → ⊥) → unlisted rows a d ≡ true → Grade v k a d k.none
      other a d i j ne free =
          let test = every_at n (other_test v k facts rows a) (every_at n (λ a. every n (other_test v k facts rows a)) u.1 a i.0) d j.0 in
          grade_true a d k.none i j.0 (if_at _ (grade_test k facts a d k.none) test
          (and_from _ _ ((named_decides v a).1 i) (and_from _ _ ((named_decides v d).1 j)
          (and_from _ _ ((Decides-not _ (Decides-eqb a d)).1 ne) free))))

  met_true : (e : Expectation) → met_test v k facts e ≡ true → Met v k e
  met_true (grade a d code) h =
      let t = and_parts (is_named v a) _ h in
      let u = and_parts (ltb d (length v.concepts)) (grade_test k facts a d code) t.1 in
      let i = (named_decides v a).0 t.0 in
      let l = ltb-true d (length v.concepts) u.0 in
      (i, l, grade_true a d code i l u.1)
  met_true (listing rows) h = listing_true rows h
  met_true (steps n) h = steps_true v wf k facts derives n h
  met_true (mates a p xs) h =
      let n = length v.concepts in
      let related = λ (c d : ℕ). has (facts p) (under c d) in
      let t = and_parts (is_named v a) _ h in
      let u = and_parts (ltb p k.points) (lists n (mate_test v related a) xs) t.1 in
      let i = (named_decides v a).0 t.0 in
      let l = ltb-true p k.points u.0 in
      (i, l, lists_true n (mate_test v related a) (Mate v (TrulyUnder v k p) a) xs (λ x. mate_decides v related (TrulyUnder v k p) (λ c d ic id. tells p l c d ic id.0) a x i) (λ x m. m.0.0) u.1)
  met_true (parents a p xs) h =
      let n = length v.concepts in
      let related = λ (c d : ℕ). has (facts p) (under c d) in
      let t = and_parts (is_named v a) _ h in
      let u = and_parts (ltb p k.points) (lists n (parent_test v related a) xs) t.1 in
      let i = (named_decides v a).0 t.0 in
      let l = ltb-true p k.points u.0 in
      (i, l, lists_true n (parent_test v related a) (Parent v (TrulyUnder v k p) a) xs (λ x. parent_decides v related (TrulyUnder v k p) (λ c d ic id. tells p l c d ic id.0) a x i) (λ x m. m.0.0) u.1)
  met_true (words n) h = eqb-true (words_needed (length v.concepts) v.roles) n h
  met_true (unknown a) h = unknown_true v a ((Decides-not _ (named_decides v a)).0 h)

-- the table of a point
table_at : (v : Vocabulary) (k : Kind) (p : ℕ) → p < k.points → get_or (tables v k) p [] ≡ rounds v (on_at k p) enough []
table_at v k p l = get_or-map-range_with_len (λ p. rounds v (on_at k p) enough []) 0 k.points p p [] l (omega arith)

tables_true : (v : Vocabulary) → WellFormed v → (k : Kind) → Lawful k → (es : List Expectation) → tables_test v k es (tables v k) ≡ true → (e : Expectation) → Memᴰ e es → Met v k e
tables_true v wf k lawful es h e m = met_true v wf k lawful facts derives tells e (all_at (met_test v k facts) es t.1 e m)
  where
    facts : ℕ → List Fact
    facts p = get_or (tables v k) p []

    t : (every k.points (λ p. closed v (on_at k p) (facts p)) ≡ true) × (list_all (met_test v k facts) es ≡ true)
    t = and_parts (every k.points (λ p. closed v (on_at k p) (facts p))) (list_all (met_test v k facts) es) h

    full : (p : ℕ) → p < k.points → closed v (on_at k p) (rounds v (on_at k p) enough []) ≡ true
    full p l = subst (λ (fs : List Fact). closed v (on_at k p) fs ≡ true) (table_at v k p l) (every_at k.points (λ p. closed v (on_at k p) (facts p)) t.0 p l)

    derives : (p : ℕ) → p < k.points → (f : Fact) → Decides (has (facts p) f) (Derivable v (on_at k p) f)
    derives p l f =
        let w = rounds_derive v wf (on_at k p) enough in
        subst (λ (fs : List Fact). Decides (has fs f) (Derivable v (on_at k p) f)) (sym (table_at v k p l)) (w.0 f, w.1 (full p l) f)

    tells : (p : ℕ) → p < k.points → (a d : ℕ) → Named v a → d < length v.concepts → Decides (has (facts p) (under a d)) (TrulyUnder v k p a d)
    tells p l a d i j =
        subst (λ (fs : List Fact). Decides (has fs (under a d)) (TrulyUnder v k p a d)) (sym (table_at v k p l)) (rounds_tell v wf (on_at k p) enough (full p l) a d i j)

kind_lawful : (n : KindName) → Lawful (kind_of n)
kind_lawful Plain = plain_lawful
kind_lawful Releases = releases_lawful
kind_lawful Views = views_lawful

passed : (c : Case) → passes c ≡ true → Holds c
passed c h =
    let k = kind_of c.kind in
    let s = stated c.sheet in
    let r = and_parts (read_test (length c.sheet) (reading c.sheet)) (contents_test k c.expected s) h in
    let t = and_parts (formed s) _ r.1 in
    let u = and_parts (codes_fit k s.inclusions) (tables_test (vocabulary_of s) k c.expected (tables (vocabulary_of s) k)) t.1 in
    let wf = formed_well s t.0 in
    record {
      read = read_true (length c.sheet) (reading c.sheet) r.0;
      well_formed = wf;
      codes = λ i m. ltb-true i.code k.codes (all_at (λ (i : Inclusion). ltb i.code k.codes) s.inclusions u.0 i m);
      met = tables_true (vocabulary_of s) wf k (kind_lawful c.kind) c.expected u.1;
    }

-- the numbers of the cases that do not pass, from n on
abbrev failing : ℕ → List Case → List ℕ
failing n [] = []
failing n (c ∷ cs) = let rest = failing (suc n) cs in cond (passes c) rest (n ∷ rest)

passing : (n : ℕ) (cs : List Case) → failing n cs ≡ [] → (c : Case) → Memᴰ c cs → passes c ≡ true
passing n [] h c m = absurd (Memᴰ.not-nil m)
passing n (d ∷ ds) h c m =
    let t = first (passes d) h in
    elim (Memᴰ.cases_cons m) [ inl e ↦ subst (λ (x : Case). passes x ≡ true) (sym e) t.0 | inr k ↦ passing (suc n) ds t.1 c k ]
  where
    first : (b : Bool) → cond b (failing (suc n) ds) (n ∷ failing (suc n) ds) ≡ [] → (b ≡ true) × (failing (suc n) ds ≡ [])
    first true e = (refl, e)
    first false e = let z : ◌≡◌ {A = ℕ} 0 1 = cc in absurd (omega arith)

-- here all cases are computed
none_fails : failing 0 cases ≡ []
none_fails = refl

pub worked_cases_hold : WorkedCasesHold
worked_cases_hold c m = passed c (passing 0 cases none_fails c m)
