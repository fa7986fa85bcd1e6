-- From the parts of the search to the first job that waits at a concept.
use Rattle.std.proofs.Common.{◌≡◌, ℕ, ◌+◌, ◌-◌, ◌<◌, ◌≤◌, Bool, true, false, List, take, drop, get_or, Some, None, Option, MatchOption, MatchBool, refl, sym, ap, ◌∙◌, subst, ⊎_elim, arith}
use Rattle.std.proofs.lemmas.List.{get_or-drop, get_or-take}
use Rattle.std.specs.Option.{option_or, option_map, is_some}
use Rattle.std.proofs.lemmas.Bool.{cases_eq, cases_Bool}
use Rattle.terms.specs.declared.records.Concept.TheVariants.{Restriction}
use Rattle.terms.specs.Vocabularies.{Vocabulary, WellFormed, Is}
use Rattle.reasoning.specs.declared.Job.{Job}
use Rattle.reasoning.specs.declared.Job.TheVariants.{Own as own, Link as link, Imply as imply}
use Rattle.reasoning.specs.Derivations.{JobAt, at_left, at_filler, at_premise, fact_of}
use Rattle.reasoning.proofs.Jobs.{at_concept}
use Rattle.saturation.specs.Boards.{Board, GoesWith, Rests, Waits, First, FirstOrNone, Quiet, QuietAt, Before, by_sort, by_role, by_left, by_right}
use Rattle.board.proofs.Options.{some_of, none_of}
use Rattle.board.specs.declared.board.finding.LinkJob.{LinkJob}
use Rattle.board.specs.declared.board.finding.Series.{Series}
use Rattle.board.specs.declared.board.finding.Series.TheVariants.{Owns, Links, Implications}
use Rattle.board.specs.Words.{is_idle, spot, mark, view_of}
use Rattle.board.specs.Searches.{job_of, NoneBelow, FirstBelow, NoLinks, FirstLink, BestLink, NoImplications, FirstImplication, QuietWhere}

-- the first number below n at which a series's job waits
pub first_of : (b : Board) (l : Series) (n : ℕ) (r : Option ℕ) → MatchOption r ((k : ℕ) → 0 ≤ k → k < n → Rests b (job_of l k)) (λ i. (0 ≤ i) × (i < n) × Waits b (job_of l i) × ((k : ℕ) → 0 ≤ k → k < i → Rests b (job_of l k))) → MatchOption r (NoneBelow b l n) (FirstBelow b l n)
first_of b l n None h = λ i d. h i (omega arith) d
first_of b l n (Some i) h = record { below = h.1; waits = h.2; none_before = λ k d. h.3 k (omega arith) d }

-- two stretches of a list that are the same agree entry by entry
stretch : (w : List ℕ) (a b k : ℕ) → take k (drop a w) ≡ take k (drop b w) → (i : ℕ) → i < k → get_or w (a + i) 0 ≡ get_or w (b + i) 0
stretch w a b k e i l =
    sym (get_or-drop a w i 0) ∙ sym (get_or-take k (drop a w) i 0 l) ∙ ap (λ xs. get_or xs i 0) e ∙ get_or-take k (drop b w) i 0 l ∙ get_or-drop b w i 0

-- so do two rows, from their first words to their last
same_at : (w : List ℕ) (a z b y k i p q : ℕ) → take (z + 1 - a) (drop a w) ≡ take (y + 1 - b) (drop b w) → z + 1 ≡ a + k → y + 1 ≡ b + k → i < k → p ≡ a + i → q ≡ b + i → get_or w p 0 ≡ get_or w q 0
same_at w a z b y k i p q e ez ey l ep eq =
    let kz : z + 1 - a ≡ k = omega arith in
    let ky : y + 1 - b ≡ k = omega arith in
    ap (λ x. get_or w x 0) ep
    ∙ stretch w a b k (ap (λ n. take n (drop a w)) (sym kz) ∙ e ∙ ap (λ n. take n (drop b w)) ky) i l
    ∙ ap (λ x. get_or w x 0) (sym eq)

-- where a row of done grades is that of the found ones, no job of the series waits
pub row_quiet : (w : List ℕ) (n m : ℕ) (l : Series) (k a z b y : ℕ) → ((x : ℕ) → l ≡ Links x → ⊥) → 0 < k →
    a ≡ mark n m (job_of l 0) → z ≡ mark n m (job_of l (k - 1)) → b ≡ spot n (fact_of (job_of l 0)) → y ≡ spot n (fact_of (job_of l (k - 1))) →
    take (z + 1 - a) (drop a w) ≡ take (y + 1 - b) (drop b w) → NoneBelow (view_of w n m 0) l k
row_quiet w n m (Owns c) k a z b y far some ea ez eb ey e i h =
    same_at w a z b y k i (mark n m (own c i)) (spot n (fact_of (own c i))) e (omega arith) (omega arith) h (omega arith) (omega arith)
row_quiet w n m (Links x) k a z b y far some ea ez eb ey e i h = absurd (far x refl)
row_quiet w n m (Implications s c) k a z b y far some ea ez eb ey e i h =
    same_at w a z b y k i (mark n m (imply s c i)) (spot n (fact_of (imply s c i))) e (omega arith) (omega arith) h (omega arith) (omega arith)

-- how far left a better link job has to be, where there are n concepts
abbrev pub leftmost : ℕ → Option LinkJob → ℕ
leftmost n None = n
leftmost n (Some l) = l.left

module _ (v : Vocabulary) (b : Board) (c x : ℕ) where
  -- a fact of the concepts below x, and of x, is one of those below x + 1
  one_more : (P : ℕ → Type 0) → ((y : ℕ) → y < x → P y) → P x → (y : ℕ) → y < x + 1 → P y
  one_more P below here y l = ⊎_elim (λ e. subst P (sym e) here) (λ ne. below y (omega arith)) (cases_eq y x)

  links_more : (n : ℕ) → NoLinks v b c x n → ((r : ℕ) → Is v x (Restriction r c) → NoneBelow b (Links x) n) → NoLinks v b c (x + 1) n
  links_more n before here y r l = one_more (λ z. (r : ℕ) → Is v z (Restriction r c) → NoneBelow b (Links z) n) (λ z h q. before z q h) here y l r

  -- the concept x brings no link job that waits further left
  pub best_same : (best : Option LinkJob) → BestLink v b c x best → ((r : ℕ) → Is v x (Restriction r c) → NoneBelow b (Links x) (leftmost b.concepts best)) → BestLink v b c (x + 1) best
  best_same None B here = links_more b.concepts B here
  best_same (Some l) B here = record {
    left = B.left;
    right = omega arith;
    form = B.form;
    waits = B.waits;
    none_left = links_more l.left B.none_left here;
    none_before = B.none_before;
  }

  -- it brings one
  better : (a r n : ℕ) → n ≤ b.concepts → NoLinks v b c x n → Is v x (Restriction r c) → FirstBelow b (Links x) n a → FirstLink v b c (x + 1) a x
  better a r n le before I F = record {
    left = omega arith;
    right = omega arith;
    form = (r, I);
    waits = F.waits;
    none_left = links_more a (λ y q l i z h. before y q l i z (omega arith)) (λ _ _. F.none_before);
    none_before = λ y q l i. before y q l i a F.below;
  }

  best_new : (best : Option LinkJob) (a r : ℕ) → BestLink v b c x best → Is v x (Restriction r c) → FirstBelow b (Links x) (leftmost b.concepts best) a → FirstLink v b c (x + 1) a x
  best_new None a r B I F = better a r b.concepts (omega arith) B I F
  best_new (Some t) a r B I F = better a r t.left (omega arith) B.none_left I F

  -- what is best of those before and of x
  pub best_next : (best : Option LinkJob) (n r : ℕ) (found : Option ℕ) → n ≡ leftmost b.concepts best → BestLink v b c x best → Is v x (Restriction r c) → MatchOption found (NoneBelow b (Links x) n) (FirstBelow b (Links x) n) → BestLink v b c (x + 1) (option_or (option_map (λ a. record { left = a; right = x }) found) best)
  best_next best n r None e B I h = best_same best B (λ q i. rw (sym e) h)
  best_next best n r (Some a) e B I h = best_new best a r B I (rw (sym e) h)

module _ (v : Vocabulary) (b : Board) (G : GoesWith v b) where
  before_own : {c d : ℕ} {i : Job} → NoneBelow b (Owns c) d → JobAt v i c → Before i (own c d) → Rests b i
  before_own none (at_left w) (by_sort l) = absurd (omega arith)
  before_own none (at_left w) (by_role e l) = absurd (omega arith)
  before_own none (at_left w) (by_left e f l) = absurd (omega arith)
  before_own none (at_left {d = d} w) (by_right e f g l) = none d l
  before_own none (at_filler w i) (by_sort l) = absurd (omega arith)
  before_own none (at_filler w i) (by_role e l) = absurd (omega arith)
  before_own none (at_filler w i) (by_left e f l) = absurd (omega arith)
  before_own none (at_filler w i) (by_right e f g l) = absurd (omega arith)
  before_own none (at_premise w) (by_sort l) = absurd (omega arith)
  before_own none (at_premise w) (by_role e l) = absurd (omega arith)
  before_own none (at_premise w) (by_left e f l) = absurd (omega arith)
  before_own none (at_premise w) (by_right e f g l) = absurd (omega arith)

  pub first_own : (c d : ℕ) → c < b.concepts → FirstBelow b (Owns c) b.concepts d → First v b c (own c d)
  first_own c d l F = record {
    at = at_left (omega arith, omega arith);
    waits = F.waits;
    none_before = λ i at before. before_own F.none_before at before;
  }

  -- the jobs at c, by what was looked through
  quiet_job : {c : ℕ} {j : Job} → NoneBelow b (Owns c) b.concepts → NoLinks v b c b.concepts b.concepts → NoImplications b c b.roles → JobAt v j c → Rests b j
  quiet_job O L I (at_left {d = d} w) = O d (omega arith)
  quiet_job O L I (at_filler {c = a} {d = x} {r = r} w i) = L x r (omega arith) i a (omega arith)
  quiet_job O L I (at_premise {s = s} {e = y} w) = I s (omega arith) y (omega arith)

  before_link : {c a x : ℕ} {i : Job} → NoneBelow b (Owns c) b.concepts → FirstLink v b c b.concepts a x → JobAt v i c → Before i (link a x) → Rests b i
  before_link O F (at_left {d = d} w) before = O d (omega arith)
  before_link O F (at_filler w i) (by_sort l) = absurd (omega arith)
  before_link O F (at_filler w i) (by_role e l) = absurd (omega arith)
  before_link O F (at_filler {c = y} {d = z} {r = r} w i) (by_left e f l) = F.none_left z r (omega arith) i y l
  before_link O F (at_filler {d = z} {r = r} w i) (by_right e f g l) = subst (λ y. Rests b (link y z)) (sym g) (F.none_before z r l i)
  before_link O F (at_premise w) (by_sort l) = absurd (omega arith)
  before_link O F (at_premise w) (by_role e l) = absurd (omega arith)
  before_link O F (at_premise w) (by_left e f l) = absurd (omega arith)
  before_link O F (at_premise w) (by_right e f g l) = absurd (omega arith)

  pub first_link : (c a x : ℕ) → NoneBelow b (Owns c) b.concepts → FirstLink v b c b.concepts a x → First v b c (link a x)
  first_link c a x O F = record {
    at = at_filler (omega arith, omega arith) F.form.1;
    waits = F.waits;
    none_before = λ i at before. before_link O F at before;
  }

  before_imply : {c s e : ℕ} {i : Job} → NoneBelow b (Owns c) b.concepts → NoLinks v b c b.concepts b.concepts → FirstImplication b c s e → JobAt v i c → Before i (imply s c e) → Rests b i
  before_imply O L F (at_left {d = d} w) before = O d (omega arith)
  before_imply O L F (at_filler {c = y} {d = z} {r = r} w i) before = L z r (omega arith) i y (omega arith)
  before_imply O L F (at_premise w) (by_sort l) = absurd (omega arith)
  before_imply O L F (at_premise {s = s} {e = y} w) (by_role e l) = F.none_before s l y (omega arith)
  before_imply O L F (at_premise w) (by_left e f l) = absurd (omega arith)
  before_imply {c} O L F (at_premise {e = y} w) (by_right e f g l) = subst (λ s. Rests b (imply s c y)) (sym f) (F.here.none_before y l)

  first_imply : (c s e : ℕ) → c < b.concepts → NoneBelow b (Owns c) b.concepts → NoLinks v b c b.concepts b.concepts → FirstImplication b c s e → First v b c (imply s c e)
  first_imply c s e l O L F = record {
    at = at_premise (omega arith, omega arith, omega arith);
    waits = F.here.waits;
    none_before = λ i at before. before_imply O L F at before;
  }

  -- where no own and no link job waits, the first implication job that waits is the first of all
  pub last_of : (c : ℕ) (r : Option Job) → c < b.concepts → NoneBelow b (Owns c) b.concepts → NoLinks v b c b.concepts b.concepts → MatchOption r (NoImplications b c b.roles) (λ j. (s : ℕ) × (e : ℕ) × (j ≡ imply s c e) × FirstImplication b c s e) → MatchOption r (QuietAt v b c) (First v b c)
  last_of c None l O L I = λ j w. quiet_job O L I w
  last_of c (Some j) l O L h = rw h.2 (first_imply c h.0 h.1 l O L h.3)

-- the first role by which an implication job waits
pub implication_of : (b : Board) (c : ℕ) (r : Option Job) → MatchOption r (NoImplications b c b.roles) (λ j. (s : ℕ) × (s < b.roles) × ((e : ℕ) × (j ≡ imply s c e) × FirstBelow b (Implications s c) b.concepts e) × NoImplications b c s) → MatchOption r (NoImplications b c b.roles) (λ j. (s : ℕ) × (e : ℕ) × (j ≡ imply s c e) × FirstImplication b c s e)
implication_of b c None h = h
implication_of b c (Some j) h = (h.0, h.2.0, h.2.1, record { role = h.1; here = h.2.2; none_before = h.3 })

-- what is known of the jobs at a concept by whether one was found there
pub some_waits : (v : Vocabulary) (b : Board) (c : ℕ) (o : Option Job) → is_some o ≡ true → FirstOrNone v b c o → ¬ Quiet v b
some_waits v b c o e h = λ q. let f = some_of (QuietAt v b c) o e h in f.1.waits (q f.0 c f.1.at)

pub none_waits : (v : Vocabulary) (b : Board) (c : ℕ) (o : Option Job) → is_some o ≡ false → FirstOrNone v b c o → QuietAt v b c
none_waits v b c o e h = none_of (First v b c) o e h

-- no job waits anywhere where none does at the concepts that are idle and none at the others
pub quiet_all : (v : Vocabulary) (b : Board) (r : Bool) → WellFormed v → GoesWith v b → QuietWhere v b false b.concepts → MatchBool r (¬ Quiet v b) (QuietWhere v b true b.concepts) → MatchBool r (¬ Quiet v b) (Quiet v b)
quiet_all v b true wf G none h = h
quiet_all v b false wf G none h = λ j x w.
    let l : x < b.concepts = omega (arith, at_concept v wf w) in
    ⊎_elim (λ e. h x l e j w) (λ e. none x l e j w) (cases_Bool (is_idle (b.state x)))
