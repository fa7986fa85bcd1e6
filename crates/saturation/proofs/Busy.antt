-- A job waits at each queued concept, until a worker has taken it.
use Rattle.std.proofs.Common.{◌≡◌, ℕ, ◌<◌, true, false, length, sym, ap, ◌∙◌, subst, inl, inr, arith}
use Rattle.std.proofs.lemmas.Bool.{cases_eq, both_ways}
use Rattle.grades.specs.Kinds.{Kind, Lawful}
use Rattle.terms.specs.Vocabularies.{Vocabulary, WellFormed}
use Rattle.piles.specs.Shapes.{Shape}
use Rattle.reasoning.specs.declared.Fact.TheVariants.{Under as under}
use Rattle.reasoning.specs.declared.Job.{Job}
use Rattle.reasoning.specs.declared.Job.TheVariants.{Own as own}
use Rattle.reasoning.specs.Derivations.{fact_of, Within, JobAt, at_left}
use Rattle.reasoning.proofs.Jobs.{is_named_lem, at_within, at_one_concept}
use Rattle.saturation.specs.declared.State.{State}
use Rattle.saturation.specs.declared.State.TheVariants.{Queued}
use Rattle.saturation.specs.Boards.{Board, Moment, GoesWith, QuietAt, Sane}
use Rattle.saturation.specs.Effects.{SameGrades, Made, Moved, Worked, Rechecked}
use Rattle.saturation.proofs.Sizes.{on}
use Rattle.saturation.proofs.Places.{which, idle≢queued, held≢queued}
use Rattle.lemmas.proofs.Tests.{same_test}

abbrev pub Busy : Vocabulary → Board → Type 0
Busy v b = (x : ℕ) → x < b.concepts → b.state x ≡ Queued → QuietAt v b x → ⊥

module _ (v : Vocabulary) (wf : WellFormed v) (k : Kind) (lawful : Lawful k) where
  -- "all" and "none" differ
  all≢none : k.none ≡ k.all → ⊥
  all≢none e =
      let l : 0 < k.points = lawful.some_point in
      both_ways (k.holds k.all 0) (subst (λ (g : ℕ). k.holds g 0 ≡ false) e (lawful.none_holds 0)) (lawful.all_holds 0 l)

  pub made_busy : {Y : Type 0} {S : Shape Y} {p : Y} (m : Moment Y) → Made v k S p m → Busy v m.board
  made_busy m made x l q h = let s : x < length v.concepts = omega (arith, made.goes.concepts) in elim (is_named_lem v x s) [
    | inl i ↦ let w : Within v (under x x) = (s, s) in all≢none (sym (made.undone (own x x) w) ∙ h (own x x) (at_left w) ∙ made.started x i)
    | inr n ↦ idle≢queued (m.board.state x) (made.idle x s n) q
  ]

  module _ (a b : Board) (goes : GoesWith v a) where
    -- with the same grades, the same jobs wait
    quiet_before : (x : ℕ) → SameGrades a b → QuietAt v b x → QuietAt v a x
    quiet_before x s q j at = let w = on goes (fact_of j) (at_within v at) in sym (s.done j w) ∙ q j at ∙ s.found (fact_of j) w

    pub moved_busy : (c : ℕ) (s : State) → (s ≡ Queued → ⊥) → Moved c s a b → Busy v a → Busy v b
    moved_busy c s n t old x l q h = let same = t.grades.sizes.concepts in elim (cases_eq x c) [
      | inl e ↦ n (sym t.here ∙ sym (ap b.state e) ∙ q)
      | inr d ↦ let m = rw same at l in old x m (sym (t.others x m d) ∙ q) (quiet_before x t.grades h)
    ]

  module _ {Y : Type 0} (S : Shape Y) (c : ℕ) (a b : Moment Y) (goes : GoesWith v a.board) where
    -- a concept at which no job waits is not missed, so its state is as before
    pub rechecked_busy : Rechecked v S c a b → Busy v a.board → Busy v b.board
    rechecked_busy t old x l q h =
        let before = quiet_before a.board b.board goes x t.grades h in
        let same = t.grades.sizes.concepts in
        let m = rw same at l in
        elim (cases_eq x c) [
          | inl e ↦ old x m (ap a.board.state e ∙ sym (t.leaves (λ s. s.1.2 (subst (λ (y : ℕ). QuietAt v a.board y) e before s.1.0 s.1.1))) ∙ ap b.board.state (sym e) ∙ q) before
          | inr n ↦ old x m (sym (t.others x m n) ∙ q) before
        ]

    module _ (j : Job) (w : Worked v k S c j a b) (sane : Sane k a.board) where
      -- a job at another concept that does not wait now did not wait before, since found grades only grow
      rested : (x : ℕ) → (x ≡ c → ⊥) → QuietAt v b.board x → QuietAt v a.board x
      rested x n h i at =
          let t = at_within v at in
          let o = on goes (fact_of i) t in
          let other : i ≡ j → ⊥ = λ e. n (at_one_concept v (subst (λ (y : Job). JobAt v y x) e at) w.deed.first.at) in
          let now : a.board.done i ≡ b.board.found (fact_of i) = sym (w.deed.unmarked i o other) ∙ h i at in
          lawful.same (a.board.done i) (a.board.found (fact_of i)) (sane.done i o) (sane.found (fact_of i) o) (λ p l. same_test _ _
          (sane.below i p o l) (λ g. subst (λ (y : ℕ). k.holds y p ≡ true) (sym now) (w.deed.grows.kept (fact_of i) p t l g)))

      pub worked_busy : Busy v a.board → Busy v b.board
      worked_busy old x l q h = let same = w.deed.sizes.concepts in let m = rw same at l in elim (which (a.board.state x)) [
        | inl s ↦ idle≢queued (a.board.state x) s (sym (w.leaves x m (λ e t. t.3 (h t.0 t.1))) ∙ q)
        | inr (inl s) ↦ old x m s (rested x (λ e. held≢queued (a.board.state x) (ap a.board.state e ∙ w.deed.held) s) h)
        | inr (inr s) ↦ held≢queued (a.board.state x) s (sym (w.leaves x m (λ e t. t.3 (h t.0 t.1))) ∙ q)
      ]
