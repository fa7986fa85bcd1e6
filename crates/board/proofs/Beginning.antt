-- Making a board: start facts one after another.
use Rattle.std.proofs.Common.{◌≡◌, ℕ, ◌+◌, ◌<◌, ◌≤◌, ◌⊎◌, length, sym, ◌∙◌, subst, inl, inr, ⊎_elim, refl, arith}
use Rattle.std.proofs.lemmas.Bool.{cases_eq}
use Rattle.grades.specs.Kinds.{Kind}
use Rattle.piles.specs.Sets.{Empty}
use Rattle.piles.specs.Shapes.{Shape, PutIn}
use Rattle.piles.proofs.Eaches.{each_none, each_one, each_like, each_then}
use Rattle.terms.specs.Vocabularies.{Vocabulary, Named}
use Rattle.reasoning.specs.declared.Fact.{Fact}
use Rattle.reasoning.specs.declared.Fact.TheVariants.{Under as under}
use Rattle.reasoning.specs.Derivations.{Within, fact_of}
use Rattle.saturation.specs.declared.State.TheVariants.{Queued}
use Rattle.saturation.specs.Boards.{Board, Moment, On}
use Rattle.saturation.specs.Effects.{Made, Moved}
use Rattle.saturation.proofs.Sizes.{sizes_then, goes_then, on}
use Rattle.board.specs.Moves.{Wrote, woke, stayed}
use Rattle.board.specs.Making.{Blank, Started, started, unnamed, Begun}
use Rattle.board.proofs.Callers.{ready_then}

-- a named concept below i + 1 is below i, or is i
up_to : (v : Vocabulary) {i : ℕ} (a : ℕ) → (a < i + 1) × Named v a → ((a < i) × Named v a) ⊎ (a ≡ i)
up_to v {i = i} a t = ⊎_elim inr (λ n. inl (let l = t.0 in omega arith, t.1)) (cases_eq a i)

module _ {Y : Type 0} {v : Vocabulary} {k : Kind} {S : Shape Y} {p : Y} where
  pub begun_none : {b : Board} → length v.concepts ≤ (S.numbers p).size → Blank v k b → Begun v k S p 0 (record { board = b; pile = p })
  begun_none {b = b} l B = record {
    ready = record { goes = B.goes; wide = omega (arith, B.goes.concepts) };
    steps = B.steps;
    started = λ a h. absurd (omega arith);
    unfound = λ f w n. B.found f (on B.goes f w);
    undone = λ j w. B.done j (on B.goes (fact_of j) w);
    queued = λ a h. absurd (omega arith);
    idle = λ c h n. B.state c (omega (arith, B.goes.concepts));
    puts = each_none (λ a t. let h = t.0 in omega arith);
  }

  module _ {i : ℕ} {m : Moment Y} (B : Begun v k S p i m) where
    -- the start fact of i, which is named
    module _ {b : Board} {n : Moment Y} (I : Named v i) (W : Wrote (under i i) k.all m.board b) (M : Moved i Queued b n.board) (P : PutIn S i m.pile n.pile) where
      on_b : (f : Fact) → Within v f → On b f
      on_b f w = on (goes_then B.ready.goes W.sizes) f w

      kept_found : (f : Fact) → Within v f → (f ≡ under i i → ⊥) → n.board.found f ≡ m.board.found f
      kept_found f w ne = M.grades.found f (on_b f w) ∙ W.found f (on B.ready.goes f w) ne

      kept_state : (x : ℕ) → x < length v.concepts → (x ≡ i → ⊥) → n.board.state x ≡ m.board.state x
      kept_state x l ne = let h : x < m.board.concepts = omega (arith, B.ready.goes.concepts) in M.others x (omega (arith, W.sizes.concepts)) ne ∙ W.state x h

      begun_named : Begun v k S p (i + 1) n
      begun_named = record {
        ready = ready_then B.ready (sizes_then W.sizes M.grades.sizes) P.set.0;
        steps = M.grades.steps ∙ W.steps ∙ B.steps;
        started = λ a l N. ⊎_elim
            (λ t. kept_found (under a a) (N.0, N.0) (λ e. let q : a ≡ i = cc in let h = t.0 in omega arith) ∙ B.started a t.0 N)
            (λ e. subst (λ u. n.board.found (under u u) ≡ k.all) (sym e) (M.grades.found (under i i) (on_b (under i i) (I.0, I.0)) ∙ W.here))
            (up_to v a (l, N));
        unfound = λ f w none. kept_found f w (none i (omega arith) I) ∙ B.unfound f w (λ a l. none a (omega arith));
        undone = λ j w. M.grades.done j (on_b (fact_of j) w) ∙ W.done j (on B.ready.goes (fact_of j) w) ∙ B.undone j w;
        queued = λ a l N. ⊎_elim
            (λ t. kept_state a N.0 (λ e. let h = t.0 in omega arith) ∙ B.queued a t.0 N)
            (λ e. subst (λ u. n.board.state u ≡ Queued) (sym e) M.here)
            (up_to v a (l, N));
        idle = λ x l none. kept_state x l (λ e. none (omega arith) (subst (λ u. Named v u) (sym e) I)) ∙ B.idle x l (λ h. none (omega arith));
        puts = each_then {Q = λ x. x ≡ i} (λ x t e. let h = t.0 in omega arith) (λ x. ⊎_elim (λ t. (let h = t.0 in omega arith, t.1)) (λ e. (omega arith, subst (λ u. Named v u) (sym e) I))) (up_to v) B.puts (each_one refl (λ x e. e) P);
      }

    pub begun_more : {n : Moment Y} → i < length v.concepts → Started v k S i m n → Begun v k S p (i + 1) n
    begun_more l (started {b = b} I W (woke _ M P)) = begun_named I W M P
    begun_more l (started {b = b} I W (stayed busy _)) = absurd (busy (W.state i (omega (arith, B.ready.goes.concepts)) ∙ B.idle i l (λ h. absurd (omega arith))))
    begun_more l (unnamed none e) =
        subst (λ u. Begun v k S p (i + 1) u) (sym e) (record {
          ready = B.ready;
          steps = B.steps;
          started = λ a h N. B.started a (below a h N) N;
          unfound = λ f w n. B.unfound f w (λ a h. n a (omega arith));
          undone = B.undone;
          queued = λ a h N. B.queued a (below a h N) N;
          idle = λ x h n. B.idle x h (λ u. n (omega arith));
          puts = each_like (λ x t. (let h = t.0 in omega arith, t.1)) (λ x t. (below x t.0 t.1, t.1)) B.puts;
        })
      where
        below : (a : ℕ) → a < i + 1 → Named v a → a < i
        below a h N = ⊎_elim (λ t. t.0) (λ e. absurd (none (subst (λ u. Named v u) e N))) (up_to v a (h, N))

    pub begun_all : i ≡ length v.concepts → Empty (S.numbers p) → Made v k S p m
    begun_all e E = record {
      goes = B.ready.goes;
      started = λ a N. B.started a (all a N) N;
      unfound = λ f w n. B.unfound f w (λ a l N. n a N);
      undone = B.undone;
      queued = λ a N. B.queued a (all a N) N;
      idle = λ c l n. B.idle c l (λ _. n);
      no_steps = B.steps;
      empty = E;
      puts = each_like (λ x t. t.1) (λ x N. (all x N, N)) B.puts;
    }
      where
        all : (a : ℕ) → Named v a → a < i
        all a N = let l = N.0 in omega arith
