-- What is drawn in a session, one raise after another.
use Rattle.std.proofs.Common.{◌≡◌, ℕ, ◌+◌, ◌<◌, refl, ap, ◌∙◌, subst, inl, inr, ⊎_elim, arith}
use Rattle.std.proofs.lemmas.Bool.{cases_lt}
use Rattle.grades.specs.Kinds.{Kind, Lawful}
use Rattle.piles.specs.Shapes.{Shape}
use Rattle.terms.specs.declared.records.Concept.{Concept}
use Rattle.terms.specs.declared.records.Concept.TheVariants.{Atomic, Top, Conjunction, Restriction}
use Rattle.terms.specs.Vocabularies.{Vocabulary, concept}
use Rattle.terms.specs.Views.{terms_of}
use Rattle.terms.proofs.Formed.{well_formed}
use Rattle.reasoning.specs.declared.Fact.{Fact}
use Rattle.reasoning.specs.declared.Job.{Job}
use Rattle.reasoning.specs.Derivations.{Within, fact_of}
use Rattle.saturation.specs.Boards.{Moment, On}
use Rattle.saturation.proofs.Sizes.{same_sizes, on, on_before}
use Rattle.board.specs.declared.board.session.Session.{Session}
use Rattle.board.specs.Views.{view}
use Rattle.board.specs.Raises.{Raises, Gains}
use Rattle.board.specs.OwnDraws.{Drawing, Either, AnyBelow}
use Rattle.board.specs.JoinDraws.{ByRestriction}
use Rattle.board.specs.Sessions.{SameSession, SessionDrawn, DoneOn, at}
use Rattle.board.proofs.Lists.{list_same, list_then}
use Rattle.board.proofs.Raising.{raises_then}
use Rattle.board.proofs.Waking.{put_none}

-- nothing is raised
raises_nothing : {Y : Type 0} (v : Vocabulary) (k : Kind) (S : Shape Y) (a : Moment Y) → Raises v k S (λ _ _. ⊥) a a
raises_nothing v k S a = record {
  sizes = same_sizes;
  done = λ _ _. refl;
  steps = refl;
  grows = record { kept = λ _ _ _ _ h. h; drew = λ _ _ _ _ h. absurd h; only = λ _ _ _ _ h. inl h };
  wakes = λ x i t. absurd (t.2 refl);
  states = λ x h. inl refl;
  puts = put_none S a;
}

-- what is raised said in another way
pub raises_alike : {Y : Type 0} {v : Vocabulary} {k : Kind} {S : Shape Y} {P : Fact → ℕ → Type 0} {a b : Moment Y} (Q : Fact → ℕ → Type 0) → Raises v k S P a b →
    ((f : Fact) (p : ℕ) → Within v f → p < k.points → P f p → Q f p) → ((f : Fact) (p : ℕ) → Within v f → p < k.points → Q f p → P f p) → Raises v k S Q a b
raises_alike Q R to from = record {
  sizes = R.sizes;
  done = R.done;
  steps = R.steps;
  grows = record { kept = R.grows.kept; drew = λ f p w h q. R.grows.drew f p w h (from f p w h q); only = λ f p w h t. ⊎_elim inl (λ q. inr (to f p w h q)) (R.grows.only f p w h t) };
  wakes = R.wakes;
  states = R.states;
  puts = R.puts;
}

module _ {X Y : Type 0} {g h : _} where
  -- the board of a session has the concepts and the roles of its terms
  pub on_board : (s : Session X Y g h) (f : Fact) → Within (terms_of s.terms.now) f → On (view s.board.now) f
  on_board s f w = on s.ready.goes f w

  -- what the code met with a done grade that it read
  pub met : (s : Session X Y g h) (done : Job → ℕ) (u : ℕ) {m x : ℕ} {i j : Job} → m ≡ g.kind.meet u x → x ≡ (view s.board.now).done i → i ≡ j → (view s.board.now).done j ≡ done j → m ≡ g.kind.meet u (done j)
  met s done u a b c d = a ∙ ap (g.kind.meet u) (b ∙ ap (view s.board.now).done c ∙ d)

  -- what is drawn said in another way
  session_alike : {P Q : Drawing} {a b : Session X Y g h} → SessionDrawn P a b →
      ((done : Job → ℕ) (f : Fact) (p : ℕ) → P (terms_of a.terms.now) g.kind done f p → Q (terms_of a.terms.now) g.kind done f p) →
      ((done : Job → ℕ) (f : Fact) (p : ℕ) → Q (terms_of a.terms.now) g.kind done f p → P (terms_of a.terms.now) g.kind done f p) → SessionDrawn Q a b
  session_alike {Q = Q} {a = a} D to from = record { same = D.same; raises = λ done d. raises_alike (Q (terms_of a.terms.now) g.kind done) (D.raises done d) (λ f p _ _. to done f p) (λ f p _ _. from done f p) }

  -- a raise to a grade that hangs on the done grades
  pub session_raised : {a b : Session X Y g h} {f : Fact} {u : ℕ} → SameSession a b → Raises (terms_of a.terms.now) g.kind h.shape (Gains g.kind f u) (at a) (at b) →
      (w : Kind → (Job → ℕ) → ℕ) → ((done : Job → ℕ) → DoneOn (at a).board done → u ≡ w g.kind done) → SessionDrawn (λ _ k done. Gains k f (w k done)) a b
  session_raised {a} {b} {f} S R w e = record { same = S; raises = λ done d. subst (λ x. Raises (terms_of a.terms.now) g.kind h.shape (Gains g.kind f x) (at a) (at b)) (e done d) R }

  -- under a test that was passed
  pub session_guarded : {P : Drawing} {a b : Session X Y g h} (G : Vocabulary → Type 0) → G (terms_of a.terms.now) → SessionDrawn P a b → SessionDrawn (λ v k done f p. G v × P v k done f p) a b
  session_guarded G t D = session_alike D (λ done f p q. (t, q)) (λ done f p q. q.1)

  -- what is drawn hangs on something that the vocabulary says
  pub session_at : {A : Type 0} {x : A} {a b : Session X Y g h} (Q : A → Drawing) (y : Vocabulary → A) → x ≡ y (terms_of a.terms.now) → SessionDrawn (Q x) a b → SessionDrawn (λ v. Q (y v) v) a b
  session_at {a = a} {b = b} Q y e D =
      record { same = D.same; raises = λ done d. subst (λ u. Raises (terms_of a.terms.now) g.kind h.shape (Q u (terms_of a.terms.now) g.kind done) (at a) (at b)) e (D.raises done d) }

  -- nothing is drawn, where P says nothing
  pub session_none : {P : Drawing} {a : Session X Y g h} → ((done : Job → ℕ) → DoneOn (at a).board done → (f : Fact) (p : ℕ) → P (terms_of a.terms.now) g.kind done f p → ⊥) → SessionDrawn P a a
  session_none {P} {a} n = record {
    same = record { board = refl; pile = refl; terms = refl; list = list_same };
    raises = λ done d. raises_alike (P (terms_of a.terms.now) g.kind done) (raises_nothing (terms_of a.terms.now) g.kind h.shape (at a)) (λ f p _ _ t. absurd t) (λ f p _ _. n done d f p);
  }

  -- nor by a concept that is no restriction
  pub session_unrestricted : (P : ℕ → ℕ → Drawing) (x : ℕ) {a : Session X Y g h} → ((r b : ℕ) → concept (terms_of a.terms.now) x ≡ Restriction r b → ⊥) → SessionDrawn (λ v. ByRestriction P (concept v x) v) a a
  session_unrestricted P x {a} n = session_none (λ done d f p. go (concept (terms_of a.terms.now) x) n done f p)
    where
      go : (κ : Concept) → ((r b : ℕ) → κ ≡ Restriction r b → ⊥) → (done : Job → ℕ) (f : Fact) (p : ℕ) → ByRestriction P κ (terms_of a.terms.now) g.kind done f p → ⊥
      go Atomic m done f p t = t
      go Top m done f p t = t
      go (Conjunction d e) m done f p t = t
      go (Restriction r b) m done f p t = m r b refl

  -- one after the other
  pub session_then : {P Q : Drawing} {a b c : Session X Y g h} → Lawful g.kind → SessionDrawn P a b → SessionDrawn Q b c → SessionDrawn (Either P Q) a c
  session_then {P} {Q} {a} {b} {c} L D E = record {
    same = record { board = E.same.board ∙ D.same.board; pile = E.same.pile ∙ D.same.pile; terms = E.same.terms ∙ D.same.terms; list = list_then D.same.list E.same.list };
    raises = λ done d.
        let v = terms_of a.terms.now in
        let R = D.raises done d in
        let next : DoneOn (at b).board done = λ j w. let w' = on_before R.sizes (fact_of j) w in R.done j w' ∙ d j w' in
        let T = subst (λ t. Raises (terms_of t) g.kind h.shape (Q (terms_of t) g.kind done) (at b) (at c)) D.same.terms (E.raises done next) in
        raises_then v g.kind L h.shape (P v g.kind done) (Q v g.kind done) (at a) (at b) (at c) (well_formed a.terms.now) a.ready.goes b.board.now.sane c.board.now.sane R T;
  }

  -- a loop: what the turns below i drew
  pub rounds_none : {P : ℕ → Drawing} {a : Session X Y g h} → SessionDrawn (AnyBelow (λ _. 0) P) a a
  rounds_none {P} = session_none {P = AnyBelow (λ _. 0) P} (λ done d f p t. let l : t.0 < 0 = t.1 in absurd (omega arith))

  pub rounds_more : {i : ℕ} {a b c : Session X Y g h} (P : ℕ → Drawing) → Lawful g.kind → SessionDrawn (AnyBelow (λ _. i) P) a b → SessionDrawn (P i) b c → SessionDrawn (AnyBelow (λ _. i + 1) P) a c
  rounds_more {i} {a} P L D E =
      session_alike {Q = AnyBelow (λ _. i + 1) P} (session_then L D E)
      (λ done f p. ⊎_elim (λ t. (t.0, (let l : t.0 < i = t.1 in omega arith), t.2)) (λ t. (i, omega arith, t)))
      (λ done f p t. ⊎_elim (λ l. inl (t.0, l, t.2)) (λ n. let l : t.0 < i + 1 = t.1 in let e : t.0 ≡ i = omega arith in inr (subst (λ u. P u (terms_of a.terms.now) g.kind done f p) e t.2)) (cases_lt t.0 i))

  pub rounds_all : {i : ℕ} {a b : Session X Y g h} (n : Vocabulary → ℕ) (P : ℕ → Drawing) → i ≡ n (terms_of a.terms.now) → SessionDrawn (AnyBelow (λ _. i) P) a b → SessionDrawn (AnyBelow n P) a b
  rounds_all {a = a} {b = b} n P e D =
      record { same = D.same; raises = λ done d. subst (λ u. Raises (terms_of a.terms.now) g.kind h.shape (AnyBelow (λ _. u) P (terms_of a.terms.now) g.kind done) (at a) (at b)) e (D.raises done d) }
