-- What a write of one word changes of what the words say.
use Rattle.std.proofs.Common.{◌≡◌, ℕ, ◌+◌, ◌*◌, ◌<◌, ◌≤◌, List, length, get_or, set, sym, refl, ap, ◌∙◌, subst, arith, get_or-set_other, get_or-set_same}
use Rattle.reasoning.specs.Derivations.{fact_of, Fits}
use Rattle.reasoning.specs.declared.Fact.{Fact}
use Rattle.reasoning.specs.declared.Job.{Job}
use Rattle.reasoning.specs.declared.Fact.TheVariants.{Under as under, Implies as implies}
use Rattle.reasoning.specs.declared.Job.TheVariants.{Own as own, Link as link, Imply as imply}
use Rattle.board.specs.Layout.{words_needed, StateWords}
use Rattle.board.specs.Moves.{Wrote, Marked}
use Rattle.board.specs.Words.{row, column, plane, done_plane, spot, mark, view_of, state_of}
use Rattle.board.proofs.Places.{place_plane, place_inside}

row_fits : (n m : ℕ) (f : Fact) → Fits n m f → (row f < n) × (column f < n)
row_fits n m (under c d) h = h
row_fits n m (implies s c e) h = (h.1, h.2)

same_fact : (f h : Fact) → plane f ≡ plane h → row f ≡ row h → column f ≡ column h → f ≡ h
same_fact (under c d) (under c' d') p q r = λ i. under (q i) (r i)
same_fact (under c d) (implies s c' e) p q r = absurd (omega arith)
same_fact (implies s c e) (under c' d') p q r = absurd (omega arith)
same_fact (implies s c e) (implies s' c' e') p q r = let t : s ≡ s' = omega arith in λ i. implies (t i) (q i) (r i)

apart : (n m : ℕ) (f : Fact) (j : Job) → Fits n m f → plane f ≡ done_plane m j → ⊥
apart n m (under c d) (own a x) h p = omega arith
apart n m (under c d) (link a x) h p = omega arith
apart n m (under c d) (imply s a x) h p = omega arith
apart n m (implies s c e) (own a x) h p = omega arith
apart n m (implies s c e) (link a x) h p = omega arith
apart n m (implies s c e) (imply t a x) h p = omega (arith, h.0)

pub spot_one : (n m : ℕ) (f h : Fact) → Fits n m f → Fits n m h → spot n f ≡ spot n h → f ≡ h
spot_one n m f h F H e =
    let F' = row_fits n m f F in
    let H' = row_fits n m h H in
    let t = place_plane n (plane f) (row f) (column f) (plane h) (row h) (column h) F'.0 F'.1 H'.0 H'.1 e in
    same_fact f h t.0 t.1 t.2

pub spot_mark : (n m : ℕ) (f : Fact) (j : Job) → Fits n m f → Fits n m (fact_of j) → spot n f ≡ mark n m j → ⊥
spot_mark n m f j F J e =
    let F' = row_fits n m f F in
    let J' = row_fits n m (fact_of j) J in
    let t = place_plane n (plane f) (row f) (column f) (done_plane m j) (row (fact_of j)) (column (fact_of j)) F'.0 F'.1 J'.0 J'.1 e in
    apart n m f j F t.0

pub wrote_word : (w : List ℕ) (n m s : ℕ) (f : Fact) (g i : ℕ) → i ≡ spot n f → i < length w → n ≤ i → Fits n m f → Wrote f g (view_of w n m s) (view_of (set w i g) n m s)
wrote_word w n m s f g i e l up F = record {
  sizes = record { concepts = refl; roles = refl };
  here = ap (λ x. get_or (set w i g) x 0) (sym e) ∙ get_or-set_same w i g 0 l;
  found = λ h H ne. get_or-set_other w i (spot n h) g 0 (λ q. ne (spot_one n m h f H F (q ∙ e)));
  done = λ j J. get_or-set_other w i (mark n m j) g 0 (λ q. spot_mark n m f j F J (sym e ∙ sym q));
  state = λ x h. ap state_of (get_or-set_other w i x g 0 (omega arith));
  steps = refl;
}

same_job : (m : ℕ) (i j : Job) → done_plane m i ≡ done_plane m j → row (fact_of i) ≡ row (fact_of j) → column (fact_of i) ≡ column (fact_of j) → i ≡ j
same_job m (own c d) (own c' d') p q r = λ i. own (q i) (r i)
same_job m (own c d) (link c' d') p q r = absurd (omega arith)
same_job m (own c d) (imply s c' e) p q r = absurd (omega arith)
same_job m (link c d) (own c' d') p q r = absurd (omega arith)
same_job m (link c d) (link c' d') p q r = λ i. link (q i) (r i)
same_job m (link c d) (imply s c' e) p q r = absurd (omega arith)
same_job m (imply s c e) (own c' d') p q r = absurd (omega arith)
same_job m (imply s c e) (link c' d') p q r = absurd (omega arith)
same_job m (imply s c e) (imply s' c' e') p q r = let t : s ≡ s' = omega arith in λ i. imply (t i) (q i) (r i)

pub mark_one : (n m : ℕ) (i j : Job) → Fits n m (fact_of i) → Fits n m (fact_of j) → mark n m i ≡ mark n m j → i ≡ j
mark_one n m i j I J e =
    let I' = row_fits n m (fact_of i) I in
    let J' = row_fits n m (fact_of j) J in
    let t = place_plane n (done_plane m i) (row (fact_of i)) (column (fact_of i)) (done_plane m j) (row (fact_of j)) (column (fact_of j)) I'.0 I'.1 J'.0 J'.1 e in
    same_job m i j t.0 t.1 t.2

pub marked_word : (w : List ℕ) (n m s : ℕ) (j : Job) (g i : ℕ) → g ≡ get_or w (spot n (fact_of j)) 0 → i ≡ mark n m j → i < length w → n ≤ i → Fits n m (fact_of j) → Marked j (view_of w n m s) (view_of (set w i g) n m s)
marked_word w n m s j g i r e l up J = record {
  sizes = record { concepts = refl; roles = refl };
  here = ap (λ x. get_or (set w i g) x 0) (sym e) ∙ get_or-set_same w i g 0 l ∙ r;
  found = λ h H. get_or-set_other w i (spot n h) g 0 (λ q. spot_mark n m h j H J (q ∙ e));
  done = λ h H ne. get_or-set_other w i (mark n m h) g 0 (λ q. ne (mark_one n m h j H J (q ∙ e)));
  state = λ x h. ap state_of (get_or-set_other w i x g 0 (omega arith));
  steps = refl;
}

-- a write of a grade leaves the states
pub states_kept : (w : List ℕ) (n i g : ℕ) → n ≤ i → StateWords n w → StateWords n (set w i g)
states_kept w n i g up S x h = subst (λ u. u ≤ 2) (sym (get_or-set_other w i x g 0 (omega arith))) (S x h)

plane_inside : (n m : ℕ) (f : Fact) → Fits n m f → plane f < 3 + 2 * m
plane_inside n m (under c d) h = omega arith
plane_inside n m (implies s c e) h = let l = h.0 in omega arith

done_plane_inside : (n m : ℕ) (j : Job) → Fits n m (fact_of j) → done_plane m j < 3 + 2 * m
done_plane_inside n m (own c d) h = omega arith
done_plane_inside n m (link c d) h = omega arith
done_plane_inside n m (imply s c e) h = let l = h.0 in omega arith

pub spot_inside : (n m : ℕ) (f : Fact) → Fits n m f → (n ≤ spot n f) × (spot n f < words_needed n m)
spot_inside n m f h = let r = row_fits n m f h in (omega arith, place_inside n m (plane f) (row f) (column f) (plane_inside n m f h) r.0 r.1)

pub mark_inside : (n m : ℕ) (j : Job) → Fits n m (fact_of j) → (n ≤ mark n m j) × (mark n m j < words_needed n m)
mark_inside n m j h = let r = row_fits n m (fact_of j) h in (omega arith, place_inside n m (done_plane m j) (row (fact_of j)) (column (fact_of j)) (done_plane_inside n m j h) r.0 r.1)
