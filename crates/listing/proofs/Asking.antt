-- What a settled board answers, and what of it is listed.
use Rattle.std.proofs.Common.{◌≡◌, ℕ, ◌<◌, Bool, true, false, cond, not, ◌&&◌, eqb, length, Some, None, Ok, Err, Result, sym, refl, ap, ◌∙◌, inl, inr, arith}
use Rattle.std.proofs.lemmas.Bool.{and_from, and_parts, cond-true, cond-false, ne_eqb, eq-eqb, not_from_false, both_ways, cases_Bool, not-true}
use Rattle.std.specs.Bool.{then_some}
use Rattle.rejections.specs.declared.Rejection.{Rejection}
use Rattle.grades.specs.Kinds.{Kind}
use Rattle.terms.specs.Vocabularies.{Vocabulary, Named, is_named}
use Rattle.terms.proofs.Namings.{named_is}
use Rattle.reasoning.specs.declared.Fact.TheVariants.{Under as under}
use Rattle.saturation.specs.Boards.{Board}
use Rattle.board.specs.Questions.{Settled, SettledOr, settled, other_terms, job_waits, Under, answer, unsettled, no_concept}
use Rattle.listing.specs.Rows.{code_to_list}

-- a board that can be asked rejects no question about its named concepts
never_unsettled : {v : Vocabulary} {b : Board} {r : Result (Unit {0}) Rejection} {e : Rejection} → r ≡ Err e → Settled v b → SettledOr v b r → ⊥
never_unsettled q s (settled t) = let z : ◌≡◌ {A = ℕ} 0 1 = cc in omega arith
never_unsettled q s (other_terms h) = h s.goes
never_unsettled q s (job_waits h w) = w s.quiet

pub answered : {v : Vocabulary} {b : Board} {a d : ℕ} {r : Result ℕ Rejection} → Settled v b → Named v a → d < length v.concepts → Under v b a d r → r ≡ Ok (b.found (under a d))
answered s i l (answer t j k) = refl
answered s i l (unsettled u) = absurd (never_unsettled refl s u)
answered s i l (no_concept t h) = absurd (h i l)

-- a value where a test holds
if_some : (t : Bool) (g : ℕ) → then_some t g ≡ cond t (Some g) None
if_some true g = refl
if_some false g = refl

module _ (v : Vocabulary) (k : Kind) (b : Board) (a d : ℕ) where
  abbrev different : Bool
  different = not (eqb a d) && (is_named v a && is_named v d)

  abbrev some : Bool
  some = not (eqb (b.found (under a d)) k.none)

  both_named : (a ≡ d → ⊥) → is_named v a ≡ true → is_named v d ≡ true → different ≡ true
  both_named ne na nd = and_from (not (eqb a d)) (is_named v a && is_named v d) (not_from_false (eqb a d) (ne_eqb a d ne)) (and_from (is_named v a) (is_named v d) na nd)

  -- two different named concepts with a grade
  pub lists : (a ≡ d → ⊥) → is_named v a ≡ true → is_named v d ≡ true → (b.found (under a d) ≡ k.none → ⊥) → code_to_list v k b a d ≡ Some (b.found (under a d))
  lists ne na nd h =
      cond-true (different && some) (Some (b.found (under a d))) None
      (and_from different some (both_named ne na nd) (not_from_false _ (ne_eqb _ _ h)))

  -- what a board answers for two different named concepts is what is listed
  pub listed_is : (g z : ℕ) → (a ≡ d → ⊥) → is_named v a ≡ true → is_named v d ≡ true → g ≡ b.found (under a d) → z ≡ k.none → then_some (not (eqb g z)) g ≡ code_to_list v k b a d
  listed_is g z ne na nd e n =
      rw (e, n) (if_some some (b.found (under a d)) ∙ sym (ap (λ (t : Bool). cond (t && some) (Some (b.found (under a d))) None) (both_named ne na nd)))

  -- and the other way round
  pub lists_what : (g : ℕ) → code_to_list v k b a d ≡ Some g → (a ≡ d → ⊥) × Named v a × Named v d × (b.found (under a d) ≡ k.none → ⊥) × (g ≡ b.found (under a d))
  lists_what g e = elim (cases_Bool (different && some)) [
    | inr n ↦ let q = cond-false (different && some) (Some (b.found (under a d))) None n in let z : ◌≡◌ {A = ℕ} 0 1 = cc in absurd (omega arith)
    | inl y ↦
        let p = and_parts different some y in
        let q = and_parts (not (eqb a d)) (is_named v a && is_named v d) p.0 in
        let r = and_parts (is_named v a) (is_named v d) q.1 in
        let f = cond-true (different && some) (Some (b.found (under a d))) None y in
        ((λ ad. both_ways (eqb a d) (not-true (eqb a d) q.0) (eq-eqb a d ad)), named_is v a r.0, named_is v d r.1, (λ h. both_ways (eqb _ _) (not-true _ p.1) (eq-eqb _ _ h)), (let s : Some g ≡ Some (b.found (under a d)) = sym e ∙ f in cc))
  ]
