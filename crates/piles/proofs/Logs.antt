-- What puts and draws make of a log's record, and that a borrowed pile stays the same one.
use Rattle.std.proofs.Common.{◌≡◌, ℕ, List, [], ◌∷◌, ◌++◌, refl, ap, ◌∙◌}
use Rattle.std.specs.Borrow.{MutBor}
use Rattle.piles.specs.declared.log.Log.{Log}
use Rattle.piles.specs.Shapes.{Shape, borrowed, Act, put, drew, Became, nothing, and_then, puts}
use Rattle.piles.specs.Records.{Record, noted, all_noted}
use Rattle.piles.specs.Logs.{pile_of, record_of, logged, drawn_in_acts}

module _ {Y : Type 0} (S : Shape Y) where
  -- the draws among them are noted, in their order
  pub log_noted : {es : List Act} {p q : Log Y} → Became (logged S) es p q → record_of q ≡ all_noted (drawn_in_acts es) (record_of p)
  log_noted nothing = refl
  log_noted (and_then {e = put x} b d) = d.more.1 ∙ log_noted b
  log_noted (and_then {e = drew x} b d) = d.more.1 ∙ ap (noted x) (log_noted b)

  -- a log over a borrowed pile stays over the same one
  pub lent_stays : {es : List Act} {p q : Log (MutBor Y)} → Became (logged (borrowed S)) es p q → (pile_of q).ghost_name ≡ (pile_of p).ghost_name
  lent_stays nothing = refl
  lent_stays (and_then {e = put x} b d) = d.more.0.0 ∙ lent_stays b
  lent_stays (and_then {e = drew x} b d) = d.more.0.0 ∙ lent_stays b

-- among puts there is no draw
pub none_drawn : (xs : List ℕ) → drawn_in_acts (puts xs) ≡ []
none_drawn [] = refl
none_drawn (x ∷ xs) = none_drawn xs

-- one list of numbers after another
pub noted_then : (xs ys : List ℕ) (r : Record) → all_noted (xs ++ ys) r ≡ all_noted xs (all_noted ys r)
noted_then [] ys r = refl
noted_then (x ∷ xs) ys r = ap (noted x) (noted_then xs ys r)
