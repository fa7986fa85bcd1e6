-- Results by cases, and the exit of a `?`.
use Rattle.std.proofs.Common.{◌≡◌, IsErrAnd, Err, Result, sym, ap, ◌∙◌, subst, MatchResult}
use Rattle.std.proofs.lemmas.Result.{err_from_is_err_and}

-- what is returned, where the error is handed on by an equation
pub broke : {T E : Type 0} (r : Result T E) (e : E) → IsErrAnd r (λ y. y ≡ e) → r ≡ Err e
broke {T} {E} r e h = let p = err_from_is_err_and r h in p.1 ∙ ap {A = E} {B = Result T E} Err p.2

pub cases_of_err : {T E : Type 0} {r : Result T E} {x : E} (P : T → Type 0) (Q : E → Type 0) → r ≡ Err x → Q x → MatchResult r P Q
cases_of_err P Q e h = subst (λ q. MatchResult q P Q) (sym e) h
