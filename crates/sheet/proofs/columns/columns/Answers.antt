use Rattle.std.proofs.Common.{◌≡◌, ◌+◌, ◌-◌, subst, arith}
use Rattle.sheet.proofs.Spaced.{Digits, digit_more, digit_last}
use Rattle.sheet.proofs.columns.columns.Goals as goal

pub loop-place-preserved : goal.loop-place-preserved
loop-place-preserved c =
    let k = c.loop-place.place in
    let m = c.loop-place.rest in
    let xs = c.loop-place.bytes in
    let q : k ≡ k - 1 + 1 = omega arith in
    digit_more c.args.n (k - 1) m xs (omega arith) (omega arith) (omega arith) (subst (λ j. Digits c.args.n j m xs) q c.loop-place.invariant)

pub returns-then-rest-eq0 : goal.returns-then-rest-eq0
returns-then-rest-eq0 c =
    let k = c.loop-place.place in
    let m = c.loop-place.rest in
    let xs = c.loop-place.bytes in
    let q : k ≡ k - 1 + 1 = omega arith in
    digit_last c.args.n (k - 1) m xs (omega arith) (omega arith) (subst (λ j. Digits c.args.n j m xs) q c.loop-place.invariant)
