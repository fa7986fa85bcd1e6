use Rattle.std.proofs.Common.{◌≡◌, ℕ, ◌<◌, true, ◌⊎◌, length, inl, inr, ap₂, arith}
use Rattle.terms.specs.Views.{terms_of}
use Rattle.board.specs.Layout.{words_needed}
use Rattle.board.specs.Rejections.{too_few_words, unfit_pile}
use Rattle.board.proofs.Tallies.{tally_found, count_none}
use Rattle.board.proofs.checking.check.Goals as goal
use Rattle.board.proofs.checking.check.Goals.{then-size-counts-via-then-size-counts, then-size-counts-via-else-size-counts+then-count-gt0}

pub returns-then-size-counts : goal.returns-then-size-counts
returns-then-size-counts g c =
    let v = terms_of c.args.terms.now in
    let s = g.P.Pile.shape.numbers c.args.pile.now in
    let why : (s.size < length v.concepts) ⊎ ((x : ℕ) × (s.holds x ≡ true)) =
    elim c.then-size-counts.branch [
      | then-size-counts-via-then-size-counts w ↦ inl (let l = w.if-size-counts.true in omega (arith, c.of-counts.ensures.concepts))
      | then-size-counts-via-else-size-counts+then-count-gt0 w ↦ inr (tally_found s.holds s.size (let l = w.if-count-gt0.true in let q = w.count.ensures in omega arith))
    ] in
    unfit_pile c.in_ok-check_codes.ensures (omega (arith, ap₂ words_needed c.of-counts.ensures.concepts c.of-counts.ensures.roles)) why

pub returns-then-words : goal.returns-then-words
returns-then-words g c = too_few_words c.in_ok-check_codes.ensures (omega (arith, ap₂ words_needed c.of-counts.ensures.concepts c.of-counts.ensures.roles))

pub returns : goal.returns
returns g c =
    record {
      coded = c.in_ok-check_codes.ensures;
      enough = omega (arith, ap₂ words_needed c.of-counts.ensures.concepts c.of-counts.ensures.roles);
      wide = omega (arith, c.of-counts.ensures.concepts);
      empty = count_none (g.P.Pile.shape.numbers c.args.pile.now) (omega arith);
    }
