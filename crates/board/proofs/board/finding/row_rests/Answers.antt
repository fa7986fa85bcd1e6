use Rattle.std.proofs.Common.{sym, ap, ◌∙◌, tests, arith}
use Rattle.std.proofs.lemmas.Bool.{false≢true}
use Rattle.std.proofs.lemmas.Slice.Eq.{slice_eq-Decides}
use Rattle.std.proofs.lemmas.Bool.Decides.{Decides-eqb}
use Rattle.board.specs.Words.{spot, mark}
use Rattle.reasoning.specs.Derivations.{fact_of}
use Rattle.board.proofs.Finding.{row_quiet}
use Rattle.board.proofs.board.finding.row_rests.Goals.{in-Links, in_default}
use Rattle.board.proofs.board.finding.row_rests.Goals as goal

pub returns : goal.returns
returns c =
    let n = c.args.counts.concepts in
    let m = c.args.counts.roles in
    λ t. row_quiet c.args.words.now n m c.args.series n c.mark.result c.mark-2.result c.spot.result c.spot-2.result
    (λ x e. elim c.match-matches.branch [ in-Links w ↦ absurd (false≢true (sym c.if-matches.false ∙ w.matches-is)) | in_default w ↦ w.in_default.not-Links x e ])
    (grind (arith, tests))
    (c.mark.ensures.is ∙ ap (mark n m) c.job-first.ensures)
    (c.mark-2.ensures.is ∙ ap (mark n m) c.job-last.ensures)
    (c.spot.ensures.is ∙ ap (spot n) (c.fact_of.ensures ∙ ap fact_of c.job-first.ensures))
    (c.spot-2.ensures.is ∙ ap (spot n) (c.fact_of-2.ensures ∙ ap fact_of c.job-last.ensures))
    ((slice_eq-Decides Decides-eqb _ _ c.eq.result c.eq.ensures).0 t)
