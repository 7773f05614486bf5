use Rattle.std.proofs.Common.{◌∙◌, ◌++◌, ◌/◌, length, ap₂, ◌&&◌}
use Rattle.std.proofs.lemmas.List.{take-append-drop}
use Rattle.std.proofs.lemmas.Result.{IfOk-weaker}
use Rattle.pep508_conjunctions.specs.Meets.{source_truth}
use Rattle.pep508_conjunctions.proofs.Meets.{alone, alone_points, alone_rises, alone_differs, halves_true}
use Rattle.pep508_conjunctions.proofs.meet.+meet_all.Goals as goal

pub returns-in-Some-clause-points : goal.returns-in-Some-clause-points
returns-in-Some-clause-points g t c =
    let only = alone c.args.sources.now c.in-Some.source.now c.if-sources-lt2.true c.in-Some.ensures.value in
    IfOk-weaker c.lent_truths.result _ _
    (λ truths lent. alone_points g.T.Ord.cmp c.in-Some.source.now c.args.sources.now c.requires only truths lent)
    c.lent_truths.ensures

pub returns-in-Some-clause-rises : goal.returns-in-Some-clause-rises
returns-in-Some-clause-rises g t c =
    let only = alone c.args.sources.now c.in-Some.source.now c.if-sources-lt2.true c.in-Some.ensures.value in
    IfOk-weaker c.lent_truths.result _ _
    (λ truths lent. alone_rises g.T.Ord.cmp c.in-Some.source.now c.args.sources.now c.requires only truths lent)
    c.lent_truths.ensures

pub returns-in-Some-clause-differ : goal.returns-in-Some-clause-differ
returns-in-Some-clause-differ g t c =
    let only = alone c.args.sources.now c.in-Some.source.now c.if-sources-lt2.true c.in-Some.ensures.value in
    IfOk-weaker c.lent_truths.result _ _
    (λ truths lent. alone_differs g.T.Ord.cmp c.in-Some.source.now c.args.sources.now c.requires only truths lent)
    c.lent_truths.ensures

pub returns-clause-points : goal.returns-clause-points
returns-clause-points g t c =
    let sources = c.args.sources.now in
    let parts = c.split_at.ensures in
    let whole = (λ i. parts.front i ++ parts.back i) ∙ take-append-drop (length sources / 2) sources in
    IfOk-weaker c.meet.result _ _
    (λ truths both p. both p
    ∙ ap₂ (λ x y. x && y) (c.in_ok-first.ensures.points p) (c.in_ok-second.ensures.points p)
    ∙ halves_true (λ s. source_truth g.T.Ord.cmp s p) c.split_at.result.0.now c.split_at.result.1.now sources whole)
    c.meet.ensures.points
