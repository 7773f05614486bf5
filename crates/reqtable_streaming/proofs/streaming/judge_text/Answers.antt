use Rattle.std.proofs.Common.{◌≡◌, ◌∙◌, Err, inl, inr, ap, sym, subst}
use Rattle.pep508_evaluation.specs.Valuations.{valuation_of}
use Rattle.reqtable_candidates.specs.TextLines.{text_lines, each_line}
use Rattle.reqtable_candidates.specs.Candidates.{candidate_at, candidates_of, IsNameReached}
use Rattle.reqtable_candidates.specs.declared.candidates.CandidatesError.TheVariants.{NotText}
use Rattle.reqtable_candidates.proofs.Texts.{text_is_read, no_text_is_read}
use Rattle.reqtable_requirements.specs.Asks.{asks_of}
use Rattle.reqtable_streaming.proofs.Lines.{some_lines}
use Rattle.reqtable_streaming.proofs.Read.{judges_mapped}
use Rattle.reqtable_streaming.proofs.streaming.judge_text.Goals as goal

pub returns-in-Err-clause-answered : goal.returns-in-Err-clause-answered
returns-in-Err-clause-answered g c =
    no_text_is_read candidate_at NotText c.args.candidates.now c.in-Err.ensures.no_text.0
    ∙ ap (λ n. Err (NotText n)) (sym c.in-Err.ensures.no_text.1)

pub returns-clause-answered : goal.returns-clause-answered
returns-clause-answered g c =
    let bytes = c.args.candidates.now in
    let v = valuation_of c.args.environment.now c.args.extras.now in
    let same : candidates_of bytes ≡ each_line candidate_at (text_lines c.in-Ok.text.now) =
    text_is_read candidate_at NotText bytes c.in-Ok.ensures.is_text
    ∙ ap (λ text. each_line candidate_at (text_lines text)) (sym c.in-Ok.ensures.text) in
    judges_mapped _ _ c.selected.result (each_line candidate_at (text_lines c.in-Ok.text.now)) (candidates_of bytes) same
    (λ read selection h vars said admits stands by.
    h (asks_of v said) admits (c.in_ok-asks.ensures.said vars said stands) by)
    c.selected.ensures.answered

pub returns-clause-grown : goal.returns-clause-grown
returns-clause-grown g c = λ e.
    let v = valuation_of c.args.environment.now c.args.extras.now in
    elim (c.selected.ensures.grown e) [
      | inl reached ↦ inl (c.in-Ok.ensures.is_text, subst (λ text. IsNameReached (text_lines text)) c.in-Ok.ensures.text reached)
      | inr asked ↦
          inr (some_lines v c.args.lines.now c.in_ok-asks.asks.items c.in_ok-asks.ensures.said asked)
    ]
