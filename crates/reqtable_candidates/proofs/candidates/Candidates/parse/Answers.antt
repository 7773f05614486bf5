use Rattle.std.proofs.Common.{◌≡◌, ◌∙◌, Ok, Err, ap, sym, rules}
use Rattle.reqtable_candidates.specs.declared.candidates.CandidatesError.TheVariants.{NotText}
use Rattle.reqtable_candidates.specs.TextLines.{text_lines, each_line}
use Rattle.reqtable_candidates.specs.Candidates.{candidate_at, candidates_of}
use Rattle.reqtable_candidates.proofs.Texts.{text_is_read, no_text_is_read}
use Rattle.reqtable_candidates.proofs.candidates.Candidates.parse.Goals as goal

pub returns-in-Err-clause-answered : goal.returns-in-Err-clause-answered
returns-in-Err-clause-answered c =
    no_text_is_read candidate_at NotText c.args.bytes.now c.in-Err.ensures.no_text.0 ∙ ap (λ n. Err (NotText n)) (sym c.in-Err.ensures.no_text.1)

pub returns-in_err-items-clause-answered : goal.returns-in_err-items-clause-answered
returns-in_err-items-clause-answered c = rw (text_is_read candidate_at NotText c.args.bytes.now c.in-Ok.ensures.is_text) (search rules)

pub returns-clause-answered : goal.returns-clause-answered
returns-clause-answered c = rw (text_is_read candidate_at NotText c.args.bytes.now c.in-Ok.ensures.is_text) (search rules)

pub invariant_of-result : goal.invariant_of-result
invariant_of-result c =
    let bytes = c.args.bytes.now in
    let read : candidates_of bytes ≡ Ok c.in_ok-items.items.items =
    text_is_read candidate_at NotText bytes c.in-Ok.ensures.is_text
    ∙ ap (λ text. each_line candidate_at (text_lines text)) (sym c.in-Ok.ensures.text) ∙ c.in_ok-items.ensures.answered in
    c.candidates_have_printable_versions.ensures bytes c.in_ok-items.items.items read
