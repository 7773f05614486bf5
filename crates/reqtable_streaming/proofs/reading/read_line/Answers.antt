use Rattle.std.proofs.Common.{◌∙◌, List, ℕ, IsTrue, Some, take, ap, sym, subst, true≢false}
use Rattle.std.specs.Str.{trim}
use Rattle.pep440_version.specs.Reading.{version_of}
use Rattle.pep508_name.specs.Name.{name_of}
use Rattle.pep508_name.proofs.Again.{normal_again}
use Rattle.reqtable_candidates.specs.TextLines.{without_comment, is_blank}
use Rattle.reqtable_candidates.specs.CandidateLine.{candidate_by, has_name}
use Rattle.reqtable_candidates.specs.Candidates.{at_line, candidate_at}
use Rattle.reqtable_streaming.proofs.LineByLine.{offers_same, plain_reading, plain_named}
use Rattle.reqtable_streaming.proofs.reading.read_line.Goals as goal

pub with_front-name-requires : goal.with_front-name-requires
with_front-name-requires g c =
    let found = c.in-Some.ensures.parts in
    let form : List ℕ = take c.in-Some.read.name c.plain_line.new.normal in
    let value = c.split_at.ensures.front in
    ap name_of value ∙ normal_again found.0 form found.2 ∙ ap (λ n. Some n) (sym value)

pub returns-in-Some-clause-blank : goal.returns-in-Some-clause-blank
returns-in-Some-clause-blank g c = λ blank.
    let found = c.in-Some.ensures.parts in
    let bare = ap (λ l. is_blank (without_comment l)) c.without_return.ensures in
    absurd (true≢false (sym blank ∙ sym bare ∙ found.1.is_kept))

pub returns-in-Some-clause-answered : goal.returns-in-Some-clause-answered
returns-in-Some-clause-answered g c = λ kept.
    let found = c.in-Some.ensures.parts in
    let line = c.without_return.result.now in
    let version = c.in-Some.read.version.now in
    let form : List ℕ = take c.in-Some.read.name c.plain_line.new.normal in
    let value = c.split_at.ensures.front in
    let number = c.args.number in
    offers_same _ _ _ _
    (ap (λ l. candidate_at number (without_comment l)) (sym c.without_return.ensures)
    ∙ plain_reading line found.0 version form found.1 found.2 number
    ∙ ap (λ n. at_line number (candidate_by (Some n) (version_of version)))
    (sym (c.with_front-name.ensures ∙ value)))
    c.read_plain.ensures.answered

pub returns-in-Some-clause-grown : goal.returns-in-Some-clause-grown
returns-in-Some-clause-grown g c = λ e.
    let found = c.in-Some.ensures.parts in
    let form : List ℕ = take c.in-Some.read.name c.plain_line.new.normal in
    let P : List ℕ → Type 0 = λ l. IsTrue (has_name (trim (without_comment l))) in
    subst P c.without_return.ensures
    (plain_named c.without_return.result.now found.0 c.in-Some.read.version.now form found.1 found.2)

pub returns-then-is_blank-clause-answered : goal.returns-then-is_blank-clause-answered
returns-then-is_blank-clause-answered g c = λ kept.
    absurd (true≢false (sym c.if-is_blank.true ∙ c.is_blank.ensures ∙ ap is_blank c.line_text-text.ensures ∙ kept))

pub returns-clause-blank : goal.returns-clause-blank
returns-clause-blank g c = λ blank.
    absurd (true≢false (sym blank ∙ sym (ap is_blank c.line_text-text.ensures) ∙ sym c.is_blank.ensures ∙ c.if-is_blank.false))

pub returns-clause-answered : goal.returns-clause-answered
returns-clause-answered g c = λ kept.
    offers_same _ _ _ _ (ap (candidate_at c.args.number) (sym c.line_text-text.ensures)) c.read_other.ensures.answered

pub returns-clause-grown : goal.returns-clause-grown
returns-clause-grown g c = λ e.
    let P : List ℕ → Type 0 = λ l. IsTrue (has_name (trim l)) in
    subst P c.line_text-text.ensures (c.read_other.ensures.grown e)
