use Rattle.std.proofs.Common.{List, ℕ, subst}
use Rattle.pep508_requirement_text.specs.FrontReading.{specifiers_of_text}
use Rattle.pep508_requirement_text.specs.FrontOutcome.{ReadsSpecifiers}
use Rattle.pep508_requirement_text.proofs.ListPlaces.{blanks_at, list_at, trimmed_is}
use Rattle.pep508_requirement_text.proofs.Shown.{place_past, shows_trimmed}
use Rattle.pep508_requirement_text.proofs.ShownFront.{told_as}
use Rattle.pep508_requirement_text.specs.FrontSpans.{ShowsPiece}
use Rattle.pep508_requirement_text.proofs.list.read_trimmed.Goals as goal

pub pass-requires : goal.pass-requires
pass-requires c =
    blanks_at c.args.start c.args.text.now c.split_blanks.result.0.now c.split_blanks.result.1.now c.requires
    c.split_blanks.ensures

pub read_specifiers-requires : goal.read_specifiers-requires
read_specifiers-requires c =
    list_at c.args.start c.args.text.now c.split_blanks.result.0.now c.split_blanks.result.1.now c.requires
    c.split_blanks.ensures c.pass.result c.pass.ensures.whole

pub returns-clause-read : goal.returns-clause-read
returns-clause-read c =
    subst (λ (t : List ℕ). ReadsSpecifiers c.read_specifiers.result (specifiers_of_text t))
    (trimmed_is c.args.text.now c.split_blanks.result.0.now c.split_blanks.result.1.now c.split_blanks.ensures)
    c.read_specifiers.ensures.read

pub returns-clause-shown : goal.returns-clause-shown
returns-clause-shown c =
    told_as
    (λ refusal h.
    shows_trimmed c.args.start.input.now c.args.text.now c.split_blanks.result.0.now c.split_blanks.result.1.now
    c.args.start.position c.pass.result.position refusal c.split_blanks.ensures.cut.whole
    (trimmed_is c.args.text.now c.split_blanks.result.0.now c.split_blanks.result.1.now c.split_blanks.ensures)
    (place_past c.args.start c.pass.result c.split_blanks.result.0.now c.pass.ensures.behind c.pass.ensures.whole)
    (subst (λ (input : List ℕ). ShowsPiece input c.pass.result.position c.split_blanks.result.1.now refusal)
    c.pass.ensures.behind.input h))
    c.read_specifiers.result c.read_specifiers.ensures.shown
