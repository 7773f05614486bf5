use Rattle.std.proofs.Common.{[], sym, ap, subst, length, arith, refl}
use Rattle.std.proofs.lemmas.List.{append-nil}
use Rattle.std.proofs.lemmas.Result.{err_from_is_err_and}
use Rattle.pep508_error.specs.Cursors.{behind}
use Rattle.pep508_comparison_parser.proofs.Warned.{warned_none}
use Rattle.pep508_marker_parser.specs.declared.levels.Levels.{Levels}
use Rattle.pep508_marker_parser.specs.Levels.{IsAtPart}
use Rattle.pep508_marker_parser.proofs.Chains.{behind_on}
use Rattle.pep508_marker_parser.proofs.Kept.{comparison_keeps}
use Rattle.pep508_marker_parser.proofs.Steps.{opens, too_many, compares, compares_not, of_on, skipped}
use Rattle.pep508_marker_parser.proofs.chain.read_part.Goals as goal

pub returns-then-len-deepest-clause-read : goal.returns-then-len-deepest-clause-read
returns-then-len-deepest-clause-read g c =
    λ start reading warned h.
    let opening = c.after_whitespace-place in
    let refused = c.refuse_depth in (
      too_many c.args.deepest start reading warned c.args.levels.now c.args.place opening.result
          opening.ensures.rest opening.ensures.behind h (behind c.in-Some.inner) c.in-Some.ensures.parts
          (omega (arith, c.len.ensures, c.if-len-deepest.true)) refused.result.kind refused.ensures.fits,
      of_on start opening.result refused.result
          (behind_on start c.args.place opening.result h.stays opening.ensures.behind) refused.ensures.of,
    )

pub returns-in_err-later-in-None-clause-read : goal.returns-in_err-later-in-None-clause-read
returns-in_err-later-in-None-clause-read g c =
    λ start reading warned h.
    let opening = c.after_whitespace-place in
    let refused = c.in_err-later-in-None in
    let returned = err_from_is_err_and c.from_residual-in_err-later-in-None.result
    c.from_residual-in_err-later-in-None.ensures.1 in
    rw (returned.1, returned.2) (
      compares_not c.args.deepest start reading warned c.args.levels.now c.args.place
          opening.result opening.ensures.rest opening.ensures.behind h c.in-None.ensures.parts refused.field-0.0.kind
          refused.ensures.read,
      of_on start opening.result refused.field-0.0
          (behind_on start c.args.place opening.result h.stays opening.ensures.behind) refused.ensures.of,
    )

pub returns-in_ok-push-in-Some-clause-read : goal.returns-in_ok-push-in-Some-clause-read
returns-in_ok-push-in-Some-clause-read g c =
    λ start reading warned h.
    let opening = c.after_whitespace-place in
    let inner = c.in-Some.inner in
    let new : Levels = record { builder = c.open.new.self; openings = c.push.new.self } in (
      [],
      warned_none g.R.Reporter.takes c.args.reporter.now,
      subst (λ ws. IsAtPart c.args.deepest start reading ws new inner) (sym (append-nil warned))
          (opens c.args.deepest start reading warned c.args.levels.now c.args.place opening.result
          opening.ensures.rest opening.ensures.behind h new inner c.in-Some.ensures.parts
          c.in-Some.ensures.later (omega (arith, c.len.ensures, c.if-len-deepest.false))
          c.in_ok-push-in-Some.ensures.items c.in_ok-open-in-Some.ensures),
    )

pub returns-in_ok-push-in-Some-clause-shorter : goal.returns-in_ok-push-in-Some-clause-shorter
returns-in_ok-push-in-Some-clause-shorter g c =
    let opening = c.after_whitespace-place in
    let a = skipped (behind c.args.place) (behind opening.result) opening.ensures.rest in
    let b = ap length c.in-Some.ensures.parts in
    omega (arith, a, b)

pub returns-in_ok-later-in-None-clause-read : goal.returns-in_ok-later-in-None-clause-read
returns-in_ok-later-in-None-clause-read g c =
    λ start reading warned h.
    let opening = c.after_whitespace-place in
    let found = c.in_ok-later-in-None in
    let read = found.ensures.read in
    let new : Levels = record { builder = c.read_compared.new.builder; openings = c.args.levels.now.openings } in (
      read.0.warned,
      read.3,
      compares c.args.deepest start reading warned c.args.levels.now c.args.place
          opening.result opening.ensures.rest opening.ensures.behind h c.in-None.ensures.parts
          new refl read.0 found.later read.1 read.2 found.ensures.stays,
    )

pub returns-in_ok-later-in-None-clause-shorter : goal.returns-in_ok-later-in-None-clause-shorter
returns-in_ok-later-in-None-clause-shorter g c =
    let opening = c.after_whitespace-place in
    let found = c.in_ok-later-in-None in
    let read = found.ensures.read in
    let a = skipped (behind c.args.place) (behind opening.result) opening.ensures.rest in
    let b = comparison_keeps (behind opening.result) (read.0, behind found.later) read.1 in
    omega (arith, a, b)
