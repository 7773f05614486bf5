use Rattle.std.proofs.Common.{◌≡◌, [], refl, rules}
use Rattle.std.proofs.lemmas.Result.{err_from_is_err_and}
use Rattle.pep508_marker_parser.specs.declared.levels.Levels.{Levels}
use Rattle.pep508_marker_parser.proofs.Steps.{ends, leaves, stays_open, same_text, of_on}
use Rattle.pep508_marker_parser.proofs.chain.leave.Goals as goal

pub returns-in_err-later-in-Some-clause-read : goal.returns-in_err-later-in-Some-clause-read
returns-in_err-later-in-Some-clause-read c =
    λ deepest start reading warned h.
    let old = c.args.levels.now in
    let new : Levels = record { builder = old.builder; openings = c.pop.new.self } in
    let end = c.args.end in
    let opening = c.in-Some.opening in
    let refused = c.in_err-later-in-Some in
    let refusal = refused.field-0.0 in
    let returned = err_from_is_err_and c.from_residual.result c.from_residual.ensures.1 in
    rw (returned.1, returned.2) (
      stays_open deepest start reading warned old end new opening c.in-Some.ensures.items h refusal.kind
          (refused.ensures.read h.whole),
      of_on start end refusal h.stays
          (refused.ensures.of (same_text deepest start reading warned old end new opening c.in-Some.ensures.items h)),
    )

pub returns-in-None-clause-read : goal.returns-in-None-clause-read
returns-in-None-clause-read c =
    λ deepest start reading warned h.
    let old = c.args.levels.now in
    let new : Levels = record { builder = old.builder; openings = c.pop.new.self } in
    let none : old.openings.items ≡ [] = search rules in
    ends deepest start reading warned old c.args.end h none new refl

pub returns-in_ok-later-in-Some-clause-read : goal.returns-in_ok-later-in-Some-clause-read
returns-in_ok-later-in-Some-clause-read c =
    λ deepest start reading warned h.
    let old = c.args.levels.now in
    let new : Levels = record { builder = c.close-in-Some.new.self; openings = c.pop.new.self } in
    let later = c.in_ok-later-in-Some in
    leaves deepest start reading warned old c.args.end new c.in-Some.opening c.in-Some.ensures.items h later.later
    later.ensures.stays (later.ensures.read h.whole)
    (λ whole begun waiting stands. (c.close-in-Some.ensures whole begun waiting stands).1)
