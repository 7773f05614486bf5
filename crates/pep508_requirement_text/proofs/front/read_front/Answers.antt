use Rattle.std.proofs.Common.{refl}
use Rattle.std.proofs.lemmas.Result.{err_from_is_err_and}
use Rattle.pep508_name.specs.Name.{normal_name}
use Rattle.pep508_error.specs.declared.refusal.RefusalKind.TheVariants.{Memory}
use Rattle.pep508_error.specs.Cursors.{rest_of, behind}
use Rattle.pep508_requirement_text.proofs.FrontParts.{extras_stop, source_stops, front_is}
use Rattle.pep508_requirement_text.proofs.ShownFront.{behind_on, shows_extras, shows_behind}
use Rattle.pep508_requirement_text.proofs.front.read_front.Goals as goal

pub returns-in_err-extras-clause-read : goal.returns-in_err-extras-clause-read
returns-in_err-extras-clause-read c =
    let returned = err_from_is_err_and c.from_residual-in_err-extras.result c.from_residual-in_err-extras.ensures.1 in
    rw (returned.1, returned.2)
    (extras_stop c.args.vars.now c.in_err-extras.field-0.0.kind (rest_of c.args.start) (behind c.after_whitespace.result)
    c.after_whitespace.ensures.rest c.in_ok-name.name.now (behind c.in_ok-name.named)
    (behind c.after_whitespace-2.result) c.in_ok-name.ensures.read c.after_whitespace-2.ensures.rest
    (c.in_err-extras.ensures.read c.args.vars.now))

pub returns-in_err-source-clause-read : goal.returns-in_err-source-clause-read
returns-in_err-source-clause-read c =
    let returned = err_from_is_err_and c.from_residual-in_err-source.result c.from_residual-in_err-source.ensures.1 in
    rw (returned.1, returned.2)
    (source_stops c.args.vars.now c.in_err-source.field-0.0.kind (rest_of c.args.start) (behind c.after_whitespace.result)
    c.after_whitespace.ensures.rest c.in_ok-name.name.now (behind c.in_ok-name.named)
    (behind c.after_whitespace-2.result) c.in_ok-name.ensures.read c.after_whitespace-2.ensures.rest
    c.in_ok-extras.extras.items (behind c.in_ok-extras.asked) (behind c.after_whitespace-3.result)
    (c.in_ok-extras.ensures.read c.args.vars.now) c.after_whitespace-3.ensures.rest
    c.in_err-source.ensures.read)

pub returns-clause-read : goal.returns-clause-read
returns-clause-read c =
    let read = c.in_ok-source.ensures.read in (
      record {
        name = normal_name c.in_ok-name.name.now;
        extras = c.in_ok-extras.extras.items;
        source = read.0;
      },
      front_is c.args.vars.now Memory (rest_of c.args.start) (behind c.after_whitespace.result)
          c.after_whitespace.ensures.rest c.in_ok-name.name.now (behind c.in_ok-name.named)
          (behind c.after_whitespace-2.result) c.in_ok-name.ensures.read c.after_whitespace-2.ensures.rest
          c.in_ok-extras.extras.items (behind c.in_ok-extras.asked) (behind c.after_whitespace-3.result)
          (c.in_ok-extras.ensures.read c.args.vars.now) c.after_whitespace-3.ensures.rest
          read.0 (behind c.in_ok-source.later) read.1,
      record { name = c.in_ok-name-2.ensures; extras = refl; source = read.2 },
    )

pub returns-in_err-extras-clause-shown : goal.returns-in_err-extras-clause-shown
returns-in_err-extras-clause-shown c =
    let returned = err_from_is_err_and c.from_residual-in_err-extras.result c.from_residual-in_err-extras.ensures.1 in
    rw (returned.1, returned.2)
    (shows_extras c.args.vars.now c.args.start c.after_whitespace.result c.in_err-extras.field-0.0
    c.after_whitespace.ensures.rest c.after_whitespace-2.result c.in_ok-name.name.now (behind c.in_ok-name.named)
    c.in_ok-name.ensures.read c.in_ok-name.ensures.empty c.after_whitespace-2.ensures.rest
    (c.in_err-extras.ensures.read c.args.vars.now))

pub returns-in_err-source-clause-shown : goal.returns-in_err-source-clause-shown
returns-in_err-source-clause-shown c =
    let returned = err_from_is_err_and c.from_residual-in_err-source.result c.from_residual-in_err-source.ensures.1 in
    let start = c.args.start in
    let first = c.after_whitespace.result in
    let named = c.in_ok-name.named in
    let second = c.after_whitespace-2.result in
    let asked = c.in_ok-extras.asked in
    let place = c.after_whitespace-3.result in
    let to_named = behind_on start first named c.after_whitespace.ensures.behind c.in_ok-name.ensures.stays in
    let to_second = behind_on start named second to_named c.after_whitespace-2.ensures.behind in
    let to_asked = behind_on start second asked to_second c.in_ok-extras.ensures.stays in
    let to_place = behind_on start asked place to_asked c.after_whitespace-3.ensures.behind in
    rw (returned.1, returned.2)
    (shows_behind c.args.vars.now start first c.in_err-source.field-0.0 c.after_whitespace.ensures.rest second
    c.in_ok-name.name.now (behind named) c.in_ok-name.ensures.read c.in_ok-name.ensures.empty
    c.after_whitespace-2.ensures.rest place c.in_ok-extras.extras.items (behind asked)
    (c.in_ok-extras.ensures.read c.args.vars.now) c.after_whitespace-3.ensures.rest to_place
    c.in_err-source.ensures.shown)
