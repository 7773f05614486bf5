use Rattle.std.proofs.Common.{sym, ap, subst, ◌∙◌}
use Rattle.std.specs.Str.{skip_leading_whitespace}
use Rattle.pep508_requirement_text.specs.FrontReading.{front_reading}
use Rattle.pep508_requirement_text.specs.FrontOutcome.{Tells}
use Rattle.pep508_error.specs.Cursors.{behind}
use Rattle.pep508_requirement.proofs.Refusing.{front_error, marker_error, read_up_to, url_error}
use Rattle.pep508_requirement.proofs.marked_requirement.MarkedRequirement.parse_reporter.Goals as goal

pub returns-in-Err-clause-answered : goal.returns-in-Err-clause-answered
returns-in-Err-clause-answered g c =
    front_error _ _ c.args.vars.now c.args.text.now c.of.result c.in-Err.refusal c.of.ensures
    (λ other. c.in-Err.ensures.stays other ∙ c.new.ensures.input)
    (subst (λ text. Tells c.args.vars.now c.in-Err.refusal.kind (front_reading text)) c.new.ensures.rest
    c.in-Err.ensures.read)

pub returns-in-Err-read_asked-clause-answered : goal.returns-in-Err-read_asked-clause-answered
returns-in-Err-read_asked-clause-answered g c =
    let found = c.in-Ok.ensures.read in
    url_error _ _ c.args.vars.now c.args.text.now c.new.result c.in-Ok.found.0.source found.0 (behind c.in-Ok.found.1)
    c.in-Err-read_asked.error (ap front_reading (sym c.new.ensures.rest) ∙ found.1) found.2.source c.in-Ok.ensures.url
    c.new.ensures.input c.in-Err-read_asked.ensures

pub returns-in-Ok-read_behind-clause-answered : goal.returns-in-Ok-read_behind-clause-answered
returns-in-Ok-read_behind-clause-answered g c =
    let found = c.in-Ok.ensures.read in
    let read = c.in-Ok-read_behind.ensures.read in
    record {
      front = found.0;
      left = skip_leading_whitespace (behind c.in-Ok.found.1);
      marker = read.0;
      whole =
          read_up_to _ g.T.Pep508Url.lacks_memory c.args.vars.now c.args.text.now c.in-Ok.found.0.source found.0
          c.in-Ok-read_asked.version_or_url (behind c.in-Ok.found.1)
          (ap front_reading (sym c.new.ensures.rest) ∙ found.1) found.2.source c.in-Ok-read_asked.ensures;
      name = found.2.name;
      extras = found.2.extras;
      is_marker = read.1;
      formula = read.2;
    }

pub returns-in-Ok-read_behind-clause-warnings : goal.returns-in-Ok-read_behind-clause-warnings
returns-in-Ok-read_behind-clause-warnings g c =
    let found = c.in-Ok.ensures.read in
    let read = c.in-Ok-read_behind.ensures.read in
    record {
      front = found.0;
      rest = behind c.in-Ok.found.1;
      marker = read.0;
      reading = ap front_reading (sym c.new.ensures.rest) ∙ found.1;
      is_marker = read.1;
      warned = read.3;
    }

pub returns-in-Err-read_behind-clause-answered : goal.returns-in-Err-read_behind-clause-answered
returns-in-Err-read_behind-clause-answered g c =
    let found = c.in-Ok.ensures.read in
    marker_error _ g.T.Pep508Url.lacks_memory c.args.vars.now c.args.text.now c.of-in-Err-read_behind.result
    c.in-Err-read_behind.refusal c.in-Ok.found.0.source found.0 c.in-Ok-read_asked.version_or_url
    (behind c.in-Ok.found.1) c.of-in-Err-read_behind.ensures
    (λ other. c.in-Err-read_behind.ensures.of other ∙ c.in-Ok.ensures.stays.input ∙ c.new.ensures.input)
    (ap front_reading (sym c.new.ensures.rest) ∙ found.1) found.2.source c.in-Ok-read_asked.ensures
    c.in-Err-read_behind.ensures.read
