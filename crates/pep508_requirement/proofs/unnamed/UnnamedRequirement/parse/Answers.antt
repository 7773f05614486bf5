use Rattle.std.proofs.Common.{rules, ◌≡◌, ◌⊎◌, ℕ, List, Ok, Err, refl, subst, ◌∙◌}
use Rattle.pep508_error.specs.declared.refusal.RefusalKind.TheVariants.{Memory}
use Rattle.pep508_requirement_text.specs.FrontReading.Refused.{Malformed}
use Rattle.pep508_requirement_text.specs.FrontOutcome.{IsPlain}
use Rattle.pep508_error.specs.Cursors.{behind}
use Rattle.pep508_requirement_text.specs.UnnamedReading.{IsUnnamedReading}
use Rattle.pep508_requirement_text.specs.UnnamedFound.{seen}
use Rattle.pep508_requirement.proofs.RefusingUnnamed.{unnamed_front_error, unnamed_marker_error}
use Rattle.pep508_requirement.proofs.RefusingUnnamed.{unnamed_url_error}
use Rattle.pep508_requirement.proofs.unnamed.UnnamedRequirement.parse.Goals as goal

pub returns-in-Err-clause-answered : goal.returns-in-Err-clause-answered
returns-in-Err-clause-answered g c =
    unnamed_front_error _ _ c.args.text.now c.of.result c.in-Err.refusal c.of.ensures
    (λ other. c.in-Err.ensures.stays other ∙ c.new.ensures.input)
    (subst
    (λ text. IsPlain c.in-Err.refusal.kind
    × ((c.in-Err.refusal.kind ≡ Memory) ⊎ IsUnnamedReading text (Err Malformed)))
    c.new.ensures.rest c.in-Err.ensures.read)

pub returns-in-Err-read_given-clause-answered : goal.returns-in-Err-read_given-clause-answered
returns-in-Err-read_given-clause-answered g c =
    unnamed_url_error _ _ c.args.text.now (seen c.in-Ok.found.0) (behind c.in-Ok.found.1)
    (subst (λ text. IsUnnamedReading text (Ok (seen c.in-Ok.found.0, behind c.in-Ok.found.1))) c.new.ensures.rest
    c.in-Ok.ensures.read)
    c.in-Err-read_given.error c.in-Ok.found.0.whole.start.input.now
    (let at : c.in-Ok.found.0.whole.start.input.now ≡ c.new.result.input.now = search rules in
    at ∙ c.new.ensures.input) c.in-Err-read_given.ensures

pub returns-in-Ok-read_behind-clause-answered : goal.returns-in-Ok-read_behind-clause-answered
returns-in-Ok-read_behind-clause-answered g c =
    let read = c.in-Ok-read_behind.ensures.read in
    record {
      front = seen c.in-Ok.found.0;
      rest = behind c.in-Ok.found.1;
      marker = read.0;
      reading =
          subst (λ text. IsUnnamedReading text (Ok (seen c.in-Ok.found.0, behind c.in-Ok.found.1))) c.new.ensures.rest
          c.in-Ok.ensures.read;
      url = c.in-Ok-read_given.ensures;
      extras = refl {A = List (List ℕ)};
      is_marker = read.1;
      tree = read.2;
      origin = refl;
    }

pub returns-in-Ok-read_behind-clause-warnings : goal.returns-in-Ok-read_behind-clause-warnings
returns-in-Ok-read_behind-clause-warnings g c =
    let read = c.in-Ok-read_behind.ensures.read in
    record {
      front = seen c.in-Ok.found.0;
      rest = behind c.in-Ok.found.1;
      marker = read.0;
      reading =
          subst (λ text. IsUnnamedReading text (Ok (seen c.in-Ok.found.0, behind c.in-Ok.found.1))) c.new.ensures.rest
          c.in-Ok.ensures.read;
      is_marker = read.1;
      warned = read.3;
    }

pub returns-in-Err-read_behind-clause-answered : goal.returns-in-Err-read_behind-clause-answered
returns-in-Err-read_behind-clause-answered g c =
    unnamed_marker_error _ _ c.args.text.now (seen c.in-Ok.found.0) (behind c.in-Ok.found.1)
    (subst (λ text. IsUnnamedReading text (Ok (seen c.in-Ok.found.0, behind c.in-Ok.found.1))) c.new.ensures.rest
    c.in-Ok.ensures.read)
    c.of-in-Err-read_behind.result c.in-Err-read_behind.refusal c.in-Ok-read_given.url c.in-Ok-read_given.ensures
    c.of-in-Err-read_behind.ensures
    (λ other. c.in-Err-read_behind.ensures.of other ∙ c.in-Ok.ensures.stays.input ∙ c.new.ensures.input)
    c.in-Err-read_behind.ensures.read
