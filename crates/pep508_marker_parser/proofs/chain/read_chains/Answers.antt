use Rattle.std.proofs.Common.{[], refl}
use Rattle.pep508_error.specs.Cursors.{behind}
use Rattle.pep508_comparison_parser.proofs.Warned.{warned_none}
use Rattle.pep508_marker_parser.specs.declared.levels.Levels.{Levels}
use Rattle.pep508_marker_parser.specs.MarkerReading.{Or}
use Rattle.pep508_marker_parser.specs.TreeReading.{chain_at}
use Rattle.pep508_marker_parser.proofs.Steps.{begins, part_on, at_end}
use Rattle.pep508_marker_parser.proofs.chain.read_chains.Goals as goal

pub steps-init : goal.steps-init
steps-init g c =
    let reading = chain_at Or c.args.deepest (behind c.args.start) in
    let levels : Levels = record { builder = c.new.result; openings = c.new-2.result } in
    record {
      reads = record {
        warned = [];
        taken = warned_none g.R.Reporter.takes c.args.reporter.now;
        step_is = begins c.args.deepest c.args.start reading levels c.new-2.ensures.items c.new.ensures refl;
      };
      again = c.requires;
    }

pub steps-preserved-in_ok-step-in-Part : goal.steps-preserved-in_ok-step-in-Part
steps-preserved-in_ok-step-in-Part g c =
    let reading = chain_at Or c.args.deepest (behind c.args.start) in
    let so = c.steps.invariant in
    let done = c.in_ok-step-in-Part in
    record {
      reads = part_on g.R.Reporter.takes c.args.reporter.now c.args.deepest c.args.start reading c.steps.reporter
          c.read_part.new.reporter c.steps.levels
          c.read_part.new.levels c.steps.step so.reads c.in-Part.place c.in-Part.is done.step done.ensures.read;
      again = done.ensures.again;
    }

pub returns-in-End-clause-read : goal.returns-in-End-clause-read
returns-in-End-clause-read g c =
    let reading = chain_at Or c.args.deepest (behind c.args.start) in
    at_end g.R.Reporter.takes c.args.reporter.now c.args.deepest c.args.start reading c.steps.reporter c.steps.levels
    c.steps.step c.steps.invariant.reads c.in-End.place c.in-End.is c.finish.result c.finish.ensures
