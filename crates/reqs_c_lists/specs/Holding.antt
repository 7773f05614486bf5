-- The reply on many markers in one environment (PEP 508, "Environment Markers").
use Rattle.std.specs.Prelude.{◌≡◌, ℕ, List, [], ◌∷◌, map, codes, Result, Ok}
use Rattle.pep508_environment.specs.Environment.{EnvironmentRecord}
use Rattle.pep508_evaluation.specs.Valuations.{valuation_of}
use Rattle.reqs_io_faults.specs.declared.fault.Input.TheVariants.{Second}
use Rattle.reqs_io_faults.specs.declared.fault.RunFault.{RunFault}
use Rattle.reqs_io_faults.specs.Faults.{Cause, IsPlain, Refuses}
use Rattle.reqs_io_faults.specs.Inputs.{◌>>=◌, extras_of, environment_from}
use Rattle.reqs_c_reply.specs.declared.place.Place.{Place}
use Rattle.reqs_c_reply.specs.Endings.{Ending, EndsIn}
use Rattle.reqs_c_reply.specs.Lines.{batch_lines}
use Rattle.reqs_c_markers.specs.Markers.{mark_in}
use Rattle.reqs_c_lists.specs.Commands.{WithExtras}
use Rattle.reqs_c_lists.specs.Refusals.{IsToldAt}

-- extras and an environment
pub record Surroundings : Type 0 where
  pub extras : List (List ℕ)
  pub environment : EnvironmentRecord

abbrev pub together : List (List ℕ) → EnvironmentRecord → Surroundings
together extras environment = record { extras = extras; environment = environment }

-- the parsed extras and environment, or the first thing at fault: that of the extras first
abbrev pub surroundings_of : List (List ℕ) → List ℕ → Result Surroundings Cause
surroundings_of extras environment = do
  names ← extras_of extras
  read ← environment_from Second 1 environment
  Ok (together names read)

-- the text has a byte for each line, by whether the marker on the line holds in this environment with the
-- extras
pub record AreHeld (texts : Result Surroundings Cause) (markers text : List ℕ) : Type 0 where
  pub read : Surroundings
  pub is_read : texts ≡ Ok read
  pub is_text :
      text ≡ map (mark_in (valuation_of read.environment read.extras)) (batch_lines markers)

-- the texts are refused for a fault, which determines the place and the message
pub record RefusesSurroundings (texts : Result Surroundings Cause) (place : Place) (message : List ℕ)
    : Type 0 where
  pub fault : RunFault
  pub refuses : Refuses IsPlain fault texts
  pub told : IsToldAt ([] ∷ codes "environment" ∷ []) 3 fault place message

abbrev pub HoldsIn : Result Surroundings Cause → List ℕ → Ending → Type 0
HoldsIn texts markers = EndsIn (AreHeld texts markers) (RefusesSurroundings texts)

-- how a call for which markers hold ends
abbrev pub HoldEnds : List ℕ → List ℕ → List ℕ → Ending → Type 0
HoldEnds markers environment =
    WithExtras 3 (λ extras. HoldsIn (surroundings_of extras environment) markers)
