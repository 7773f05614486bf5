-- The exit status of the program.
use Rattle.std.specs.Prelude.{ℕ, Result, Ok, Err}
use Rattle.reqs_io_faults.specs.Faults.{status_of}
use Rattle.reqs_io_faults.specs.declared.fault.RunFault.{RunFault}
use Rattle.reqs_io_faults.specs.declared.fault.Status.{Status}
use Rattle.reqs_io_faults.specs.declared.fault.Status.TheVariants.{Answered, Different, Unsatisfied}

-- the exit status for a command's result
abbrev pub status_after : Result Status RunFault → ℕ
status_after (Ok Answered) = 0
status_after (Ok Different) = 1
status_after (Ok Unsatisfied) = 4
status_after (Err fault) = status_of fault
