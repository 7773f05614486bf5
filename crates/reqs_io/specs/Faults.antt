-- The messages for faults.
use Rattle.std.specs.Prelude.{ℕ, List, codes}
use Rattle.reqs_io.specs.declared.ReadFault.{ReadFault}
use Rattle.reqs_io.specs.declared.ReadFault.TheVariants.{Read, TooLong, Memory}

-- why an input was not read whole
abbrev pub read_fault_text : ReadFault → List ℕ
read_fault_text Read = codes "read fault"
read_fault_text TooLong = codes "longer than its limit"
read_fault_text Memory = codes "out of memory"

-- an answer was not written whole
abbrev pub write_fault_text : List ℕ
write_fault_text = codes "write fault"
