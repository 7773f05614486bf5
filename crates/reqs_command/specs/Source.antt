-- The descriptor under which an input is read.
use Rattle.std.specs.Prelude.{◌<ℤ◌, ℤ, pos, Option, IfSome}
use Rattle.reqs_command.specs.declared.source.Source.{Source}
use Rattle.reqs_command.specs.declared.source.Source.TheVariants as source

-- a descriptor is none of those of the standard streams, if its number is known
abbrev pub IsAboveStandard : Option ℤ → Type 0
IsAboveStandard number = IfSome number (λ n. pos 2 <ℤ n)

-- this holds of the file that is read, unless it is standard input
abbrev pub IfFile : {F I : Type 0} → (F → Type 0) → Source F I → Type 0
IfFile holds (source.File file) = holds file
IfFile holds (source.Standard input) = Unit {0}
