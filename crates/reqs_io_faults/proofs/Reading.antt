-- Why an input was not read whole, as a fault of the command.
use Rattle.std.proofs.Common.{◌≡◌, ℕ, List, [], Option, Some, None, Err, refl}
use Rattle.reqs_io.specs.declared.ReadFault.{ReadFault}
use Rattle.reqs_io.specs.declared.ReadFault.TheVariants as ends
use Rattle.reqs_io.specs.Front.{AreAsTold, MayBeLonger}
use Rattle.reqs_io_faults.specs.declared.fault.Input.{Input}
use Rattle.reqs_io_faults.specs.Faults.{of_reading}
use Rattle.reqs_io_faults.specs.Inputs.{ReadsInput, input_limit}

-- bytes that a reader may have
pub some_bytes : Option (List ℕ) → List ℕ
some_bytes None = []
some_bytes (Some bytes) = bytes

pub as_told : (told : Option (List ℕ)) → AreAsTold told (some_bytes told)
unfolding some_bytes
as_told None = tt
as_told (Some bytes) = refl

-- an input that was not read whole
pub input_unread : {X : Type 0} (view : X → List ℕ) (input : Input) (told : Option (List ℕ)) (fault : ReadFault)
    → (fault ≡ ends.TooLong → MayBeLonger input_limit told)
    → ReadsInput input view told (Err (of_reading input fault))
input_unread view input told ends.Read longer = refl
input_unread view input told ends.TooLong longer = (refl, longer refl)
input_unread view input told ends.Memory longer = tt
