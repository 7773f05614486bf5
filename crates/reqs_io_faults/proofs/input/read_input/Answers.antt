use Rattle.std.proofs.Common.{Vec, ℕ, Global, Err, ap}
use Rattle.reqs_io_faults.proofs.Reading.{input_unread}
use Rattle.reqs_io_faults.proofs.input.read_input.Goals as goal

pub returns-in-Err : goal.returns-in-Err
returns-in-Err g c =
    rw c.of_reading.ensures
    (input_unread (λ (bytes : Vec ℕ Global). bytes.items) _ _ _ (λ e. c.in-Err.ensures.too_long (ap Err e)))
