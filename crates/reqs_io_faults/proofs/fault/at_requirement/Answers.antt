use Rattle.std.proofs.Common.{◌++◌, append_assoc, string_bytes}
use Rattle.reqs_io_faults.specs.FaultText.{requirement_front}
use Rattle.reqs_io_faults.proofs.Texts.{made, said_behind, begins}
use Rattle.reqs_io_faults.proofs.fault.at_requirement.Goals as goal

pub returns : goal.returns
returns c =
    let front = requirement_front c.args.path.now c.args.number c.args.error.now in
    let shown = string_bytes c.in_ok-text.text in
    let whole = made c.format.result _ (front ++ shown) c.format.ensures.ok
    (rw (c.start-start.ensures.start, c.len-len.ensures) (simp append_assoc)) in record {
      text = said_behind c.format.result front shown _ c.in_ok-text.ensures.ok whole;
      front = begins c.format.result front shown whole;
    }
