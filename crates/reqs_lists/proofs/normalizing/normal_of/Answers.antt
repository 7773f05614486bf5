use Rattle.std.proofs.Common.{refl, string_bytes}
use Rattle.reqs_lists.proofs.normalizing.normal_of.Goals as goal

pub returns-in_ok-normal_in-in-Ok : goal.returns-in_ok-normal_in-in-Ok
returns-in_ok-normal_in-in-Ok c = λ vars said stands.
    let h = c.in-Ok.ensures vars said stands in
    (((refl, (string_bytes c.in-Ok.text, h.1, c.in_ok-normal_in-in-Ok.ensures)), h.0), tt)
