use Rattle.std.proofs.Common.{Vec, Global, ◌≡◌, ℕ, Some, None, ap, sym, ◌∙◌}
use Rattle.std.specs.Option.{option_map}
use Rattle.pep440_text.specs.Releases.{raised}
use Rattle.pep440_text.proofs.LastRaised.{raised_last}
use Rattle.pep440_text.proofs.release.with_last_raised.Goals as goal

pub returns-in_err-next-clause-raised : goal.returns-in_err-next-clause-raised
returns-in_err-next-clause-raised c =
    let next : None ≡ raised c.in_ok-last.last = c.in_err-next.ensures in
    ap (option_map (λ (v : Vec ℕ Global). v.items)) c.from_residual-in_err-next.ensures
    ∙ sym (raised_last _ c.pop.new.self.items c.in_ok-last.last None c.in_ok-last.ensures.items next)

pub returns-clause-raised : goal.returns-clause-raised
returns-clause-raised c =
    let next : Some c.in_ok-next.next ≡ raised c.in_ok-last.last = c.in_ok-next.ensures in
    let rest = raised_last _ c.pop.new.self.items c.in_ok-last.last _ c.in_ok-last.ensures.items next in
    ap Some c.in-Ok.ensures.items ∙ sym rest
