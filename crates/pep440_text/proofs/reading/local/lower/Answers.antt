use Rattle.std.proofs.Common.{◌≡◌, true, false}
use Rattle.pep440_text.proofs.Letters.{lower_is_text}
use Rattle.pep440_text.proofs.reading.local.lower.Goals as goal

pub unreachable-requires : goal.unreachable-requires
unreachable-requires c =
    let is_ok : false ≡ true = c.in-Err.ensures.succeeds (lower_is_text c.args.letters.now _ c.in_ok-to_ascii_lowercase.ensures.ok c.requires) in
    absurd (cc)
