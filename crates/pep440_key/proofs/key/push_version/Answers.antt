use Rattle.pep440_key.proofs.Written.{written_by_pieces}
use Rattle.pep440_key.proofs.key.push_version.Goals as goal

pub returns : goal.returns
returns c =
    let pieces = written_by_pieces c.args.key.now.items c.args.version.now in
    cc (c.in_ok-push.ensures.items, c.in_ok-push_front.ensures, c.in_ok-push_suffixes.ensures, c.in_ok-push_local.ensures)
