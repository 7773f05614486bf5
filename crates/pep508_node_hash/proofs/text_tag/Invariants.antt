use Rattle.std.proofs.Common.{◌≡◌, drop}
use Rattle.pep508_node_hash.specs.Tags.{bytes_tag}
use Rattle.pep508_node_hash.proofs.text_tag.Given as goal

abbrev pub invariant-loop-byte : goal.invariant-loop-byte
invariant-loop-byte l = bytes_tag l.tag (drop l.byte-index l.byte-items) ≡ bytes_tag 0 l.text
