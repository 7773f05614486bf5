use Rattle.std.proofs.Common.{◌≡◌, ◌<◌, subst, true, false, length, get_or, take, drop, ap, sym, ◌∙◌}
use Rattle.std.proofs.Common.{below_more, arith}
use Rattle.std.proofs.lemmas.List.Sums.{prefix_len_is}
use Rattle.std.specs.Char.{is_ascii_alphanumeric}
use Rattle.std.specs.List.{prefix_len}
use Rattle.std.specs.Str.{IsAscii}
use Rattle.pep440_text.proofs.Letters.{letters_are_ascii}
use Rattle.pep440_text.proofs.reading.local.split_letters.Goals as goal
use Rattle.pep440_text.proofs.reading.local.split_letters.Goals.{then-loop-count-test+else-is_ascii_alphanumeric}
use Rattle.pep440_text.proofs.reading.local.split_letters.Goals.{else-loop-count-test}

-- how many letters were counted
counted : (c : goal.After-split_at) → prefix_len is_ascii_alphanumeric c.args.bytes.now ≡ c.loop-count.count
counted c =
    let stops : c.loop-count.count < length c.args.bytes.now → is_ascii_alphanumeric (get_or c.args.bytes.now c.loop-count.count 0) ≡ false =
    elim c.loop-count-test.branch [ then-loop-count-test+else-is_ascii_alphanumeric w ↦ λ h. cc | else-loop-count-test w ↦ λ h. absurd (omega arith) ] in
    prefix_len_is is_ascii_alphanumeric c.args.bytes.now c.loop-count.count 0 c.loop-count.invariant.within c.loop-count.invariant.passed stops

pub returns-clause-letters : goal.returns-clause-letters
returns-clause-letters c = c.split_at.ensures.front ∙ ap (λ n. take n c.args.bytes.now) (sym (counted c))

pub returns-clause-rest : goal.returns-clause-rest
returns-clause-rest c = c.split_at.ensures.back ∙ ap (λ n. drop n c.args.bytes.now) (sym (counted c))

pub returns-clause-ascii : goal.returns-clause-ascii
returns-clause-ascii c = subst IsAscii (sym (returns-clause-letters c)) (letters_are_ascii c.args.bytes.now)

pub loop-count-preserved : goal.loop-count-preserved
loop-count-preserved c =
    let letter : is_ascii_alphanumeric (get_or c.args.bytes.now c.loop-count.count 0) ≡ true = cc in
    record { within = omega arith; passed = below_more _ _ c.loop-count.invariant.passed letter }
