use Rattle.std.proofs.Common.{None, Some, lit<}
use Rattle.std.proofs.lemmas.Str.Pattern.{strip_suffix_char}
use Rattle.pep508_url.proofs.ExtrasSplits.{split_at_open, no_end, no_bracket, closed_last}
use Rattle.pep508_url.proofs.splits.split_extras.Goals as goal

pub returns-in_err-inner : goal.returns-in_err-inner
returns-in_err-inner c =
    let none = strip_suffix_char 93 c.args.text.now None c.in_err-inner.ensures.cases (lit< tt) in
    rw c.from_residual.ensures (no_end c.args.text.now none)

pub returns-in_err-place : goal.returns-in_err-place
returns-in_err-place c =
    let end = strip_suffix_char 93 c.args.text.now (Some c.in_ok-inner.inner) c.in_ok-inner.ensures.cases (lit< tt) in
    let none = rw c.as_bytes.ensures.value at c.in_err-place.ensures in
    rw c.from_residual-in_err-place.ensures (no_bracket c.args.text.now c.in_ok-inner.inner.now end none)

pub returns-then-as_bytes-place-eq91 : goal.returns-then-as_bytes-place-eq91
returns-then-as_bytes-place-eq91 c =
    let end = strip_suffix_char 93 c.args.text.now (Some c.in_ok-inner.inner) c.in_ok-inner.ensures.cases (lit< tt) in
    let last = rw c.as_bytes.ensures.value at c.in_ok-place.ensures in
    let here = rw c.as_bytes-2.ensures.value at c.if-as_bytes-place-eq91.true in
    rw (c.split_at.ensures.front, c.split_at.ensures.back)
    (split_at_open c.args.text.now c.in_ok-inner.inner.now c.in_ok-place.place end last here)

pub returns-else-as_bytes-place-eq91 : goal.returns-else-as_bytes-place-eq91
returns-else-as_bytes-place-eq91 c =
    let end = strip_suffix_char 93 c.args.text.now (Some c.in_ok-inner.inner) c.in_ok-inner.ensures.cases (lit< tt) in
    let last = rw c.as_bytes.ensures.value at c.in_ok-place.ensures in
    let other = rw c.as_bytes-2.ensures.value at c.if-as_bytes-place-eq91.false in
    closed_last c.args.text.now c.in_ok-inner.inner.now c.in_ok-place.place end last other
