use Rattle.std.proofs.Common.{rules, ◌+◌, ◌^◌, ◌<◌, length, sym, subst, arith}
use Rattle.std.specs.Str.Iter.{chars_rest}
use Rattle.underline.proofs.Widths.{IsCounted, counted_more, counted_all}
use Rattle.underline.proofs.columns.Goals as goal

pub loop-c-preserved : goal.loop-c-preserved
loop-c-preserved c =
    subst (λ n. IsCounted c.args.text.now (chars_rest c.next.new.self) (c.loop-c.total + n))
    (sym c.char_columns-total.ensures)
    (counted_more c.args.text.now _ _ c.loop-c.total c.in-Some.c c.loop-c.invariant c.in-Some.ensures.steps.0)

pub overflow_add-total : goal.overflow_add-total
overflow_add-total c =
    let size : length c.args.text.now < 2 ^ 63 = search rules in
    let more = loop-c-preserved c in
    let fits = more.fits in
    omega (arith, fits, size)

pub returns : goal.returns
returns c = counted_all c.args.text.now _ c.loop-c.total c.loop-c.invariant c.in-None.ensures.steps.0.0
