use Rattle.std.proofs.Common.{◌∙◌, sym, ap, arith}
use Rattle.std.specs.Prelude.{◌+◌, ◌-◌, ◌/◌}
use Rattle.depth_check.specs.Ordered.{is_row_before}
use Rattle.depth_check.proofs.Ordering.{before_most, is_before, not_before}
use Rattle.depth_check.proofs.check.rows_before.Goals as goal

pub loop-low-init : goal.loop-low-init
loop-low-init c = (omega arith, before_most c.args.rows.now c.args.at, omega arith)

pub loop-low-preserved-then-is_row_before : goal.loop-low-preserved-then-is_row_before
loop-low-preserved-then-is_row_before c =
    let e = sym (c.is_row_before.ensures ∙ ap (is_row_before c.args.at) c.row.ensures) ∙ c.if-is_row_before.true in
    let l = is_before 0 c.args.rows.now (c.loop-low.low + (c.loop-low.high - c.loop-low.low) / 2) c.args.at c.requires.rising e in
    (omega (arith, l), c.loop-low.invariant.1, c.loop-low.invariant.2)

pub loop-low-preserved : goal.loop-low-preserved
loop-low-preserved c =
    let e = sym (c.is_row_before.ensures ∙ ap (is_row_before c.args.at) c.row.ensures) ∙ c.if-is_row_before.false in
    let t = c.loop-low-test.true in
    let h = c.loop-low.invariant.2 in
    let l = not_before c.args.rows.now (c.loop-low.low + (c.loop-low.high - c.loop-low.low) / 2) c.args.at (omega (arith, t, h)) e in
    (c.loop-low.invariant.0, l, omega (arith, t, h))
