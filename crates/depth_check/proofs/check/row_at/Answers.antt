use Rattle.std.proofs.Common.{◌∙◌, sym, ap}
use Rattle.std.specs.Prelude.{slice_get}
use Rattle.depth_check.specs.Ordered.{row_if}
use Rattle.depth_check.proofs.Ordering.{there}
use Rattle.depth_check.proofs.check.row_at.Goals as goal

pub returns : goal.returns
returns c = c.row_if.ensures ∙ ap (row_if c.args.at) (c.row.ensures ∙ ap (slice_get c.args.rows.now) c.rows_before.ensures) ∙ sym (there 0 c.args.rows.now c.args.at c.requires.rising)
