use Rattle.lean_pass.specs.Views.{hidden_by}
use Rattle.lean_pass.proofs.Hiding.{objects_end, objects_on}
use Rattle.lean_pass.proofs.hidden.+are_clear_objects.Goals as goal

pub returns-in-empty : goal.returns-in-empty
returns-in-empty t c = λ e. objects_end (hidden_by c.args.hidden.now) c.args.lines.now c.in-empty.len_below

pub returns-then-is_clear_range : goal.returns-then-is_clear_range
returns-then-is_clear_range t c =
    λ e. objects_on (hidden_by c.args.hidden.now) c.args.lines.now c.line-item.result _ c.in-len1-up.len_at_least c.line-item.is (c.is_clear_range.ensures c.if-is_clear_range.true) (c.are_clear_objects.ensures e)
