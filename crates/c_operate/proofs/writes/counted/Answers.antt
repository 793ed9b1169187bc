use Rattle.std.proofs.Common.{sym, ap, ◌∙◌}
use Rattle.type_rules.specs.Rows.{bytes_of, is_complete}
use Rattle.type_rules.specs.Writes as rule
use Rattle.c_tables.specs.Tables.{types_in}
use Rattle.c_operate.proofs.WriteSteps.{counts_pointer, no_count}
use Rattle.c_operate.proofs.writes.counted.Goals as goal

pub returns-then-is_complete : goal.returns-then-is_complete
returns-then-is_complete c = λ known.
    let here = types_in c.args.types.now known in
    counts_pointer here c.in-Pointer.row c.bytes_of.result (sym (c.if-is_complete.ensures known ∙ ap (λ ty. is_complete here ty.ty) (c.target-target.ensures known)))
    (c.bytes_of.ensures known ∙ ap (λ ty. bytes_of here ty.ty) (c.target-target.ensures known))
    ∙ ap (rule.counted here) (sym c.in-Pointer.is)

pub returns-else-is_complete : goal.returns-else-is_complete
returns-else-is_complete c = λ known.
    let here = types_in c.args.types.now known in
    no_count here c.in-Pointer.row (sym (c.if-is_complete.ensures known ∙ ap (λ ty. is_complete here ty.ty) (c.target-target.ensures known)))
    ∙ ap (rule.counted here) (sym c.in-Pointer.is)
