use Rattle.std.proofs.Common.{List, Ok, sym, ap}
use Rattle.type_rules.specs.Known as rule
use Rattle.type_rules.specs.Known.{Known}
use Rattle.c_tables.specs.Tables.{shape_of, progress_of, types_in}
use Rattle.c_tables.specs.declared.types.Shape.{Shape}
use Rattle.c_tables.proofs.Rows.{seen_changed, seen_unchanged}
use Rattle.c_tables.proofs.types.Types.set_progress.Goals as goal

pub returns-in-Some : goal.returns-in-Some
returns-in-Some c = λ known.
    let s = c.in-Some.shape.now in
    let with_shapes : List rule.Shape → Known = λ l. record (types_in c.args.self.now known) { shapes = l } in
    ap (λ l. Ok (with_shapes l, with_shapes l))
    (sym (seen_changed shape_of c.args.self.now.shapes.items c.args.number (record { fields = s.fields; size = s.size; body = c.args.body }) s (λ r. record r { body = progress_of c.args.body }) c.in-Some.ensures.item.3.0
    (ap (λ (e : Shape). shape_of (record { fields = e.fields; size = e.size; body = c.args.body })) c.in-Some.ensures.item.1)))

pub returns-in_default : goal.returns-in_default
returns-in_default c = λ known.
    let with_shapes : List rule.Shape → Known = λ l. record (types_in c.args.self.now known) { shapes = l } in
    ap (λ l. Ok (with_shapes l, with_shapes l)) (sym (seen_unchanged shape_of c.args.self.now.shapes.items c.args.number (λ r. record r { body = progress_of c.args.body }) c.in_default.ensures.item.3))
