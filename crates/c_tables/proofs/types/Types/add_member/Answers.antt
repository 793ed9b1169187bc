use Rattle.std.proofs.Common.{List, Ok, sym, ap, ◌∙◌}
use Rattle.type_rules.specs.Known as rule
use Rattle.type_rules.specs.Known.{Known}
use Rattle.type_rules.specs.Rows as rows
use Rattle.c_tables.specs.Tables.{shape_of, types_in}
use Rattle.c_tables.proofs.Rows.{seen_changed, seen_unchanged}
use Rattle.c_tables.proofs.types.Types.add_member.Goals as goal

pub returns-in_ok-add : goal.returns-in_ok-add
returns-in_ok-add c = λ known.
    let old = types_in c.args.self.now known in
    let with_shapes : List rule.Shape → Known = λ l. record old { shapes = l } in
    ap (λ l. Ok (with_shapes l, with_shapes l))
    (sym (seen_changed shape_of c.args.self.now.shapes.items c.args.number c.add.new.self c.in-Some.shape.now (rows.with_member c.args.name.now c.args.ty (rows.bytes_of old c.args.ty.ty)) c.in-Some.ensures.item.3.0
    (c.in_ok-add.ensures.added ∙ (λ j. rows.with_member (c.in_ok-name.ensures.ok j) c.args.ty (c.bytes_of-bytes.ensures known j) (shape_of (c.in-Some.ensures.item.1 j))))))

pub returns-in_default : goal.returns-in_default
returns-in_default c = λ known.
    let old = types_in c.args.self.now known in
    let with_shapes : List rule.Shape → Known = λ l. record old { shapes = l } in
    ap (λ l. Ok (with_shapes l, with_shapes l))
    (sym (seen_unchanged shape_of c.args.self.now.shapes.items c.args.number (rows.with_member c.args.name.now c.args.ty (rows.bytes_of old c.args.ty.ty)) c.in_default.ensures.item.3))
