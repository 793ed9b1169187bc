use Rattle.std.proofs.Common.{sym, ap, ◌∙◌}
use Rattle.c_typed.specs.Sameness.{same_type}
use Rattle.c_typed.specs.Trees as typed
use Rattle.c_typed.specs.Types.{type_of}
use Rattle.c_typed.specs.Views.{expression_of, place_of}
use Rattle.type_rules.specs.Rows.{bytes_of}
use Rattle.type_rules.specs.Terms.{value_term}
use Rattle.type_rules.specs.Writes as rule
use Rattle.c_tables.specs.Tables.{types_in}
use Rattle.c_terms.specs.Terms.{operand_of, valued}
use Rattle.c_operate.proofs.WriteSteps.{is_copied}
use Rattle.c_terms.proofs.Refusing.{made}
use Rattle.c_operate.proofs.writes.copied.Goals as goal

pub returns : goal.returns
returns c = λ known.
    let here = types_in c.args.types.now known in
    let place = place_of c.args.place in
    let from = place_of c.in-Some.source in
    let line = c.args.line in
    made (valued line) (rule.copy place (operand_of c.args.from) line here) c.in_ok-copy_node.field-0 _ here
    (is_copied place (operand_of c.args.from) line here from
    (sym (c.if-not-same_type.ensures ∙ (ap (λ ty. same_type ty c.ty-ty.result.ty) c.ty.ensures ∙ ap (λ q. same_type (type_of (expression_of c.args.from.value)) q.ty) c.ty-ty.ensures)))
    (sym c.in-Some.ensures))
    (ap (λ e. value_term e line) (c.in_ok-copy_node.ensures ∙ ap (λ size. typed.StructAssign place from size line) (c.bytes_of-size.ensures known ∙ ap (λ q. bytes_of here q.ty) c.ty-ty.ensures)))
