use Rattle.std.proofs.Common.{sym, ap, ◌∙◌}
use Rattle.c_token.specs.declared.token.Punct.TheVariants as marks
use Rattle.c_nodes.specs.Words.{punct}
use Rattle.c_nodes.specs.Trees.{Tree, Join}
use Rattle.c_nodes.specs.Views.{assign_of}
use Rattle.c_nodes.specs.declared.expression.Expr.{out-Expr}
use Rattle.c_nodes.proofs.Shapes.{show_expr}
use Rattle.parse_expr.proofs.Fronts.{comma_last}
use Rattle.parse_expr.proofs.front.lengthened.Goals as goal

pub returns : goal.returns
returns c =
    let e = c.args.expr in
    c.expr.ensures
    ∙ comma_last (assign_of (out-Expr e).first) (out-Expr e).others.items c.push.new.self.items c.next_assign.result c.args.comma (assign_of c.args.assign) c.in_ok-push.ensures.items c.next_assign.ensures
    ∙ ap (λ (t : Tree). Join (punct marks.Comma c.args.comma) t (assign_of c.args.assign)) (sym (show_expr e))
