use Rattle.std.proofs.Common.{sym, ap, ◌∙◌}
use Rattle.c_ints.specs.declared.types.IntTy.TheVariants.{UChar}
use Rattle.c_ints.specs.declared.operators.BinOp.{BinOp}
use Rattle.core_code.specs.Tree as tree
use Rattle.core_code.specs.View.{tree_of}
use Rattle.core_code.specs.declared.code.Core.TheVariants as Core
use Rattle.core_code.proofs.Views.{tree_binary}
use Rattle.narrow_pass.specs.Narrowed.{lent_by}
use Rattle.narrow_pass.specs.Ways.{marks_of, turns_of}
use Rattle.narrow_pass.proofs.Making.{cut_made}
use Rattle.narrow_pass.proofs.walk.cut.Goals as goal

pub returns-else-not-may_cut : goal.returns-else-not-may_cut
returns-else-not-may_cut c =
    let b = c.in-Binary in
    record {
      made =
          cut_made c.args.alone (lent_by c.args.lent.now) c.args.copy (turns_of c.args.turns.now.list.items) (marks_of c.args.here.now.items) (marks_of c.put_cut.new.here.items) b.op b.ty b.to b.left b.right (tree_of c.args.c.now)
          (tree_of (Core.Binary c.low_op.result UChar b.to b.left b.right)) (sym c.may_change.ensures ∙ c.if-not-may_change.false) (rw c.deref.ensures.value at (sym c.may_cut.ensures ∙ c.if-not-may_cut.false)) (ap tree_of b.is ∙ tree_binary b.op b.ty b.to b.left b.right)
          (tree_binary c.low_op.result UChar b.to b.left b.right ∙ ap (λ (o : BinOp). tree.Binary o UChar b.to b.left b.right) c.low_op.ensures) c.put_cut.ensures;
    }
