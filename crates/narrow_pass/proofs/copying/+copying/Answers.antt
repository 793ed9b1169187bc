use Rattle.std.proofs.lemmas.Result.{IfOk-weaker}
use Rattle.core_code.specs.View.{tree_of}
use Rattle.narrow_pass.proofs.Copies.{if_again}
use Rattle.narrow_pass.proofs.copying.+copying.Goals as goal

pub copied_one-returns-in_ok-second-in-If : goal.copied_one-returns-in_ok-second-in-If
copied_one-returns-in_ok-second-in-If t c = record {
  same =
      IfOk-weaker c.condition.result _ _
      (λ made is.
      if_again c.args.c.now c.in-If.test c.in-If.size c.in-If.yes c.in-If.no c.deref-in-If.result.now c.deref-in-If-2.result.now (tree_of c.in_ok-first-in-If.first) (tree_of c.in_ok-second-in-If.second) (tree_of made) c.in-If.is
      c.deref-in-If.ensures c.deref-in-If-2.ensures is c.in_ok-first-in-If.ensures.same c.in_ok-second-in-If.ensures.same)
      c.condition.ensures.condition;
}
