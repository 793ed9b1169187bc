use Rattle.narrow_code.specs.Links.{is_lent}
use Rattle.narrow_pass.specs.Narrowed.{lent_by}
use Rattle.narrow_pass.proofs.Taken.{many_lends, if_lends, loop_lends}
use Rattle.narrow_pass.proofs.lending.+lending.Goals as goal

pub lends_only-returns-in-Many : goal.lends_only-returns-in-Many
lends_only-returns-in-Many t c = record {
  lent = λ e. many_lends (is_lent (lent_by c.args.lent.now)) c.args.c.now c.in-Many.parts c.deref.result.now c.in-Many.is c.deref.ensures.value (c.all_lend.ensures.lent e);
}

pub lends_only-returns-else-not-lends_only : goal.lends_only-returns-else-not-lends_only
lends_only-returns-else-not-lends_only t c = record {
  lent = λ e.
      if_lends (is_lent (lent_by c.args.lent.now)) c.args.c.now c.in-If.test c.in-If.size c.in-If.yes c.in-If.no c.deref-in-If.result.now c.deref-in-If-2.result.now c.in-If.is c.deref-in-If.ensures c.deref-in-If-2.ensures
      (c.lends_only.ensures.lent c.if-not-lends_only.false) (c.lends_only-in-If.ensures.lent e);
}

pub lends_only-returns-in-Loop : goal.lends_only-returns-in-Loop
lends_only-returns-in-Loop t c = record {
  lent = λ e. loop_lends (is_lent (lent_by c.args.lent.now)) c.args.c.now c.in-Loop.body c.deref-in-Loop.result.now c.in-Loop.is c.deref-in-Loop.ensures (c.lends_only-in-Loop.ensures.lent e);
}
