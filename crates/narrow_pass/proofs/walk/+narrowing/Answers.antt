use Rattle.core_code.specs.View.{tree_of}
use Rattle.narrow_pass.specs.Narrowed.{lent_by}
use Rattle.narrow_pass.specs.Ways.{marks_of, turns_of, way_in}
use Rattle.narrow_pass.proofs.Making.{choice_made}
use Rattle.narrow_pass.proofs.walk.+narrowing.Goals as goal

pub narrow_one-returns-in_ok-made-in-If : goal.narrow_one-returns-in_ok-made-in-If
narrow_one-returns-in_ok-made-in-If t c = record {
  made =
      choice_made c.args.alone (lent_by c.args.lent.now) c.args.copy (turns_of c.args.turns.now.list.items) c.args.here.now.items c.in_ok-other-in-If.other.items (marks_of c.narrow_one.new.here.items)
      (marks_of c.narrow_one-in-If.new.here.items) (marks_of c.in-Some-4.both.items) c.in-If.test c.in-If.size (way_in c.in-Some-way_of.way) c.args.c.now c.in-If.yes c.in-If.no c.deref-in-If-2.result.now c.deref-in-If-3.result.now
      (tree_of c.in-Some-2.first) (tree_of c.in-Some-3.second) (tree_of c.in_ok-made-in-If.made) c.in-If.is c.deref-in-If-2.ensures c.deref-in-If-3.ensures
      (rw c.deref-in-If.ensures.value at (rw c.in-Some-way_of.is at c.way_of.ensures.fits)) (rw c.in-Some-way_of.is at c.way_of.ensures.whole) c.in_ok-other-in-If.ensures (rw c.in-Some-2.is at c.in_ok-first-in-If.ensures.made)
      (rw c.in-Some-3.is at c.in_ok-second-in-If.ensures.made) (rw (c.deref-in-If-4.ensures.value, c.deref-in-If-5.ensures.value) at (rw c.in-Some-4.is at c.in_ok-both-in-If.ensures))
      c.in_ok-made-in-If.ensures.choice;
}
