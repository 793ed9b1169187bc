use Rattle.std.proofs.Common.{ap}
use Rattle.core_code.specs.View.{tree_of}
use Rattle.narrow_pass.specs.Narrowed.{lent_by}
use Rattle.narrow_pass.specs.Ways.{marks_of, turns_of}
use Rattle.narrow_pass.proofs.Making.{stays_made}
use Rattle.narrow_pass.proofs.walk.stays.Goals as goal

pub returns : goal.returns
returns c = record {
  made =
      stays_made c.args.alone (lent_by c.args.lent.now) c.args.copy (turns_of c.args.turns.now.list.items) (marks_of c.args.here.now.items) (marks_of c.write.new.here.items) (tree_of c.args.c.now) (tree_of c.in_ok-made.made)
      (rw c.deref.ensures.value at (c.may_go.ensures.goes c.if-not-may_go.false)) (c.lends.ensures.lent c.if-not-lends.false) (rw c.deref-2.ensures.value at (c.reads_same.ensures.same c.if-not-reads_same.false))
      (ap tree_of c.in_ok-made.ensures.same) c.write.ensures;
}
