use Rattle.core_code.specs.View.{trees_in}
use Rattle.narrow_pass.specs.Narrowed.{lent_by}
use Rattle.narrow_pass.specs.Ways.{marks_of}
use Rattle.narrow_pass.proofs.Bodies.{tried_is}
use Rattle.narrow_pass.proofs.pass.tried.Goals as goal

pub returns : goal.returns
returns c = record {
  tried =
      tried_is c.args.alone (lent_by c.args.lent.now) c.args.copy c.new-turns.result.list.items c.in_ok-here.here.items (trees_in c.args.code.now) (trees_in c.in-Some.made.items) (marks_of c.narrow_parts.new.here.items) c.args.size
      c.new-turns.ensures c.in_ok-here.ensures (rw c.in-Some.is at c.in_ok-made.ensures.made);
}
