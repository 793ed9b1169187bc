use Rattle.std.proofs.Common.{sym, ◌∙◌}
use Rattle.narrow_code.specs.Marks.{stacked}
use Rattle.narrow_pass.specs.Ways.{mark_of, marks_of}
use Rattle.narrow_pass.proofs.Runs.{bytes_own}
use Rattle.narrow_pass.proofs.marks.put_stacked.Goals as goal

pub returns-in-Some : goal.returns-in-Some
returns-in-Some c =
    c.set_stacked.ensures
    ∙ bytes_own c.args.copy (marks_of c.args.here.now.items) c.args.byte c.in-Some.at c.args.count (stacked (mark_of c.args.low) (mark_of c.args.high)) (sym c.own_place.ensures.place ∙ c.in-Some.is)
