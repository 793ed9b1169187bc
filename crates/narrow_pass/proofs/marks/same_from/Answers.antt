use Rattle.std.proofs.Common.{sym, ◌∙◌}
use Rattle.narrow_pass.specs.Narrowed.{lent_by}
use Rattle.narrow_pass.specs.Ways.{marks_of}
use Rattle.narrow_pass.proofs.Runs.{agree_steady, agree_own}
use Rattle.narrow_pass.proofs.marks.same_from.Goals as goal

pub returns-then-is_steady : goal.returns-then-is_steady
returns-then-is_steady c = record { same = λ e. agree_steady (lent_by c.args.lent.now) c.args.copy (marks_of c.args.here.now) c.args.run.byte c.args.run.count (sym c.is_steady.ensures ∙ c.if-is_steady.true) }

pub returns-in-Some : goal.returns-in-Some
returns-in-Some c = record {
  same = λ e. agree_own (lent_by c.args.lent.now) c.args.copy (marks_of c.args.here.now) c.args.run.byte c.in-Some.at c.args.run.count (sym c.own_place.ensures.place ∙ c.in-Some.is) (c.own_same.ensures.same e);
}
