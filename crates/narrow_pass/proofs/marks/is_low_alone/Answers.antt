use Rattle.std.proofs.Common.{sym, ◌∙◌, arith}
use Rattle.narrow_pass.specs.Narrowed.{lent_by}
use Rattle.narrow_pass.specs.Ways.{marks_of}
use Rattle.narrow_pass.proofs.Runs.{alone_own, alone_off}
use Rattle.narrow_pass.proofs.marks.is_low_alone.Goals as goal

pub returns-in-Some : goal.returns-in-Some
returns-in-Some c =
    alone_own (lent_by c.args.lent.now) c.args.copy (marks_of c.args.here.now) c.args.run.byte c.in-Some.at c.args.run.count c.is_lent.result c.own_cleared.result c.both.result (sym c.own_place.ensures.place ∙ c.in-Some.is)
    (omega (arith, c.if-run-le1.false)) c.is_lent.ensures c.own_cleared.ensures c.both.ensures
