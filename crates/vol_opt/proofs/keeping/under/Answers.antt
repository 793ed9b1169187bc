use Rattle.std.proofs.Common.{◌∙◌, ap}
use Rattle.c_typed.specs.Views.{program_of}
use Rattle.call_graph.specs.Rows.{rows_of}
use Rattle.vol_opt.proofs.Chains.{under_marked}
use Rattle.vol_opt.proofs.keeping.under.Goals as goal

pub returns : goal.returns
returns c =
    under_marked (program_of c.args.p.now) c.deref.result.now c.args.root c.in_ok-marks.marks.items c.mark.new.marks.items (ap rows_of c.deref.ensures.value ∙ c.in_ok-rows.ensures)
    c.in_ok-marks.ensures.length c.in_ok-marks.ensures.exact c.mark.ensures
