use Rattle.std.proofs.Common.{arith}
use Rattle.std.proofs.lemmas.List.{length-map}
use Rattle.c_typed.specs.Views.{program_of, structure_of}
use Rattle.vol_opt.proofs.Rows.{first_targets, first_structures}
use Rattle.vol_opt.proofs.volatile.first_marks.Goals as goal

pub returns-clause-targets : goal.returns-clause-targets
returns-clause-targets c = first_targets (program_of c.args.p.now) c.in_ok-targets.targets.items c.len.result (omega arith) c.in_ok-targets.ensures

pub returns-clause-structures : goal.returns-clause-structures
returns-clause-structures c =
    let count = length-map c.args.p.now.structures.items structure_of in
    first_structures (program_of c.args.p.now) c.in_ok-structures.structures.items c.len-2.result (omega (arith, count)) c.in_ok-structures.ensures
