use Rattle.c_typed.specs.Views.{program_of}
use Rattle.call_graph.proofs.Deeper.{tells_none}
use Rattle.call_graph.proofs.finding.copies.Goals as goal

pub returns-clause-depth : goal.returns-clause-depth
returns-clause-depth c = tells_none (program_of c.args.p.now) c.copies_deeper.result c.copies_deeper.ensures.depth
