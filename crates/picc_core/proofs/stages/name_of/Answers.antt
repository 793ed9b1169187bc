use Rattle.std.proofs.Common.{sym, ◌∙◌, arith}
use Rattle.call_graph.proofs.Results.{named}
use Rattle.picc_core.proofs.stages.name_of.Goals as goal

pub returns : goal.returns
returns c = c.in_ok-name.ensures.items ∙ (c.deref.ensures.value ∙ sym (named c.args.p.now.functions.items c.args.number c.index.result.now (omega arith) c.index.ensures))
