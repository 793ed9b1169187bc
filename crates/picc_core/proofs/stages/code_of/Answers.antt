use Rattle.std.proofs.Common.{ap, ◌∙◌}
use Rattle.c_typed.specs.Views.{program_of}
use Rattle.program_code.specs.Stated.{sizes}
use Rattle.picc_core.proofs.CopyCounts.{few_blocks}
use Rattle.picc_core.proofs.stages.code_of.Goals as goal

pub pages-requires : goal.pages-requires
pages-requires c =
    few_blocks (program_of c.args.p.now) c.args.copies.now.list.items c.in_ok-order.order.items c.deref-2.result.now c.requires.list c.requires.functions c.in_ok-order.ensures.same
    (c.deref-2.ensures.value ∙ c.in_ok-words.ensures ∙ ap (sizes (program_of c.args.p.now)) c.deref.ensures.value)
