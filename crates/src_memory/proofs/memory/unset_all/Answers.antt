use Rattle.std.proofs.Common.{ap, ◌∙◌, arith}
use Rattle.std.specs.Prelude.{slice_set}
use Rattle.src_memory.proofs.Cells.{unset_more}
use Rattle.src_values.specs.declared.objects.Byte.TheVariants.{Unset}
use Rattle.src_memory.proofs.memory.unset_all.Goals as goal

pub loop-k-preserved : goal.loop-k-preserved
loop-k-preserved c = ap (λ xs. slice_set xs c.loop-k.k Unset) c.loop-k.invariant ∙ unset_more c.args.bytes.now.items c.loop-k.k (omega (arith, c.loop-k-test.true, c.len-k-end.ensures))
