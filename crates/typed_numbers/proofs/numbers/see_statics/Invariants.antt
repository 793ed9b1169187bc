use Rattle.std.proofs.Common.{drop}
use Rattle.typed_numbers.proofs.Gathered.{Statics}
use Rattle.typed_numbers.proofs.numbers.see_statics.Given as goal

abbrev pub invariant-loop-object : goal.invariant-loop-object
invariant-loop-object l = Statics (drop l.object-index l.statics) → Statics l.statics
