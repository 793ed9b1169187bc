use Rattle.std.proofs.Common.{take}
use Rattle.core_code.specs.View.{trees_in}
use Rattle.narrow_pass.specs.Narrowed.{lent_by}
use Rattle.narrow_pass.specs.Ways.{AreMade, marks_of, turns_of}
use Rattle.narrow_pass.proofs.walk.+narrowing.Given as goal

abbrev pub invariant-narrow_parts-loop-k : goal.invariant-narrow_parts-loop-k
invariant-narrow_parts-loop-k l = AreMade l.alone (lent_by l.lent) l.copy (turns_of l.turns.list.items) (marks_of l.initial.here.items) (trees_in (take l.k l.parts)) (trees_in l.made.items) (marks_of l.here.items)
