use Rattle.std.proofs.Common.{take}
use Rattle.code_place.specs.Marks.{AreMarks}
use Rattle.code_place.proofs.marks.marks_of.Given as goal

abbrev pub invariant-loop-number : goal.invariant-loop-number
invariant-loop-number l = AreMarks (take l.number l.s.blocks.items) l.at l.marks
