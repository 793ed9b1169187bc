use Rattle.std.proofs.Common.{◌≡◌, ◌≤◌, ◌++◌, drop}
use Rattle.c_parse.specs.Marks.{marked_from, marked}
use Rattle.c_parse.specs.MarkViews.{marking_of}
use Rattle.c_parse.proofs.marks.mark.Given as goal

abbrev pub invariant-loop-tok : goal.invariant-loop-tok
invariant-loop-tok l = (l.out.items ++ marked_from l.text (marking_of l.marking) (drop l.tok-index l.toks) ≡ marked l.text l.toks) × (l.marking.depth ≤ l.tok-index)
