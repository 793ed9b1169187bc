use Rattle.std.proofs.Common.{◌≡◌, ◌++◌, [], length, reverse}
use Rattle.core_code.specs.Tree.{trees_of}
use Rattle.core_code.specs.View.{trees_in}
use Rattle.select_code.specs.Selected.{parts_code}
use Rattle.select_code.proofs.control.+select.Given as goal

abbrev pub invariant-select_parts-loop-k : goal.invariant-select_parts-loop-k
invariant-select_parts-loop-k g l = record {
  put : l.out.list.items ≡ l.initial.out.list.items ++ parts_code (g.W.Wide.code l.wide) l.ending (reverse l.initial.loops.starts.items) (length l.initial.out.list.items) [] (trees_of (trees_in l.parts)) l.k;
  loops : l.loops.starts.items ≡ l.initial.loops.starts.items;
  name : l.out.name ≡ l.initial.out.name;
}
