use Rattle.std.proofs.Common.{◌≡◌, ◌≤◌, List, take}
use Rattle.c_typed.specs.Views.{program_of}
use Rattle.call_graph.specs.declared.types.FnCopy.{FnCopy}
use Rattle.pic_chip.specs.Run.{Setting}
use Rattle.pic_map.specs.MapView.{content_of}
use Rattle.run_compare.proofs.searching.first_fault.Given as goal
use Rattle.run_compare.specs.Searching.{IsOffOf, IsSearched}

abbrev pub invariant-loop-number : goal.invariant-loop-number
invariant-loop-number l = record {
  earlier : l.search.earlier.arrivals.items ≡ take l.number l.off.by_length.arrivals.items;
  few : l.search.moments ≤ l.number;
  searched : (copies : List FnCopy) (g : Setting) → g.arrivals ≡ l.script.arrivals.items → IsOffOf (program_of l.program) g l.off → IsSearched (program_of l.program) copies (content_of l.map) g l.off l.number l.search;
}
