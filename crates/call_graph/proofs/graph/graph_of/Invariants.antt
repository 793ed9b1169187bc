use Rattle.std.proofs.Common.{◌≡◌, map, take}
use Rattle.c_typed.specs.Chains.{row_of}
use Rattle.c_typed.specs.Views.{function_of}
use Rattle.call_graph.specs.Rows.{rows_of}
use Rattle.call_graph.proofs.graph.graph_of.Given as goal

abbrev pub invariant-loop-function : goal.invariant-loop-function
invariant-loop-function l = rows_of l.rows.items ≡ map (row_of l.functions) (map function_of (take l.function-index l.function-items))
