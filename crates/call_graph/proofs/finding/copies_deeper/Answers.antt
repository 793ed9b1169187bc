use Rattle.std.proofs.Common.{ap, ◌∙◌}
use Rattle.c_typed.specs.Views.{program_of}
use Rattle.call_graph.specs.Levels.{IsAcyclic, IsFirstRecursive}
use Rattle.call_graph.specs.Rows.{rows_of}
use Rattle.call_graph.proofs.Results.{at_none, at_some, few_rows, recursion_told}
use Rattle.call_graph.proofs.finding.copies_deeper.Goals as goal

pub recursive-requires : goal.recursive-requires
recursive-requires c = few_rows c.args.p.now c.as_slice-graph.result.now (ap rows_of c.as_slice-graph.ensures.value ∙ c.in_ok-rows.ensures)

pub copies_under-requires-clause-acyclic : goal.copies_under-requires-clause-acyclic
copies_under-requires-clause-acyclic c = at_none c.in_ok-number.field-0 (IsAcyclic (rows_of c.as_slice-graph.result.now)) (λ number. IsFirstRecursive (rows_of c.as_slice-graph.result.now) number) c.in_ok-number.ensures c.in-None.is

pub returns-in-Some-clause-recursion : goal.returns-in-Some-clause-recursion
returns-in-Some-clause-recursion c =
    let first = at_some c.in_ok-number.field-0 c.in-Some.number (IsAcyclic (rows_of c.as_slice-graph.result.now)) (λ number. IsFirstRecursive (rows_of c.as_slice-graph.result.now) number) c.in_ok-number.ensures c.in-Some.is in
    recursion_told (program_of c.args.p.now) (rows_of c.as_slice-graph.result.now) c.in-Some.number c.in_ok-function-in-Some.function.items (ap rows_of c.as_slice-graph.ensures.value ∙ c.in_ok-rows.ensures) first c.in_ok-function-in-Some.ensures
