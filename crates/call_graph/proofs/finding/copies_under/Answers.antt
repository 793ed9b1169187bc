use Rattle.std.proofs.Common.{ℕ, List, map, ◌∙◌, subst, arith}
use Rattle.std.proofs.lemmas.List.{length-map}
use Rattle.c_typed.specs.Roots.{is_main, is_handler}
use Rattle.c_typed.specs.Views.{function_of, program_of}
use Rattle.call_graph.specs.Levels.{IsAcyclic}
use Rattle.call_graph.specs.Rows.{rows_of}
use Rattle.call_graph.proofs.Results.{finished, has_depth, rows_size}
use Rattle.call_graph.proofs.Searches.{first_within}
use Rattle.call_graph.proofs.finding.copies_under.Goals as goal

pub levels_from-requires-clause-within : goal.levels_from-requires-clause-within
levels_from-requires-clause-within c =
    let lt = first_within is_main (map function_of c.args.p.now.functions.items) 0 c.args.roots.main c.requires.main in
    let count = rows_size c.args.rows.now (program_of c.args.p.now) c.requires.graph in
    omega (arith, lt, count)

pub handler_levels-requires-clause-within : goal.handler_levels-requires-clause-within
handler_levels-requires-clause-within c = λ x is.
    let lt = first_within is_handler (map function_of c.args.p.now.functions.items) 0 x (c.requires.handler ∙ is) in
    let count = rows_size c.args.rows.now (program_of c.args.p.now) c.requires.graph in
    omega (arith, lt, count)

pub returns-then-depth-gt-DEEPEST-clause-recursion :
    goal.returns-then-depth-gt-DEEPEST-clause-recursion
returns-then-depth-gt-DEEPEST-clause-recursion c = subst (λ (g : List (List ℕ)). IsAcyclic g) c.requires.graph c.requires.acyclic

pub returns-clause-recursion : goal.returns-clause-recursion
returns-clause-recursion c = subst (λ (g : List (List ℕ)). IsAcyclic g) c.requires.graph c.requires.acyclic

pub returns-then-depth-gt-DEEPEST-clause-depth :
    goal.returns-then-depth-gt-DEEPEST-clause-depth
returns-then-depth-gt-DEEPEST-clause-depth c = (
  has_depth (program_of c.args.p.now) c.args.deeper.now (rows_of c.args.rows.now) c.args.roots.main c.args.roots.handler c.in_ok-main.main c.in_ok-handler.handler c.depth_by-depth.result c.requires.graph c.requires.main c.requires.handler c.in_ok-main.ensures c.in_ok-handler.ensures c.depth_by-depth.ensures,
  omega arith,
)

pub returns-clause-depth : goal.returns-clause-depth
returns-clause-depth c = (
  has_depth (program_of c.args.p.now) c.args.deeper.now (rows_of c.args.rows.now) c.args.roots.main c.args.roots.handler c.in_ok-main.main c.in_ok-handler.handler c.depth_by-depth.result c.requires.graph c.requires.main c.requires.handler c.in_ok-main.ensures c.in_ok-handler.ensures c.depth_by-depth.ensures,
  omega arith,
)

pub returns-clause-list : goal.returns-clause-list
returns-clause-list c =
    let count = length-map c.args.p.now.functions.items function_of in
    finished (program_of c.args.p.now) (rows_of c.args.rows.now) c.len.result c.args.roots.main c.args.roots.handler c.in_ok-main.main c.in_ok-handler.handler c.in_ok-list.list.items c.requires.graph (omega (arith, count)) c.requires.main c.requires.handler c.in_ok-main.ensures c.in_ok-handler.ensures c.in_ok-list.ensures
