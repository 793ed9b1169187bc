use Rattle.std.proofs.Common.{◌≡◌, ◌+◌, ◌&&◌, true, false, drop, sym, ap, ◌∙◌}
use Rattle.std.proofs.lemmas.List.{drop_all}
use Rattle.c_typed.specs.Roots.{is_called, is_root}
use Rattle.c_typed.specs.Views.{function_of}
use Rattle.call_graph.specs.Rows.{rows_of}
use Rattle.call_graph.proofs.Searches.{roots_in, root_of, either, other}
use Rattle.call_graph.proofs.roots.has_called_root.Goals as goal

pub loop-number-preserved : goal.loop-number-preserved
loop-number-preserved c =
    let graph = rows_of c.args.rows.now in
    let f = c.index-functions-number.result in
    let i = c.loop-number.number in
    let fs = c.args.functions.now in
    let test : (is_root (function_of f) && is_called graph i) ≡ false = sym c.is_called_root.ensures ∙ c.if-is_called_root.false in
    other (is_root (function_of f) && is_called graph i) (roots_in graph (drop (i + 1) fs) (i + 1)) (roots_in graph (drop i fs) i) (roots_in graph fs 0) (root_of graph fs i f c.loop-number-test.true c.index-functions-number.is) test c.loop-number.invariant

pub returns-then-is_called_root : goal.returns-then-is_called_root
returns-then-is_called_root c =
    let graph = rows_of c.args.rows.now in
    let f = c.index-functions-number.result in
    let i = c.loop-number.number in
    let fs = c.args.functions.now in
    let test : (is_root (function_of f) && is_called graph i) ≡ true = sym c.is_called_root.ensures ∙ c.if-is_called_root.true in
    either (is_root (function_of f) && is_called graph i) (roots_in graph (drop (i + 1) fs) (i + 1)) (roots_in graph (drop i fs) i) (roots_in graph fs 0) (root_of graph fs i f c.loop-number-test.true c.index-functions-number.is) test c.loop-number.invariant

pub returns : goal.returns
returns c =
    let graph = rows_of c.args.rows.now in
    sym (ap (λ fs. roots_in graph fs c.loop-number.number) (drop_all c.loop-number.number c.args.functions.now c.loop-number-test.false)) ∙ c.loop-number.invariant
