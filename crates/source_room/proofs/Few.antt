-- The depths of a sound program are few: its entries are at most six for each of its nodes.
use Rattle.std.proofs.Common.{◌≡◌, ◌+◌, ◌*◌, ◌≤◌, Bool, true, false, ◌&&◌, List, [], ◌∷◌, Option, Some, None, is_some, arith}
use Rattle.std.proofs.lemmas.Bool.{and_parts, false≢true}
use Rattle.std.specs.List.{list_all}
use Rattle.c_typed.specs.Sound.{any_fits, condition_fits, any_condition_fits, loop_fits, default_fits, cases_fit, count_of, switch_rule, is_some_arm, statement_fits, statements_fit, arm_fits, arms_fit, last_fits, target_fits, structure_fits, static_fits, result_fits, param_fits, local_fits, function_fits, is_sound}
use Rattle.c_typed.specs.TreeNodes.{nodes_in, nodes_of_all, nodes_at, nodes_in_any, item_nodes, items_nodes, statement_nodes, nodes_of_body, arm_nodes, arms_nodes, last_nodes, functions_nodes, nodes_of}
use Rattle.c_typed.specs.Trees as tree
use Rattle.c_typed.specs.Trees.{Expression, Expressions, Place, Item, Statement, Statements, Arm, Arms, LastArm, FunctionTree, Program}
use Rattle.c_typed.specs.Types.{type_of}
use Rattle.c_typed.specs.Views.{program_of}
use Rattle.c_typed.specs.declared.program.Typed.{Typed}
use Rattle.c_typed.proofs.NodeCounts.{program_counts}
use Rattle.source_room.specs.Depth.{expression_depth, arguments_depth, place_depth, any_depth, item_depth, items_depth, statement_depth, body_depth, arm_depth, arms_depth, last_depth, function_depth, functions_depth, most_entries, deepest_of, deepest_function}

mutual
  unfolding expression_depth nodes_in

  few_expression : (e : Expression) → (1 ≤ expression_depth e) × (expression_depth e ≤ nodes_in e)
  few_expression (tree.Constant value line) = (omega arith, omega arith)
  few_expression (tree.Read place ty line) = let a = few_place place in (omega arith, omega arith)
  few_expression (tree.Address place ty line) = let a = few_place place in (omega arith, omega arith)
  few_expression (tree.Convert operand ty line) = let a = few_expression operand in (omega arith, omega arith)
  few_expression (tree.Cast operand ty line) = let a = few_expression operand in (omega arith, omega arith)
  few_expression (tree.Unary op operand ty line) = let a = few_expression operand in (omega arith, omega arith)
  few_expression (tree.Binary op left right ty line) = let a = few_expression left in let b = few_expression right in (omega arith, omega arith)
  few_expression (tree.Offset op left right size ty line) = let a = few_expression left in let b = few_expression right in (omega arith, omega arith)
  few_expression (tree.Difference left right size line) = let a = few_expression left in let b = few_expression right in (omega arith, omega arith)
  few_expression (tree.Logical op left right line) = let a = few_expression left in let b = few_expression right in (omega arith, omega arith)
  few_expression (tree.Conditional condition chosen otherwise ty line) = let a = few_expression condition in let b = few_expression chosen in let c = few_expression otherwise in (omega arith, omega arith)
  few_expression (tree.Comma left right ty line) = let a = few_expression left in let b = few_expression right in (omega arith, omega arith)
  few_expression (tree.Assign place value ty line) = let a = few_place place in let b = few_expression value in (omega arith, omega arith)
  few_expression (tree.StructAssign place from size line) = let a = few_place place in let b = few_place from in (omega arith, omega arith)
  few_expression (tree.Update op place value operation size ty line) = let a = few_place place in let b = few_expression value in (omega arith, omega arith)
  few_expression (tree.Step op place operation size ty line) = let a = few_place place in (omega arith, omega arith)
  few_expression (tree.Call g all ty line) = let a = few_arguments all in (omega arith, omega arith)

  few_arguments : (es : Expressions) → arguments_depth es ≤ nodes_of_all es
  few_arguments tree.NoExpression = omega arith
  few_arguments (tree.AndExpression e es) = let a = few_expression e in let b = few_arguments es in omega arith

  few_place : (place : Place) → place_depth place ≤ nodes_at place
  few_place (tree.Name object ty line) = omega arith
  few_place (tree.Bit register number line) = omega arith
  few_place (tree.Member whole member offset ty line) = let a = few_place whole in omega arith
  few_place (tree.Deref pointer ty line) = let a = few_expression pointer in omega arith

few_any : (o : Option Expression) → any_depth o ≤ nodes_in_any o
few_any None = omega arith
few_any (Some e) = (few_expression e).1

few_item : (item : Item) → item_depth item ≤ item_nodes item
few_item (tree.Scalar offset e) = (few_expression e).1
few_item (tree.Struct offset from size) = few_place from
few_item (tree.Text offset text size) = omega arith

few_items : (items : List Item) → items_depth items ≤ items_nodes items
few_items [] = omega arith
few_items (item ∷ items) = let a = few_item item in let b = few_items items in omega arith

-- an arm is a node
some_arms : (chain : Arms) → is_some_arm chain ≡ true → 1 ≤ arms_nodes chain
unfolding statement_nodes
some_arms tree.NoArm e = absurd (false≢true e)
some_arms (tree.AndArm (tree.OneArm condition chosen line) more) e = omega arith

module _ (p : Program) (f : FunctionTree) where
  mutual
    unfolding statement_depth statement_nodes statement_fits

    few_statement : (d l r : Bool) (t : Statement) → statement_fits p f d l r t ≡ true → statement_depth t ≤ 2 * statement_nodes t + 1
    few_statement d l r (tree.Block ss line) h = let a = few_statements true l r ss h in omega arith
    few_statement d l r (tree.Empty line) h = omega arith
    few_statement d l r (tree.Expr e line) h = let a = few_expression e in omega arith
    few_statement d l r (tree.Declare local line) h = omega arith
    few_statement d l r (tree.InitScalar local e line) h = let a = few_expression e in omega arith
    few_statement d l r (tree.InitList local items line) h = let a = few_items items in omega arith
    few_statement d l r (tree.If chain otherwise line) h =
        let g = and_parts (is_some_arm chain) (arms_fit p f l r chain && last_fits p f l r otherwise) h in
        let b = and_parts (arms_fit p f l r chain) (last_fits p f l r otherwise) g.1 in
        let s = some_arms chain g.0 in
        let a = few_arms l r chain b.0 in
        let e = few_last l r otherwise b.1 in
        omega arith
    few_statement d l r (tree.Loop shape begin condition step body line) h =
        let g = and_parts (loop_fits shape (is_some begin) (is_some condition) (is_some step)) (any_fits p f begin && (any_condition_fits p f condition && (any_fits p f step && statement_fits p f false true true body))) h in
        let g1 = and_parts (any_fits p f begin) (any_condition_fits p f condition && (any_fits p f step && statement_fits p f false true true body)) g.1 in
        let g2 = and_parts (any_condition_fits p f condition) (any_fits p f step && statement_fits p f false true true body) g1.1 in
        let g3 = and_parts (any_fits p f step) (statement_fits p f false true true body) g2.1 in
        let a = few_any begin in
        let b = few_any condition in
        let c = few_any step in
        let e = few_statement false true true body g3.1 in
        omega arith
    few_statement d l r (tree.Switch e cases default ss line) h =
        let g = and_parts (switch_rule p f e) (cases_fit (type_of e) (count_of ss) cases && (default_fits (count_of ss) default && statements_fit p f false true r ss)) h in
        let g1 = and_parts (cases_fit (type_of e) (count_of ss) cases) (default_fits (count_of ss) default && statements_fit p f false true r ss) g.1 in
        let g2 = and_parts (default_fits (count_of ss) default) (statements_fit p f false true r ss) g1.1 in
        let a = few_expression e in
        let b = few_statements false true r ss g2.1 in
        omega arith
    few_statement d l r (tree.Break line) h = omega arith
    few_statement d l r (tree.Continue line) h = omega arith
    few_statement d l r (tree.Return value line) h = let a = few_any value in omega arith

    few_statements : (d l r : Bool) (ss : Statements) → statements_fit p f d l r ss ≡ true → body_depth ss ≤ 2 * nodes_of_body ss + 1
    few_statements d l r tree.NoStatement h = omega arith
    few_statements d l r (tree.AndStatement t ts) h =
        let g = and_parts (statement_fits p f d l r t) (statements_fit p f d l r ts) h in
        let a = few_statement d l r t g.0 in
        let b = few_statements d l r ts g.1 in
        omega arith

    few_arm : (l r : Bool) (arm : Arm) → arm_fits p f l r arm ≡ true → arm_depth arm ≤ 2 * arm_nodes arm
    few_arm l r (tree.OneArm condition chosen line) h =
        let g = and_parts (condition_fits p f condition) (statement_fits p f false l r chosen) h in
        let a = few_expression condition in
        let b = few_statement false l r chosen g.1 in
        omega arith

    few_arms : (l r : Bool) (arms : Arms) → arms_fit p f l r arms ≡ true → arms_depth arms ≤ 2 * arms_nodes arms
    few_arms l r tree.NoArm h = omega arith
    few_arms l r (tree.AndArm arm more) h =
        let g = and_parts (arm_fits p f l r arm) (arms_fit p f l r more) h in
        let a = few_arm l r arm g.0 in
        let b = few_arms l r more g.1 in
        omega arith

    few_last : (l r : Bool) (last : LastArm) → last_fits p f l r last ≡ true → last_depth last ≤ 2 * last_nodes last + 1
    few_last l r tree.NoLast h = omega arith
    few_last l r (tree.Last t) h = few_statement false l r t h

-- ---- programs
few_function : (p : Program) (f : FunctionTree) → function_fits p f ≡ true → function_depth f ≤ 3 * (1 + nodes_of_body f.body)
few_function p f h =
    let g = and_parts (result_fits p f.result) (list_all (param_fits p) f.params && (list_all (local_fits p) f.locals && statements_fit p f true false false f.body)) h in
    let g1 = and_parts (list_all (param_fits p) f.params) (list_all (local_fits p) f.locals && statements_fit p f true false false f.body) g.1 in
    let g2 = and_parts (list_all (local_fits p) f.locals) (statements_fit p f true false false f.body) g1.1 in
    let a = few_statements p f true false false f.body g2.1 in
    omega arith

few_functions : (p : Program) (fs : List FunctionTree) → list_all (function_fits p) fs ≡ true → functions_depth fs ≤ 3 * functions_nodes fs
few_functions p [] h = omega arith
few_functions p (f ∷ fs) h =
    let g = and_parts (function_fits p f) (list_all (function_fits p) fs) h in
    let a = few_function p f g.0 in
    let b = few_functions p fs g.1 in
    omega arith

few_entries : (p : Program) → is_sound p ≡ true → most_entries p ≤ 6 * nodes_of p
few_entries p h =
    let g = and_parts (list_all (target_fits p) p.targets) (list_all (structure_fits p) p.structures && (list_all (static_fits p) p.statics && list_all (function_fits p) p.functions)) h in
    let g1 = and_parts (list_all (structure_fits p) p.structures) (list_all (static_fits p) p.statics && list_all (function_fits p) p.functions) g.1 in
    let g2 = and_parts (list_all (static_fits p) p.statics) (list_all (function_fits p) p.functions) g1.1 in
    let a = few_functions p p.functions g2.1 in
    omega arith

-- A program of the code has at most 2 to the 28 nodes.
pub few : (p : Typed) → most_entries (program_of p) ≤ 1610612736
few p = let c = program_counts p in let s = p.small in let e = few_entries (program_of p) p.sound in omega arith

deepest_within : (fs : List FunctionTree) → deepest_of fs ≤ functions_depth fs
deepest_within [] = omega arith
deepest_within (f ∷ fs) = let i = deepest_within fs in omega arith

pub few_deepest : (p : Typed) → deepest_function (program_of p) ≤ 1610612736
few_deepest p = let a = few p in let b = deepest_within (program_of p).functions in omega arith
