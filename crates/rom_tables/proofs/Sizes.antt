-- How large a program is whose tables are read by calls.
use Rattle.std.proofs.Common.{◌≡◌, ℕ, suc, ◌+◌, ◌*◌, ◌≤◌, Bool, true, false, cond, List, [], ◌∷◌, ◌++◌, map, length, Option, Some, None, refl, ap, slice_get, arith}
use Rattle.std.proofs.lemmas.List.{length-map}
use Rattle.c_typed.proofs.NodeCounts.{functions_count}
use Rattle.c_typed.specs.Nodes.{total, variables, program_size}
use Rattle.c_typed.specs.Sameness.{same_type}
use Rattle.c_typed.specs.TreeNodes.{nodes_in, nodes_of_all, nodes_at, nodes_in_any, item_nodes, items_nodes, statement_nodes, nodes_of_body, arm_nodes, arms_nodes, last_nodes, functions_nodes}
use Rattle.c_typed.specs.Trees as tree
use Rattle.c_typed.specs.Trees.{Expression, Expressions, Place, Item, Statement, Statements, Arm, Arms, LastArm, StaticTree, FunctionTree, Program}
use Rattle.c_typed.specs.Types.{type_of}
use Rattle.c_typed.specs.Views.{function_of, static_of, variable_of}
use Rattle.c_typed.specs.declared.program.Function.{Function}
use Rattle.c_typed.specs.declared.program.Static.{Static}
use Rattle.c_ints.specs.declared.operators.BinOp.{BinOp}
use Rattle.c_typed.specs.declared.types.Qualified.{Qualified}
use Rattle.c_typed.specs.declared.types.Ty.{Ty}
use Rattle.rom_tables.specs.Laws.{KeepsSmall, variables_in}
use Rattle.rom_tables.specs.Outlined.{outlined, outlined_expression, outlined_arguments, outlined_place, outlined_item, outlined_option, outlined_statement, outlined_statements, outlined_arm, outlined_arms, outlined_last, outlined_function, index_argument, read_of, reader_of, readers, unsigned_int, with_targets}
use Rattle.rom_tables.specs.Tables.{is_table, start_table, tables_from, tables_of}

-- ---- an index as an argument
unsigned_small : (e : Expression) (line : ℕ) (same : Bool) → nodes_in (cond same e (tree.Convert e unsigned_int line)) ≤ 1 + nodes_in e
unfolding nodes_in nodes_of_all nodes_at
unsigned_small e line true = omega arith
unsigned_small e line false = omega arith

argument_small : (e : Expression) (line : ℕ) → nodes_in (index_argument e line) ≤ 1 + nodes_in e
unfolding nodes_in nodes_of_all nodes_at
argument_small (tree.Convert e ty at) line = let h = unsigned_small e at (same_type (type_of e) unsigned_int) in omega (arith, h)
argument_small (tree.Constant value at) line = unsigned_small (tree.Constant value at) line (same_type (type_of (tree.Constant value at)) unsigned_int)
argument_small e line = unsigned_small e line (same_type (type_of e) unsigned_int)

sum_small : (first : ℕ) (a b : Option ℕ) (op : BinOp) (l r x y : Expression) (size : ℕ) (pty : Ty) (pat : ℕ) (q : Qualified) (at : ℕ) (ty : Ty) (line : ℕ) → nodes_in x ≤ nodes_in l → nodes_in y ≤ nodes_in r → nodes_in (read_of first a b (tree.Deref (tree.Offset op x y size pty pat) q at) ty line) ≤ 1 + (1 + (1 + (nodes_in l + nodes_in r)))
unfolding nodes_in nodes_of_all nodes_at
sum_small first (Some t) b op l r x y size pty pat q at ty line f g = let h = argument_small y line in omega (arith, h, f, g)
sum_small first None (Some t) op l r x y size pty pat q at ty line f g = let h = argument_small x line in omega (arith, h, f, g)
sum_small first None None op l r x y size pty pat q at ty line f g = omega (arith, f, g)

module _ (ts : List ℕ) (first : ℕ) where
  -- ---- expressions and places
  mutual
    unfolding nodes_in nodes_of_all nodes_at outlined_expression outlined_arguments outlined_place

    expression_small : (e : Expression) → nodes_in (outlined_expression ts first e) ≤ nodes_in e
    expression_small (tree.Constant value line) = omega arith
    expression_small (tree.Read place ty line) = read_small place ty line
    expression_small (tree.Address place ty line) = let a = place_small place in omega (arith, a)
    expression_small (tree.Convert e ty line) = let a = expression_small e in omega (arith, a)
    expression_small (tree.Cast e ty line) = let a = expression_small e in omega (arith, a)
    expression_small (tree.Unary op e ty line) = let a = expression_small e in omega (arith, a)
    expression_small (tree.Binary op l r ty line) = let a = expression_small l in let b = expression_small r in omega (arith, a, b)
    expression_small (tree.Offset op l r size ty line) = let a = expression_small l in let b = expression_small r in omega (arith, a, b)
    expression_small (tree.Difference l r size line) = let a = expression_small l in let b = expression_small r in omega (arith, a, b)
    expression_small (tree.Logical op l r line) = let a = expression_small l in let b = expression_small r in omega (arith, a, b)
    expression_small (tree.Conditional c l r ty line) = let a = expression_small c in let b = expression_small l in let d = expression_small r in omega (arith, a, b, d)
    expression_small (tree.Comma l r ty line) = let a = expression_small l in let b = expression_small r in omega (arith, a, b)
    expression_small (tree.Assign place e ty line) = let a = place_small place in let b = expression_small e in omega (arith, a, b)
    expression_small (tree.StructAssign place from size line) = let a = place_small place in let b = place_small from in omega (arith, a, b)
    expression_small (tree.Update op place e operation size ty line) = let a = place_small place in let b = expression_small e in omega (arith, a, b)
    expression_small (tree.Step op place operation size ty line) = let a = place_small place in omega (arith, a)
    expression_small (tree.Call f es ty line) = let a = arguments_small es in omega (arith, a)

    read_small : (place : Place) (ty : Ty) (line : ℕ) → nodes_in (outlined_expression ts first (tree.Read place ty line)) ≤ 1 + nodes_at place
    read_small (tree.Name object q at) ty line = omega arith
    read_small (tree.Bit register bit at) ty line = omega arith
    read_small (tree.Member whole member offset q at) ty line = let a = place_small whole in omega (arith, a)
    read_small (tree.Deref (tree.Offset op l r size pty pat) q at) ty line = sum_small first (start_table ts l) (start_table ts r) op l r (outlined_expression ts first l) (outlined_expression ts first r) size pty pat q at ty line (expression_small l) (expression_small r)
    read_small (tree.Deref (tree.Constant value pat) q at) ty line = let a = expression_small (tree.Constant value pat) in omega (arith, a)
    read_small (tree.Deref pointer q at) ty line = let a = expression_small pointer in omega (arith, a)

    arguments_small : (es : Expressions) → nodes_of_all (outlined_arguments ts first es) ≤ nodes_of_all es
    arguments_small tree.NoExpression = omega arith
    arguments_small (tree.AndExpression e es) = let a = expression_small e in let b = arguments_small es in omega (arith, a, b)

    place_small : (place : Place) → nodes_at (outlined_place ts first place) ≤ nodes_at place
    place_small (tree.Name object ty line) = omega arith
    place_small (tree.Bit register bit line) = omega arith
    place_small (tree.Member whole member offset ty line) = let a = place_small whole in omega (arith, a)
    place_small (tree.Deref pointer ty line) = let a = expression_small pointer in omega (arith, a)

  any_small : (e : Option Expression) → nodes_in_any (outlined_option ts first e) ≤ nodes_in_any e
  any_small None = omega arith
  any_small (Some e) = expression_small e

  item_small : (i : Item) → item_nodes (outlined_item ts first i) ≤ item_nodes i
  item_small (tree.Scalar offset e) = expression_small e
  item_small (tree.Struct offset place size) = place_small place
  item_small (tree.Text offset bytes size) = omega arith

  items_small : (is : List Item) → items_nodes (map (outlined_item ts first) is) ≤ items_nodes is
  items_small [] = omega arith
  items_small (i ∷ is) = let a = item_small i in let b = items_small is in omega (arith, a, b)

  -- ---- statements
  mutual
    unfolding statement_nodes nodes_of_body arm_nodes arms_nodes last_nodes outlined_statement outlined_statements outlined_arm outlined_arms outlined_last

    statement_small : (s : Statement) → statement_nodes (outlined_statement ts first s) ≤ statement_nodes s
    statement_small (tree.Block ss line) = let a = statements_small ss in omega (arith, a)
    statement_small (tree.Empty line) = omega arith
    statement_small (tree.Expr e line) = let a = expression_small e in omega (arith, a)
    statement_small (tree.Declare local line) = omega arith
    statement_small (tree.InitScalar local e line) = let a = expression_small e in omega (arith, a)
    statement_small (tree.InitList local is line) = let a = items_small is in omega (arith, a)
    statement_small (tree.If as_ otherwise line) = let a = arms_small as_ in let b = last_small otherwise in omega (arith, a, b)
    statement_small (tree.Loop shape begin condition step body line) = let a = any_small begin in let b = any_small condition in let c = any_small step in let d = statement_small body in omega (arith, a, b, c, d)
    statement_small (tree.Switch e cases default ss line) = let a = expression_small e in let b = statements_small ss in omega (arith, a, b)
    statement_small (tree.Break line) = omega arith
    statement_small (tree.Continue line) = omega arith
    statement_small (tree.Return e line) = let a = any_small e in omega (arith, a)

    statements_small : (ss : Statements) → nodes_of_body (outlined_statements ts first ss) ≤ nodes_of_body ss
    statements_small tree.NoStatement = omega arith
    statements_small (tree.AndStatement s ss) = let a = statement_small s in let b = statements_small ss in omega (arith, a, b)

    arm_small : (a : Arm) → arm_nodes (outlined_arm ts first a) ≤ arm_nodes a
    arm_small (tree.OneArm condition s line) = let a = expression_small condition in let b = statement_small s in omega (arith, a, b)

    arms_small : (as_ : Arms) → arms_nodes (outlined_arms ts first as_) ≤ arms_nodes as_
    arms_small tree.NoArm = omega arith
    arms_small (tree.AndArm a as_) = let b = arm_small a in let c = arms_small as_ in omega (arith, b, c)

    last_small : (last : LastArm) → last_nodes (outlined_last ts first last) ≤ last_nodes last
    last_small tree.NoLast = omega arith
    last_small (tree.Last s) = statement_small s

  functions_small : (fs : List FunctionTree) → functions_nodes (map (outlined_function ts first) fs) ≤ functions_nodes fs
  functions_small [] = omega arith
  functions_small (f ∷ fs) = let a = statements_small f.body in let b = functions_small fs in omega (arith, a, b)

  variables_same : (fs : List FunctionTree) → variables_in (map (outlined_function ts first) fs) ≡ variables_in fs
  variables_same [] = refl
  variables_same (f ∷ fs) = ap (λ n. length f.params + length f.locals + n) (variables_same fs)

-- ---- readers
nodes_append : (fs gs : List FunctionTree) → functions_nodes (fs ++ gs) ≡ functions_nodes fs + functions_nodes gs
nodes_append [] gs = omega arith
nodes_append (f ∷ fs) gs = let a = nodes_append fs gs in omega (arith, a)

variables_append : (fs gs : List FunctionTree) → variables_in (fs ++ gs) ≡ variables_in fs + variables_in gs
variables_append [] gs = omega arith
variables_append (f ∷ fs) gs = let a = variables_append fs gs in omega (arith, a)

reader_nodes : (p : Program) (t : ℕ) (found : Option StaticTree) (rest : List FunctionTree) → functions_nodes (reader_of p t found ++ rest) ≤ 9 + functions_nodes rest
unfolding statement_nodes nodes_of_body arm_nodes arms_nodes last_nodes nodes_in nodes_of_all nodes_at
reader_nodes p t None rest = omega arith
reader_nodes p t (Some s) rest = omega arith

reader_variables : (p : Program) (t : ℕ) (found : Option StaticTree) (rest : List FunctionTree) → variables_in (reader_of p t found ++ rest) ≤ 1 + variables_in rest
reader_variables p t None rest = omega arith
reader_variables p t (Some s) rest = omega arith

readers_nodes : (p : Program) (ts : List ℕ) → functions_nodes (readers p ts) ≤ 9 * length ts
readers_nodes p [] = omega arith
readers_nodes p (t ∷ ts) = let a = reader_nodes p t (slice_get p.statics t) (readers p ts) in let b = readers_nodes p ts in omega (arith, a, b)

readers_variables : (p : Program) (ts : List ℕ) → variables_in (readers p ts) ≤ length ts
readers_variables p [] = omega arith
readers_variables p (t ∷ ts) = let a = reader_variables p t (slice_get p.statics t) (readers p ts) in let b = readers_variables p ts in omega (arith, a, b)

few_by : (here : Bool) (n : ℕ) (ts : List ℕ) (most : ℕ) → length ts ≤ most → length (cond here (n ∷ ts) ts) ≤ suc most
few_by true n ts most h = omega (arith, h)
few_by false n ts most h = omega (arith, h)

tables_few : (p : Program) (n : ℕ) (ss : List StaticTree) → length (tables_from p n ss) ≤ length ss
tables_few p n [] = omega arith
tables_few p n (s ∷ ss) = few_by (is_table p s) n (tables_from p (n + 1) ss) (length ss) (tables_few p (n + 1) ss)

-- A program has at most as many tables as static objects.
pub few_tables : (p : Program) → length (tables_of p) ≤ length p.statics
few_tables p = tables_few p 0 p.statics

pub outlined_small : KeepsSmall
unfolding outlined
outlined_small p =
    let ts = tables_of p in
    let n = length p.functions in
    let q = with_targets p ts in
    let a = nodes_append (map (outlined_function ts n) p.functions) (readers q ts) in
    let b = functions_small ts n p.functions in
    let c = readers_nodes q ts in
    let d = variables_append (map (outlined_function ts n) p.functions) (readers q ts) in
    let e = variables_same ts n p.functions in
    let f = readers_variables q ts in
    let g = few_tables p in
    omega (arith, a, b, c, d, e, f, g)

-- ---- of the code's trees
variables_are : (fs : List Function) → total (map variables fs) ≡ variables_in (map function_of fs)
variables_are [] = refl
variables_are (f ∷ fs) =
    let a = variables_are fs in
    let b = length-map f.params.items variable_of in
    let c = length-map f.locals.items variable_of in
    omega (arith, a, b, c)

pub size_is : (ss : List Static) (fs : List Function) → program_size ss fs ≡ functions_nodes (map function_of fs) + length (map static_of ss) + variables_in (map function_of fs)
size_is ss fs =
    let a = functions_count fs in
    let b = length-map ss static_of in
    let c = variables_are fs in
    omega (arith, a, b, c)
