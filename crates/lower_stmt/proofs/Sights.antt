-- What the code of each kind of statement is, as the code of this crate makes it.
use Rattle.std.proofs.Common.{◌≡◌, List, [], map, refl, ap}
use Rattle.std.specs.Prelude.{Some, None}
use Rattle.std.proofs.lemmas.List.{append-nil}
use Rattle.std.specs.Option.{option_map}
use Rattle.c_typed.proofs.Shapes.{show_statement_block, show_statement_empty, show_statement_expr, show_statement_declare, show_statement_init_scalar, show_statement_init_list, show_statement_if_alone, show_statement_if_else, show_statement_loop, show_statement_switch, show_statement_break, show_statement_continue, show_statement_return, show_arm}
use Rattle.c_typed.specs.declared.statement.LoopForm.TheVariants.{While, Do, For}
use Rattle.c_typed.specs.declared.statement.TArm.{TArm}
use Rattle.c_typed.specs.declared.statement.TStmt.TheViews.{out-TArm}
use Rattle.c_typed.specs.declared.statement.TStmt.{TStmt}
use Rattle.c_typed.specs.declared.statement.TStmt.TheVariants as TStmt
use Rattle.c_typed.specs.Trees as tree
use Rattle.c_typed.specs.Views.{expression_of, item_of, statement_of, statements_of, arm_of, arms_of, last_arm_of}
use Rattle.core_code.specs.Tree.{Tree}
use Rattle.lower_stmt.specs.Declarators.{scalar_code, list_code}
use Rattle.lower_stmt.specs.Ground.{Ground, local_byte, effect_code}
use Rattle.lower_stmt.specs.Jumps.{in_while, in_body}
use Rattle.lower_stmt.specs.Statements.{stmt_code, stmts_code, arms_code, arm_code, last_code, switch_code, while_code, do_code, for_code, break_code, continue_code, return_code, arm_choice}
use Rattle.lower_stmt.specs.declared.jumps.Jumps.{Jumps}

pub code_block : (g : Ground) (j : Jumps) (statements : _) (line : _) → stmt_code g j (statement_of (TStmt.Block statements line)) ≡ stmts_code g j (statements_of (map statement_of statements.items))
unfolding stmt_code
code_block g j statements line = ap (stmt_code g j) (show_statement_block statements line)

pub code_empty : (g : Ground) (j : Jumps) (line : _) → stmt_code g j (statement_of (TStmt.Empty line)) ≡ []
unfolding stmt_code
code_empty g j line = ap (stmt_code g j) (show_statement_empty line)

pub code_expr : (g : Ground) (j : Jumps) (value : _) (line : _) → stmt_code g j (statement_of (TStmt.Expr value line)) ≡ effect_code g (expression_of value)
unfolding stmt_code
code_expr g j value line = ap (stmt_code g j) (show_statement_expr value line)

pub code_declare : (g : Ground) (j : Jumps) (local : _) (line : _) → stmt_code g j (statement_of (TStmt.Declare local line)) ≡ []
unfolding stmt_code
code_declare g j local line = ap (stmt_code g j) (show_statement_declare local line)

pub code_init_scalar : (g : Ground) (j : Jumps) (local : _) (value : _) (line : _) → stmt_code g j (statement_of (TStmt.InitScalar local value line)) ≡ scalar_code g (local_byte g local) (expression_of value)
unfolding stmt_code
code_init_scalar g j local value line = ap (stmt_code g j) (show_statement_init_scalar local value line)

pub code_init_list : (g : Ground) (j : Jumps) (local : _) (items : _) (line : _) → stmt_code g j (statement_of (TStmt.InitList local items line)) ≡ list_code g local (map item_of items.items)
unfolding stmt_code
code_init_list g j local items line = ap (stmt_code g j) (show_statement_init_list local items line)

pub code_switch : (g : Ground) (j : Jumps) (value : _) (cases : _) (default : _) (statements : _) (line : _) → stmt_code g j (statement_of (TStmt.Switch value cases default statements line)) ≡ switch_code g j (expression_of value) cases.items default (statements_of (map statement_of statements.items))
unfolding stmt_code
code_switch g j value cases default statements line = ap (stmt_code g j) (show_statement_switch value cases default statements line)

pub code_break : (g : Ground) (j : Jumps) (line : _) → stmt_code g j (statement_of (TStmt.Break line)) ≡ break_code j
unfolding stmt_code
code_break g j line = ap (stmt_code g j) (show_statement_break line)

pub code_continue : (g : Ground) (j : Jumps) (line : _) → stmt_code g j (statement_of (TStmt.Continue line)) ≡ continue_code j
unfolding stmt_code
code_continue g j line = ap (stmt_code g j) (show_statement_continue line)

pub code_return : (g : Ground) (j : Jumps) (value : _) (line : _) → stmt_code g j (statement_of (TStmt.Return value line)) ≡ return_code g (option_map expression_of value)
unfolding stmt_code
code_return g j value line = ap (stmt_code g j) (show_statement_return value line)

pub code_if : (g : Ground) (j : Jumps) (arms : _) (otherwise : _) (line : _) → stmt_code g j (statement_of (TStmt.If arms otherwise line)) ≡ arms_code g j (last_code g j (last_arm_of otherwise)) (arms_of (map arm_of arms.items))
unfolding stmt_code
code_if g j arms None line = ap (stmt_code g j) (show_statement_if_alone arms line)
code_if g j arms (Some last) line = ap (stmt_code g j) (show_statement_if_else arms last line)

pub code_while : (g : Ground) (j : Jumps) (begin : _) (condition : _) (step : _) (body : _) (line : _) → stmt_code g j (statement_of (TStmt.Loop While begin condition step body line)) ≡ while_code g (option_map expression_of condition) (stmt_code g in_while (statement_of body.value))
unfolding stmt_code
code_while g j begin condition step body line = ap (stmt_code g j) (show_statement_loop While begin condition step body line)

pub code_do : (g : Ground) (j : Jumps) (begin : _) (condition : _) (step : _) (body : _) (line : _) → stmt_code g j (statement_of (TStmt.Loop Do begin condition step body line)) ≡ do_code g (option_map expression_of condition) (stmt_code g in_body (statement_of body.value))
unfolding stmt_code
code_do g j begin condition step body line = ap (stmt_code g j) (show_statement_loop Do begin condition step body line)

pub code_for : (g : Ground) (j : Jumps) (begin : _) (condition : _) (step : _) (body : _) (line : _) → stmt_code g j (statement_of (TStmt.Loop For begin condition step body line)) ≡ for_code g (option_map expression_of begin) (option_map expression_of condition) (option_map expression_of step) (stmt_code g in_body (statement_of body.value))
unfolding stmt_code
code_for g j begin condition step body line = ap (stmt_code g j) (show_statement_loop For begin condition step body line)

pub one_arm : (g : Ground) (j : Jumps) (otherwise : List Tree) (arm : TArm) → arm_code g j (arm_of arm) otherwise ≡ arm_choice g (expression_of (out-TArm arm).condition) (stmt_code g j (statement_of (out-TArm arm).then)) otherwise
unfolding arm_code
one_arm g j otherwise arm = ap (λ a. arm_code g j a otherwise) (show_arm arm)

pub last_none : (g : Ground) (j : Jumps) → last_code g j tree.NoLast ≡ []
unfolding last_code
last_none g j = refl

pub last_some : (g : Ground) (j : Jumps) (s : tree.Statement) → last_code g j (tree.Last s) ≡ stmt_code g j s
unfolding last_code
last_some g j s = refl

pub arms_none : (g : Ground) (j : Jumps) (otherwise : List Tree) → arms_code g j otherwise tree.NoArm ≡ otherwise
unfolding arms_code
arms_none g j otherwise = refl

pub arms_more : (g : Ground) (j : Jumps) (otherwise : List Tree) (arm : tree.Arm) (arms : tree.Arms) → arms_code g j otherwise (tree.AndArm arm arms) ≡ arm_code g j arm (arms_code g j otherwise arms)
unfolding arms_code
arms_more g j otherwise arm arms = refl

pub ruleset statements = (code_block, code_empty, code_expr, code_declare, code_init_scalar, code_init_list, code_switch, code_break, code_continue, code_return, code_if, code_while, code_do, code_for, append-nil)

pub ruleset lasts = (last_none, last_some, append-nil)
