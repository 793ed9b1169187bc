-- Each variant of the typed trees as pure data.
use Rattle.std.proofs.Common.{◌≡◌, Some, None, map, sym, ap, ◌∙◌}
use Rattle.std.specs.Option.{option_map}
use Rattle.c_typed.specs.Trees as tree
use Rattle.c_typed.specs.Trees.{Expression, Place, Statement, Arm}
use Rattle.c_typed.specs.Views.{arguments_of, expression_step, place_step, expression_of, place_of, item_of, statements_of, arms_of, statement_step, arm_step, statement_of, arm_of}
use Rattle.c_typed.specs.declared.expression.TExpr.TheFolds.{fold-TExpr, fold-TPlace, fold-roll-TExpr, fold-roll-TPlace}
use Rattle.c_typed.specs.declared.expression.TExpr.TheOpen as Open
use Rattle.c_typed.specs.declared.expression.TExpr.TheVariants as TExpr
use Rattle.c_typed.specs.declared.expression.TPlace.TheVariants as TPlace
use Rattle.c_typed.specs.declared.statement.TArm.{TArm}
use Rattle.c_typed.specs.declared.statement.TStmt.TheFolds.{fold-TStmt, fold-roll-TStmt, fold_out-TArm}
use Rattle.c_typed.specs.declared.statement.TStmt.TheOpen as OpenStmt
use Rattle.c_typed.specs.declared.statement.TStmt.TheVariants as TStmt
use Rattle.c_typed.specs.declared.statement.TStmt.TheViews.{out-TArm}

pub show_expression_constant : (value : _) (line : _) → expression_of (TExpr.Constant value line) ≡ tree.Constant value line
unfolding expression_of place_of
show_expression_constant value line = ap (fold-TExpr Expression Place expression_step place_step) (sym (TExpr.rolls-Constant value line)) ∙ fold-roll-TExpr Expression Place expression_step place_step (Open.Constant value line)

pub show_expression_read : (place : _) (ty : _) (line : _) → expression_of (TExpr.Read place ty line) ≡ tree.Read (place_of place.value) ty line
unfolding expression_of place_of
show_expression_read place ty line = ap (fold-TExpr Expression Place expression_step place_step) (sym (TExpr.rolls-Read place ty line)) ∙ fold-roll-TExpr Expression Place expression_step place_step (Open.Read place ty line)

pub show_expression_address : (place : _) (ty : _) (line : _) → expression_of (TExpr.Address place ty line) ≡ tree.Address (place_of place.value) ty line
unfolding expression_of place_of
show_expression_address place ty line = ap (fold-TExpr Expression Place expression_step place_step) (sym (TExpr.rolls-Address place ty line)) ∙ fold-roll-TExpr Expression Place expression_step place_step (Open.Address place ty line)

pub show_expression_convert : (operand : _) (ty : _) (line : _) → expression_of (TExpr.Convert operand ty line) ≡ tree.Convert (expression_of operand.value) ty line
unfolding expression_of place_of
show_expression_convert operand ty line = ap (fold-TExpr Expression Place expression_step place_step) (sym (TExpr.rolls-Convert operand ty line)) ∙ fold-roll-TExpr Expression Place expression_step place_step (Open.Convert operand ty line)

pub show_expression_cast : (operand : _) (ty : _) (line : _) → expression_of (TExpr.Cast operand ty line) ≡ tree.Cast (expression_of operand.value) ty line
unfolding expression_of place_of
show_expression_cast operand ty line = ap (fold-TExpr Expression Place expression_step place_step) (sym (TExpr.rolls-Cast operand ty line)) ∙ fold-roll-TExpr Expression Place expression_step place_step (Open.Cast operand ty line)

pub show_expression_unary : (op : _) (operand : _) (ty : _) (line : _) → expression_of (TExpr.Unary op operand ty line) ≡ tree.Unary op (expression_of operand.value) ty line
unfolding expression_of place_of
show_expression_unary op operand ty line = ap (fold-TExpr Expression Place expression_step place_step) (sym (TExpr.rolls-Unary op operand ty line)) ∙ fold-roll-TExpr Expression Place expression_step place_step (Open.Unary op operand ty line)

pub show_expression_binary : (op : _) (left : _) (right : _) (ty : _) (line : _) → expression_of (TExpr.Binary op left right ty line) ≡ tree.Binary op (expression_of left.value) (expression_of right.value) ty line
unfolding expression_of place_of
show_expression_binary op left right ty line = ap (fold-TExpr Expression Place expression_step place_step) (sym (TExpr.rolls-Binary op left right ty line)) ∙ fold-roll-TExpr Expression Place expression_step place_step (Open.Binary op left right ty line)

pub show_expression_offset : (op : _) (left : _) (right : _) (size : _) (ty : _) (line : _) → expression_of (TExpr.Offset op left right size ty line) ≡ tree.Offset op (expression_of left.value) (expression_of right.value) size ty line
unfolding expression_of place_of
show_expression_offset op left right size ty line = ap (fold-TExpr Expression Place expression_step place_step) (sym (TExpr.rolls-Offset op left right size ty line)) ∙ fold-roll-TExpr Expression Place expression_step place_step (Open.Offset op left right size ty line)

pub show_expression_difference : (left : _) (right : _) (size : _) (line : _) → expression_of (TExpr.Difference left right size line) ≡ tree.Difference (expression_of left.value) (expression_of right.value) size line
unfolding expression_of place_of
show_expression_difference left right size line = ap (fold-TExpr Expression Place expression_step place_step) (sym (TExpr.rolls-Difference left right size line)) ∙ fold-roll-TExpr Expression Place expression_step place_step (Open.Difference left right size line)

pub show_expression_logical : (op : _) (left : _) (right : _) (line : _) → expression_of (TExpr.Logical op left right line) ≡ tree.Logical op (expression_of left.value) (expression_of right.value) line
unfolding expression_of place_of
show_expression_logical op left right line = ap (fold-TExpr Expression Place expression_step place_step) (sym (TExpr.rolls-Logical op left right line)) ∙ fold-roll-TExpr Expression Place expression_step place_step (Open.Logical op left right line)

pub show_expression_conditional : (condition : _) (chosen : _) (otherwise : _) (ty : _) (line : _) → expression_of (TExpr.Conditional condition chosen otherwise ty line) ≡ tree.Conditional (expression_of condition.value) (expression_of chosen.value) (expression_of otherwise.value) ty line
unfolding expression_of place_of
show_expression_conditional condition chosen otherwise ty line = ap (fold-TExpr Expression Place expression_step place_step) (sym (TExpr.rolls-Conditional condition chosen otherwise ty line)) ∙ fold-roll-TExpr Expression Place expression_step place_step (Open.Conditional condition chosen otherwise ty line)

pub show_expression_comma : (left : _) (right : _) (ty : _) (line : _) → expression_of (TExpr.Comma left right ty line) ≡ tree.Comma (expression_of left.value) (expression_of right.value) ty line
unfolding expression_of place_of
show_expression_comma left right ty line = ap (fold-TExpr Expression Place expression_step place_step) (sym (TExpr.rolls-Comma left right ty line)) ∙ fold-roll-TExpr Expression Place expression_step place_step (Open.Comma left right ty line)

pub show_expression_assign : (place : _) (value : _) (ty : _) (line : _) → expression_of (TExpr.Assign place value ty line) ≡ tree.Assign (place_of place.value) (expression_of value.value) ty line
unfolding expression_of place_of
show_expression_assign place value ty line = ap (fold-TExpr Expression Place expression_step place_step) (sym (TExpr.rolls-Assign place value ty line)) ∙ fold-roll-TExpr Expression Place expression_step place_step (Open.Assign place value ty line)

pub show_expression_struct_assign : (place : _) (from : _) (size : _) (line : _) → expression_of (TExpr.StructAssign place from size line) ≡ tree.StructAssign (place_of place.value) (place_of from.value) size line
unfolding expression_of place_of
show_expression_struct_assign place from size line = ap (fold-TExpr Expression Place expression_step place_step) (sym (TExpr.rolls-StructAssign place from size line)) ∙ fold-roll-TExpr Expression Place expression_step place_step (Open.StructAssign place from size line)

pub show_expression_update : (op : _) (place : _) (value : _) (operation : _) (size : _) (ty : _) (line : _) → expression_of (TExpr.Update op place value operation size ty line) ≡ tree.Update op (place_of place.value) (expression_of value.value) operation size ty line
unfolding expression_of place_of
show_expression_update op place value operation size ty line = ap (fold-TExpr Expression Place expression_step place_step) (sym (TExpr.rolls-Update op place value operation size ty line)) ∙ fold-roll-TExpr Expression Place expression_step place_step (Open.Update op place value operation size ty line)

pub show_expression_step : (op : _) (place : _) (operation : _) (size : _) (ty : _) (line : _) → expression_of (TExpr.Step op place operation size ty line) ≡ tree.Step op (place_of place.value) operation size ty line
unfolding expression_of place_of
show_expression_step op place operation size ty line = ap (fold-TExpr Expression Place expression_step place_step) (sym (TExpr.rolls-Step op place operation size ty line)) ∙ fold-roll-TExpr Expression Place expression_step place_step (Open.Step op place operation size ty line)

pub show_expression_call : (function : _) (arguments : _) (ty : _) (line : _) → expression_of (TExpr.Call function arguments ty line) ≡ tree.Call function (arguments_of (map expression_of arguments.items)) ty line
unfolding expression_of place_of
show_expression_call function arguments ty line = ap (fold-TExpr Expression Place expression_step place_step) (sym (TExpr.rolls-Call function arguments ty line)) ∙ fold-roll-TExpr Expression Place expression_step place_step (Open.Call function arguments ty line)

pub show_place_name : (object : _) (ty : _) (line : _) → place_of (TPlace.Name object ty line) ≡ tree.Name object ty line
unfolding expression_of place_of
show_place_name object ty line = ap (fold-TPlace Expression Place expression_step place_step) (sym (TPlace.rolls-Name object ty line)) ∙ fold-roll-TPlace Expression Place expression_step place_step (Open.Name object ty line)

pub show_place_bit : (register : _) (bit : _) (line : _) → place_of (TPlace.Bit register bit line) ≡ tree.Bit register bit line
unfolding expression_of place_of
show_place_bit register bit line = ap (fold-TPlace Expression Place expression_step place_step) (sym (TPlace.rolls-Bit register bit line)) ∙ fold-roll-TPlace Expression Place expression_step place_step (Open.Bit register bit line)

pub show_place_member : (whole : _) (member : _) (offset : _) (ty : _) (line : _) → place_of (TPlace.Member whole member offset ty line) ≡ tree.Member (place_of whole.value) member offset ty line
unfolding expression_of place_of
show_place_member whole member offset ty line = ap (fold-TPlace Expression Place expression_step place_step) (sym (TPlace.rolls-Member whole member offset ty line)) ∙ fold-roll-TPlace Expression Place expression_step place_step (Open.Member whole member offset ty line)

pub show_place_deref : (pointer : _) (ty : _) (line : _) → place_of (TPlace.Deref pointer ty line) ≡ tree.Deref (expression_of pointer.value) ty line
unfolding expression_of place_of
show_place_deref pointer ty line = ap (fold-TPlace Expression Place expression_step place_step) (sym (TPlace.rolls-Deref pointer ty line)) ∙ fold-roll-TPlace Expression Place expression_step place_step (Open.Deref pointer ty line)

pub show_statement_block : (statements : _) (line : _) → statement_of (TStmt.Block statements line) ≡ tree.Block (statements_of (map statement_of statements.items)) line
unfolding statement_of arm_of
show_statement_block statements line = ap (fold-TStmt Statement Arm statement_step arm_step) (sym (TStmt.rolls-Block statements line)) ∙ fold-roll-TStmt Statement Arm statement_step arm_step (OpenStmt.Block statements line)

pub show_statement_empty : (line : _) → statement_of (TStmt.Empty line) ≡ tree.Empty line
unfolding statement_of arm_of
show_statement_empty line = ap (fold-TStmt Statement Arm statement_step arm_step) (sym (TStmt.rolls-Empty line)) ∙ fold-roll-TStmt Statement Arm statement_step arm_step (OpenStmt.Empty line)

pub show_statement_expr : (value : _) (line : _) → statement_of (TStmt.Expr value line) ≡ tree.Expr (expression_of value) line
unfolding statement_of arm_of
show_statement_expr value line = ap (fold-TStmt Statement Arm statement_step arm_step) (sym (TStmt.rolls-Expr value line)) ∙ fold-roll-TStmt Statement Arm statement_step arm_step (OpenStmt.Expr value line)

pub show_statement_declare : (local : _) (line : _) → statement_of (TStmt.Declare local line) ≡ tree.Declare local line
unfolding statement_of arm_of
show_statement_declare local line = ap (fold-TStmt Statement Arm statement_step arm_step) (sym (TStmt.rolls-Declare local line)) ∙ fold-roll-TStmt Statement Arm statement_step arm_step (OpenStmt.Declare local line)

pub show_statement_init_scalar : (local : _) (value : _) (line : _) → statement_of (TStmt.InitScalar local value line) ≡ tree.InitScalar local (expression_of value) line
unfolding statement_of arm_of
show_statement_init_scalar local value line = ap (fold-TStmt Statement Arm statement_step arm_step) (sym (TStmt.rolls-InitScalar local value line)) ∙ fold-roll-TStmt Statement Arm statement_step arm_step (OpenStmt.InitScalar local value line)

pub show_statement_init_list : (local : _) (items : _) (line : _) → statement_of (TStmt.InitList local items line) ≡ tree.InitList local (map item_of items.items) line
unfolding statement_of arm_of
show_statement_init_list local items line = ap (fold-TStmt Statement Arm statement_step arm_step) (sym (TStmt.rolls-InitList local items line)) ∙ fold-roll-TStmt Statement Arm statement_step arm_step (OpenStmt.InitList local items line)

pub show_statement_if_alone : (arms : _) (line : _) → statement_of (TStmt.If arms None line) ≡ tree.If (arms_of (map arm_of arms.items)) tree.NoLast line
unfolding statement_of arm_of
show_statement_if_alone arms line = ap (fold-TStmt Statement Arm statement_step arm_step) (sym (TStmt.rolls-If arms None line)) ∙ fold-roll-TStmt Statement Arm statement_step arm_step (OpenStmt.If arms None line)

pub show_statement_if_else : (arms : _) (last : _) (line : _) → statement_of (TStmt.If arms (Some last) line) ≡ tree.If (arms_of (map arm_of arms.items)) (tree.Last (statement_of last.value)) line
unfolding statement_of arm_of
show_statement_if_else arms last line = ap (fold-TStmt Statement Arm statement_step arm_step) (sym (TStmt.rolls-If arms (Some last) line)) ∙ fold-roll-TStmt Statement Arm statement_step arm_step (OpenStmt.If arms (Some last) line)

pub show_statement_loop : (shape : _) (begin : _) (condition : _) (step : _) (body : _) (line : _) → statement_of (TStmt.Loop shape begin condition step body line) ≡ tree.Loop shape (option_map expression_of begin) (option_map expression_of condition) (option_map expression_of step) (statement_of body.value) line
unfolding statement_of arm_of
show_statement_loop shape begin condition step body line = ap (fold-TStmt Statement Arm statement_step arm_step) (sym (TStmt.rolls-Loop shape begin condition step body line)) ∙ fold-roll-TStmt Statement Arm statement_step arm_step (OpenStmt.Loop shape begin condition step body line)

pub show_statement_switch : (value : _) (cases : _) (default : _) (statements : _) (line : _) → statement_of (TStmt.Switch value cases default statements line) ≡ tree.Switch (expression_of value) cases.items default (statements_of (map statement_of statements.items)) line
unfolding statement_of arm_of
show_statement_switch value cases default statements line = ap (fold-TStmt Statement Arm statement_step arm_step) (sym (TStmt.rolls-Switch value cases default statements line)) ∙ fold-roll-TStmt Statement Arm statement_step arm_step (OpenStmt.Switch value cases default statements line)

pub show_statement_break : (line : _) → statement_of (TStmt.Break line) ≡ tree.Break line
unfolding statement_of arm_of
show_statement_break line = ap (fold-TStmt Statement Arm statement_step arm_step) (sym (TStmt.rolls-Break line)) ∙ fold-roll-TStmt Statement Arm statement_step arm_step (OpenStmt.Break line)

pub show_statement_continue : (line : _) → statement_of (TStmt.Continue line) ≡ tree.Continue line
unfolding statement_of arm_of
show_statement_continue line = ap (fold-TStmt Statement Arm statement_step arm_step) (sym (TStmt.rolls-Continue line)) ∙ fold-roll-TStmt Statement Arm statement_step arm_step (OpenStmt.Continue line)

pub show_statement_return : (value : _) (line : _) → statement_of (TStmt.Return value line) ≡ tree.Return (option_map expression_of value) line
unfolding statement_of arm_of
show_statement_return value line = ap (fold-TStmt Statement Arm statement_step arm_step) (sym (TStmt.rolls-Return value line)) ∙ fold-roll-TStmt Statement Arm statement_step arm_step (OpenStmt.Return value line)

pub show_arm : (arm : TArm) → arm_of arm ≡ tree.OneArm (expression_of (out-TArm arm).condition) (statement_of (out-TArm arm).then) (out-TArm arm).line
unfolding statement_of arm_of
show_arm arm = fold_out-TArm Statement Arm statement_step arm_step arm

pub ruleset expression_shapes = (show_expression_constant, show_expression_read, show_expression_address, show_expression_convert, show_expression_cast, show_expression_unary, show_expression_binary, show_expression_offset, show_expression_difference, show_expression_logical, show_expression_conditional, show_expression_comma, show_expression_assign, show_expression_struct_assign, show_expression_update, show_expression_step, show_expression_call)

pub ruleset place_shapes = (show_place_name, show_place_bit, show_place_member, show_place_deref)

pub ruleset statement_shapes = (show_statement_block, show_statement_empty, show_statement_expr, show_statement_declare, show_statement_init_scalar, show_statement_init_list, show_statement_if_alone, show_statement_if_else, show_statement_loop, show_statement_switch, show_statement_break, show_statement_continue, show_statement_return, show_arm)
