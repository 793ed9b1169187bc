-- Which statements of the code give a local the value that it begins with.
use Rattle.std.proofs.Common.{◌≡◌, true, false, Option, Some, None, ap}
use Rattle.std.specs.Global.{Box}
use Rattle.c_typed.proofs.Shapes.{show_statement_block, show_statement_empty, show_statement_expr, show_statement_declare, show_statement_init_scalar, show_statement_init_list, show_statement_if_alone, show_statement_if_else, show_statement_loop, show_statement_switch, show_statement_break, show_statement_continue, show_statement_return}
use Rattle.c_typed.specs.Views.{statement_of}
use Rattle.c_typed.specs.declared.statement.TStmt.{TStmt}
use Rattle.c_typed.specs.declared.statement.TStmt.TheVariants as TStmt
use Rattle.src_machine.specs.Seen.{is_scalar}

pub is_scalar_block : (statements : _) (line : _) → is_scalar (statement_of (TStmt.Block statements line)) ≡ false
is_scalar_block statements line = ap is_scalar (show_statement_block statements line)

pub is_scalar_empty : (line : _) → is_scalar (statement_of (TStmt.Empty line)) ≡ false
is_scalar_empty line = ap is_scalar (show_statement_empty line)

pub is_scalar_expr : (value : _) (line : _) → is_scalar (statement_of (TStmt.Expr value line)) ≡ false
is_scalar_expr value line = ap is_scalar (show_statement_expr value line)

pub is_scalar_declare : (local : _) (line : _) → is_scalar (statement_of (TStmt.Declare local line)) ≡ false
is_scalar_declare local line = ap is_scalar (show_statement_declare local line)

pub is_scalar_init_scalar : (local : _) (value : _) (line : _) → is_scalar (statement_of (TStmt.InitScalar local value line)) ≡ true
is_scalar_init_scalar local value line = ap is_scalar (show_statement_init_scalar local value line)

pub is_scalar_init_list : (local : _) (items : _) (line : _) → is_scalar (statement_of (TStmt.InitList local items line)) ≡ false
is_scalar_init_list local items line = ap is_scalar (show_statement_init_list local items line)

pub is_scalar_loop : (shape : _) (begin : _) (condition : _) (step : _) (body : _) (line : _) → is_scalar (statement_of (TStmt.Loop shape begin condition step body line)) ≡ false
is_scalar_loop shape begin condition step body line = ap is_scalar (show_statement_loop shape begin condition step body line)

pub is_scalar_switch : (value : _) (cases : _) (default : _) (statements : _) (line : _) → is_scalar (statement_of (TStmt.Switch value cases default statements line)) ≡ false
is_scalar_switch value cases default statements line = ap is_scalar (show_statement_switch value cases default statements line)

pub is_scalar_break : (line : _) → is_scalar (statement_of (TStmt.Break line)) ≡ false
is_scalar_break line = ap is_scalar (show_statement_break line)

pub is_scalar_continue : (line : _) → is_scalar (statement_of (TStmt.Continue line)) ≡ false
is_scalar_continue line = ap is_scalar (show_statement_continue line)

pub is_scalar_return : (value : _) (line : _) → is_scalar (statement_of (TStmt.Return value line)) ≡ false
is_scalar_return value line = ap is_scalar (show_statement_return value line)

pub is_scalar_if : (arms : _) (otherwise : Option (Box TStmt)) (line : _) → is_scalar (statement_of (TStmt.If arms otherwise line)) ≡ false
is_scalar_if arms None line = ap is_scalar (show_statement_if_alone arms line)
is_scalar_if arms (Some last) line = ap is_scalar (show_statement_if_else arms last line)

pub ruleset scalars = (is_scalar_init_scalar)
