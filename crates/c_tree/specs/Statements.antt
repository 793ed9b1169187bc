-- How the initializers, declarations and statements of the code are spelled: as the pure data that
-- they are.
use Rattle.std.specs.Prelude.{ℕ, [], ◌∷◌, ◌++◌, Option, Some, None}
use Rattle.std.specs.Global.{Box}
use Rattle.c_token.specs.declared.token.Keyword.TheVariants as words
use Rattle.c_token.specs.declared.token.Punct.TheVariants as marks
use Rattle.c_nodes.specs.Words.{Symbols, key, punct}
use Rattle.c_nodes.specs.Views.{specs_of, declarator_of}
use Rattle.c_nodes.specs.Trees.{spelled_specs, spelled_declarator}
use Rattle.c_nodes.specs.Programs.{StatementTree, spelled_any, spelled_condition, spelled_head, spelled_label, spelled_init, spelled_equals, spelled_begun, spelled_declared, spelled_declaration, spelled_statement, spelled_arm, spelled_block, spelled_item}
use Rattle.c_nodes.specs.ProgramViews.{any_of, condition_of, head_of, label_of, init_of, next_init_of, equals_of, begun_of, next_begun_of, declared_of, declaration_of, statement_of, InnerTree, LabelInner, StatementInner, switch_item_of, arm_of, block_of, else_arm_of, if_chain_of, otherwise_of, otherwise_in, item_of}
use Rattle.c_nodes.specs.declared.expression.Expr.{Expr}
use Rattle.c_nodes.specs.declared.statement.Item.{Item}
use Rattle.c_nodes.specs.declared.statement.Function.{Function}
use Rattle.c_nodes.specs.declared.statement.Declaration.{Declaration}
use Rattle.c_nodes.specs.declared.statement.Declared.{Declared}
use Rattle.c_nodes.specs.declared.statement.NextInitDeclarator.{NextInitDeclarator}
use Rattle.c_nodes.specs.declared.statement.InitDeclarator.{InitDeclarator}
use Rattle.c_nodes.specs.declared.statement.EqualsInit.{EqualsInit}
use Rattle.c_nodes.specs.declared.statement.Init.{Init}
use Rattle.c_nodes.specs.declared.statement.NextInit.{NextInit}
use Rattle.c_nodes.specs.declared.statement.Condition.{Condition}
use Rattle.c_nodes.specs.declared.statement.ForHead.{ForHead}
use Rattle.c_nodes.specs.declared.statement.Label.{Label}
use Rattle.c_nodes.specs.declared.statement.Statement.{Statement}
use Rattle.c_nodes.specs.declared.statement.SwitchItem.{SwitchItem}
use Rattle.c_nodes.specs.declared.statement.Arm.{Arm}
use Rattle.c_nodes.specs.declared.statement.Block.{Block}
use Rattle.c_nodes.specs.declared.statement.ElseArm.{ElseArm}
use Rattle.c_nodes.specs.declared.statement.IfChain.{IfChain}
use Rattle.c_nodes.specs.declared.statement.Otherwise.{Otherwise}

abbrev pub spell_any : Option Expr → Symbols
spell_any x = spelled_any (any_of x)

abbrev pub spell_condition : Condition → Symbols
spell_condition x = spelled_condition (condition_of x)

abbrev pub spell_for_head : ForHead → Symbols
spell_for_head x = spelled_head (head_of x)

abbrev pub spell_label : Label → Symbols
spell_label x = spelled_label (label_of x)

abbrev pub spell_init : Init → Symbols
spell_init x = spelled_init (init_of x)

abbrev pub spell_next_init : NextInit → Symbols
spell_next_init x = punct marks.Comma (next_init_of x).0 ∷ spelled_init (next_init_of x).1

abbrev pub spell_equals_init : Option EqualsInit → Symbols
spell_equals_init x = spelled_equals (equals_of x)

abbrev pub spell_init_declarator : InitDeclarator → Symbols
spell_init_declarator x = spelled_begun (begun_of x)

abbrev pub spell_next_init_declarator : NextInitDeclarator → Symbols
spell_next_init_declarator x = punct marks.Comma (next_begun_of x).0 ∷ spelled_begun (next_begun_of x).1

abbrev pub spell_declared : Option Declared → Symbols
spell_declared x = spelled_declared (declared_of x)

abbrev pub spell_declaration : Declaration → Symbols
spell_declaration x = spelled_declaration (declaration_of x)

abbrev pub spell_statement : Statement → Symbols
spell_statement x = spelled_statement (statement_of x)

-- what stands in the body of a `switch`
abbrev pub spelled_inner : InnerTree → Symbols
spelled_inner (LabelInner l) = spelled_label l
spelled_inner (StatementInner s) = spelled_statement s

abbrev pub spell_switch_item : SwitchItem → Symbols
spell_switch_item x = spelled_inner (switch_item_of x)

abbrev pub spell_arm : Arm → Symbols
spell_arm x = spelled_arm (arm_of x)

abbrev pub spell_block : Block → Symbols
spell_block x = spelled_block (block_of x)

abbrev pub spell_else_arm : ElseArm → Symbols
spell_else_arm x = key words.Else (else_arm_of x).0 ∷ spelled_arm (else_arm_of x).1

abbrev pub spell_if_chain : IfChain → Symbols
spell_if_chain x = spelled_statement (if_chain_of x)

-- `else` and the statement behind it, if there are any
abbrev pub spelled_otherwise : Option (ℕ × StatementTree) → Symbols
spelled_otherwise None = []
spelled_otherwise (Some e) = key words.Else e.0 ∷ spelled_statement e.1

abbrev pub spell_otherwise : Otherwise → Symbols
spell_otherwise x = spelled_otherwise (Some (otherwise_of x))

abbrev pub spell_last : Option (Box Otherwise) → Symbols
spell_last x = spelled_otherwise (otherwise_in x)

abbrev pub spell_function : Function → Symbols
spell_function x = spelled_specs (specs_of x.specs) ++ (spelled_declarator (declarator_of x.declarator) ++ spelled_block (block_of x.body))

abbrev pub spell_item : Item → Symbols
spell_item x = spelled_item (item_of x)
