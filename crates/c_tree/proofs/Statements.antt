-- The spelling of each statement from the spellings of its parts.
use Rattle.std.proofs.Common.{◌≡◌, ℕ, [], ◌∷◌, ◌++◌, Some, map, ap, ◌∙◌}
use Rattle.c_token.specs.declared.token.Keyword.TheVariants as words
use Rattle.c_token.specs.declared.token.Punct.TheVariants.{LeftBrace, RightBrace, Semicolon, Comma}
use Rattle.c_nodes.specs.Words.{Symbols, key, punct, quoted, flat, spelled_comma}
use Rattle.c_nodes.specs.Programs.{InitTree, StatementTree, ArmTree, spelled_init, spelled_condition, spelled_begun, spelled_statement, spelled_statements, spelled_arm, spelled_block}
use Rattle.c_nodes.specs.ProgramViews.{condition_of, init_of, next_init_of, begun_of, next_begun_of, declaration_of, statements_of, statement_of, switch_item_of, arm_of, else_arm_of, otherwise_in}
use Rattle.c_tree.specs.Spelling.{spell_assign}
use Rattle.c_tree.specs.Statements.{spelled_inner, spell_any, spell_arm, spell_block, spell_condition, spell_declaration, spell_declared, spell_else_arm, spell_for_head, spell_if_chain, spell_init, spell_init_declarator, spell_label, spell_last, spell_next_init, spell_next_init_declarator, spell_otherwise, spell_statement, spell_switch_item}
use Rattle.c_tree.proofs.Lists.{inits_listed, begun_listed, declarations_listed, statements_listed, arms_listed, items_listed}
use Rattle.c_nodes.proofs.ProgramShapes.{show_init_assign, show_init_text, show_init_list, show_next_init, show_statement_block, show_statement_expr, show_statement_if, show_statement_while, show_statement_do, show_statement_for, show_statement_switch, show_statement_break, show_statement_continue, show_statement_return, show_switch_item_label, show_switch_item_statement, show_arm, show_block, show_else_arm, show_otherwise, show_if_chain}
use Rattle.c_nodes.specs.declared.statement.Declared.{Declared}
use Rattle.c_nodes.specs.declared.statement.Init.TheVariants as Init
use Rattle.c_nodes.specs.declared.statement.Init.TheViews.{out-NextInit}
use Rattle.c_nodes.specs.declared.statement.NextInit.{NextInit}
use Rattle.c_nodes.specs.declared.statement.Statement.TheVariants as Statement
use Rattle.c_nodes.specs.declared.statement.SwitchItem.TheVariants as SwitchItem
use Rattle.c_nodes.specs.declared.statement.Arm.{Arm}
use Rattle.c_nodes.specs.declared.statement.Block.{Block}
use Rattle.c_nodes.specs.declared.statement.ElseArm.{ElseArm}
use Rattle.c_nodes.specs.declared.statement.IfChain.{IfChain}
use Rattle.c_nodes.specs.declared.statement.Otherwise.{Otherwise}
use Rattle.c_nodes.specs.declared.statement.Statement.TheViews.{out-Arm, out-Block, out-ElseArm, out-IfChain, out-Otherwise}

pub see_init_assign : (assign : _) → spell_init (Init.Assign assign) ≡ spell_assign assign
see_init_assign assign = ap spelled_init (show_init_assign assign)

pub see_init_text : (text : _) → spell_init (Init.Text text) ≡ quoted text ∷ []
see_init_text text = ap spelled_init (show_init_text text)

pub see_init_list : (opening : _) (first : _) (others : _) (last_comma : _) (closing : _) → spell_init (Init.List opening first others last_comma closing) ≡ punct LeftBrace opening ∷ (spell_init first.value ++ (flat (map spell_next_init others.items) ++ (spelled_comma last_comma ++ punct RightBrace closing ∷ [])))
see_init_list opening first others last_comma closing = ap spelled_init (show_init_list opening first others last_comma closing) ∙ ap (λ (l : Symbols). punct LeftBrace opening ∷ (spelled_init (init_of first.value) ++ (l ++ (spelled_comma last_comma ++ punct RightBrace closing ∷ [])))) (inits_listed next_init_of others.items)

pub see_next_init : (x : NextInit) → spell_next_init x ≡ punct Comma (out-NextInit x).comma ∷ spell_init (out-NextInit x).init
see_next_init x = ap (λ (n : ℕ × InitTree). punct Comma n.0 ∷ spelled_init n.1) (show_next_init x)

pub see_statement_block : (block : _) → spell_statement (Statement.Block block) ≡ spell_block block
see_statement_block block = ap spelled_statement (show_statement_block block)

pub see_statement_expr : (expr : _) (semicolon : _) → spell_statement (Statement.Expr expr semicolon) ≡ spell_any expr ++ punct Semicolon semicolon ∷ []
see_statement_expr expr semicolon = ap spelled_statement (show_statement_expr expr semicolon)

pub see_statement_if : (chain : _) → spell_statement (Statement.If chain) ≡ spell_if_chain chain
see_statement_if chain = ap spelled_statement (show_statement_if chain)

pub see_statement_while : (keyword : _) (condition : _) (body : _) → spell_statement (Statement.While keyword condition body) ≡ key words.While keyword ∷ (spell_condition condition ++ spell_statement body.value)
see_statement_while keyword condition body = ap spelled_statement (show_statement_while keyword condition body)

pub see_statement_do : (keyword : _) (body : _) (while_keyword : _) (condition : _) (semicolon : _) → spell_statement (Statement.Do keyword body while_keyword condition semicolon) ≡ key words.Do keyword ∷ (spell_statement body.value ++ key words.While while_keyword ∷ (spell_condition condition ++ punct Semicolon semicolon ∷ []))
see_statement_do keyword body while_keyword condition semicolon = ap spelled_statement (show_statement_do keyword body while_keyword condition semicolon)

pub see_statement_for : (keyword : _) (head : _) (body : _) → spell_statement (Statement.For keyword head body) ≡ key words.For keyword ∷ (spell_for_head head.value ++ spell_statement body.value)
see_statement_for keyword head body = ap spelled_statement (show_statement_for keyword head body)

pub see_statement_switch : (keyword : _) (value : _) (opening : _) (items : _) (closing : _) → spell_statement (Statement.Switch keyword value opening items closing) ≡ key words.Switch keyword ∷ (spell_condition value ++ punct LeftBrace opening ∷ (flat (map spell_switch_item items.items) ++ punct RightBrace closing ∷ []))
see_statement_switch keyword value opening items closing = ap spelled_statement (show_statement_switch keyword value opening items closing) ∙ ap (λ (l : Symbols). key words.Switch keyword ∷ (spelled_condition (condition_of value) ++ punct LeftBrace opening ∷ (l ++ punct RightBrace closing ∷ []))) (items_listed switch_item_of items.items)

pub see_statement_break : (keyword : _) (semicolon : _) → spell_statement (Statement.Break keyword semicolon) ≡ key words.Break keyword ∷ punct Semicolon semicolon ∷ []
see_statement_break keyword semicolon = ap spelled_statement (show_statement_break keyword semicolon)

pub see_statement_continue : (keyword : _) (semicolon : _) → spell_statement (Statement.Continue keyword semicolon) ≡ key words.Continue keyword ∷ punct Semicolon semicolon ∷ []
see_statement_continue keyword semicolon = ap spelled_statement (show_statement_continue keyword semicolon)

pub see_statement_return : (keyword : _) (value : _) (semicolon : _) → spell_statement (Statement.Return keyword value semicolon) ≡ key words.Return keyword ∷ (spell_any value ++ punct Semicolon semicolon ∷ [])
see_statement_return keyword value semicolon = ap spelled_statement (show_statement_return keyword value semicolon)

pub see_switch_item_label : (label : _) → spell_switch_item (SwitchItem.Label label) ≡ spell_label label
see_switch_item_label label = ap spelled_inner (show_switch_item_label label)

pub see_switch_item_statement : (statement : _) → spell_switch_item (SwitchItem.Statement statement) ≡ spell_statement statement
see_switch_item_statement statement = ap spelled_inner (show_switch_item_statement statement)

pub see_arm : (x : Arm) → spell_arm x ≡ key words.If (out-Arm x).keyword ∷ (spell_condition (out-Arm x).condition ++ spell_statement (out-Arm x).then)
see_arm x = ap spelled_arm (show_arm x)

pub see_block : (x : Block) → spell_block x ≡ punct LeftBrace (out-Block x).opening ∷ (flat (map spell_declaration (out-Block x).declarations.items) ++ (flat (map spell_statement (out-Block x).statements.items) ++ punct RightBrace (out-Block x).closing ∷ []))
see_block x = ap spelled_block (show_block x) ∙ ap (λ (l : Symbols). punct LeftBrace (out-Block x).opening ∷ (l ++ (spelled_statements (statements_of (map statement_of (out-Block x).statements.items)) ++ punct RightBrace (out-Block x).closing ∷ []))) (declarations_listed declaration_of (out-Block x).declarations.items)
    ∙ ap (λ (l : Symbols). punct LeftBrace (out-Block x).opening ∷ (flat (map spell_declaration (out-Block x).declarations.items) ++ (l ++ punct RightBrace (out-Block x).closing ∷ []))) (statements_listed statement_of (out-Block x).statements.items)

pub see_else_arm : (x : ElseArm) → spell_else_arm x ≡ key words.Else (out-ElseArm x).else_keyword ∷ spell_arm (out-ElseArm x).arm
see_else_arm x = ap (λ (e : ℕ × ArmTree). key words.Else e.0 ∷ spelled_arm e.1) (show_else_arm x)

pub see_otherwise : (x : Otherwise) → spell_otherwise x ≡ key words.Else (out-Otherwise x).keyword ∷ spell_statement (out-Otherwise x).statement
see_otherwise x = ap (λ (e : ℕ × StatementTree). key words.Else e.0 ∷ spelled_statement e.1) (show_otherwise x)

pub see_if_chain : (x : IfChain) → spell_if_chain x ≡ spell_arm (out-IfChain x).first.value ++ (flat (map spell_else_arm (out-IfChain x).others.items) ++ spell_last (out-IfChain x).last)
see_if_chain x = ap spelled_statement (show_if_chain x) ∙ ap (λ (l : Symbols). spelled_arm (arm_of (out-IfChain x).first.value) ++ l) (arms_listed else_arm_of (out-IfChain x).others.items (otherwise_in (out-IfChain x).last))

pub see_declared : (d : Declared) → spell_declared (Some d) ≡ spell_init_declarator d.first ++ flat (map spell_next_init_declarator d.others.items)
see_declared d = ap (λ (l : Symbols). spelled_begun (begun_of d.first) ++ l) (begun_listed next_begun_of d.others.items)
