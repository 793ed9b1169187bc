-- What each initializer and statement of the code is as pure data.
use Rattle.std.proofs.Common.{◌≡◌, ℕ, Some, None, map, refl, sym, ap, ◌∙◌}
use Rattle.c_nodes.specs.Words.{quoted}
use Rattle.c_nodes.specs.Views.{assign_of}
use Rattle.c_nodes.specs.Programs as tree
use Rattle.c_nodes.specs.Programs.{InitTree, StatementTree, BlockTree, ArmTree}
use Rattle.c_nodes.specs.ProgramViews.{any_of, condition_of, head_of, label_of, more_inits, init_step, next_init_step, init_of, next_init_of, declaration_of, statements_of, arms_of, otherwise_in, InnerTree, LabelInner, StatementInner, items_of, statement_step, statement_of, switch_item_step, switch_item_of, arm_step, arm_of, block_step, block_of, else_arm_step, else_arm_of, if_chain_step, if_chain_of, otherwise_step, otherwise_of}
use Rattle.c_nodes.specs.declared.statement.Arm.{Arm}
use Rattle.c_nodes.specs.declared.statement.Block.{Block}
use Rattle.c_nodes.specs.declared.statement.ElseArm.{ElseArm}
use Rattle.c_nodes.specs.declared.statement.IfChain.{IfChain}
use Rattle.c_nodes.specs.declared.statement.Otherwise.{Otherwise}
use Rattle.c_nodes.specs.declared.statement.NextInit.{NextInit}
use Rattle.c_nodes.specs.declared.statement.Statement.TheVariants as Statement
use Rattle.c_nodes.specs.declared.statement.SwitchItem.TheVariants as SwitchItem
use Rattle.c_nodes.specs.declared.statement.Init.TheVariants as Init
use Rattle.c_nodes.specs.declared.statement.Statement.TheOpen as Open
use Rattle.c_nodes.specs.declared.statement.Init.TheOpen as OpenInit
use Rattle.c_nodes.specs.declared.statement.Statement.TheViews.{out-Arm, roll-Arm, out-Block, roll-Block, out-ElseArm, roll-ElseArm, out-IfChain, roll-IfChain, out-Otherwise, roll-Otherwise}
use Rattle.c_nodes.specs.declared.statement.Init.TheViews.{out-NextInit, roll-NextInit}
use Rattle.c_nodes.specs.declared.statement.Statement.TheFolds.{fold-Statement, fold-roll-Statement, fold-SwitchItem, fold-roll-SwitchItem, fold-roll-Arm, fold_out-Arm, fold-roll-Block, fold_out-Block, fold-roll-ElseArm, fold_out-ElseArm, fold-roll-IfChain, fold_out-IfChain, fold-roll-Otherwise, fold_out-Otherwise}
use Rattle.c_nodes.specs.declared.statement.Init.TheFolds.{fold-Init, fold-roll-Init, fold-roll-NextInit, fold_out-NextInit}
use Rattle.c_nodes.specs.declared.statement.Statement.TheFolds.{map-IfChain}
use Rattle.c_nodes.specs.declared.statement.Statement as StatementOf
use Rattle.c_nodes.specs.declared.statement.SwitchItem as SwitchItemOf

pub show_init_assign : (assign : _) → init_of (Init.Assign assign) ≡ tree.Value (assign_of assign)
unfolding init_of next_init_of
show_init_assign assign = ap (fold-Init InitTree (ℕ × InitTree) init_step next_init_step) (sym (Init.rolls-Assign assign)) ∙ fold-roll-Init InitTree (ℕ × InitTree) init_step next_init_step (OpenInit.Assign assign)

pub show_init_text : (text : _) → init_of (Init.Text text) ≡ tree.Quoted (quoted text)
unfolding init_of next_init_of
show_init_text text = ap (fold-Init InitTree (ℕ × InitTree) init_step next_init_step) (sym (Init.rolls-Text text)) ∙ fold-roll-Init InitTree (ℕ × InitTree) init_step next_init_step (OpenInit.Text text)

pub show_init_list : (opening : _) (first : _) (others : _) (last_comma : _) (closing : _) → init_of (Init.List opening first others last_comma closing) ≡ tree.Listed opening (init_of first.value) (more_inits (map next_init_of others.items)) last_comma closing
unfolding init_of next_init_of
show_init_list opening first others last_comma closing = ap (fold-Init InitTree (ℕ × InitTree) init_step next_init_step) (sym (Init.rolls-List opening first others last_comma closing)) ∙ fold-roll-Init InitTree (ℕ × InitTree) init_step next_init_step (OpenInit.List opening first others last_comma closing)

pub show_next_init : (x : NextInit) → next_init_of x ≡ ((out-NextInit x).comma, init_of (out-NextInit x).init)
unfolding init_of next_init_of
show_next_init x = fold_out-NextInit InitTree (ℕ × InitTree) init_step next_init_step x

pub made_next_init : (y : _) → next_init_of (roll-NextInit y) ≡ (y.comma, init_of y.init)
unfolding init_of next_init_of
made_next_init y = fold-roll-NextInit InitTree (ℕ × InitTree) init_step next_init_step y

pub show_statement_block : (block : _) → statement_of (Statement.Block block) ≡ tree.Braced (block_of block)
unfolding statement_of switch_item_of arm_of block_of else_arm_of if_chain_of otherwise_of
show_statement_block block = ap (fold-Statement StatementTree InnerTree ArmTree BlockTree (ℕ × ArmTree) StatementTree (ℕ × StatementTree) statement_step switch_item_step arm_step block_step else_arm_step if_chain_step otherwise_step) (sym (Statement.rolls-Block block)) ∙ fold-roll-Statement StatementTree InnerTree ArmTree BlockTree (ℕ × ArmTree) StatementTree (ℕ × StatementTree) statement_step switch_item_step arm_step block_step else_arm_step if_chain_step otherwise_step (Open.Block block)

pub show_statement_expr : (expr : _) (semicolon : _) → statement_of (Statement.Expr expr semicolon) ≡ tree.Plain (any_of expr) semicolon
unfolding statement_of switch_item_of arm_of block_of else_arm_of if_chain_of otherwise_of
show_statement_expr expr semicolon = ap (fold-Statement StatementTree InnerTree ArmTree BlockTree (ℕ × ArmTree) StatementTree (ℕ × StatementTree) statement_step switch_item_step arm_step block_step else_arm_step if_chain_step otherwise_step) (sym (Statement.rolls-Expr expr semicolon)) ∙ fold-roll-Statement StatementTree InnerTree ArmTree BlockTree (ℕ × ArmTree) StatementTree (ℕ × StatementTree) statement_step switch_item_step arm_step block_step else_arm_step if_chain_step otherwise_step (Open.Expr expr semicolon)

pub show_statement_if : (chain : _) → statement_of (Statement.If chain) ≡ if_chain_of chain
unfolding statement_of switch_item_of arm_of block_of else_arm_of if_chain_of otherwise_of
show_statement_if chain = ap (fold-Statement StatementTree InnerTree ArmTree BlockTree (ℕ × ArmTree) StatementTree (ℕ × StatementTree) statement_step switch_item_step arm_step block_step else_arm_step if_chain_step otherwise_step) (sym (Statement.rolls-If chain)) ∙ fold-roll-Statement StatementTree InnerTree ArmTree BlockTree (ℕ × ArmTree) StatementTree (ℕ × StatementTree) statement_step switch_item_step arm_step block_step else_arm_step if_chain_step otherwise_step (Open.If chain)

pub show_statement_while : (keyword : _) (condition : _) (body : _) → statement_of (Statement.While keyword condition body) ≡ tree.While keyword (condition_of condition) (statement_of body.value)
unfolding statement_of switch_item_of arm_of block_of else_arm_of if_chain_of otherwise_of
show_statement_while keyword condition body = ap (fold-Statement StatementTree InnerTree ArmTree BlockTree (ℕ × ArmTree) StatementTree (ℕ × StatementTree) statement_step switch_item_step arm_step block_step else_arm_step if_chain_step otherwise_step) (sym (Statement.rolls-While keyword condition body)) ∙ fold-roll-Statement StatementTree InnerTree ArmTree BlockTree (ℕ × ArmTree) StatementTree (ℕ × StatementTree) statement_step switch_item_step arm_step block_step else_arm_step if_chain_step otherwise_step (Open.While keyword condition body)

pub show_statement_do : (keyword : _) (body : _) (while_keyword : _) (condition : _) (semicolon : _) → statement_of (Statement.Do keyword body while_keyword condition semicolon) ≡ tree.Do keyword (statement_of body.value) while_keyword (condition_of condition) semicolon
unfolding statement_of switch_item_of arm_of block_of else_arm_of if_chain_of otherwise_of
show_statement_do keyword body while_keyword condition semicolon = ap (fold-Statement StatementTree InnerTree ArmTree BlockTree (ℕ × ArmTree) StatementTree (ℕ × StatementTree) statement_step switch_item_step arm_step block_step else_arm_step if_chain_step otherwise_step) (sym (Statement.rolls-Do keyword body while_keyword condition semicolon)) ∙ fold-roll-Statement StatementTree InnerTree ArmTree BlockTree (ℕ × ArmTree) StatementTree (ℕ × StatementTree) statement_step switch_item_step arm_step block_step else_arm_step if_chain_step otherwise_step (Open.Do keyword body while_keyword condition semicolon)

pub show_statement_for : (keyword : _) (head : _) (body : _) → statement_of (Statement.For keyword head body) ≡ tree.For keyword (head_of head.value) (statement_of body.value)
unfolding statement_of switch_item_of arm_of block_of else_arm_of if_chain_of otherwise_of
show_statement_for keyword head body = ap (fold-Statement StatementTree InnerTree ArmTree BlockTree (ℕ × ArmTree) StatementTree (ℕ × StatementTree) statement_step switch_item_step arm_step block_step else_arm_step if_chain_step otherwise_step) (sym (Statement.rolls-For keyword head body)) ∙ fold-roll-Statement StatementTree InnerTree ArmTree BlockTree (ℕ × ArmTree) StatementTree (ℕ × StatementTree) statement_step switch_item_step arm_step block_step else_arm_step if_chain_step otherwise_step (Open.For keyword head body)

pub show_statement_switch : (keyword : _) (value : _) (opening : _) (items : _) (closing : _) → statement_of (Statement.Switch keyword value opening items closing) ≡ tree.Switch keyword (condition_of value) opening (items_of (map switch_item_of items.items)) closing
unfolding statement_of switch_item_of arm_of block_of else_arm_of if_chain_of otherwise_of
show_statement_switch keyword value opening items closing = ap (fold-Statement StatementTree InnerTree ArmTree BlockTree (ℕ × ArmTree) StatementTree (ℕ × StatementTree) statement_step switch_item_step arm_step block_step else_arm_step if_chain_step otherwise_step) (sym (Statement.rolls-Switch keyword value opening items closing)) ∙ fold-roll-Statement StatementTree InnerTree ArmTree BlockTree (ℕ × ArmTree) StatementTree (ℕ × StatementTree) statement_step switch_item_step arm_step block_step else_arm_step if_chain_step otherwise_step (Open.Switch keyword value opening items closing)

pub show_statement_break : (keyword : _) (semicolon : _) → statement_of (Statement.Break keyword semicolon) ≡ tree.Break keyword semicolon
unfolding statement_of switch_item_of arm_of block_of else_arm_of if_chain_of otherwise_of
show_statement_break keyword semicolon = ap (fold-Statement StatementTree InnerTree ArmTree BlockTree (ℕ × ArmTree) StatementTree (ℕ × StatementTree) statement_step switch_item_step arm_step block_step else_arm_step if_chain_step otherwise_step) (sym (Statement.rolls-Break keyword semicolon)) ∙ fold-roll-Statement StatementTree InnerTree ArmTree BlockTree (ℕ × ArmTree) StatementTree (ℕ × StatementTree) statement_step switch_item_step arm_step block_step else_arm_step if_chain_step otherwise_step (Open.Break keyword semicolon)

pub show_statement_continue : (keyword : _) (semicolon : _) → statement_of (Statement.Continue keyword semicolon) ≡ tree.Continue keyword semicolon
unfolding statement_of switch_item_of arm_of block_of else_arm_of if_chain_of otherwise_of
show_statement_continue keyword semicolon = ap (fold-Statement StatementTree InnerTree ArmTree BlockTree (ℕ × ArmTree) StatementTree (ℕ × StatementTree) statement_step switch_item_step arm_step block_step else_arm_step if_chain_step otherwise_step) (sym (Statement.rolls-Continue keyword semicolon)) ∙ fold-roll-Statement StatementTree InnerTree ArmTree BlockTree (ℕ × ArmTree) StatementTree (ℕ × StatementTree) statement_step switch_item_step arm_step block_step else_arm_step if_chain_step otherwise_step (Open.Continue keyword semicolon)

pub show_statement_return : (keyword : _) (value : _) (semicolon : _) → statement_of (Statement.Return keyword value semicolon) ≡ tree.Return keyword (any_of value) semicolon
unfolding statement_of switch_item_of arm_of block_of else_arm_of if_chain_of otherwise_of
show_statement_return keyword value semicolon = ap (fold-Statement StatementTree InnerTree ArmTree BlockTree (ℕ × ArmTree) StatementTree (ℕ × StatementTree) statement_step switch_item_step arm_step block_step else_arm_step if_chain_step otherwise_step) (sym (Statement.rolls-Return keyword value semicolon)) ∙ fold-roll-Statement StatementTree InnerTree ArmTree BlockTree (ℕ × ArmTree) StatementTree (ℕ × StatementTree) statement_step switch_item_step arm_step block_step else_arm_step if_chain_step otherwise_step (Open.Return keyword value semicolon)

pub show_switch_item_label : (label : _) → switch_item_of (SwitchItem.Label label) ≡ LabelInner (label_of label)
unfolding statement_of switch_item_of arm_of block_of else_arm_of if_chain_of otherwise_of
show_switch_item_label label = ap (fold-SwitchItem StatementTree InnerTree ArmTree BlockTree (ℕ × ArmTree) StatementTree (ℕ × StatementTree) statement_step switch_item_step arm_step block_step else_arm_step if_chain_step otherwise_step) (sym (SwitchItem.rolls-Label label)) ∙ fold-roll-SwitchItem StatementTree InnerTree ArmTree BlockTree (ℕ × ArmTree) StatementTree (ℕ × StatementTree) statement_step switch_item_step arm_step block_step else_arm_step if_chain_step otherwise_step (Open.Label label)

pub show_switch_item_statement : (statement : _) → switch_item_of (SwitchItem.Statement statement) ≡ StatementInner (statement_of statement)
unfolding statement_of switch_item_of arm_of block_of else_arm_of if_chain_of otherwise_of
show_switch_item_statement statement = ap (fold-SwitchItem StatementTree InnerTree ArmTree BlockTree (ℕ × ArmTree) StatementTree (ℕ × StatementTree) statement_step switch_item_step arm_step block_step else_arm_step if_chain_step otherwise_step) (sym (SwitchItem.rolls-Statement statement)) ∙ fold-roll-SwitchItem StatementTree InnerTree ArmTree BlockTree (ℕ × ArmTree) StatementTree (ℕ × StatementTree) statement_step switch_item_step arm_step block_step else_arm_step if_chain_step otherwise_step (Open.Statement statement)

pub show_arm : (x : Arm) → arm_of x ≡ tree.Arm (out-Arm x).keyword (condition_of (out-Arm x).condition) (statement_of (out-Arm x).then)
unfolding statement_of switch_item_of arm_of block_of else_arm_of if_chain_of otherwise_of
show_arm x = fold_out-Arm StatementTree InnerTree ArmTree BlockTree (ℕ × ArmTree) StatementTree (ℕ × StatementTree) statement_step switch_item_step arm_step block_step else_arm_step if_chain_step otherwise_step x

pub made_arm : (y : _) → arm_of (roll-Arm y) ≡ tree.Arm y.keyword (condition_of y.condition) (statement_of y.then)
unfolding statement_of switch_item_of arm_of block_of else_arm_of if_chain_of otherwise_of
made_arm y = fold-roll-Arm StatementTree InnerTree ArmTree BlockTree (ℕ × ArmTree) StatementTree (ℕ × StatementTree) statement_step switch_item_step arm_step block_step else_arm_step if_chain_step otherwise_step y

pub show_block : (x : Block) → block_of x ≡ tree.Block (out-Block x).opening (map declaration_of (out-Block x).declarations.items) (statements_of (map statement_of (out-Block x).statements.items)) (out-Block x).closing
unfolding statement_of switch_item_of arm_of block_of else_arm_of if_chain_of otherwise_of
show_block x = fold_out-Block StatementTree InnerTree ArmTree BlockTree (ℕ × ArmTree) StatementTree (ℕ × StatementTree) statement_step switch_item_step arm_step block_step else_arm_step if_chain_step otherwise_step x

pub made_block : (y : _) → block_of (roll-Block y) ≡ tree.Block y.opening (map declaration_of y.declarations.items) (statements_of (map statement_of y.statements.items)) y.closing
unfolding statement_of switch_item_of arm_of block_of else_arm_of if_chain_of otherwise_of
made_block y = fold-roll-Block StatementTree InnerTree ArmTree BlockTree (ℕ × ArmTree) StatementTree (ℕ × StatementTree) statement_step switch_item_step arm_step block_step else_arm_step if_chain_step otherwise_step y

pub show_else_arm : (x : ElseArm) → else_arm_of x ≡ ((out-ElseArm x).else_keyword, arm_of (out-ElseArm x).arm)
unfolding statement_of switch_item_of arm_of block_of else_arm_of if_chain_of otherwise_of
show_else_arm x = fold_out-ElseArm StatementTree InnerTree ArmTree BlockTree (ℕ × ArmTree) StatementTree (ℕ × StatementTree) statement_step switch_item_step arm_step block_step else_arm_step if_chain_step otherwise_step x

pub made_else_arm : (y : _) → else_arm_of (roll-ElseArm y) ≡ (y.else_keyword, arm_of y.arm)
unfolding statement_of switch_item_of arm_of block_of else_arm_of if_chain_of otherwise_of
made_else_arm y = fold-roll-ElseArm StatementTree InnerTree ArmTree BlockTree (ℕ × ArmTree) StatementTree (ℕ × StatementTree) statement_step switch_item_step arm_step block_step else_arm_step if_chain_step otherwise_step y

pub show_otherwise : (x : Otherwise) → otherwise_of x ≡ ((out-Otherwise x).keyword, statement_of (out-Otherwise x).statement)
unfolding statement_of switch_item_of arm_of block_of else_arm_of if_chain_of otherwise_of
show_otherwise x = fold_out-Otherwise StatementTree InnerTree ArmTree BlockTree (ℕ × ArmTree) StatementTree (ℕ × StatementTree) statement_step switch_item_step arm_step block_step else_arm_step if_chain_step otherwise_step x

pub made_otherwise : (y : _) → otherwise_of (roll-Otherwise y) ≡ (y.keyword, statement_of y.statement)
unfolding statement_of switch_item_of arm_of block_of else_arm_of if_chain_of otherwise_of
made_otherwise y = fold-roll-Otherwise StatementTree InnerTree ArmTree BlockTree (ℕ × ArmTree) StatementTree (ℕ × StatementTree) statement_step switch_item_step arm_step block_step else_arm_step if_chain_step otherwise_step y

chain_layer : (y : Open.IfChain-F StatementOf.Statement SwitchItemOf.SwitchItem Arm Block ElseArm IfChain Otherwise) → if_chain_step (map-IfChain StatementOf.Statement SwitchItemOf.SwitchItem Arm Block ElseArm IfChain Otherwise StatementTree InnerTree ArmTree BlockTree (ℕ × ArmTree) StatementTree (ℕ × StatementTree) statement_of switch_item_of arm_of block_of else_arm_of if_chain_of otherwise_of y) ≡ tree.Chain (arm_of y.first.value) (arms_of (map else_arm_of y.others.items) (otherwise_in y.last))
chain_layer y = elim y.last as (λ q. if_chain_step (map-IfChain StatementOf.Statement SwitchItemOf.SwitchItem Arm Block ElseArm IfChain Otherwise StatementTree InnerTree ArmTree BlockTree (ℕ × ArmTree) StatementTree (ℕ × StatementTree) statement_of switch_item_of arm_of block_of else_arm_of if_chain_of otherwise_of record { first = y.first; others = y.others; last = q }) ≡ tree.Chain (arm_of y.first.value) (arms_of (map else_arm_of y.others.items) (otherwise_in q))) [ None ↦ refl | Some last ↦ refl ]

pub show_if_chain : (x : IfChain) → if_chain_of x ≡ tree.Chain (arm_of (out-IfChain x).first.value) (arms_of (map else_arm_of (out-IfChain x).others.items) (otherwise_in (out-IfChain x).last))
unfolding statement_of switch_item_of arm_of block_of else_arm_of if_chain_of otherwise_of
show_if_chain x = fold_out-IfChain StatementTree InnerTree ArmTree BlockTree (ℕ × ArmTree) StatementTree (ℕ × StatementTree) statement_step switch_item_step arm_step block_step else_arm_step if_chain_step otherwise_step x ∙ chain_layer (out-IfChain x)

pub made_if_chain : (y : Open.IfChain-F StatementOf.Statement SwitchItemOf.SwitchItem Arm Block ElseArm IfChain Otherwise) → if_chain_of (roll-IfChain y) ≡ tree.Chain (arm_of y.first.value) (arms_of (map else_arm_of y.others.items) (otherwise_in y.last))
unfolding statement_of switch_item_of arm_of block_of else_arm_of if_chain_of otherwise_of
made_if_chain y = fold-roll-IfChain StatementTree InnerTree ArmTree BlockTree (ℕ × ArmTree) StatementTree (ℕ × StatementTree) statement_step switch_item_step arm_step block_step else_arm_step if_chain_step otherwise_step y ∙ chain_layer y
