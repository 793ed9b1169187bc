use Rattle.std.proofs.Common.{◌≡◌, drop, map}
use Rattle.c_nodes.specs.ProgramViews as views
use Rattle.c_nodes.specs.declared.statement.Statement.TheViews.{out-IfChain}
use Rattle.c_typed.specs.Views.{arm_of, statement_of}
use Rattle.type_rules.specs.Statements as rule
use Rattle.c_tables.specs.Tables.{known_of}
use Rattle.c_check.specs.StatementViews.{arms_behind, behind, block_list, body_of, chain_arms, Sees}
use Rattle.c_outline.specs.Flows.{flow_of}
use Rattle.c_check.proofs.statement.+statement.Given as goal

abbrev pub invariant-block-loop-inner : goal.invariant-block-loop-inner
invariant-block-loop-inner l = behind (map statement_of l.statements.items) (rule.statements (views.statements_of (map views.statement_of (drop l.inner-index l.inner-items))) (flow_of l.flow)) (known_of l.checker) ≡ block_list (views.block_of l.block) (flow_of l.flow) (known_of l.fn.checker)

abbrev pub invariant-if_chain-loop-other : goal.invariant-if_chain-loop-other
invariant-if_chain-loop-other l = arms_behind (map arm_of l.arms.items) (views.arms_of (map views.else_arm_of (drop l.other-index l.other-items)) (views.otherwise_in (out-IfChain l.chain).last)) (flow_of l.flow) (known_of l.checker) ≡ chain_arms (views.arm_of ((out-IfChain l.chain).first).value) (views.arms_of (map views.else_arm_of (out-IfChain l.chain).others.items) (views.otherwise_in (out-IfChain l.chain).last)) (flow_of l.flow) (known_of l.fn.checker)

abbrev pub invariant-switch_body-loop-item : goal.invariant-switch_body-loop-item
invariant-switch_body-loop-item l = (rule.items (views.items_of (map views.switch_item_of (drop l.item-index l.items))) (flow_of l.flow) l.fn.ty (body_of l.body) (known_of l.checker) ≡ rule.items (views.items_of (map views.switch_item_of l.items)) (flow_of l.flow) l.fn.ty rule.no_items (known_of l.fn.checker)) × (l.body.ty ≡ l.fn.ty) × Sees l.body
