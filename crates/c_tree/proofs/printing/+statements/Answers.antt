use Rattle.std.proofs.Common.{◌∷◌, []}
use Rattle.c_token.specs.declared.token.Punct.TheVariants.{RightBrace}
use Rattle.c_nodes.specs.Words.{punct}
use Rattle.c_tree.specs.Statements.{spell_statement, spell_switch_item, spell_else_arm, spell_last}
use Rattle.c_nodes.specs.declared.statement.Statement.TheViews.{out-IfChain}
use Rattle.c_tree.proofs.Append.{one_more_before}
use Rattle.c_tree.proofs.printing.+statements.Goals as goal

pub put_statement-loop-item-preserved : goal.put_statement-loop-item-preserved
put_statement-loop-item-preserved t c = one_more_before spell_switch_item _ _ c.item-item.result (punct RightBrace 0 ∷ []) _ _ _ c.loop-item-test.true c.item-item.is c.in_ok-put_switch_item-in-Switch.ensures c.loop-item.invariant

pub put_block-loop-statement-preserved : goal.put_block-loop-statement-preserved
put_block-loop-statement-preserved t c = one_more_before spell_statement _ _ c.statement-item.result (punct RightBrace 0 ∷ []) _ _ _ c.loop-statement-test.true c.statement-item.is c.in_ok-put_statement.ensures c.loop-statement.invariant

pub put_if_chain-loop-other-preserved : goal.put_if_chain-loop-other-preserved
put_if_chain-loop-other-preserved t c = one_more_before spell_else_arm _ _ c.other-item.result (spell_last (out-IfChain c.args.chain.now).last) _ _ _ c.loop-other-test.true c.other-item.is c.in_ok-put_else_arm.ensures c.loop-other.invariant
