use Rattle.std.proofs.Common.{◌≡◌, ◌++◌, ◌∷◌, [], drop, map}
use Rattle.c_token.specs.declared.token.Punct.TheVariants.{RightBrace}
use Rattle.c_nodes.specs.Words.{kinds_of, flat, punct}
use Rattle.c_tree.specs.Statements.{spell_statement, spell_switch_item, spell_block, spell_if_chain, spell_else_arm, spell_last}
use Rattle.c_nodes.specs.declared.statement.Statement.TheViews.{out-IfChain}
use Rattle.c_tree.proofs.printing.+statements.Given as goal

abbrev pub invariant-put_statement-loop-item : goal.invariant-put_statement-loop-item
invariant-put_statement-loop-item l = l.out.items ++ kinds_of (flat (map spell_switch_item (drop l.item-index l.item-items)) ++ punct RightBrace 0 ∷ []) ≡ l.fn.out.items ++ kinds_of (spell_statement l.statement)

abbrev pub invariant-put_block-loop-statement : goal.invariant-put_block-loop-statement
invariant-put_block-loop-statement l = l.out.items ++ kinds_of (flat (map spell_statement (drop l.statement-index l.statement-items)) ++ punct RightBrace 0 ∷ []) ≡ l.fn.out.items ++ kinds_of (spell_block l.block)

abbrev pub invariant-put_if_chain-loop-other : goal.invariant-put_if_chain-loop-other
invariant-put_if_chain-loop-other l = l.out.items ++ kinds_of (flat (map spell_else_arm (drop l.other-index l.other-items)) ++ spell_last (out-IfChain l.chain).last) ≡ l.fn.out.items ++ kinds_of (spell_if_chain l.chain)
