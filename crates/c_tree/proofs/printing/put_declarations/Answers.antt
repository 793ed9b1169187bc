use Rattle.c_tree.specs.Statements.{spell_declaration}
use Rattle.c_tree.proofs.Append.{one_more}
use Rattle.c_tree.proofs.printing.put_declarations.Goals as goal

pub loop-declaration-preserved : goal.loop-declaration-preserved
loop-declaration-preserved c = one_more spell_declaration _ _ c.declaration-item.result _ _ _ c.loop-declaration-test.true c.declaration-item.is c.in_ok-put_declaration.ensures c.loop-declaration.invariant
