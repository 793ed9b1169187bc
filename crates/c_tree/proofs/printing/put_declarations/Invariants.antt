use Rattle.std.proofs.Common.{◌≡◌, ◌++◌, drop, map}
use Rattle.c_nodes.specs.Words.{kinds_of, flat}
use Rattle.c_tree.specs.Statements.{spell_declaration}
use Rattle.c_tree.proofs.printing.put_declarations.Given as goal

abbrev pub invariant-loop-declaration : goal.invariant-loop-declaration
invariant-loop-declaration l = l.out.items ++ kinds_of (flat (map spell_declaration (drop l.declaration-index l.declarations))) ≡ l.fn.out.items ++ kinds_of (flat (map spell_declaration l.declarations))
