use Rattle.std.proofs.Common.{◌≡◌, drop, map}
use Rattle.c_nodes.specs.ProgramViews.{declaration_of}
use Rattle.c_typed.specs.Views.{statement_of}
use Rattle.type_rules.specs.Declarations as rule
use Rattle.c_tables.specs.Tables.{known_of}
use Rattle.c_check.specs.StatementViews.{behind}
use Rattle.c_check.proofs.declaration.block_declarations.Given as goal

abbrev pub invariant-loop-declaration : goal.invariant-loop-declaration
invariant-loop-declaration l = behind (map statement_of l.statements.items) (rule.block_declarations (map declaration_of (drop l.declaration-index l.list))) (known_of l.checker) ≡ rule.block_declarations (map declaration_of l.list) (known_of l.fn.checker)
