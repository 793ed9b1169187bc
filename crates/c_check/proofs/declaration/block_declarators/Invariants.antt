use Rattle.std.proofs.Common.{◌≡◌, Some, drop, map}
use Rattle.c_nodes.specs.ProgramViews.{declared_of, next_begun_of}
use Rattle.c_typed.specs.Views.{statement_of}
use Rattle.type_rules.specs.Declarations.{declared_in_block, more_in_block}
use Rattle.c_tables.specs.Tables.{known_of}
use Rattle.c_outline.specs.Views.{specified_of}
use Rattle.c_check.specs.StatementViews.{behind}
use Rattle.c_check.proofs.declaration.block_declarators.Given as goal

abbrev pub invariant-loop-next : goal.invariant-loop-next
invariant-loop-next l = behind (map statement_of l.statements.items) (more_in_block (map next_begun_of (drop l.next-index l.list.others.items)) (specified_of l.specified)) (known_of l.checker) ≡ declared_in_block (declared_of (Some l.list)) (specified_of l.specified) (known_of l.fn.checker)
