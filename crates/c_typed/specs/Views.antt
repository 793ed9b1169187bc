-- The typed trees that the code has, as pure data: the parts, and a whole program.
pub use Rattle.c_typed.specs.Shown.{arguments_of, expression_step, place_step, item_of, statements_of, arms_of, last_of, statement_step, arm_step, last_arm_of, variable_of, static_of, function_of, size_of, member_of, structure_of, program_from}
unfoldable pub use Rattle.c_typed.specs.Shown.{expression_of, place_of, statement_of, arm_of}
use Rattle.c_typed.specs.Trees.{Program}
use Rattle.c_typed.specs.declared.program.Typed.{Typed}

abbrev pub program_of : Typed → Program
program_of p = program_from p.targets.items p.structures.items p.statics.items p.functions.items
