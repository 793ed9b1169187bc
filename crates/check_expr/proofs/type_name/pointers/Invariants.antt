use Rattle.std.proofs.Common.{◌≡◌, drop}
use Rattle.c_nodes.specs.Words.{spell_pointers}
use Rattle.type_rules.specs.TypeNames.{with_pointers}
use Rattle.c_tables.specs.Tables.{known_of}
use Rattle.check_expr.proofs.type_name.pointers.Given as goal

abbrev pub invariant-loop-pointer : goal.invariant-loop-pointer
invariant-loop-pointer l = with_pointers (spell_pointers l.fn.pointers) l.fn.base (known_of l.fn.checker) ≡ with_pointers (spell_pointers (drop l.pointer-index l.pointers)) l.ty (known_of l.checker)
