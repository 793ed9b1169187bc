use Rattle.std.proofs.Common.{drop, map}
use Rattle.c_nodes.specs.Views.{spec_of, specs_of, type_name_of}
use Rattle.c_nodes.specs.Words.{spell_pointers}
use Rattle.c_tables.specs.Tables.{known_of}
use Rattle.type_rules.specs.TypeNames.{type_named}
use Rattle.check_expr.proofs.Declaring.{Left, finish_name, rest_names}
use Rattle.check_expr.proofs.type_name.type_named.Given as goal

abbrev pub invariant-loop-spec : goal.invariant-loop-spec
invariant-loop-spec l = Left (finish_name (specs_of l.name.0) (spell_pointers l.name.1.items)) (rest_names (map spec_of (drop l.spec-index l.spec-items))) l.words (known_of l.checker) (type_named (type_name_of l.name) (known_of l.fn.checker))
