use Rattle.std.proofs.Common.{◌≡◌, ◌++◌, drop, map}
use Rattle.type_rules.specs.Declarations.{param_types}
use Rattle.c_outline.specs.Views.{param_of}
use Rattle.c_check.proofs.declaration.types_of.Given as goal

abbrev pub invariant-loop-param : goal.invariant-loop-param
invariant-loop-param l = l.types.items ++ param_types (map param_of (drop l.param-index l.params)) ≡ param_types (map param_of l.params)
