use Rattle.std.proofs.Common.{◌≡◌, ◌++◌, map}
use Rattle.std.specs.Vec.Iter.{into_iter_items}
use Rattle.c_typed.specs.Views.{variable_of}
use Rattle.type_rules.specs.Units as rule
use Rattle.c_outline.specs.Views.{param_of}
use Rattle.c_check.proofs.unit.variables.Given as goal

abbrev pub invariant-loop-param : goal.invariant-loop-param
invariant-loop-param l = map variable_of l.variables.items ++ map rule.variable_of (map param_of (into_iter_items l.param-iterator)) ≡ map rule.variable_of (map param_of l.fn.params.items)
