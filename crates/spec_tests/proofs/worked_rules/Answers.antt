use Rattle.std.proofs.Common.{refl}
use Rattle.c_typed.specs.Folding.{bits, constant_value}
use Rattle.c_typed.specs.Types.{is_constant}
use Rattle.spec_tests.proofs.worked_rules.Goals as goal
use Rattle.type_rules.specs.Declarators.{specified, more_specs, spec_rule, members, more_members, more_fields, field, suffixes, suffix, more_params, param}
use Rattle.type_rules.specs.Expressions.{judged, judged_behind}
use Rattle.type_rules.specs.Initializers.{begins, more_begins}
use Rattle.type_rules.specs.Slots.{characters}
use Rattle.type_rules.specs.Statements.{statement, block_statement, statements, arm, other_arms, items}
use Rattle.type_rules.specs.Units.{judged_unit}

pub returns : goal.returns
unfolding bits constant_value is_constant specified more_specs spec_rule members more_members more_fields field suffixes suffix more_params param
    judged judged_behind begins more_begins characters statement block_statement statements arm other_arms items judged_unit
returns c = record {
  twice = refl;
  unknown = refl;
  writes_const = refl;
  measures_param = refl;
  gives_function = refl;
  leaves_nothing = refl;
  divides = refl;
  too_many = refl;
  register_element = refl;
  calls_in_brackets = refl;
  equal_labels = refl;
  takes_length = refl;
  to_port = refl;
  has_named_type = refl;
  qualifies_pointer = refl;
  qualifies_twice = refl;
  takes_named_array = refl;
  named_before_body = refl;
  used_before_body = refl;
  takes_open_array = refl;
  takes_array_of_void = refl;
  names_twice = refl;
  names_function = refl;
  names_value = refl;
  names_nothing = refl;
  measures_type = refl;
  names_in_block = refl;
  defines_type = refl;
  counts_by_name = refl;
  counts_on = refl;
  returns_enumerator = refl;
  counts_too_far = refl;
  equal_enumerators = refl;
  other_tag = refl;
  unknown_tag = refl;
}
