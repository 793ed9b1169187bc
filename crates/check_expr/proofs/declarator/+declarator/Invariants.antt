use Rattle.std.proofs.Common.{◌≡◌, drop, map}
use Rattle.c_nodes.specs.Views.{spec_of, specs_of, member_of, struct_body_of, next_declarator_of, suffix_of, next_param_of}
use Rattle.c_tables.specs.Tables.{known_of}
use Rattle.type_rules.specs.Declarators.{specified, members}
use Rattle.type_rules.specs.Specifiers.{specs_line}
use Rattle.check_expr.specs.Lists.{body_rule}
use Rattle.check_expr.specs.Views.{context_of}
use Rattle.c_outline.specs.Views.{made_of, param_of, specified_of}
use Rattle.check_expr.proofs.Declaring.{Left, finish_specs, rest_specs, rest_members, close, rest_fields, rest_suffixes, fronted, rest_params}
use Rattle.type_rules.specs.Known.{go_on}
use Rattle.check_expr.proofs.declarator.+declarator.Given as goal

abbrev pub invariant-specified-loop-spec : goal.invariant-specified-loop-spec
invariant-specified-loop-spec l = Left (finish_specs (context_of l.context) (specs_line (specs_of l.specs))) (rest_specs (map spec_of (drop l.spec-index l.spec-items)) (context_of l.context)) l.words (known_of l.checker) (specified (specs_of l.specs) (context_of l.context) (known_of l.fn.checker))

abbrev pub invariant-structure_body-loop-member : goal.invariant-structure_body-loop-member
invariant-structure_body-loop-member l = body_rule (struct_body_of l.body) l.structure (known_of l.fn.checker) ≡ go_on (close l.structure) (rest_members (map member_of (drop l.member-index l.member-items)) l.structure (known_of l.checker))

abbrev pub invariant-members-loop-next : goal.invariant-members-loop-next
invariant-members-loop-next l = members (member_of l.member) l.structure (known_of l.fn.checker) ≡ rest_fields (map next_declarator_of (drop l.next-index l.next-items)) (specified_of l.specified) l.structure (known_of l.checker)

abbrev pub invariant-suffixes-loop-suffix : goal.invariant-suffixes-loop-suffix
invariant-suffixes-loop-suffix l = rest_suffixes (map suffix_of l.fn.suffixes) l.bodies (known_of l.fn.checker) ≡ go_on (fronted (map made_of l.made.items)) (rest_suffixes (map suffix_of (drop l.suffix-index l.suffixes)) l.bodies (known_of l.checker))

abbrev pub invariant-params-loop-next : goal.invariant-params-loop-next
invariant-params-loop-next l = rest_params (map next_param_of l.fn.others) l.bodies (map param_of l.fn.list.params.items) (known_of l.fn.checker) ≡ rest_params (map next_param_of (drop l.next-index l.others)) l.bodies (map param_of l.list.params.items) (known_of l.checker)
