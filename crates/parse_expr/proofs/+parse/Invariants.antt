use Rattle.std.proofs.Common.{◌≡◌, ◌+◌, ◌-◌, ◌*◌, suc, length, map}
use Rattle.c_nodes.specs.Views.{postfix_suffix_of, prefix_of, spec_of, suffix_of, choice_of, member_of, next_assign_of, next_declarator_of, next_operand_of, next_param_of, target_of, next_enumerator_of}
use Rattle.parse_expr.specs.Reader.{symbols_in, collect, all_that}
use Rattle.parse_expr.specs.Reading.{at, choices, cond_by, assigns, assign_by, comma_by, right_by, tier_by, post_by, prefix_by, next_spec_by, next_member_by, next_declarator_by, suffix_by, next_param_by, next_enumerator_by}
use Rattle.parse_expr.specs.WaitingViews.{front_of, waiting_of}
use Rattle.parse_expr.proofs.Whole.{left_to_read}
use Rattle.parse_expr.proofs.Loops.{fronted, chosen_in, assigned_in}
use Rattle.parse_expr.proofs.+parse.Given as goal

abbrev pub decreases-expression::inner_expr : goal.decreases-expression::inner_expr
decreases-expression::inner_expr l = 64 * l.fuel

abbrev pub decreases-expression::inner_size : goal.decreases-expression::inner_size
decreases-expression::inner_size l = 64 * l.fuel

abbrev pub decreases-expression::inner_choice : goal.decreases-expression::inner_choice
decreases-expression::inner_choice l = 64 * l.fuel

abbrev pub decreases-expression::inner_choice-loop-front : goal.decreases-expression::inner_choice-loop-front
decreases-expression::inner_choice-loop-front l = length l.rest

-- the waiting choices and the one that is read are those that were entered, and what is left to read gives what the whole gives
abbrev pub invariant-expression::inner_choice-loop-front : goal.invariant-expression::inner_choice-loop-front
invariant-expression::inner_choice-loop-front l = (l.left + length l.waiting.items + 1 ≡ l.fuel) × (left_to_read l.left (map waiting_of l.waiting.items) (front_of l.front) (symbols_in l.text l.rest) ≡ (at l.fuel).expr (symbols_in l.text l.toks))

abbrev pub decreases-expression::choice : goal.decreases-expression::choice
decreases-expression::choice l = 64 * l.fuel + 1

abbrev pub decreases-expression::cond : goal.decreases-expression::cond
decreases-expression::cond l = 64 * l.fuel + 39

abbrev pub decreases-expression::assign : goal.decreases-expression::assign
decreases-expression::assign l = 64 * l.fuel + 40

abbrev pub decreases-expression::comma : goal.decreases-expression::comma
decreases-expression::comma l = 64 * l.fuel + 41

abbrev pub decreases-expression::commas : goal.decreases-expression::commas
decreases-expression::commas l = 64 * l.fuel + 42

abbrev pub decreases-expression::expr : goal.decreases-expression::expr
decreases-expression::expr l = 64 * l.fuel + 43

abbrev pub decreases-operand::group : goal.decreases-operand::group
decreases-operand::group l = 64 * l.fuel + 1

abbrev pub decreases-operand::index : goal.decreases-operand::index
decreases-operand::index l = 64 * l.fuel + 1

abbrev pub decreases-operand::call : goal.decreases-operand::call
decreases-operand::call l = 64 * l.fuel + 1

abbrev pub decreases-operand::primary : goal.decreases-operand::primary
decreases-operand::primary l = 64 * l.fuel + 2

abbrev pub decreases-operand::post : goal.decreases-operand::post
decreases-operand::post l = 64 * l.fuel + 2

abbrev pub decreases-operand::posts : goal.decreases-operand::posts
decreases-operand::posts l = 64 * l.fuel + 3

abbrev pub decreases-operand::postfix : goal.decreases-operand::postfix
decreases-operand::postfix l = 64 * l.fuel + 4

abbrev pub decreases-operand::bracketed : goal.decreases-operand::bracketed
decreases-operand::bracketed l = 64 * l.fuel + 1

abbrev pub decreases-operand::cast : goal.decreases-operand::cast
decreases-operand::cast l = 64 * l.fuel + 2

abbrev pub decreases-operand::prefix : goal.decreases-operand::prefix
decreases-operand::prefix l = 64 * l.fuel + 3

abbrev pub decreases-operand::prefixes : goal.decreases-operand::prefixes
decreases-operand::prefixes l = 64 * l.fuel + 4

abbrev pub decreases-operand::operand : goal.decreases-operand::operand
decreases-operand::operand l = 64 * l.fuel + 5

abbrev pub decreases-operand::unary : goal.decreases-operand::unary
decreases-operand::unary l = 64 * l.fuel + 6

abbrev pub decreases-specifier::inner_type_name : goal.decreases-specifier::inner_type_name
decreases-specifier::inner_type_name l = 64 * l.fuel

abbrev pub decreases-specifier::inner_members : goal.decreases-specifier::inner_members
decreases-specifier::inner_members l = 64 * l.fuel

abbrev pub decreases-specifier::body : goal.decreases-specifier::body
decreases-specifier::body l = 64 * l.fuel + 1

abbrev pub decreases-specifier::structure : goal.decreases-specifier::structure
decreases-specifier::structure l = 64 * l.fuel + 2

abbrev pub decreases-specifier::spec : goal.decreases-specifier::spec
decreases-specifier::spec l = 64 * l.fuel + 3

abbrev pub decreases-specifier::next_spec : goal.decreases-specifier::next_spec
decreases-specifier::next_spec l = 64 * l.fuel + 4

abbrev pub decreases-specifier::more_specs : goal.decreases-specifier::more_specs
decreases-specifier::more_specs l = 64 * l.fuel + 5

abbrev pub decreases-specifier::specs : goal.decreases-specifier::specs
decreases-specifier::specs l = 64 * l.fuel + 6

abbrev pub decreases-specifier::type_name : goal.decreases-specifier::type_name
decreases-specifier::type_name l = 64 * l.fuel + 7

abbrev pub decreases-specifier::next_declarator : goal.decreases-specifier::next_declarator
decreases-specifier::next_declarator l = 64 * l.fuel + 7

abbrev pub decreases-specifier::more_declarators : goal.decreases-specifier::more_declarators
decreases-specifier::more_declarators l = 64 * l.fuel + 8

abbrev pub decreases-specifier::member : goal.decreases-specifier::member
decreases-specifier::member l = 64 * l.fuel + 9

abbrev pub decreases-specifier::next_member : goal.decreases-specifier::next_member
decreases-specifier::next_member l = 64 * l.fuel + 10

abbrev pub decreases-specifier::more_members : goal.decreases-specifier::more_members
decreases-specifier::more_members l = 64 * l.fuel + 11

abbrev pub decreases-specifier::members : goal.decreases-specifier::members
decreases-specifier::members l = 64 * l.fuel + 12

abbrev pub decreases-enumeration::inner_enumerators : goal.decreases-enumeration::inner_enumerators
decreases-enumeration::inner_enumerators l = 64 * l.fuel

abbrev pub decreases-enumeration::body : goal.decreases-enumeration::body
decreases-enumeration::body l = 64 * l.fuel + 1

abbrev pub decreases-enumeration::enumeration : goal.decreases-enumeration::enumeration
decreases-enumeration::enumeration l = 64 * l.fuel + 2

abbrev pub decreases-enumeration::valued : goal.decreases-enumeration::valued
decreases-enumeration::valued l = 64 * l.fuel + 40

abbrev pub decreases-enumeration::enumerator : goal.decreases-enumeration::enumerator
decreases-enumeration::enumerator l = 64 * l.fuel + 41

abbrev pub decreases-enumeration::next_enumerator : goal.decreases-enumeration::next_enumerator
decreases-enumeration::next_enumerator l = 64 * l.fuel + 42

abbrev pub decreases-enumeration::more_enumerators : goal.decreases-enumeration::more_enumerators
decreases-enumeration::more_enumerators l = 64 * l.fuel + 43

abbrev pub decreases-enumeration::enumerators : goal.decreases-enumeration::enumerators
decreases-enumeration::enumerators l = 64 * l.fuel + 44

abbrev pub decreases-declarator::inner_params : goal.decreases-declarator::inner_params
decreases-declarator::inner_params l = 64 * l.fuel

abbrev pub decreases-declarator::length : goal.decreases-declarator::length
decreases-declarator::length l = 64 * l.fuel + 1

abbrev pub decreases-declarator::list : goal.decreases-declarator::list
decreases-declarator::list l = 64 * l.fuel + 1

abbrev pub decreases-declarator::array : goal.decreases-declarator::array
decreases-declarator::array l = 64 * l.fuel + 2

abbrev pub decreases-declarator::function : goal.decreases-declarator::function
decreases-declarator::function l = 64 * l.fuel + 2

abbrev pub decreases-declarator::suffix : goal.decreases-declarator::suffix
decreases-declarator::suffix l = 64 * l.fuel + 3

abbrev pub decreases-declarator::suffixes : goal.decreases-declarator::suffixes
decreases-declarator::suffixes l = 64 * l.fuel + 4

abbrev pub decreases-declarator::named : goal.decreases-declarator::named
decreases-declarator::named l = 64 * l.fuel + 5

abbrev pub decreases-declarator::declarator : goal.decreases-declarator::declarator
decreases-declarator::declarator l = 64 * l.fuel + 6

abbrev pub decreases-declarator::named_param : goal.decreases-declarator::named_param
decreases-declarator::named_param l = 64 * l.fuel + 6

abbrev pub decreases-declarator::unnamed_param : goal.decreases-declarator::unnamed_param
decreases-declarator::unnamed_param l = 64 * l.fuel + 5

abbrev pub decreases-declarator::param : goal.decreases-declarator::param
decreases-declarator::param l = 64 * l.fuel + 7

abbrev pub decreases-declarator::next_param : goal.decreases-declarator::next_param
decreases-declarator::next_param l = 64 * l.fuel + 8

abbrev pub decreases-declarator::more_params : goal.decreases-declarator::more_params
decreases-declarator::more_params l = 64 * l.fuel + 9

abbrev pub decreases-declarator::params : goal.decreases-declarator::params
decreases-declarator::params l = 64 * l.fuel + 10

abbrev pub decreases-expression::tier : goal.decreases-expression::tier
decreases-expression::tier l = 64 * l.fuel + 3 * l.level + 8

abbrev pub decreases-expression::operand_behind : goal.decreases-expression::operand_behind
decreases-expression::operand_behind l = 64 * l.fuel + 3 * l.below + 9

abbrev pub decreases-expression::operands : goal.decreases-expression::operands
decreases-expression::operands l = 64 * l.fuel + 3 * l.below + 10

abbrev pub invariant-expression::commas-loop : goal.invariant-expression::commas-loop
invariant-expression::commas-loop l = fronted (map next_assign_of l.found.items) (collect (comma_by (at l.fuel)) (length l.toks - l.counter) (symbols_in l.text l.rest)) ≡ all_that (comma_by (at l.fuel)) (symbols_in l.text l.toks)

abbrev pub invariant-expression::operands-loop : goal.invariant-expression::operands-loop
invariant-expression::operands-loop l = fronted (map next_operand_of l.found.items) (collect (right_by (suc l.below) (tier_by (at l.fuel) l.below)) (length l.toks - l.counter) (symbols_in l.text l.rest)) ≡ all_that (right_by (suc l.below) (tier_by (at l.fuel) l.below)) (symbols_in l.text l.toks)

abbrev pub invariant-operand::prefixes-loop : goal.invariant-operand::prefixes-loop
invariant-operand::prefixes-loop l = fronted (map prefix_of l.found.items) (collect (prefix_by (at l.fuel)) (length l.toks - l.counter) (symbols_in l.text l.rest)) ≡ all_that (prefix_by (at l.fuel)) (symbols_in l.text l.toks)

abbrev pub invariant-operand::posts-loop : goal.invariant-operand::posts-loop
invariant-operand::posts-loop l = fronted (map postfix_suffix_of l.found.items) (collect (post_by (at l.fuel)) (length l.toks - l.counter) (symbols_in l.text l.rest)) ≡ all_that (post_by (at l.fuel)) (symbols_in l.text l.toks)

abbrev pub invariant-specifier::more_specs-loop : goal.invariant-specifier::more_specs-loop
invariant-specifier::more_specs-loop l = fronted (map spec_of l.found.items) (collect (next_spec_by (at l.fuel)) (length l.toks - l.counter) (symbols_in l.text l.rest)) ≡ all_that (next_spec_by (at l.fuel)) (symbols_in l.text l.toks)

abbrev pub invariant-specifier::more_members-loop : goal.invariant-specifier::more_members-loop
invariant-specifier::more_members-loop l = fronted (map member_of l.found.items) (collect (next_member_by (at l.fuel)) (length l.toks - l.counter) (symbols_in l.text l.rest)) ≡ all_that (next_member_by (at l.fuel)) (symbols_in l.text l.toks)

abbrev pub invariant-specifier::more_declarators-loop : goal.invariant-specifier::more_declarators-loop
invariant-specifier::more_declarators-loop l = fronted (map next_declarator_of l.found.items) (collect (next_declarator_by (at l.fuel)) (length l.toks - l.counter) (symbols_in l.text l.rest)) ≡ all_that (next_declarator_by (at l.fuel)) (symbols_in l.text l.toks)

abbrev pub invariant-declarator::suffixes-loop : goal.invariant-declarator::suffixes-loop
invariant-declarator::suffixes-loop l = fronted (map suffix_of l.found.items) (collect (suffix_by (at l.fuel)) (length l.toks - l.counter) (symbols_in l.text l.rest)) ≡ all_that (suffix_by (at l.fuel)) (symbols_in l.text l.toks)

abbrev pub invariant-declarator::more_params-loop : goal.invariant-declarator::more_params-loop
invariant-declarator::more_params-loop l = fronted (map next_param_of l.found.items) (collect (next_param_by (at l.fuel)) (length l.toks - l.counter) (symbols_in l.text l.rest)) ≡ all_that (next_param_by (at l.fuel)) (symbols_in l.text l.toks)

abbrev pub invariant-expression::cond-loop : goal.invariant-expression::cond-loop
invariant-expression::cond-loop l = chosen_in (map choice_of l.choices.items) (choices (at l.fuel) (length l.toks - l.counter) (symbols_in l.text l.rest)) ≡ cond_by (at l.fuel) (symbols_in l.text l.toks)

abbrev pub invariant-expression::assign-loop : goal.invariant-expression::assign-loop
invariant-expression::assign-loop l = assigned_in (map target_of l.targets.items) (assigns (at l.fuel) (length l.toks - l.counter) (symbols_in l.text l.rest)) ≡ assign_by (at l.fuel) (symbols_in l.text l.toks)

abbrev pub invariant-enumeration::more_enumerators-loop : goal.invariant-enumeration::more_enumerators-loop
invariant-enumeration::more_enumerators-loop l = fronted (map next_enumerator_of l.found.items) (collect (next_enumerator_by (at l.fuel)) (length l.toks - l.counter) (symbols_in l.text l.rest)) ≡ all_that (next_enumerator_by (at l.fuel)) (symbols_in l.text l.toks)
