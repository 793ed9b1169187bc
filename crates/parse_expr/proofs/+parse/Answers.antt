use Rattle.std.proofs.Common.{◌-◌, suc, length, map, refl, arith}
use Rattle.std.proofs.lemmas.List.{length-map}
use Rattle.std.proofs.lemmas.Result.{err_from_is_err_and}
use Rattle.c_nodes.specs.Views.{binary_of, postfix_suffix_of, prefix_of, spec_of, suffix_of, choice_of, cond_of, expr_of, type_name_of, member_of, param_of, next_assign_of, next_declarator_of, next_operand_of, next_param_of, target_of, enumerator_of, next_enumerator_of}
use Rattle.parse_expr.specs.Reader.{symbol_in, symbols_in, all_that}
use Rattle.parse_expr.specs.Reading.{at, cond_by, assign_by, comma_by, right_by, tier_by, post_by, prefix_by, next_spec_by, next_member_by, next_declarator_by, suffix_by, next_param_by, expr_by, type_name_by, members_by, params_by, next_enumerator_by, enumerators_by}
use Rattle.parse_expr.proofs.Loops.{collect_first, collect_more, collect_ends, collect_out, collect_err, choices_first, choices_more, choices_end, choices_out, choices_err, choice_err, assigns_first, assigns_more, assigns_end, assigns_out, assigns_err}
use Rattle.parse_expr.proofs.Fuel.{fails, gives, no_expr, no_size, no_type_name, no_members, no_params, no_enumerators, less_expr, less_size, less_type_name, less_members, less_params, less_enumerators}
use Rattle.c_token.specs.declared.token.Punct.TheVariants as marks
use Rattle.parse_expr.specs.WaitingViews.{front_of, waiting_of}
use Rattle.parse_expr.proofs.Whole.{at_deepest, operand_err, operand_taken, punct_taken}
use Rattle.parse_expr.proofs.Turns.{first_turn, question_turn, value_turn, colon_turn, colon_missing, last_turn, none_left}
use Rattle.parse_expr.proofs.+parse.Goals as goal

pub expression::commas-returns-in_err-next : goal.expression::commas-returns-in_err-next
expression::commas-returns-in_err-next t c =
    let p = err_from_is_err_and c.from_residual.result c.from_residual.ensures.1 in
    rw (p.1, p.2) (collect_err c.in_err-next.field-0.0 (comma_by (at c.args.fuel)) (length c.args.toks.now) c.loop.counter (map next_assign_of c.loop.found.items) (symbols_in c.args.text.now c.loop.rest.now) (all_that (comma_by (at c.args.fuel)) (symbols_in c.args.text.now c.args.toks.now)) c.loop-test.true c.in_err-next.ensures c.loop.invariant)

pub expression::commas-returns-in-None : goal.expression::commas-returns-in-None
expression::commas-returns-in-None t c = collect_ends (comma_by (at c.args.fuel)) (length c.args.toks.now) c.loop.counter (map next_assign_of c.loop.found.items) (symbols_in c.args.text.now c.loop.rest.now) (all_that (comma_by (at c.args.fuel)) (symbols_in c.args.text.now c.args.toks.now)) c.loop-test.true (rw c.in-None.is at c.in_ok-next.ensures) c.loop.invariant

pub expression::commas-loop-preserved : goal.expression::commas-loop-preserved
expression::commas-loop-preserved t c = rw c.in_ok-push-in-Some.ensures.items (collect_more next_assign_of (comma_by (at c.args.fuel)) (length c.args.toks.now) c.loop.counter c.loop.found.items c.in-Some.next (symbols_in c.args.text.now c.loop.rest.now) (symbols_in c.args.text.now c.in-Some.after.now) (all_that (comma_by (at c.args.fuel)) (symbols_in c.args.text.now c.args.toks.now)) c.loop-test.true (rw c.in-Some.is at c.in_ok-next.ensures) c.loop.invariant)

pub expression::commas-returns : goal.expression::commas-returns
expression::commas-returns t c = collect_out (comma_by (at c.args.fuel)) (length c.args.toks.now) c.loop.counter (map next_assign_of c.loop.found.items) (symbols_in c.args.text.now c.loop.rest.now) (all_that (comma_by (at c.args.fuel)) (symbols_in c.args.text.now c.args.toks.now)) c.loop-test.false c.loop.invariant

pub expression::commas-loop-init : goal.expression::commas-loop-init
expression::commas-loop-init t c = rw c.new-found.ensures.items (collect_first (comma_by (at c.args.fuel)) (length c.args.toks.now) (symbols_in c.args.text.now c.args.toks.now) (length-map c.args.toks.now (symbol_in c.args.text.now)))

pub expression::operands-returns-in_err-next : goal.expression::operands-returns-in_err-next
expression::operands-returns-in_err-next t c =
    let p = err_from_is_err_and c.from_residual.result c.from_residual.ensures.1 in
    rw (p.1, p.2) (collect_err c.in_err-next.field-0.0 (right_by (suc c.args.below) (tier_by (at c.args.fuel) c.args.below)) (length c.args.toks.now) c.loop.counter (map next_operand_of c.loop.found.items) (symbols_in c.args.text.now c.loop.rest.now) (all_that (right_by (suc c.args.below) (tier_by (at c.args.fuel) c.args.below)) (symbols_in c.args.text.now c.args.toks.now)) c.loop-test.true c.in_err-next.ensures c.loop.invariant)

pub expression::operands-returns-in-None : goal.expression::operands-returns-in-None
expression::operands-returns-in-None t c = collect_ends (right_by (suc c.args.below) (tier_by (at c.args.fuel) c.args.below)) (length c.args.toks.now) c.loop.counter (map next_operand_of c.loop.found.items) (symbols_in c.args.text.now c.loop.rest.now) (all_that (right_by (suc c.args.below) (tier_by (at c.args.fuel) c.args.below)) (symbols_in c.args.text.now c.args.toks.now)) c.loop-test.true (rw c.in-None.is at c.in_ok-next.ensures) c.loop.invariant

pub expression::operands-loop-preserved : goal.expression::operands-loop-preserved
expression::operands-loop-preserved t c = rw c.in_ok-push-in-Some.ensures.items (collect_more next_operand_of (right_by (suc c.args.below) (tier_by (at c.args.fuel) c.args.below)) (length c.args.toks.now) c.loop.counter c.loop.found.items c.in-Some.next (symbols_in c.args.text.now c.loop.rest.now) (symbols_in c.args.text.now c.in-Some.after.now) (all_that (right_by (suc c.args.below) (tier_by (at c.args.fuel) c.args.below)) (symbols_in c.args.text.now c.args.toks.now)) c.loop-test.true (rw c.in-Some.is at c.in_ok-next.ensures) c.loop.invariant)

pub expression::operands-returns : goal.expression::operands-returns
expression::operands-returns t c = collect_out (right_by (suc c.args.below) (tier_by (at c.args.fuel) c.args.below)) (length c.args.toks.now) c.loop.counter (map next_operand_of c.loop.found.items) (symbols_in c.args.text.now c.loop.rest.now) (all_that (right_by (suc c.args.below) (tier_by (at c.args.fuel) c.args.below)) (symbols_in c.args.text.now c.args.toks.now)) c.loop-test.false c.loop.invariant

pub expression::operands-loop-init : goal.expression::operands-loop-init
expression::operands-loop-init t c = rw c.new-found.ensures.items (collect_first (right_by (suc c.args.below) (tier_by (at c.args.fuel) c.args.below)) (length c.args.toks.now) (symbols_in c.args.text.now c.args.toks.now) (length-map c.args.toks.now (symbol_in c.args.text.now)))

pub operand::prefixes-returns-in_err-next : goal.operand::prefixes-returns-in_err-next
operand::prefixes-returns-in_err-next t c =
    let p = err_from_is_err_and c.from_residual.result c.from_residual.ensures.1 in
    rw (p.1, p.2) (collect_err c.in_err-next.field-0.0 (prefix_by (at c.args.fuel)) (length c.args.toks.now) c.loop.counter (map prefix_of c.loop.found.items) (symbols_in c.args.text.now c.loop.rest.now) (all_that (prefix_by (at c.args.fuel)) (symbols_in c.args.text.now c.args.toks.now)) c.loop-test.true c.in_err-next.ensures c.loop.invariant)

pub operand::prefixes-returns-in-None : goal.operand::prefixes-returns-in-None
operand::prefixes-returns-in-None t c = collect_ends (prefix_by (at c.args.fuel)) (length c.args.toks.now) c.loop.counter (map prefix_of c.loop.found.items) (symbols_in c.args.text.now c.loop.rest.now) (all_that (prefix_by (at c.args.fuel)) (symbols_in c.args.text.now c.args.toks.now)) c.loop-test.true (rw c.in-None.is at c.in_ok-next.ensures) c.loop.invariant

pub operand::prefixes-loop-preserved : goal.operand::prefixes-loop-preserved
operand::prefixes-loop-preserved t c = rw c.in_ok-push-in-Some.ensures.items (collect_more prefix_of (prefix_by (at c.args.fuel)) (length c.args.toks.now) c.loop.counter c.loop.found.items c.in-Some.next (symbols_in c.args.text.now c.loop.rest.now) (symbols_in c.args.text.now c.in-Some.after.now) (all_that (prefix_by (at c.args.fuel)) (symbols_in c.args.text.now c.args.toks.now)) c.loop-test.true (rw c.in-Some.is at c.in_ok-next.ensures) c.loop.invariant)

pub operand::prefixes-returns : goal.operand::prefixes-returns
operand::prefixes-returns t c = collect_out (prefix_by (at c.args.fuel)) (length c.args.toks.now) c.loop.counter (map prefix_of c.loop.found.items) (symbols_in c.args.text.now c.loop.rest.now) (all_that (prefix_by (at c.args.fuel)) (symbols_in c.args.text.now c.args.toks.now)) c.loop-test.false c.loop.invariant

pub operand::prefixes-loop-init : goal.operand::prefixes-loop-init
operand::prefixes-loop-init t c = rw c.new-found.ensures.items (collect_first (prefix_by (at c.args.fuel)) (length c.args.toks.now) (symbols_in c.args.text.now c.args.toks.now) (length-map c.args.toks.now (symbol_in c.args.text.now)))

pub operand::posts-returns-in_err-next : goal.operand::posts-returns-in_err-next
operand::posts-returns-in_err-next t c =
    let p = err_from_is_err_and c.from_residual.result c.from_residual.ensures.1 in
    rw (p.1, p.2) (collect_err c.in_err-next.field-0.0 (post_by (at c.args.fuel)) (length c.args.toks.now) c.loop.counter (map postfix_suffix_of c.loop.found.items) (symbols_in c.args.text.now c.loop.rest.now) (all_that (post_by (at c.args.fuel)) (symbols_in c.args.text.now c.args.toks.now)) c.loop-test.true c.in_err-next.ensures c.loop.invariant)

pub operand::posts-returns-in-None : goal.operand::posts-returns-in-None
operand::posts-returns-in-None t c = collect_ends (post_by (at c.args.fuel)) (length c.args.toks.now) c.loop.counter (map postfix_suffix_of c.loop.found.items) (symbols_in c.args.text.now c.loop.rest.now) (all_that (post_by (at c.args.fuel)) (symbols_in c.args.text.now c.args.toks.now)) c.loop-test.true (rw c.in-None.is at c.in_ok-next.ensures) c.loop.invariant

pub operand::posts-loop-preserved : goal.operand::posts-loop-preserved
operand::posts-loop-preserved t c = rw c.in_ok-push-in-Some.ensures.items (collect_more postfix_suffix_of (post_by (at c.args.fuel)) (length c.args.toks.now) c.loop.counter c.loop.found.items c.in-Some.next (symbols_in c.args.text.now c.loop.rest.now) (symbols_in c.args.text.now c.in-Some.after.now) (all_that (post_by (at c.args.fuel)) (symbols_in c.args.text.now c.args.toks.now)) c.loop-test.true (rw c.in-Some.is at c.in_ok-next.ensures) c.loop.invariant)

pub operand::posts-returns : goal.operand::posts-returns
operand::posts-returns t c = collect_out (post_by (at c.args.fuel)) (length c.args.toks.now) c.loop.counter (map postfix_suffix_of c.loop.found.items) (symbols_in c.args.text.now c.loop.rest.now) (all_that (post_by (at c.args.fuel)) (symbols_in c.args.text.now c.args.toks.now)) c.loop-test.false c.loop.invariant

pub operand::posts-loop-init : goal.operand::posts-loop-init
operand::posts-loop-init t c = rw c.new-found.ensures.items (collect_first (post_by (at c.args.fuel)) (length c.args.toks.now) (symbols_in c.args.text.now c.args.toks.now) (length-map c.args.toks.now (symbol_in c.args.text.now)))

pub specifier::more_specs-returns-in_err-next : goal.specifier::more_specs-returns-in_err-next
specifier::more_specs-returns-in_err-next t c =
    let p = err_from_is_err_and c.from_residual.result c.from_residual.ensures.1 in
    rw (p.1, p.2) (collect_err c.in_err-next.field-0.0 (next_spec_by (at c.args.fuel)) (length c.args.toks.now) c.loop.counter (map spec_of c.loop.found.items) (symbols_in c.args.text.now c.loop.rest.now) (all_that (next_spec_by (at c.args.fuel)) (symbols_in c.args.text.now c.args.toks.now)) c.loop-test.true c.in_err-next.ensures c.loop.invariant)

pub specifier::more_specs-returns-in-None : goal.specifier::more_specs-returns-in-None
specifier::more_specs-returns-in-None t c = collect_ends (next_spec_by (at c.args.fuel)) (length c.args.toks.now) c.loop.counter (map spec_of c.loop.found.items) (symbols_in c.args.text.now c.loop.rest.now) (all_that (next_spec_by (at c.args.fuel)) (symbols_in c.args.text.now c.args.toks.now)) c.loop-test.true (rw c.in-None.is at c.in_ok-next.ensures) c.loop.invariant

pub specifier::more_specs-loop-preserved : goal.specifier::more_specs-loop-preserved
specifier::more_specs-loop-preserved t c = rw c.in_ok-push-in-Some.ensures.items (collect_more spec_of (next_spec_by (at c.args.fuel)) (length c.args.toks.now) c.loop.counter c.loop.found.items c.in-Some.next (symbols_in c.args.text.now c.loop.rest.now) (symbols_in c.args.text.now c.in-Some.after.now) (all_that (next_spec_by (at c.args.fuel)) (symbols_in c.args.text.now c.args.toks.now)) c.loop-test.true (rw c.in-Some.is at c.in_ok-next.ensures) c.loop.invariant)

pub specifier::more_specs-returns : goal.specifier::more_specs-returns
specifier::more_specs-returns t c = collect_out (next_spec_by (at c.args.fuel)) (length c.args.toks.now) c.loop.counter (map spec_of c.loop.found.items) (symbols_in c.args.text.now c.loop.rest.now) (all_that (next_spec_by (at c.args.fuel)) (symbols_in c.args.text.now c.args.toks.now)) c.loop-test.false c.loop.invariant

pub specifier::more_specs-loop-init : goal.specifier::more_specs-loop-init
specifier::more_specs-loop-init t c = rw c.new-found.ensures.items (collect_first (next_spec_by (at c.args.fuel)) (length c.args.toks.now) (symbols_in c.args.text.now c.args.toks.now) (length-map c.args.toks.now (symbol_in c.args.text.now)))

pub specifier::more_members-returns-in_err-next : goal.specifier::more_members-returns-in_err-next
specifier::more_members-returns-in_err-next t c =
    let p = err_from_is_err_and c.from_residual.result c.from_residual.ensures.1 in
    rw (p.1, p.2) (collect_err c.in_err-next.field-0.0 (next_member_by (at c.args.fuel)) (length c.args.toks.now) c.loop.counter (map member_of c.loop.found.items) (symbols_in c.args.text.now c.loop.rest.now) (all_that (next_member_by (at c.args.fuel)) (symbols_in c.args.text.now c.args.toks.now)) c.loop-test.true c.in_err-next.ensures c.loop.invariant)

pub specifier::more_members-returns-in-None : goal.specifier::more_members-returns-in-None
specifier::more_members-returns-in-None t c = collect_ends (next_member_by (at c.args.fuel)) (length c.args.toks.now) c.loop.counter (map member_of c.loop.found.items) (symbols_in c.args.text.now c.loop.rest.now) (all_that (next_member_by (at c.args.fuel)) (symbols_in c.args.text.now c.args.toks.now)) c.loop-test.true (rw c.in-None.is at c.in_ok-next.ensures) c.loop.invariant

pub specifier::more_members-loop-preserved : goal.specifier::more_members-loop-preserved
specifier::more_members-loop-preserved t c = rw c.in_ok-push-in-Some.ensures.items (collect_more member_of (next_member_by (at c.args.fuel)) (length c.args.toks.now) c.loop.counter c.loop.found.items c.in-Some.next (symbols_in c.args.text.now c.loop.rest.now) (symbols_in c.args.text.now c.in-Some.after.now) (all_that (next_member_by (at c.args.fuel)) (symbols_in c.args.text.now c.args.toks.now)) c.loop-test.true (rw c.in-Some.is at c.in_ok-next.ensures) c.loop.invariant)

pub specifier::more_members-returns : goal.specifier::more_members-returns
specifier::more_members-returns t c = collect_out (next_member_by (at c.args.fuel)) (length c.args.toks.now) c.loop.counter (map member_of c.loop.found.items) (symbols_in c.args.text.now c.loop.rest.now) (all_that (next_member_by (at c.args.fuel)) (symbols_in c.args.text.now c.args.toks.now)) c.loop-test.false c.loop.invariant

pub specifier::more_members-loop-init : goal.specifier::more_members-loop-init
specifier::more_members-loop-init t c = rw c.new-found.ensures.items (collect_first (next_member_by (at c.args.fuel)) (length c.args.toks.now) (symbols_in c.args.text.now c.args.toks.now) (length-map c.args.toks.now (symbol_in c.args.text.now)))

pub specifier::more_declarators-returns-in_err-next : goal.specifier::more_declarators-returns-in_err-next
specifier::more_declarators-returns-in_err-next t c =
    let p = err_from_is_err_and c.from_residual.result c.from_residual.ensures.1 in
    rw (p.1, p.2) (collect_err c.in_err-next.field-0.0 (next_declarator_by (at c.args.fuel)) (length c.args.toks.now) c.loop.counter (map next_declarator_of c.loop.found.items) (symbols_in c.args.text.now c.loop.rest.now) (all_that (next_declarator_by (at c.args.fuel)) (symbols_in c.args.text.now c.args.toks.now)) c.loop-test.true c.in_err-next.ensures c.loop.invariant)

pub specifier::more_declarators-returns-in-None : goal.specifier::more_declarators-returns-in-None
specifier::more_declarators-returns-in-None t c = collect_ends (next_declarator_by (at c.args.fuel)) (length c.args.toks.now) c.loop.counter (map next_declarator_of c.loop.found.items) (symbols_in c.args.text.now c.loop.rest.now) (all_that (next_declarator_by (at c.args.fuel)) (symbols_in c.args.text.now c.args.toks.now)) c.loop-test.true (rw c.in-None.is at c.in_ok-next.ensures) c.loop.invariant

pub specifier::more_declarators-loop-preserved : goal.specifier::more_declarators-loop-preserved
specifier::more_declarators-loop-preserved t c = rw c.in_ok-push-in-Some.ensures.items (collect_more next_declarator_of (next_declarator_by (at c.args.fuel)) (length c.args.toks.now) c.loop.counter c.loop.found.items c.in-Some.next (symbols_in c.args.text.now c.loop.rest.now) (symbols_in c.args.text.now c.in-Some.after.now) (all_that (next_declarator_by (at c.args.fuel)) (symbols_in c.args.text.now c.args.toks.now)) c.loop-test.true (rw c.in-Some.is at c.in_ok-next.ensures) c.loop.invariant)

pub specifier::more_declarators-returns : goal.specifier::more_declarators-returns
specifier::more_declarators-returns t c = collect_out (next_declarator_by (at c.args.fuel)) (length c.args.toks.now) c.loop.counter (map next_declarator_of c.loop.found.items) (symbols_in c.args.text.now c.loop.rest.now) (all_that (next_declarator_by (at c.args.fuel)) (symbols_in c.args.text.now c.args.toks.now)) c.loop-test.false c.loop.invariant

pub specifier::more_declarators-loop-init : goal.specifier::more_declarators-loop-init
specifier::more_declarators-loop-init t c = rw c.new-found.ensures.items (collect_first (next_declarator_by (at c.args.fuel)) (length c.args.toks.now) (symbols_in c.args.text.now c.args.toks.now) (length-map c.args.toks.now (symbol_in c.args.text.now)))

pub declarator::suffixes-returns-in_err-next : goal.declarator::suffixes-returns-in_err-next
declarator::suffixes-returns-in_err-next t c =
    let p = err_from_is_err_and c.from_residual.result c.from_residual.ensures.1 in
    rw (p.1, p.2) (collect_err c.in_err-next.field-0.0 (suffix_by (at c.args.fuel)) (length c.args.toks.now) c.loop.counter (map suffix_of c.loop.found.items) (symbols_in c.args.text.now c.loop.rest.now) (all_that (suffix_by (at c.args.fuel)) (symbols_in c.args.text.now c.args.toks.now)) c.loop-test.true c.in_err-next.ensures c.loop.invariant)

pub declarator::suffixes-returns-in-None : goal.declarator::suffixes-returns-in-None
declarator::suffixes-returns-in-None t c = collect_ends (suffix_by (at c.args.fuel)) (length c.args.toks.now) c.loop.counter (map suffix_of c.loop.found.items) (symbols_in c.args.text.now c.loop.rest.now) (all_that (suffix_by (at c.args.fuel)) (symbols_in c.args.text.now c.args.toks.now)) c.loop-test.true (rw c.in-None.is at c.in_ok-next.ensures) c.loop.invariant

pub declarator::suffixes-loop-preserved : goal.declarator::suffixes-loop-preserved
declarator::suffixes-loop-preserved t c = rw c.in_ok-push-in-Some.ensures.items (collect_more suffix_of (suffix_by (at c.args.fuel)) (length c.args.toks.now) c.loop.counter c.loop.found.items c.in-Some.next (symbols_in c.args.text.now c.loop.rest.now) (symbols_in c.args.text.now c.in-Some.after.now) (all_that (suffix_by (at c.args.fuel)) (symbols_in c.args.text.now c.args.toks.now)) c.loop-test.true (rw c.in-Some.is at c.in_ok-next.ensures) c.loop.invariant)

pub declarator::suffixes-returns : goal.declarator::suffixes-returns
declarator::suffixes-returns t c = collect_out (suffix_by (at c.args.fuel)) (length c.args.toks.now) c.loop.counter (map suffix_of c.loop.found.items) (symbols_in c.args.text.now c.loop.rest.now) (all_that (suffix_by (at c.args.fuel)) (symbols_in c.args.text.now c.args.toks.now)) c.loop-test.false c.loop.invariant

pub declarator::suffixes-loop-init : goal.declarator::suffixes-loop-init
declarator::suffixes-loop-init t c = rw c.new-found.ensures.items (collect_first (suffix_by (at c.args.fuel)) (length c.args.toks.now) (symbols_in c.args.text.now c.args.toks.now) (length-map c.args.toks.now (symbol_in c.args.text.now)))

pub declarator::more_params-returns-in_err-next : goal.declarator::more_params-returns-in_err-next
declarator::more_params-returns-in_err-next t c =
    let p = err_from_is_err_and c.from_residual.result c.from_residual.ensures.1 in
    rw (p.1, p.2) (collect_err c.in_err-next.field-0.0 (next_param_by (at c.args.fuel)) (length c.args.toks.now) c.loop.counter (map next_param_of c.loop.found.items) (symbols_in c.args.text.now c.loop.rest.now) (all_that (next_param_by (at c.args.fuel)) (symbols_in c.args.text.now c.args.toks.now)) c.loop-test.true c.in_err-next.ensures c.loop.invariant)

pub declarator::more_params-returns-in-None : goal.declarator::more_params-returns-in-None
declarator::more_params-returns-in-None t c = collect_ends (next_param_by (at c.args.fuel)) (length c.args.toks.now) c.loop.counter (map next_param_of c.loop.found.items) (symbols_in c.args.text.now c.loop.rest.now) (all_that (next_param_by (at c.args.fuel)) (symbols_in c.args.text.now c.args.toks.now)) c.loop-test.true (rw c.in-None.is at c.in_ok-next.ensures) c.loop.invariant

pub declarator::more_params-loop-preserved : goal.declarator::more_params-loop-preserved
declarator::more_params-loop-preserved t c = rw c.in_ok-push-in-Some.ensures.items (collect_more next_param_of (next_param_by (at c.args.fuel)) (length c.args.toks.now) c.loop.counter c.loop.found.items c.in-Some.next (symbols_in c.args.text.now c.loop.rest.now) (symbols_in c.args.text.now c.in-Some.after.now) (all_that (next_param_by (at c.args.fuel)) (symbols_in c.args.text.now c.args.toks.now)) c.loop-test.true (rw c.in-Some.is at c.in_ok-next.ensures) c.loop.invariant)

pub declarator::more_params-returns : goal.declarator::more_params-returns
declarator::more_params-returns t c = collect_out (next_param_by (at c.args.fuel)) (length c.args.toks.now) c.loop.counter (map next_param_of c.loop.found.items) (symbols_in c.args.text.now c.loop.rest.now) (all_that (next_param_by (at c.args.fuel)) (symbols_in c.args.text.now c.args.toks.now)) c.loop-test.false c.loop.invariant

pub declarator::more_params-loop-init : goal.declarator::more_params-loop-init
declarator::more_params-loop-init t c = rw c.new-found.ensures.items (collect_first (next_param_by (at c.args.fuel)) (length c.args.toks.now) (symbols_in c.args.text.now c.args.toks.now) (length-map c.args.toks.now (symbol_in c.args.text.now)))

pub expression::cond-returns-in_err-condition : goal.expression::cond-returns-in_err-condition
expression::cond-returns-in_err-condition t c =
    let p = err_from_is_err_and c.from_residual.result c.from_residual.ensures.1 in
    rw (p.1, p.2) (choices_err c.in_err-condition.field-0.0 (at c.args.fuel) (length c.args.toks.now) c.loop.counter (map choice_of c.loop.choices.items) (symbols_in c.args.text.now c.loop.rest.now) (cond_by (at c.args.fuel) (symbols_in c.args.text.now c.args.toks.now)) c.loop-test.true c.in_err-condition.ensures c.loop.invariant)

pub expression::cond-returns-in_err-choice-in-Some : goal.expression::cond-returns-in_err-choice-in-Some
expression::cond-returns-in_err-choice-in-Some t c =
    let p = err_from_is_err_and c.from_residual-in_err-choice-in-Some.result c.from_residual-in_err-choice-in-Some.ensures.1 in
    rw (p.1, p.2) (choice_err c.in_err-choice-in-Some.field-0.0 (at c.args.fuel) (length c.args.toks.now) c.loop.counter (map choice_of c.loop.choices.items) (binary_of c.in_ok-condition.condition) c.in-Some.question (symbols_in c.args.text.now c.loop.rest.now) (symbols_in c.args.text.now c.in_ok-condition.after.now) (symbols_in c.args.text.now c.in-Some.behind.now) (cond_by (at c.args.fuel) (symbols_in c.args.text.now c.args.toks.now)) c.loop-test.true c.in_ok-condition.ensures (c.in-Some.ensures c.args.text.now) c.in_err-choice-in-Some.ensures c.loop.invariant)

pub expression::cond-returns-in-None : goal.expression::cond-returns-in-None
expression::cond-returns-in-None t c = rw c.cond.ensures (choices_end (at c.args.fuel) (length c.args.toks.now) c.loop.counter (map choice_of c.loop.choices.items) (binary_of c.in_ok-condition.condition) (symbols_in c.args.text.now c.loop.rest.now) (symbols_in c.args.text.now c.in_ok-condition.after.now) (cond_by (at c.args.fuel) (symbols_in c.args.text.now c.args.toks.now)) c.loop-test.true c.in_ok-condition.ensures (c.in-None.ensures c.args.text.now) c.loop.invariant)

pub expression::cond-loop-preserved : goal.expression::cond-loop-preserved
expression::cond-loop-preserved t c = rw c.in_ok-push-in-Some.ensures.items (choices_more (at c.args.fuel) (length c.args.toks.now) c.loop.counter c.loop.choices.items c.in_ok-choice-in-Some.choice (binary_of c.in_ok-condition.condition) c.in-Some.question (symbols_in c.args.text.now c.loop.rest.now) (symbols_in c.args.text.now c.in_ok-condition.after.now) (symbols_in c.args.text.now c.in-Some.behind.now) (symbols_in c.args.text.now c.in_ok-choice-in-Some.behind.now) (cond_by (at c.args.fuel) (symbols_in c.args.text.now c.args.toks.now)) c.loop-test.true c.in_ok-condition.ensures (c.in-Some.ensures c.args.text.now) c.in_ok-choice-in-Some.ensures c.loop.invariant)

pub expression::cond-returns : goal.expression::cond-returns
expression::cond-returns t c = fails c.stopped.result (cond_by (at c.args.fuel) (symbols_in c.args.text.now c.args.toks.now)) c.stopped.ensures (choices_out (at c.args.fuel) (length c.args.toks.now) c.loop.counter (map choice_of c.loop.choices.items) (symbols_in c.args.text.now c.loop.rest.now) (cond_by (at c.args.fuel) (symbols_in c.args.text.now c.args.toks.now)) c.loop-test.false c.loop.invariant)

pub expression::cond-loop-init : goal.expression::cond-loop-init
expression::cond-loop-init t c = rw c.new-choices.ensures.items (choices_first (at c.args.fuel) (length c.args.toks.now) (symbols_in c.args.text.now c.args.toks.now) (length-map c.args.toks.now (symbol_in c.args.text.now)))

pub expression::assign-returns-in_err-value : goal.expression::assign-returns-in_err-value
expression::assign-returns-in_err-value t c =
    let p = err_from_is_err_and c.from_residual.result c.from_residual.ensures.1 in
    rw (p.1, p.2) (assigns_err c.in_err-value.field-0.0 (at c.args.fuel) (length c.args.toks.now) c.loop.counter (map target_of c.loop.targets.items) (symbols_in c.args.text.now c.loop.rest.now) (assign_by (at c.args.fuel) (symbols_in c.args.text.now c.args.toks.now)) c.loop-test.true c.in_err-value.ensures c.loop.invariant)

pub expression::assign-returns-in-Err : goal.expression::assign-returns-in-Err
expression::assign-returns-in-Err t c =
    let given = c.in-Err.ensures.err c.in-Err.value refl in
    rw (c.assign.ensures, given.0) (assigns_end (at c.args.fuel) (length c.args.toks.now) c.loop.counter (map target_of c.loop.targets.items) (cond_of c.in_ok-value.value) (symbols_in c.args.text.now c.loop.rest.now) (symbols_in c.args.text.now c.in_ok-value.after.now) (assign_by (at c.args.fuel) (symbols_in c.args.text.now c.args.toks.now)) c.loop-test.true c.in_ok-value.ensures (given.1 c.args.text.now) c.loop.invariant)

pub expression::assign-loop-preserved : goal.expression::assign-loop-preserved
expression::assign-loop-preserved t c = rw c.in_ok-push-in-Ok.ensures.items (assigns_more (at c.args.fuel) (length c.args.toks.now) c.loop.counter c.loop.targets.items c.in-Ok.target (cond_of c.in_ok-value.value) (symbols_in c.args.text.now c.loop.rest.now) (symbols_in c.args.text.now c.in_ok-value.after.now) (symbols_in c.args.text.now c.in-Ok.behind.now) (assign_by (at c.args.fuel) (symbols_in c.args.text.now c.args.toks.now)) c.loop-test.true c.in_ok-value.ensures c.in-Ok.ensures.ok.0 (c.in-Ok.ensures.ok.1 c.args.text.now) c.loop.invariant)

pub expression::assign-returns : goal.expression::assign-returns
expression::assign-returns t c = fails c.stopped.result (assign_by (at c.args.fuel) (symbols_in c.args.text.now c.args.toks.now)) c.stopped.ensures (assigns_out (at c.args.fuel) (length c.args.toks.now) c.loop.counter (map target_of c.loop.targets.items) (symbols_in c.args.text.now c.loop.rest.now) (assign_by (at c.args.fuel) (symbols_in c.args.text.now c.args.toks.now)) c.loop-test.false c.loop.invariant)

pub expression::assign-loop-init : goal.expression::assign-loop-init
expression::assign-loop-init t c = rw c.new-targets.ensures.items (assigns_first (at c.args.fuel) (length c.args.toks.now) (symbols_in c.args.text.now c.args.toks.now) (length-map c.args.toks.now (symbol_in c.args.text.now)))

pub expression::inner_expr-returns-then-fuel-eq0 : goal.expression::inner_expr-returns-then-fuel-eq0
expression::inner_expr-returns-then-fuel-eq0 t c = fails c.stopped.result ((at c.args.fuel).expr (symbols_in c.args.text.now c.args.toks.now)) c.stopped.ensures (no_expr c.args.fuel (symbols_in c.args.text.now c.args.toks.now) c.if-fuel-eq0.true)

pub expression::inner_expr-returns : goal.expression::inner_expr-returns
expression::inner_expr-returns t c = gives (λ x. (expr_of x.0, symbols_in c.args.text.now x.1.now)) c.expr.result ((at c.args.fuel).expr (symbols_in c.args.text.now c.args.toks.now)) (expr_by (at (c.args.fuel - 1)) (symbols_in c.args.text.now c.args.toks.now)) (less_expr c.args.fuel (symbols_in c.args.text.now c.args.toks.now) c.if-fuel-eq0.false) c.expr.ensures

pub expression::inner_size-returns-then-fuel-eq0 : goal.expression::inner_size-returns-then-fuel-eq0
expression::inner_size-returns-then-fuel-eq0 t c = fails c.stopped.result ((at c.args.fuel).size (symbols_in c.args.text.now c.args.toks.now)) c.stopped.ensures (no_size c.args.fuel (symbols_in c.args.text.now c.args.toks.now) c.if-fuel-eq0.true)

pub expression::inner_size-returns : goal.expression::inner_size-returns
expression::inner_size-returns t c = gives (λ x. (cond_of x.0, symbols_in c.args.text.now x.1.now)) c.cond.result ((at c.args.fuel).size (symbols_in c.args.text.now c.args.toks.now)) (cond_by (at (c.args.fuel - 1)) (symbols_in c.args.text.now c.args.toks.now)) (less_size c.args.fuel (symbols_in c.args.text.now c.args.toks.now) c.if-fuel-eq0.false) c.cond.ensures

pub specifier::inner_type_name-returns-then-fuel-eq0 : goal.specifier::inner_type_name-returns-then-fuel-eq0
specifier::inner_type_name-returns-then-fuel-eq0 t c = fails c.stopped.result ((at c.args.fuel).type_name (symbols_in c.args.text.now c.args.toks.now)) c.stopped.ensures (no_type_name c.args.fuel (symbols_in c.args.text.now c.args.toks.now) c.if-fuel-eq0.true)

pub specifier::inner_type_name-returns : goal.specifier::inner_type_name-returns
specifier::inner_type_name-returns t c = gives (λ x. (type_name_of x.0, symbols_in c.args.text.now x.1.now)) c.type_name.result ((at c.args.fuel).type_name (symbols_in c.args.text.now c.args.toks.now)) (type_name_by (at (c.args.fuel - 1)) (symbols_in c.args.text.now c.args.toks.now)) (less_type_name c.args.fuel (symbols_in c.args.text.now c.args.toks.now) c.if-fuel-eq0.false) c.type_name.ensures

pub specifier::inner_members-returns-then-fuel-eq0 : goal.specifier::inner_members-returns-then-fuel-eq0
specifier::inner_members-returns-then-fuel-eq0 t c = fails c.stopped.result ((at c.args.fuel).members (symbols_in c.args.text.now c.args.toks.now)) c.stopped.ensures (no_members c.args.fuel (symbols_in c.args.text.now c.args.toks.now) c.if-fuel-eq0.true)

pub specifier::inner_members-returns : goal.specifier::inner_members-returns
specifier::inner_members-returns t c = gives (λ x. ((member_of x.0.0, map member_of x.0.1.items), symbols_in c.args.text.now x.1.now)) c.members.result ((at c.args.fuel).members (symbols_in c.args.text.now c.args.toks.now)) (members_by (at (c.args.fuel - 1)) (symbols_in c.args.text.now c.args.toks.now)) (less_members c.args.fuel (symbols_in c.args.text.now c.args.toks.now) c.if-fuel-eq0.false) c.members.ensures

pub declarator::inner_params-returns-then-fuel-eq0 : goal.declarator::inner_params-returns-then-fuel-eq0
declarator::inner_params-returns-then-fuel-eq0 t c = fails c.stopped.result ((at c.args.fuel).params (symbols_in c.args.text.now c.args.toks.now)) c.stopped.ensures (no_params c.args.fuel (symbols_in c.args.text.now c.args.toks.now) c.if-fuel-eq0.true)

pub declarator::inner_params-returns : goal.declarator::inner_params-returns
declarator::inner_params-returns t c = gives (λ x. ((param_of x.0.0, map next_param_of x.0.1.items), symbols_in c.args.text.now x.1.now)) c.params.result ((at c.args.fuel).params (symbols_in c.args.text.now c.args.toks.now)) (params_by (at (c.args.fuel - 1)) (symbols_in c.args.text.now c.args.toks.now)) (less_params c.args.fuel (symbols_in c.args.text.now c.args.toks.now) c.if-fuel-eq0.false) c.params.ensures

pub enumeration::more_enumerators-returns-in_err-next : goal.enumeration::more_enumerators-returns-in_err-next
enumeration::more_enumerators-returns-in_err-next t c =
    let p = err_from_is_err_and c.from_residual.result c.from_residual.ensures.1 in
    rw (p.1, p.2) (collect_err c.in_err-next.field-0.0 (next_enumerator_by (at c.args.fuel)) (length c.args.toks.now) c.loop.counter (map next_enumerator_of c.loop.found.items) (symbols_in c.args.text.now c.loop.rest.now) (all_that (next_enumerator_by (at c.args.fuel)) (symbols_in c.args.text.now c.args.toks.now)) c.loop-test.true c.in_err-next.ensures c.loop.invariant)

pub enumeration::more_enumerators-returns-in-None : goal.enumeration::more_enumerators-returns-in-None
enumeration::more_enumerators-returns-in-None t c = collect_ends (next_enumerator_by (at c.args.fuel)) (length c.args.toks.now) c.loop.counter (map next_enumerator_of c.loop.found.items) (symbols_in c.args.text.now c.loop.rest.now) (all_that (next_enumerator_by (at c.args.fuel)) (symbols_in c.args.text.now c.args.toks.now)) c.loop-test.true (rw c.in-None.is at c.in_ok-next.ensures) c.loop.invariant

pub enumeration::more_enumerators-loop-preserved : goal.enumeration::more_enumerators-loop-preserved
enumeration::more_enumerators-loop-preserved t c = rw c.in_ok-push-in-Some.ensures.items (collect_more next_enumerator_of (next_enumerator_by (at c.args.fuel)) (length c.args.toks.now) c.loop.counter c.loop.found.items c.in-Some.next (symbols_in c.args.text.now c.loop.rest.now) (symbols_in c.args.text.now c.in-Some.after.now) (all_that (next_enumerator_by (at c.args.fuel)) (symbols_in c.args.text.now c.args.toks.now)) c.loop-test.true (rw c.in-Some.is at c.in_ok-next.ensures) c.loop.invariant)

pub enumeration::more_enumerators-returns : goal.enumeration::more_enumerators-returns
enumeration::more_enumerators-returns t c = collect_out (next_enumerator_by (at c.args.fuel)) (length c.args.toks.now) c.loop.counter (map next_enumerator_of c.loop.found.items) (symbols_in c.args.text.now c.loop.rest.now) (all_that (next_enumerator_by (at c.args.fuel)) (symbols_in c.args.text.now c.args.toks.now)) c.loop-test.false c.loop.invariant

pub enumeration::more_enumerators-loop-init : goal.enumeration::more_enumerators-loop-init
enumeration::more_enumerators-loop-init t c = rw c.new-found.ensures.items (collect_first (next_enumerator_by (at c.args.fuel)) (length c.args.toks.now) (symbols_in c.args.text.now c.args.toks.now) (length-map c.args.toks.now (symbol_in c.args.text.now)))

pub enumeration::inner_enumerators-returns-then-fuel-eq0 : goal.enumeration::inner_enumerators-returns-then-fuel-eq0
enumeration::inner_enumerators-returns-then-fuel-eq0 t c = fails c.stopped.result ((at c.args.fuel).enumerators (symbols_in c.args.text.now c.args.toks.now)) c.stopped.ensures (no_enumerators c.args.fuel (symbols_in c.args.text.now c.args.toks.now) c.if-fuel-eq0.true)

pub enumeration::inner_enumerators-returns : goal.enumeration::inner_enumerators-returns
enumeration::inner_enumerators-returns t c = gives (λ x. ((enumerator_of x.0.0, map next_enumerator_of x.0.1.items), symbols_in c.args.text.now x.1.now)) c.enumerators.result ((at c.args.fuel).enumerators (symbols_in c.args.text.now c.args.toks.now)) (enumerators_by (at (c.args.fuel - 1)) (symbols_in c.args.text.now c.args.toks.now)) (less_enumerators c.args.fuel (symbols_in c.args.text.now c.args.toks.now) c.if-fuel-eq0.false) c.enumerators.ensures

pub expression::inner_choice-returns-then-fuel-eq0 : goal.expression::inner_choice-returns-then-fuel-eq0
expression::inner_choice-returns-then-fuel-eq0 t c = fails c.stopped.result ((at c.args.fuel).expr (symbols_in c.args.text.now c.args.toks.now)) c.stopped.ensures (no_expr c.args.fuel (symbols_in c.args.text.now c.args.toks.now) c.if-fuel-eq0.true)

pub expression::inner_choice-loop-front-init : goal.expression::inner_choice-loop-front-init
expression::inner_choice-loop-front-init t c = first_turn c.args.fuel c.new-waiting.result.items c.no_front-front.result c.args.text.now c.args.toks.now c.if-fuel-eq0.false c.new-waiting.ensures.items c.no_front-front.ensures

pub expression::inner_choice-returns-in_err-operand : goal.expression::inner_choice-returns-in_err-operand
expression::inner_choice-returns-in_err-operand t c =
    let p = err_from_is_err_and c.from_residual.result c.from_residual.ensures.1 in
    rw (p.1, p.2) (operand_err c.in_err-operand.field-0.0 c.loop-front.left (map waiting_of c.loop-front.waiting.items) (front_of c.loop-front.front) c.args.text.now c.loop-front.rest.now ((at c.args.fuel).expr (symbols_in c.args.text.now c.args.toks.now)) c.in_err-operand.ensures c.loop-front.invariant.1)

pub expression::inner_choice-returns-then-left-eq0 : goal.expression::inner_choice-returns-then-left-eq0
expression::inner_choice-returns-then-left-eq0 t c =
    let total = (at c.args.fuel).expr (symbols_in c.args.text.now c.args.toks.now) in
    fails c.stopped-then-left-eq0.result total c.stopped-then-left-eq0.ensures (at_deepest c.loop-front.left (map waiting_of c.loop-front.waiting.items) (front_of c.loop-front.front) c.args.text.now c.loop-front.rest.now c.in_ok-operand.after.now c.in-Some.behind.now (binary_of c.in_ok-operand.operand) c.in-Some.question total c.if-left-eq0.true c.in_ok-operand.ensures (c.in-Some.ensures c.args.text.now) c.loop-front.invariant.1)

pub expression::inner_choice-loop-front-smaller-in-Some : goal.expression::inner_choice-loop-front-smaller-in-Some
expression::inner_choice-loop-front-smaller-in-Some t c =
    let operand = operand_taken c.loop-front.left c.args.text.now c.loop-front.rest.now c.in_ok-operand.after.now (binary_of c.in_ok-operand.operand) c.in_ok-operand.ensures in
    let mark = punct_taken marks.Question c.args.text.now c.in_ok-operand.after.now c.in-Some.behind.now c.in-Some.question (c.in-Some.ensures c.args.text.now) in
    omega (arith, operand, mark)

pub expression::inner_choice-loop-front-preserved-in-Some : goal.expression::inner_choice-loop-front-preserved-in-Some
expression::inner_choice-loop-front-preserved-in-Some t c =
    question_turn c.args.fuel c.loop-front.left c.loop-front.waiting.items c.push.new.self.items (record { front = c.loop-front.front; condition = c.in_ok-operand.operand; question = c.in-Some.question }) c.loop-front.front c.no_front-front-in-Some.result c.args.text.now c.loop-front.rest.now c.in_ok-operand.after.now c.in-Some.behind.now (binary_of c.in_ok-operand.operand) c.in-Some.question ((at c.args.fuel).expr (symbols_in c.args.text.now c.args.toks.now))
    c.if-left-eq0.false c.in_ok-operand.ensures (c.in-Some.ensures c.args.text.now) refl c.in_ok-push.ensures.items c.no_front-front-in-Some.ensures c.loop-front.invariant

pub expression::inner_choice-loop-front-smaller-in-Ok : goal.expression::inner_choice-loop-front-smaller-in-Ok
expression::inner_choice-loop-front-smaller-in-Ok t c =
    let operand = operand_taken c.loop-front.left c.args.text.now c.loop-front.rest.now c.in_ok-operand.after.now (binary_of c.in_ok-operand.operand) c.in_ok-operand.ensures in
    let low = rw c.in-Ok.is at c.in_ok-more.ensures.fewer in
    omega (arith, operand, low)

pub expression::inner_choice-loop-front-preserved-in-Ok : goal.expression::inner_choice-loop-front-preserved-in-Ok
expression::inner_choice-loop-front-preserved-in-Ok t c =
    value_turn c.args.fuel c.loop-front.left c.loop-front.waiting.items c.loop-front.front c.in-Ok.more c.args.text.now c.loop-front.rest.now c.in_ok-operand.after.now c.in-Ok.behind.now (binary_of c.in_ok-operand.operand) ((at c.args.fuel).expr (symbols_in c.args.text.now c.args.toks.now))
    c.in_ok-operand.ensures (c.in_default.ensures c.args.text.now) (rw c.in-Ok.is at c.in_ok-more.ensures.reads c.args.text.now c.loop-front.left) c.loop-front.invariant

pub expression::inner_choice-returns-in_default-pop : goal.expression::inner_choice-returns-in_default-pop
expression::inner_choice-returns-in_default-pop t c =
    let text = c.args.text.now in
    let whole = rw c.in-Err.is at c.in_ok-more.ensures.reads text c.loop-front.left in
    let empty = none_left c.loop-front.waiting.items c.pop.new.self.items c.loop-front.waiting.len c.in_default-pop.ensures.items c.in_default-pop.ensures.rest c.in_default-pop.ensures.cases.0 in
    last_turn c.args.fuel c.loop-front.left c.loop-front.waiting.items c.loop-front.front text c.loop-front.rest.now c.in_ok-operand.after.now (binary_of c.in_ok-operand.operand) (expr_of c.in-Err.expr) ((at c.args.fuel).expr (symbols_in text c.args.toks.now))
    c.in_ok-operand.ensures (c.in_default.ensures text) whole empty c.loop-front.invariant

pub expression::inner_choice-returns-in_err-colon-in-Err : goal.expression::inner_choice-returns-in_err-colon-in-Err
expression::inner_choice-returns-in_err-colon-in-Err t c =
    let text = c.args.text.now in
    let p = err_from_is_err_and c.from_residual-in_err-colon-in-Err.result c.from_residual-in_err-colon-in-Err.ensures.1 in
    let whole = rw c.in-Err.is at c.in_ok-more.ensures.reads text c.loop-front.left in
    rw (p.1, p.2) (colon_missing c.in_err-colon-in-Err.field-0.0 c.args.fuel c.loop-front.left c.loop-front.waiting.items c.pop.new.self.items c.in-Some-pop.top c.loop-front.front text c.loop-front.rest.now c.in_ok-operand.after.now (binary_of c.in_ok-operand.operand) (expr_of c.in-Err.expr) ((at c.args.fuel).expr (symbols_in text c.args.toks.now))
    c.in_ok-operand.ensures (c.in_default.ensures text) whole c.in-Some-pop.ensures.items (c.in_err-colon-in-Err.ensures text) c.loop-front.invariant)

pub expression::inner_choice-loop-front-smaller : goal.expression::inner_choice-loop-front-smaller
expression::inner_choice-loop-front-smaller t c =
    let operand = operand_taken c.loop-front.left c.args.text.now c.loop-front.rest.now c.in_ok-operand.after.now (binary_of c.in_ok-operand.operand) c.in_ok-operand.ensures in
    let mark = punct_taken marks.Colon c.args.text.now c.in_ok-operand.after.now c.in_ok-colon-in-Err.behind.now c.in_ok-colon-in-Err.colon (c.in_ok-colon-in-Err.ensures c.args.text.now) in
    omega (arith, operand, mark)

pub expression::inner_choice-loop-front-preserved : goal.expression::inner_choice-loop-front-preserved
expression::inner_choice-loop-front-preserved t c =
    let text = c.args.text.now in
    let whole = rw c.in-Err.is at c.in_ok-more.ensures.reads text c.loop-front.left in
    colon_turn c.args.fuel c.loop-front.left c.loop-front.waiting.items c.pop.new.self.items c.in-Some-pop.top c.loop-front.front c.in_ok-front-in-Err.front text c.loop-front.rest.now c.in_ok-operand.after.now c.in_ok-colon-in-Err.behind.now (binary_of c.in_ok-operand.operand) (expr_of c.in-Err.expr) c.in_ok-colon-in-Err.colon ((at c.args.fuel).expr (symbols_in text c.args.toks.now))
    c.in_ok-operand.ensures (c.in_default.ensures text) whole c.in-Some-pop.ensures.items (c.in_ok-colon-in-Err.ensures text) c.in_ok-front-in-Err.ensures c.loop-front.invariant
