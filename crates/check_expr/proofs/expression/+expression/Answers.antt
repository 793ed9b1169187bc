use Rattle.std.proofs.Common.{◌+◌, drop, map, Ok, refl, sym, ap, ◌∙◌}
use Rattle.std.proofs.lemmas.Result.{err_from_is_err_and}
use Rattle.c_token.specs.declared.token.TokKind.TheVariants as kinds
use Rattle.c_nodes.specs.Words.{signed, named, spell_constant}
use Rattle.c_nodes.specs.Views.{assign_of, binary_of, choice_of, cond_of, expr_of, next_assign_of, next_operand_of, operand_of as tree_operand_of, postfix_suffix_of, prefix_of, primary_of, target_of, type_name_of}
use Rattle.c_tables.specs.Tables.{known_of}
use Rattle.c_terms.specs.Terms.{operand_of, term_of}
use Rattle.c_nodes.proofs.Shapes.{show_assign, show_binary_operand, show_binary_chain, show_cast, show_choice, show_cond, show_expr, show_operand_postfix, show_operand_sizeof_type, show_postfix, show_postfix_suffix_index, show_postfix_suffix_call_bare, show_postfix_suffix_call, show_postfix_suffix_member, show_postfix_suffix_step, show_primary_name, show_primary_constant, show_primary_group}
use Rattle.check_expr.specs.Folds.{barely, sequenced_from, combined_from, arguments_from, arguments_read, sides_from, choices_from, chosen_back}
use Rattle.check_expr.specs.Kept.{side_in, boxed, choice_in, operands_in}
use Rattle.check_expr.proofs.Answering.{goes, stops, ends, refuses_as, refuses_bare, answers_bare, next_of, pushed}
use Rattle.check_expr.proofs.Clauses.{judged_leaf, judged_group, behind_index, behind_call, behind_bare_call, behind_field, behind_step, bracketed_bare, unseen_index, measured_as}
use Rattle.check_expr.proofs.Folded.{judged_listed, judged_arguments, spread, spread_whole, judged_joined, judged_posted, judged_assigned, judged_chosen, choice_read, judged_prefixed}
use Rattle.check_expr.proofs.Passing.{no_choice, no_target, no_comma}
use Rattle.check_expr.proofs.Runs.{unseen}
use Rattle.check_expr.proofs.Signs.{alone}
use Rattle.c_nodes.specs.Lists.{posted, prefixed, joined, listed, chosen, assigned}
use Rattle.c_nodes.specs.Trees as tree
use Rattle.type_rules.specs.Expressions.{judged, judged_behind, bracketed, selected}
use Rattle.type_rules.specs.Known.{given}
use Rattle.type_rules.specs.Terms.{used}
use Rattle.type_rules.specs.Writes.{stepped, call}
use Rattle.c_nodes.specs.declared.expression.PostfixSuffix.TheVariants as PostfixSuffix
use Rattle.c_nodes.specs.declared.expression.Binary.TheViews.{out-Assign, out-Cast, out-Choice, out-Cond, out-Expr, out-Postfix}
use Rattle.check_expr.proofs.expression.+expression.Goals as goal

pub assigned-returns-then-is_empty : goal.assigned-returns-then-is_empty
assigned-returns-then-is_empty t c = ends term_of _ _ _ _ c.conditional.ensures (sym (ap (λ e. judged e (known_of c.args.checker.now)) (no_target c.args.assign.now (sym c.is_empty.ensures ∙ c.if-is_empty.true))))

pub assigned_to-returns-in_err-targets : goal.assigned_to-returns-in_err-targets
assigned_to-returns-in_err-targets t c =
    let p = err_from_is_err_and c.from_residual.result c.from_residual.ensures.1 in
    rw (p.1, p.2) (stops _ _ _ _ c.in_err-targets.ensures (sym (ap (λ e. judged e (known_of c.args.checker.now)) (show_assign c.args.assign.now ∙ ap (λ l. assigned (map target_of l) (cond_of (out-Assign c.args.assign.now).value)) (sym c.deref.ensures.value)) ∙ judged_assigned (map target_of c.deref.result.now) (cond_of (out-Assign c.args.assign.now).value) (known_of c.args.checker.now))))

pub assigned_to-returns-in_err-value : goal.assigned_to-returns-in_err-value
assigned_to-returns-in_err-value t c =
    let p = err_from_is_err_and c.from_residual-in_err-value.result c.from_residual-in_err-value.ensures.1 in
    rw (p.1, p.2) (stops _ _ _ _ c.in_err-value.ensures (goes _ _ _ _ _ c.in_ok-targets.ensures (sym (ap (λ e. judged e (known_of c.args.checker.now)) (show_assign c.args.assign.now ∙ ap (λ l. assigned (map target_of l) (cond_of (out-Assign c.args.assign.now).value)) (sym c.deref.ensures.value)) ∙ judged_assigned (map target_of c.deref.result.now) (cond_of (out-Assign c.args.assign.now).value) (known_of c.args.checker.now)))))

pub assigned_to-returns : goal.assigned_to-returns
assigned_to-returns t c = ends term_of _ _ _ _ c.assign_all.ensures (goes _ _ _ _ _ c.in_ok-value.ensures (goes _ _ _ _ _ c.in_ok-targets.ensures (sym (ap (λ e. judged e (known_of c.args.checker.now)) (show_assign c.args.assign.now ∙ ap (λ l. assigned (map target_of l) (cond_of (out-Assign c.args.assign.now).value)) (sym c.deref.ensures.value)) ∙ judged_assigned (map target_of c.deref.result.now) (cond_of (out-Assign c.args.assign.now).value) (known_of c.args.checker.now)))))

pub conditional-returns-then-is_empty : goal.conditional-returns-then-is_empty
conditional-returns-then-is_empty t c = ends term_of _ _ _ _ c.operands.ensures (sym (ap (λ e. judged e (known_of c.args.checker.now)) (no_choice c.args.cond.now (sym c.is_empty.ensures ∙ c.if-is_empty.true))))

pub conditional-returns-in_err-choices : goal.conditional-returns-in_err-choices
conditional-returns-in_err-choices t c =
    let p = err_from_is_err_and c.from_residual.result c.from_residual.ensures.1 in
    rw (p.1, p.2) (stops _ _ _ _ c.in_err-choices.ensures (sym (ap (λ e. judged e (known_of c.args.checker.now)) (show_cond c.args.cond.now ∙ ap (λ l. chosen (map choice_of l) (binary_of (out-Cond c.args.cond.now).last)) (sym c.deref.ensures.value)) ∙ judged_chosen (map choice_of c.deref.result.now) (binary_of (out-Cond c.args.cond.now).last) (known_of c.args.checker.now))))

pub conditional-returns : goal.conditional-returns
conditional-returns t c = ends term_of _ _ _ _ c.choose.ensures (goes _ _ _ _ _ c.in_ok-choices.ensures (sym (ap (λ e. judged e (known_of c.args.checker.now)) (show_cond c.args.cond.now ∙ ap (λ l. chosen (map choice_of l) (binary_of (out-Cond c.args.cond.now).last)) (sym c.deref.ensures.value)) ∙ judged_chosen (map choice_of c.deref.result.now) (binary_of (out-Cond c.args.cond.now).last) (known_of c.args.checker.now))))

pub cast-returns-in_err-prefixes : goal.cast-returns-in_err-prefixes
cast-returns-in_err-prefixes t c =
    let p = err_from_is_err_and c.from_residual.result c.from_residual.ensures.1 in
    rw (p.1, p.2) (stops _ _ _ _ c.in_err-prefixes.ensures (sym (ap (λ e. judged e (known_of c.args.checker.now)) (show_cast c.args.cast.now ∙ ap (λ l. prefixed (map prefix_of l) (tree_operand_of (out-Cast c.args.cast.now).operand)) (sym c.deref.ensures.value)) ∙ judged_prefixed (map prefix_of c.deref.result.now) (tree_operand_of (out-Cast c.args.cast.now).operand) (known_of c.args.checker.now))))

pub cast-returns-in_err-term : goal.cast-returns-in_err-term
cast-returns-in_err-term t c =
    let p = err_from_is_err_and c.from_residual-in_err-term.result c.from_residual-in_err-term.ensures.1 in
    rw (p.1, p.2) (stops _ _ _ _ c.in_err-term.ensures (goes _ _ _ _ _ c.in_ok-prefixes.ensures (sym (ap (λ e. judged e (known_of c.args.checker.now)) (show_cast c.args.cast.now ∙ ap (λ l. prefixed (map prefix_of l) (tree_operand_of (out-Cast c.args.cast.now).operand)) (sym c.deref.ensures.value)) ∙ judged_prefixed (map prefix_of c.deref.result.now) (tree_operand_of (out-Cast c.args.cast.now).operand) (known_of c.args.checker.now)))))

pub cast-returns : goal.cast-returns
cast-returns t c = ends term_of _ _ _ _ c.apply_all.ensures (goes _ _ _ _ _ c.in_ok-term.ensures (goes _ _ _ _ _ c.in_ok-prefixes.ensures (sym (ap (λ e. judged e (known_of c.args.checker.now)) (show_cast c.args.cast.now ∙ ap (λ l. prefixed (map prefix_of l) (tree_operand_of (out-Cast c.args.cast.now).operand)) (sym c.deref.ensures.value)) ∙ judged_prefixed (map prefix_of c.deref.result.now) (tree_operand_of (out-Cast c.args.cast.now).operand) (known_of c.args.checker.now)))))

pub postfix-returns-in_err-first : goal.postfix-returns-in_err-first
postfix-returns-in_err-first t c =
    let p = err_from_is_err_and c.from_residual.result c.from_residual.ensures.1 in
    rw (p.1, p.2) (stops _ _ _ _ c.in_err-first.ensures (sym (ap (λ e. judged e (known_of c.args.checker.now)) (show_postfix c.args.postfix.now) ∙ judged_posted (map postfix_suffix_of (out-Postfix c.args.postfix.now).suffixes.items) (primary_of (out-Postfix c.args.postfix.now).primary) (known_of c.args.checker.now))))

pub postfix-returns : goal.postfix-returns
postfix-returns t c = ends term_of _ _ _ _ c.suffixes.ensures (goes _ _ _ _ _ c.in_ok-first.ensures (sym (ap (λ e. judged e (known_of c.args.checker.now)) (show_postfix c.args.postfix.now ∙ ap (λ l. posted (primary_of (out-Postfix c.args.postfix.now).primary) (map postfix_suffix_of l)) (sym c.deref.ensures.value)) ∙ judged_posted (map postfix_suffix_of c.deref.result.now) (primary_of (out-Postfix c.args.postfix.now).primary) (known_of c.args.checker.now))))

pub expression-returns-then-is_empty : goal.expression-returns-then-is_empty
expression-returns-then-is_empty t c = ends term_of _ _ _ _ (answers_bare _ _ _ c.assigned.ensures) (sym (ap (λ e. barely e (known_of c.args.checker.now)) (no_comma c.args.expr.now (sym c.is_empty.ensures ∙ c.if-is_empty.true))))

pub commas-returns-in_err-first : goal.commas-returns-in_err-first
commas-returns-in_err-first t c =
    let p = err_from_is_err_and c.from_residual.result c.from_residual.ensures.1 in
    rw (p.1, p.2) (refuses_as _ _ _ (refuses_bare _ _ (stops (λ t. sequenced_from t (map next_assign_of (out-Expr c.args.expr.now).others.items)) (judged (assign_of (out-Expr c.args.expr.now).first) (known_of c.args.checker.now)) _ _ c.in_err-first.ensures refl)) (sym (ap (λ e. barely e (known_of c.args.checker.now)) (show_expr c.args.expr.now) ∙ judged_listed (map next_assign_of (out-Expr c.args.expr.now).others.items) (assign_of (out-Expr c.args.expr.now).first) (known_of c.args.checker.now))))

pub commas-returns : goal.commas-returns
commas-returns t c = ends term_of _ _ _ _ (answers_bare _ _ _ (ends term_of _ _ _ _ c.sequence.ensures (goes (λ t. sequenced_from t (map next_assign_of c.deref.result.now)) (judged (assign_of (out-Expr c.args.expr.now).first) (known_of c.args.checker.now)) _ _ _ c.in_ok-first.ensures refl))) (sym (ap (λ e. barely e (known_of c.args.checker.now)) (show_expr c.args.expr.now ∙ ap (λ l. listed (assign_of (out-Expr c.args.expr.now).first) (map next_assign_of l)) (sym c.deref.ensures.value)) ∙ judged_listed (map next_assign_of c.deref.result.now) (assign_of (out-Expr c.args.expr.now).first) (known_of c.args.checker.now)))

pub arguments-returns-in_err-first : goal.arguments-returns-in_err-first
arguments-returns-in_err-first t c =
    let p = err_from_is_err_and c.from_residual.result c.from_residual.ensures.1 in
    rw (p.1, p.2) (refuses_as _ _ _ (stops (λ t. spread t (map next_assign_of (out-Expr c.args.list.now).others.items)) (judged (assign_of (out-Expr c.args.list.now).first) (known_of c.args.checker.now)) _ _ c.in_err-first.ensures refl) (sym (ap (λ e. arguments_read e (known_of c.args.checker.now)) (show_expr c.args.list.now) ∙ spread_whole (map next_assign_of (out-Expr c.args.list.now).others.items) (assign_of (out-Expr c.args.list.now).first) (known_of c.args.checker.now))))

pub arguments-returns-in_err-first-2 : goal.arguments-returns-in_err-first-2
arguments-returns-in_err-first-2 t c =
    let p = err_from_is_err_and c.from_residual-in_err-first-2.result c.from_residual-in_err-first-2.ensures.1 in
    rw (p.1, p.2) (stops _ _ _ _ c.in_err-first-2.ensures (sym (ap (λ e. arguments_read e (known_of c.args.checker.now)) (show_expr c.args.list.now) ∙ judged_arguments (map next_assign_of (out-Expr c.args.list.now).others.items) (assign_of (out-Expr c.args.list.now).first) (known_of c.args.checker.now) _ (term_of c.in_ok-first.first) c.in_ok-first.ensures)))

pub arguments-returns : goal.arguments-returns
arguments-returns t c = ends operands_in _ _ _ _ c.further_arguments.ensures (goes _ _ _ _ _ c.in_ok-first-2.ensures (sym (ap (λ e. arguments_read e (known_of c.args.checker.now)) (show_expr c.args.list.now ∙ ap (λ l. listed (assign_of (out-Expr c.args.list.now).first) (map next_assign_of l)) (sym c.deref.ensures.value)) ∙ judged_arguments (map next_assign_of c.deref.result.now) (assign_of (out-Expr c.args.list.now).first) (known_of c.args.checker.now) _ (term_of c.in_ok-first.first) c.in_ok-first.ensures)))

pub operands-returns-in-Operand : goal.operands-returns-in-Operand
operands-returns-in-Operand t c = ends term_of _ _ _ _ c.cast.ensures (sym (ap (λ e. judged e (known_of c.args.checker.now)) (ap binary_of c.in-Operand.is ∙ show_binary_operand c.in-Operand.operand)))

pub operands-returns-in_err-left-in-Chain : goal.operands-returns-in_err-left-in-Chain
operands-returns-in_err-left-in-Chain t c =
    let p = err_from_is_err_and c.from_residual.result c.from_residual.ensures.1 in
    rw (p.1, p.2) (stops _ _ _ _ c.in_err-left-in-Chain.ensures (sym (ap (λ e. judged e (known_of c.args.checker.now)) (ap binary_of c.in-Chain.is ∙ show_binary_chain c.in-Chain.first c.in-Chain.others ∙ ap (λ b. joined (binary_of b) (map next_operand_of c.in-Chain.others.items)) (sym c.deref.ensures)) ∙ judged_joined (map next_operand_of c.in-Chain.others.items) (binary_of c.deref.result.now) (known_of c.args.checker.now))))

pub operands-returns-in_ok-left-in-Chain : goal.operands-returns-in_ok-left-in-Chain
operands-returns-in_ok-left-in-Chain t c = ends term_of _ _ _ _ c.chain.ensures (goes _ _ _ _ _ c.in_ok-left-in-Chain.ensures (sym (ap (λ e. judged e (known_of c.args.checker.now)) ((ap binary_of c.in-Chain.is ∙ show_binary_chain c.in-Chain.first c.in-Chain.others ∙ ap (λ b. joined (binary_of b) (map next_operand_of c.in-Chain.others.items)) (sym c.deref.ensures)) ∙ ap (λ l. joined (binary_of c.deref.result.now) (map next_operand_of l)) (sym c.deref-in-Chain.ensures.value)) ∙ judged_joined (map next_operand_of c.deref-in-Chain.result.now) (binary_of c.deref.result.now) (known_of c.args.checker.now))))

pub operand-returns-in-Postfix : goal.operand-returns-in-Postfix
operand-returns-in-Postfix t c = ends term_of _ _ _ _ c.postfix.ensures (sym (ap (λ e. judged e (known_of c.args.checker.now)) (ap tree_operand_of c.in-Postfix.is ∙ show_operand_postfix c.in-Postfix.postfix)))

pub operand-returns-in-SizeofType : goal.operand-returns-in-SizeofType
operand-returns-in-SizeofType t c = ends term_of _ _ _ _ (measured_as _ _ _ c.in-SizeofType.opening _ c.in-SizeofType.closing _ c.size_of_name.ensures) (sym (ap (λ e. judged e (known_of c.args.checker.now)) (ap tree_operand_of c.in-SizeofType.is ∙ show_operand_sizeof_type c.in-SizeofType.keyword c.in-SizeofType.opening c.in-SizeofType.type_name c.in-SizeofType.closing ∙ ap (λ n. tree.Measure c.in-SizeofType.keyword c.in-SizeofType.opening (type_name_of n) c.in-SizeofType.closing) (sym c.deref.ensures))))

pub primary-returns-in-Name : goal.primary-returns-in-Name
primary-returns-in-Name t c = ends term_of _ _ _ _ (c.named.ensures (known_of c.args.checker.now)) (sym (ap (λ e. judged e (known_of c.args.checker.now)) (ap primary_of c.in-Name.is ∙ show_primary_name c.in-Name.name) ∙ ap (λ r. r (known_of c.args.checker.now)) (judged_leaf (named c.in-Name.name))))

pub primary-returns-in-Constant : goal.primary-returns-in-Constant
primary-returns-in-Constant t c = ap (λ e. judged e (known_of c.args.checker.now)) (ap primary_of c.in-Constant.is ∙ show_primary_constant c.in-Constant.constant) ∙ ap (λ r. r (known_of c.args.checker.now)) (judged_leaf (spell_constant c.in-Constant.constant)) ∙ c.constant_term.ensures (known_of c.args.checker.now)

pub primary-returns-in_err-term-in-Group : goal.primary-returns-in_err-term-in-Group
primary-returns-in_err-term-in-Group t c =
    let p = err_from_is_err_and c.from_residual.result c.from_residual.ensures.1 in
    rw (p.1, p.2) (stops _ _ _ _ c.in_err-term-in-Group.ensures (sym (ap (λ e. judged e (known_of c.args.checker.now)) (ap primary_of c.in-Group.is ∙ show_primary_group c.in-Group.opening c.in-Group.inner c.in-Group.closing ∙ ap (λ i. tree.Group c.in-Group.opening (expr_of i) c.in-Group.closing) (sym c.deref.ensures)) ∙ judged_group c.in-Group.opening (expr_of c.deref.result.now) c.in-Group.closing (known_of c.args.checker.now) ∙ sym (unseen (λ u. given (bracketed u c.in-Group.opening)) (λ u k. bracketed_bare u c.in-Group.opening k) (judged (expr_of c.deref.result.now) (known_of c.args.checker.now))))))

pub primary-returns-in_ok-term-in-Group : goal.primary-returns-in_ok-term-in-Group
primary-returns-in_ok-term-in-Group t c = sym (goes _ _ _ _ _ c.in_ok-term-in-Group.ensures (sym (ap (λ e. judged e (known_of c.args.checker.now)) (ap primary_of c.in-Group.is ∙ show_primary_group c.in-Group.opening c.in-Group.inner c.in-Group.closing ∙ ap (λ i. tree.Group c.in-Group.opening (expr_of i) c.in-Group.closing) (sym c.deref.ensures)) ∙ judged_group c.in-Group.opening (expr_of c.deref.result.now) c.in-Group.closing (known_of c.args.checker.now) ∙ sym (unseen (λ u. given (bracketed u c.in-Group.opening)) (λ u k. bracketed_bare u c.in-Group.opening k) (judged (expr_of c.deref.result.now) (known_of c.args.checker.now)))))) ∙ ap (λ u. Ok (u, known_of c.expression.new.checker)) (sym c.grouped.ensures)

pub sequence-returns-in_err-right : goal.sequence-returns-in_err-right
sequence-returns-in_err-right t c =
    let p = err_from_is_err_and c.from_residual-in_err-right.result c.from_residual-in_err-right.ensures.1 in
    rw (p.1, p.2) (stops _ _ _ _ c.in_err-right.ensures (goes _ _ _ _ _ c.in_ok-dropped.ensures (next_of (λ bs. sequenced_from (term_of c.loop-next.left) bs (known_of c.loop-next.checker)) next_assign_of _ _ c.next-item.result _ _ c.loop-next-test.true c.next-item.is refl c.loop-next.invariant)))

pub sequence-returns-in_err-right-2 : goal.sequence-returns-in_err-right-2
sequence-returns-in_err-right-2 t c =
    let p = err_from_is_err_and c.from_residual-in_err-right-2.result c.from_residual-in_err-right-2.ensures.1 in
    rw (p.1, p.2) (stops _ _ _ _ c.in_err-right-2.ensures (goes _ _ _ _ _ c.in_ok-right.ensures (goes _ _ _ _ _ c.in_ok-dropped.ensures (next_of (λ bs. sequenced_from (term_of c.loop-next.left) bs (known_of c.loop-next.checker)) next_assign_of _ _ c.next-item.result _ _ c.loop-next-test.true c.next-item.is refl c.loop-next.invariant))))

pub sequence-returns-in_err-left : goal.sequence-returns-in_err-left
sequence-returns-in_err-left t c =
    let p = err_from_is_err_and c.from_residual-in_err-left.result c.from_residual-in_err-left.ensures.1 in
    rw (p.1, p.2) (stops (λ u. sequenced_from u (map next_assign_of (drop (c.loop-next.next-index + 1) c.args.others.now))) _ _ _ (c.in_err-left.ensures (known_of c.used-in-loop-next.new.checker)) (goes _ _ _ _ _ c.in_ok-right-2.ensures (goes _ _ _ _ _ c.in_ok-right.ensures (goes _ _ _ _ _ c.in_ok-dropped.ensures (next_of (λ bs. sequenced_from (term_of c.loop-next.left) bs (known_of c.loop-next.checker)) next_assign_of _ _ c.next-item.result _ _ c.loop-next-test.true c.next-item.is refl c.loop-next.invariant)))))

pub sequence-loop-next-preserved : goal.sequence-loop-next-preserved
sequence-loop-next-preserved t c = goes (λ u. sequenced_from u (map next_assign_of (drop (c.loop-next.next-index + 1) c.args.others.now))) _ _ _ _ (c.in_ok-left.ensures (known_of c.used-in-loop-next.new.checker)) (goes _ _ _ _ _ c.in_ok-right-2.ensures (goes _ _ _ _ _ c.in_ok-right.ensures (goes _ _ _ _ _ c.in_ok-dropped.ensures (next_of (λ bs. sequenced_from (term_of c.loop-next.left) bs (known_of c.loop-next.checker)) next_assign_of _ _ c.next-item.result _ _ c.loop-next-test.true c.next-item.is refl c.loop-next.invariant))))

pub places-returns-in_err-term : goal.places-returns-in_err-term
places-returns-in_err-term t c =
    let p = err_from_is_err_and c.from_residual.result c.from_residual.ensures.1 in
    rw (p.1, p.2) (stops _ _ _ _ c.in_err-term.ensures (next_of (λ bs. sides_from (map side_in c.loop-target.places.items) bs (known_of c.loop-target.checker)) target_of _ _ c.target-item.result _ _ c.loop-target-test.true c.target-item.is refl c.loop-target.invariant))

pub places-returns-in_err-refuse_table : goal.places-returns-in_err-refuse_table
places-returns-in_err-refuse_table t c =
    let p = err_from_is_err_and c.from_residual-in_err-refuse_table.result c.from_residual-in_err-refuse_table.ensures.1 in
    rw (p.1, p.2) (stops _ _ _ _ (c.in_err-refuse_table.ensures (known_of c.cast.new.checker)) (goes _ _ _ _ _ c.in_ok-term.ensures (next_of (λ bs. sides_from (map side_in c.loop-target.places.items) bs (known_of c.loop-target.checker)) target_of _ _ c.target-item.result _ _ c.loop-target-test.true c.target-item.is refl c.loop-target.invariant)))

pub places-loop-target-preserved : goal.places-loop-target-preserved
places-loop-target-preserved t c = pushed sides_from side_in c.loop-target.places.items _ _ _ _ _ c.in_ok-push.ensures.items (goes _ _ _ _ _ (c.in_ok-refuse_table.ensures (known_of c.cast.new.checker)) (goes _ _ _ _ _ c.in_ok-term.ensures (next_of (λ bs. sides_from (map side_in c.loop-target.places.items) bs (known_of c.loop-target.checker)) target_of _ _ c.target-item.result _ _ c.loop-target-test.true c.target-item.is refl c.loop-target.invariant)))

pub choices-returns-in_err-condition : goal.choices-returns-in_err-condition
choices-returns-in_err-condition t c =
    let p = err_from_is_err_and c.from_residual.result c.from_residual.ensures.1 in
    rw (p.1, p.2) (stops _ _ _ _ c.in_err-condition.ensures (choice_read _ (binary_of (out-Choice c.choice-item.result).condition, (out-Choice c.choice-item.result).question, expr_of (out-Choice c.choice-item.result).then.value, (out-Choice c.choice-item.result).colon) _ _ _ (next_of (λ bs. choices_from (map choice_in c.loop-choice.chosen.items) bs (known_of c.loop-choice.checker)) choice_of _ _ c.choice-item.result _ _ c.loop-choice-test.true c.choice-item.is (show_choice c.choice-item.result) c.loop-choice.invariant)))

pub choices-returns-in_err-then : goal.choices-returns-in_err-then
choices-returns-in_err-then t c =
    let p = err_from_is_err_and c.from_residual-in_err-then.result c.from_residual-in_err-then.ensures.1 in
    rw (p.1, p.2) (stops _ _ _ _ c.in_err-then.ensures (goes _ _ _ _ _ c.in_ok-condition.ensures (choice_read _ (binary_of (out-Choice c.choice-item.result).condition, (out-Choice c.choice-item.result).question, expr_of c.deref.result.now, (out-Choice c.choice-item.result).colon) _ _ _ (next_of (λ bs. choices_from (map choice_in c.loop-choice.chosen.items) bs (known_of c.loop-choice.checker)) choice_of _ _ c.choice-item.result _ _ c.loop-choice-test.true c.choice-item.is (show_choice c.choice-item.result ∙ ap (λ b. (binary_of (out-Choice c.choice-item.result).condition, (out-Choice c.choice-item.result).question, expr_of b, (out-Choice c.choice-item.result).colon)) (sym c.deref.ensures)) c.loop-choice.invariant))))

pub choices-loop-choice-preserved : goal.choices-loop-choice-preserved
choices-loop-choice-preserved t c = pushed choices_from choice_in c.loop-choice.chosen.items _ _ _ _ _ c.in_ok-push.ensures.items (goes _ _ _ _ _ c.in_ok-then.ensures (goes _ _ _ _ _ c.in_ok-condition.ensures (choice_read _ (binary_of (out-Choice c.choice-item.result).condition, (out-Choice c.choice-item.result).question, expr_of c.deref.result.now, (out-Choice c.choice-item.result).colon) _ _ _ (next_of (λ bs. choices_from (map choice_in c.loop-choice.chosen.items) bs (known_of c.loop-choice.checker)) choice_of _ _ c.choice-item.result _ _ c.loop-choice-test.true c.choice-item.is (show_choice c.choice-item.result ∙ ap (λ b. (binary_of (out-Choice c.choice-item.result).condition, (out-Choice c.choice-item.result).question, expr_of b, (out-Choice c.choice-item.result).colon)) (sym c.deref.ensures)) c.loop-choice.invariant))))

pub condition-returns-in_err-term : goal.condition-returns-in_err-term
condition-returns-in_err-term t c =
    let p = err_from_is_err_and c.from_residual.result c.from_residual.ensures.1 in
    rw (p.1, p.2) (stops (λ t. used t) (judged (binary_of c.args.binary.now) (known_of c.args.checker.now)) _ _ c.in_err-term.ensures refl)

pub condition-returns : goal.condition-returns
condition-returns t c = ends boxed _ _ _ _ c.kept.ensures (goes (λ t. used t) (judged (binary_of c.args.binary.now) (known_of c.args.checker.now)) _ _ _ c.in_ok-term.ensures refl)

pub consequence-returns-in_err-term : goal.consequence-returns-in_err-term
consequence-returns-in_err-term t c =
    let p = err_from_is_err_and c.from_residual.result c.from_residual.ensures.1 in
    rw (p.1, p.2) (stops (λ t. used t) (barely (expr_of c.args.expr.now) (known_of c.args.checker.now)) _ _ c.in_err-term.ensures refl)

pub consequence-returns : goal.consequence-returns
consequence-returns t c = ends boxed _ _ _ _ c.kept.ensures (goes (λ t. used t) (barely (expr_of c.args.expr.now) (known_of c.args.checker.now)) _ _ _ c.in_ok-term.ensures refl)

pub choose-returns-in_err-last : goal.choose-returns-in_err-last
choose-returns-in_err-last t c =
    let p = err_from_is_err_and c.from_residual.result c.from_residual.ensures.1 in
    rw (p.1, p.2) (stops (λ value. chosen_back (map choice_in c.args.choices.items) value) (judged (binary_of c.args.last.now) (known_of c.args.checker.now)) _ _ c.in_err-last.ensures refl)

pub choose-returns : goal.choose-returns
choose-returns t c = ends term_of _ _ _ _ c.choose_all.ensures (goes (λ value. chosen_back (map choice_in c.args.choices.items) value) (judged (binary_of c.args.last.now) (known_of c.args.checker.now)) _ _ _ c.in_ok-last.ensures refl)

pub chain-returns-in_err-b : goal.chain-returns-in_err-b
chain-returns-in_err-b t c =
    let p = err_from_is_err_and c.from_residual-in_err-b.result c.from_residual-in_err-b.ensures.1 in
    rw (p.1, p.2) (stops _ _ _ _ c.in_err-b.ensures (goes _ _ _ _ _ c.in_ok-a.ensures (next_of (λ bs. combined_from (term_of c.loop-next.left) bs (known_of c.loop-next.checker)) next_operand_of _ _ c.next-item.result _ _ c.loop-next-test.true c.next-item.is refl c.loop-next.invariant)))

pub chain-returns-in_err-b-2 : goal.chain-returns-in_err-b-2
chain-returns-in_err-b-2 t c =
    let p = err_from_is_err_and c.from_residual-in_err-b-2.result c.from_residual-in_err-b-2.ensures.1 in
    rw (p.1, p.2) (stops _ _ _ _ c.in_err-b-2.ensures (goes _ _ _ _ _ c.in_ok-b.ensures (goes _ _ _ _ _ c.in_ok-a.ensures (next_of (λ bs. combined_from (term_of c.loop-next.left) bs (known_of c.loop-next.checker)) next_operand_of _ _ c.next-item.result _ _ c.loop-next-test.true c.next-item.is refl c.loop-next.invariant))))

pub chain-returns-in_err-left : goal.chain-returns-in_err-left
chain-returns-in_err-left t c =
    let p = err_from_is_err_and c.from_residual-in_err-left.result c.from_residual-in_err-left.ensures.1 in
    rw (p.1, p.2) (stops _ _ _ _ (c.in_err-left.ensures (known_of c.used-in-loop-next.new.checker)) (goes _ _ _ _ _ c.in_ok-b-2.ensures (goes _ _ _ _ _ c.in_ok-b.ensures (goes _ _ _ _ _ c.in_ok-a.ensures (next_of (λ bs. combined_from (term_of c.loop-next.left) bs (known_of c.loop-next.checker)) next_operand_of _ _ c.next-item.result _ _ c.loop-next-test.true c.next-item.is refl c.loop-next.invariant)))))

pub chain-loop-next-preserved : goal.chain-loop-next-preserved
chain-loop-next-preserved t c = alone _ c.next-item.result.0.no_comma _ _ _ _ _ _ _ (goes _ _ _ _ _ (c.in_ok-left.ensures (known_of c.used-in-loop-next.new.checker)) (goes _ _ _ _ _ c.in_ok-b-2.ensures (goes _ _ _ _ _ c.in_ok-b.ensures (goes _ _ _ _ _ c.in_ok-a.ensures (next_of (λ bs. combined_from (term_of c.loop-next.left) bs (known_of c.loop-next.checker)) next_operand_of _ _ c.next-item.result _ _ c.loop-next-test.true c.next-item.is refl c.loop-next.invariant)))))

pub further_arguments-returns-in_err-argument : goal.further_arguments-returns-in_err-argument
further_arguments-returns-in_err-argument t c =
    let p = err_from_is_err_and c.from_residual-in_err-argument.result c.from_residual-in_err-argument.ensures.1 in
    rw (p.1, p.2) (stops _ _ _ _ c.in_err-argument.ensures (next_of (λ bs. arguments_from (map operand_of c.loop-next.arguments.items) bs (known_of c.loop-next.checker)) next_assign_of _ _ c.next-item.result _ _ c.loop-next-test.true c.next-item.is refl c.loop-next.invariant))

pub further_arguments-returns-in_err-used : goal.further_arguments-returns-in_err-used
further_arguments-returns-in_err-used t c =
    let p = err_from_is_err_and c.from_residual-in_err-used.result c.from_residual-in_err-used.ensures.1 in
    rw (p.1, p.2) (stops _ _ _ _ c.in_err-used.ensures (goes _ _ _ _ _ c.in_ok-argument.ensures (next_of (λ bs. arguments_from (map operand_of c.loop-next.arguments.items) bs (known_of c.loop-next.checker)) next_assign_of _ _ c.next-item.result _ _ c.loop-next-test.true c.next-item.is refl c.loop-next.invariant)))

pub further_arguments-loop-next-preserved : goal.further_arguments-loop-next-preserved
further_arguments-loop-next-preserved t c = pushed arguments_from operand_of c.loop-next.arguments.items _ _ _ _ _ c.in_ok-push-2.ensures.items (goes _ _ _ _ _ c.in_ok-used.ensures (goes _ _ _ _ _ c.in_ok-argument.ensures (next_of (λ bs. arguments_from (map operand_of c.loop-next.arguments.items) bs (known_of c.loop-next.checker)) next_assign_of _ _ c.next-item.result _ _ c.loop-next-test.true c.next-item.is refl c.loop-next.invariant)))

pub suffix-returns-in_err-whole-in-Index : goal.suffix-returns-in_err-whole-in-Index
suffix-returns-in_err-whole-in-Index t c =
    let p = err_from_is_err_and c.from_residual.result c.from_residual.ensures.1 in
    rw (p.1, p.2) (stops _ _ _ _ (c.in_err-whole-in-Index.ensures (known_of c.args.checker.now)) (sym (ap (λ e. judged_behind e (term_of c.args.term) (known_of c.args.checker.now)) (ap postfix_suffix_of c.in-Index.is ∙ show_postfix_suffix_index c.in-Index.opening c.in-Index.index c.in-Index.closing) ∙ behind_index c.in-Index.opening (expr_of c.in-Index.index.value) c.in-Index.closing (term_of c.args.term) (known_of c.args.checker.now))))

pub suffix-returns-in_err-index-in-Index : goal.suffix-returns-in_err-index-in-Index
suffix-returns-in_err-index-in-Index t c =
    let p = err_from_is_err_and c.from_residual-in_err-index-in-Index.result c.from_residual-in_err-index-in-Index.ensures.1 in
    rw (p.1, p.2) (stops _ _ _ _ c.in_err-index-in-Index.ensures (unseen_index (term_of c.in_ok-whole-in-Index.whole) (judged (expr_of c.deref.result.now) (known_of (record c.args.checker.now { types = c.indexable.new.types }))) (goes _ _ _ _ _ (c.in_ok-whole-in-Index.ensures (known_of c.args.checker.now)) (sym (ap (λ e. judged_behind e (term_of c.args.term) (known_of c.args.checker.now)) (ap postfix_suffix_of c.in-Index.is ∙ show_postfix_suffix_index c.in-Index.opening c.in-Index.index c.in-Index.closing ∙ ap (λ i. tree.Index c.in-Index.opening (expr_of i) c.in-Index.closing) (sym c.deref.ensures)) ∙ behind_index c.in-Index.opening (expr_of c.deref.result.now) c.in-Index.closing (term_of c.args.term) (known_of c.args.checker.now))))))

pub suffix-returns-in_ok-index-in-Index : goal.suffix-returns-in_ok-index-in-Index
suffix-returns-in_ok-index-in-Index t c = ends term_of _ _ _ _ (c.element.ensures (known_of c.expression.new.checker)) (goes _ _ _ _ _ c.in_ok-index-in-Index.ensures (unseen_index (term_of c.in_ok-whole-in-Index.whole) (judged (expr_of c.deref.result.now) (known_of (record c.args.checker.now { types = c.indexable.new.types }))) (goes _ _ _ _ _ (c.in_ok-whole-in-Index.ensures (known_of c.args.checker.now)) (sym (ap (λ e. judged_behind e (term_of c.args.term) (known_of c.args.checker.now)) (ap postfix_suffix_of c.in-Index.is ∙ show_postfix_suffix_index c.in-Index.opening c.in-Index.index c.in-Index.closing ∙ ap (λ i. tree.Index c.in-Index.opening (expr_of i) c.in-Index.closing) (sym c.deref.ensures)) ∙ behind_index c.in-Index.opening (expr_of c.deref.result.now) c.in-Index.closing (term_of c.args.term) (known_of c.args.checker.now))))))

pub suffix-returns-in-Member : goal.suffix-returns-in-Member
suffix-returns-in-Member t c = ends term_of _ _ _ _ c.selected.ensures (ap (λ l. selected (kinds.Punct c.in-Member.operator.punct) (term_of c.args.term) l (known_of c.args.checker.now)) c.deref-in-Member.ensures.value ∙ sym (ap (λ e. judged_behind e (term_of c.args.term) (known_of c.args.checker.now)) (ap postfix_suffix_of c.in-Member.is ∙ show_postfix_suffix_member c.in-Member.operator c.in-Member.name) ∙ ap (λ r. r (known_of c.args.checker.now)) (behind_field (signed c.in-Member.operator) (named c.in-Member.name) (term_of c.args.term))))

pub suffix-returns-in-Step : goal.suffix-returns-in-Step
suffix-returns-in-Step t c = ends term_of _ _ _ _ (c.stepped.ensures (known_of c.args.checker.now)) (ap (λ o. stepped o (term_of c.args.term) c.args.term.start (known_of c.args.checker.now)) c.step_behind.ensures ∙ sym (ap (λ e. judged_behind e (term_of c.args.term) (known_of c.args.checker.now)) (ap postfix_suffix_of c.in-Step.is ∙ show_postfix_suffix_step c.in-Step.sign) ∙ ap (λ r. r (known_of c.args.checker.now)) (behind_step (signed c.in-Step.sign) (term_of c.args.term))))

pub suffix-returns-in_err-refuse_undefined-in-Some : goal.suffix-returns-in_err-refuse_undefined-in-Some
suffix-returns-in_err-refuse_undefined-in-Some t c =
    let p = err_from_is_err_and c.from_residual-in_err-refuse_undefined-in-Some.result c.from_residual-in_err-refuse_undefined-in-Some.ensures.1 in
    rw (p.1, p.2) (stops _ _ _ _ c.in_err-refuse_undefined-in-Some.ensures (sym (ap (λ e. judged_behind e (term_of c.args.term) (known_of c.args.checker.now)) (ap postfix_suffix_of (c.in-Call.is ∙ ap (λ a. PostfixSuffix.Call c.in-Call.opening a c.in-Call.closing) c.in-Some.is) ∙ show_postfix_suffix_call c.in-Call.opening c.in-Some.list c.in-Call.closing) ∙ behind_call c.in-Call.opening (expr_of c.in-Some.list.value) c.in-Call.closing (term_of c.args.term) (known_of c.args.checker.now))))

pub suffix-returns-in_err-list-in-Some : goal.suffix-returns-in_err-list-in-Some
suffix-returns-in_err-list-in-Some t c =
    let p = err_from_is_err_and c.from_residual-in_err-list-in-Some.result c.from_residual-in_err-list-in-Some.ensures.1 in
    rw (p.1, p.2) (stops _ _ _ _ c.in_err-list-in-Some.ensures (goes _ _ _ _ _ c.in_ok-refuse_undefined-in-Some.ensures (sym (ap (λ e. judged_behind e (term_of c.args.term) (known_of c.args.checker.now)) (ap postfix_suffix_of (c.in-Call.is ∙ ap (λ a. PostfixSuffix.Call c.in-Call.opening a c.in-Call.closing) c.in-Some.is) ∙ show_postfix_suffix_call c.in-Call.opening c.in-Some.list c.in-Call.closing ∙ ap (λ i. tree.Call c.in-Call.opening (expr_of i) c.in-Call.closing) (sym c.deref-in-Some.ensures)) ∙ behind_call c.in-Call.opening (expr_of c.deref-in-Some.result.now) c.in-Call.closing (term_of c.args.term) (known_of c.args.checker.now)))))

pub suffix-returns-in_ok-list-in-Some : goal.suffix-returns-in_ok-list-in-Some
suffix-returns-in_ok-list-in-Some t c = ends term_of _ _ _ _ c.call.ensures (goes _ _ _ _ _ c.in_ok-list-in-Some.ensures (goes _ _ _ _ _ c.in_ok-refuse_undefined-in-Some.ensures (sym (ap (λ e. judged_behind e (term_of c.args.term) (known_of c.args.checker.now)) (ap postfix_suffix_of (c.in-Call.is ∙ ap (λ a. PostfixSuffix.Call c.in-Call.opening a c.in-Call.closing) c.in-Some.is) ∙ show_postfix_suffix_call c.in-Call.opening c.in-Some.list c.in-Call.closing ∙ ap (λ i. tree.Call c.in-Call.opening (expr_of i) c.in-Call.closing) (sym c.deref-in-Some.ensures)) ∙ behind_call c.in-Call.opening (expr_of c.deref-in-Some.result.now) c.in-Call.closing (term_of c.args.term) (known_of c.args.checker.now)))))

pub suffix-returns-in_err-refuse_undefined-in-None : goal.suffix-returns-in_err-refuse_undefined-in-None
suffix-returns-in_err-refuse_undefined-in-None t c =
    let p = err_from_is_err_and c.from_residual-in_err-refuse_undefined-in-None.result c.from_residual-in_err-refuse_undefined-in-None.ensures.1 in
    rw (p.1, p.2) (stops _ _ _ _ c.in_err-refuse_undefined-in-None.ensures (sym (ap (λ e. judged_behind e (term_of c.args.term) (known_of c.args.checker.now)) (ap postfix_suffix_of (c.in-Call.is ∙ ap (λ a. PostfixSuffix.Call c.in-Call.opening a c.in-Call.closing) c.in-None.is) ∙ show_postfix_suffix_call_bare c.in-Call.opening c.in-Call.closing) ∙ behind_bare_call c.in-Call.opening c.in-Call.closing (term_of c.args.term) (known_of c.args.checker.now))))

pub suffix-returns-in_ok-refuse_undefined-in-None : goal.suffix-returns-in_ok-refuse_undefined-in-None
suffix-returns-in_ok-refuse_undefined-in-None t c = ends term_of _ _ _ _ c.call-in-None.ensures (ap (λ l. call (term_of c.args.term) (map operand_of l) (known_of c.args.checker.now)) c.new.ensures.items ∙ goes _ _ _ _ _ c.in_ok-refuse_undefined-in-None.ensures (sym (ap (λ e. judged_behind e (term_of c.args.term) (known_of c.args.checker.now)) (ap postfix_suffix_of (c.in-Call.is ∙ ap (λ a. PostfixSuffix.Call c.in-Call.opening a c.in-Call.closing) c.in-None.is) ∙ show_postfix_suffix_call_bare c.in-Call.opening c.in-Call.closing) ∙ behind_bare_call c.in-Call.opening c.in-Call.closing (term_of c.args.term) (known_of c.args.checker.now))))
