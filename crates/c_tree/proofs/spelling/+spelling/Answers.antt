use Rattle.std.proofs.Common.{◌∷◌, [], ◌++◌}
use Rattle.c_token.specs.declared.token.Punct.TheVariants.{RightParenthesis, RightBrace, Semicolon}
use Rattle.c_nodes.specs.Words.{punct, spelled_comma}
use Rattle.c_tree.specs.Spelling.{spell_binary, spell_choice, spell_cond, spell_member, spell_next_assign, spell_next_declarator, spell_next_enumerator, spell_next_operand, spell_next_param, spell_operand, spell_postfix_suffix, spell_prefix, spell_spec, spell_suffix, spell_target}
use Rattle.c_nodes.specs.declared.expression.Binary.TheViews.{out-Assign, out-Cond, out-Cast, out-EnumBody}
use Rattle.c_tree.proofs.Append.{one_more, one_more_before}
use Rattle.c_tree.proofs.spelling.+spelling.Goals as goal

pub put_specs-loop-spec-preserved : goal.put_specs-loop-spec-preserved
put_specs-loop-spec-preserved t c = one_more spell_spec _ _ c.spec-item.result _ _ _ c.loop-spec-test.true c.spec-item.is c.in_ok-put_spec-2.ensures c.loop-spec.invariant

pub put_struct_body-loop-member-preserved : goal.put_struct_body-loop-member-preserved
put_struct_body-loop-member-preserved t c = one_more_before spell_member _ _ c.member-item.result (punct RightBrace 0 ∷ []) _ _ _ c.loop-member-test.true c.member-item.is c.in_ok-put_member-2.ensures c.loop-member.invariant

pub put_enum_body-loop-next-preserved : goal.put_enum_body-loop-next-preserved
put_enum_body-loop-next-preserved t c = one_more_before spell_next_enumerator _ _ c.next-item.result (spelled_comma (out-EnumBody c.args.enum_body.now).last_comma ++ punct RightBrace 0 ∷ []) _ _ _ c.loop-next-test.true c.next-item.is c.in_ok-put_next_enumerator.ensures c.loop-next.invariant

pub put_member-loop-next-preserved : goal.put_member-loop-next-preserved
put_member-loop-next-preserved t c = one_more_before spell_next_declarator _ _ c.next-item.result (punct Semicolon 0 ∷ []) _ _ _ c.loop-next-test.true c.next-item.is c.in_ok-put_next_declarator.ensures c.loop-next.invariant

pub put_declarator-loop-suffix-preserved : goal.put_declarator-loop-suffix-preserved
put_declarator-loop-suffix-preserved t c = one_more spell_suffix _ _ c.suffix-item.result _ _ _ c.loop-suffix-test.true c.suffix-item.is c.in_ok-put_suffix.ensures c.loop-suffix.invariant

pub put_suffix-loop-next-preserved : goal.put_suffix-loop-next-preserved
put_suffix-loop-next-preserved t c = one_more_before spell_next_param _ _ c.next-item.result (punct RightParenthesis 0 ∷ []) _ _ _ c.loop-next-test.true c.next-item.is c.in_ok-put_next_param-in-Params.ensures c.loop-next.invariant

pub put_param-loop-suffix-preserved : goal.put_param-loop-suffix-preserved
put_param-loop-suffix-preserved t c = one_more spell_suffix _ _ c.suffix-item.result _ _ _ c.loop-suffix-test.true c.suffix-item.is c.in_ok-put_suffix-in-Unnamed.ensures c.loop-suffix.invariant

pub put_expr-loop-next-preserved : goal.put_expr-loop-next-preserved
put_expr-loop-next-preserved t c = one_more spell_next_assign _ _ c.next-item.result _ _ _ c.loop-next-test.true c.next-item.is c.in_ok-put_next_assign.ensures c.loop-next.invariant

pub put_assign-loop-target-preserved : goal.put_assign-loop-target-preserved
put_assign-loop-target-preserved t c = one_more_before spell_target _ _ c.target-item.result (spell_cond (out-Assign c.args.assign.now).value) _ _ _ c.loop-target-test.true c.target-item.is c.in_ok-put_target.ensures c.loop-target.invariant

pub put_cond-loop-choice-preserved : goal.put_cond-loop-choice-preserved
put_cond-loop-choice-preserved t c = one_more_before spell_choice _ _ c.choice-item.result (spell_binary (out-Cond c.args.cond.now).last) _ _ _ c.loop-choice-test.true c.choice-item.is c.in_ok-put_choice.ensures c.loop-choice.invariant

pub put_binary-loop-next-preserved : goal.put_binary-loop-next-preserved
put_binary-loop-next-preserved t c = one_more spell_next_operand _ _ c.next-item.result _ _ _ c.loop-next-test.true c.next-item.is c.in_ok-put_next_operand-in-Chain.ensures c.loop-next.invariant

pub put_cast-loop-prefix-preserved : goal.put_cast-loop-prefix-preserved
put_cast-loop-prefix-preserved t c = one_more_before spell_prefix _ _ c.prefix-item.result (spell_operand (out-Cast c.args.cast.now).operand) _ _ _ c.loop-prefix-test.true c.prefix-item.is c.in_ok-put_prefix.ensures c.loop-prefix.invariant

pub put_postfix-loop-suffix-preserved : goal.put_postfix-loop-suffix-preserved
put_postfix-loop-suffix-preserved t c = one_more spell_postfix_suffix _ _ c.suffix-item.result _ _ _ c.loop-suffix-test.true c.suffix-item.is c.in_ok-put_postfix_suffix.ensures c.loop-suffix.invariant
