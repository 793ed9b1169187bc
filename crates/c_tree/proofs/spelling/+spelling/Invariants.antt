use Rattle.std.proofs.Common.{◌≡◌, ◌++◌, ◌∷◌, [], drop, map}
use Rattle.c_token.specs.declared.token.Punct.TheVariants.{RightParenthesis, RightBrace, Semicolon}
use Rattle.c_nodes.specs.Words.{kinds_of, flat, punct, spelled_comma}
use Rattle.c_tree.specs.Spelling.{spell_assign, spell_binary, spell_cast, spell_choice, spell_cond, spell_declarator, spell_enum_body, spell_expr, spell_member, spell_next_assign, spell_next_declarator, spell_next_enumerator, spell_next_operand, spell_next_param, spell_operand, spell_param, spell_postfix, spell_postfix_suffix, spell_prefix, spell_spec, spell_specs, spell_struct_body, spell_suffix, spell_target}
use Rattle.c_nodes.specs.declared.expression.Binary.TheViews.{out-Assign, out-Cond, out-Cast, out-EnumBody}
use Rattle.c_tree.proofs.spelling.+spelling.Given as goal

abbrev pub invariant-put_specs-loop-spec : goal.invariant-put_specs-loop-spec
invariant-put_specs-loop-spec l = l.out.items ++ kinds_of (flat (map spell_spec (drop l.spec-index l.spec-items))) ≡ l.fn.out.items ++ kinds_of (spell_specs l.specs)

abbrev pub invariant-put_struct_body-loop-member : goal.invariant-put_struct_body-loop-member
invariant-put_struct_body-loop-member l = l.out.items ++ kinds_of (flat (map spell_member (drop l.member-index l.member-items)) ++ punct RightBrace 0 ∷ []) ≡ l.fn.out.items ++ kinds_of (spell_struct_body l.struct_body)

abbrev pub invariant-put_enum_body-loop-next : goal.invariant-put_enum_body-loop-next
invariant-put_enum_body-loop-next l = l.out.items ++ kinds_of (flat (map spell_next_enumerator (drop l.next-index l.next-items)) ++ (spelled_comma (out-EnumBody l.enum_body).last_comma ++ punct RightBrace 0 ∷ [])) ≡ l.fn.out.items ++ kinds_of (spell_enum_body l.enum_body)

abbrev pub invariant-put_member-loop-next : goal.invariant-put_member-loop-next
invariant-put_member-loop-next l = l.out.items ++ kinds_of (flat (map spell_next_declarator (drop l.next-index l.next-items)) ++ punct Semicolon 0 ∷ []) ≡ l.fn.out.items ++ kinds_of (spell_member l.member)

abbrev pub invariant-put_declarator-loop-suffix : goal.invariant-put_declarator-loop-suffix
invariant-put_declarator-loop-suffix l = l.out.items ++ kinds_of (flat (map spell_suffix (drop l.suffix-index l.suffix-items))) ≡ l.fn.out.items ++ kinds_of (spell_declarator l.declarator)

abbrev pub invariant-put_suffix-loop-next : goal.invariant-put_suffix-loop-next
invariant-put_suffix-loop-next l = l.out.items ++ kinds_of (flat (map spell_next_param (drop l.next-index l.next-items)) ++ punct RightParenthesis 0 ∷ []) ≡ l.fn.out.items ++ kinds_of (spell_suffix l.suffix)

abbrev pub invariant-put_param-loop-suffix : goal.invariant-put_param-loop-suffix
invariant-put_param-loop-suffix l = l.out.items ++ kinds_of (flat (map spell_suffix (drop l.suffix-index l.suffix-items))) ≡ l.fn.out.items ++ kinds_of (spell_param l.param)

abbrev pub invariant-put_expr-loop-next : goal.invariant-put_expr-loop-next
invariant-put_expr-loop-next l = l.out.items ++ kinds_of (flat (map spell_next_assign (drop l.next-index l.next-items))) ≡ l.fn.out.items ++ kinds_of (spell_expr l.expr)

abbrev pub invariant-put_assign-loop-target : goal.invariant-put_assign-loop-target
invariant-put_assign-loop-target l = l.out.items ++ kinds_of (flat (map spell_target (drop l.target-index l.target-items)) ++ spell_cond (out-Assign l.assign).value) ≡ l.fn.out.items ++ kinds_of (spell_assign l.assign)

abbrev pub invariant-put_cond-loop-choice : goal.invariant-put_cond-loop-choice
invariant-put_cond-loop-choice l = l.out.items ++ kinds_of (flat (map spell_choice (drop l.choice-index l.choice-items)) ++ spell_binary (out-Cond l.cond).last) ≡ l.fn.out.items ++ kinds_of (spell_cond l.cond)

abbrev pub invariant-put_binary-loop-next : goal.invariant-put_binary-loop-next
invariant-put_binary-loop-next l = l.out.items ++ kinds_of (flat (map spell_next_operand (drop l.next-index l.next-items))) ≡ l.fn.out.items ++ kinds_of (spell_binary l.binary)

abbrev pub invariant-put_cast-loop-prefix : goal.invariant-put_cast-loop-prefix
invariant-put_cast-loop-prefix l = l.out.items ++ kinds_of (flat (map spell_prefix (drop l.prefix-index l.prefix-items)) ++ spell_operand (out-Cast l.cast).operand) ≡ l.fn.out.items ++ kinds_of (spell_cast l.cast)

abbrev pub invariant-put_postfix-loop-suffix : goal.invariant-put_postfix-loop-suffix
invariant-put_postfix-loop-suffix l = l.out.items ++ kinds_of (flat (map spell_postfix_suffix (drop l.suffix-index l.suffix-items))) ≡ l.fn.out.items ++ kinds_of (spell_postfix l.postfix)
