-- How the expressions and declarators of the code are spelled: as the pure data that they are.
use Rattle.std.specs.Prelude.{[], ◌∷◌, ◌++◌}
use Rattle.c_token.specs.declared.token.Punct.TheVariants as marks
use Rattle.c_nodes.specs.Words.{Symbols, punct}
use Rattle.c_nodes.specs.Trees.{spelled, spelled_post, spelled_pre, spelled_type, spelled_specs, spelled_spec, spelled_member, spelled_declarator, spelled_suffix, spelled_param, spelled_enumerator}
use Rattle.c_nodes.specs.Views.{NextAssign, NextDeclarator, NextEnumerator, NextOperand, NextParam, Target, TypeName, binary_of, operand_of, param_of, postfix_suffix_of, prefix_of, primary_of, spec_of, suffix_of, assign_of, cast_of, cond_of, declarator_of, expr_of, member_of, postfix_of, specs_of, struct_body_of, type_name_of, choice_of, next_assign_of, next_declarator_of, next_operand_of, next_param_of, target_of, enumerator_of, enum_body_of, next_enumerator_of}
use Rattle.c_nodes.specs.declared.expression.Assign.{Assign}
use Rattle.c_nodes.specs.declared.expression.Binary.{Binary}
use Rattle.c_nodes.specs.declared.expression.Cast.{Cast}
use Rattle.c_nodes.specs.declared.expression.Choice.{Choice}
use Rattle.c_nodes.specs.declared.expression.Cond.{Cond}
use Rattle.c_nodes.specs.declared.expression.Declarator.{Declarator}
use Rattle.c_nodes.specs.declared.expression.EnumBody.{EnumBody}
use Rattle.c_nodes.specs.declared.expression.Enumerator.{Enumerator}
use Rattle.c_nodes.specs.declared.expression.Expr.{Expr}
use Rattle.c_nodes.specs.declared.expression.Member.{Member}
use Rattle.c_nodes.specs.declared.expression.Operand.{Operand}
use Rattle.c_nodes.specs.declared.expression.Param.{Param}
use Rattle.c_nodes.specs.declared.expression.Postfix.{Postfix}
use Rattle.c_nodes.specs.declared.expression.PostfixSuffix.{PostfixSuffix}
use Rattle.c_nodes.specs.declared.expression.Prefix.{Prefix}
use Rattle.c_nodes.specs.declared.expression.Primary.{Primary}
use Rattle.c_nodes.specs.declared.expression.Spec.{Spec}
use Rattle.c_nodes.specs.declared.expression.Specs.{Specs}
use Rattle.c_nodes.specs.declared.expression.StructBody.{StructBody}
use Rattle.c_nodes.specs.declared.expression.Suffix.{Suffix}

abbrev pub spell_binary : Binary → Symbols
spell_binary x = spelled (binary_of x)

abbrev pub spell_operand : Operand → Symbols
spell_operand x = spelled (operand_of x)

abbrev pub spell_param : Param → Symbols
spell_param x = spelled_param (param_of x)

abbrev pub spell_postfix_suffix : PostfixSuffix → Symbols
spell_postfix_suffix x = spelled_post (postfix_suffix_of x)

abbrev pub spell_prefix : Prefix → Symbols
spell_prefix x = spelled_pre (prefix_of x)

abbrev pub spell_primary : Primary → Symbols
spell_primary x = spelled (primary_of x)

abbrev pub spell_spec : Spec → Symbols
spell_spec x = spelled_spec (spec_of x)

abbrev pub spell_suffix : Suffix → Symbols
spell_suffix x = spelled_suffix (suffix_of x)

abbrev pub spell_assign : Assign → Symbols
spell_assign x = spelled (assign_of x)

abbrev pub spell_cast : Cast → Symbols
spell_cast x = spelled (cast_of x)

abbrev pub spell_cond : Cond → Symbols
spell_cond x = spelled (cond_of x)

abbrev pub spell_declarator : Declarator → Symbols
spell_declarator x = spelled_declarator (declarator_of x)

abbrev pub spell_expr : Expr → Symbols
spell_expr x = spelled (expr_of x)

abbrev pub spell_member : Member → Symbols
spell_member x = spelled_member (member_of x)

abbrev pub spell_postfix : Postfix → Symbols
spell_postfix x = spelled (postfix_of x)

abbrev pub spell_specs : Specs → Symbols
spell_specs x = spelled_specs (specs_of x)

abbrev pub spell_struct_body : StructBody → Symbols
spell_struct_body x = spelled_spec (struct_body_of x)

abbrev pub spell_enum_body : EnumBody → Symbols
spell_enum_body x = spelled_spec (enum_body_of x)

abbrev pub spell_enumerator : Enumerator → Symbols
spell_enumerator x = spelled_enumerator (enumerator_of x)

abbrev pub spell_type_name : TypeName → Symbols
spell_type_name x = spelled_type (type_name_of x)

-- what stands in lists: each part with the token before it or behind it
abbrev pub spell_choice : Choice → Symbols
spell_choice x = spelled (choice_of x).0 ++ punct marks.Question (choice_of x).1 ∷ (spelled (choice_of x).2 ++ punct marks.Colon (choice_of x).3 ∷ [])

abbrev pub spell_next_assign : NextAssign → Symbols
spell_next_assign x = punct marks.Comma (next_assign_of x).0 ∷ spelled (next_assign_of x).1

abbrev pub spell_next_declarator : NextDeclarator → Symbols
spell_next_declarator x = punct marks.Comma (next_declarator_of x).0 ∷ spelled_declarator (next_declarator_of x).1

abbrev pub spell_next_enumerator : NextEnumerator → Symbols
spell_next_enumerator x = punct marks.Comma (next_enumerator_of x).0 ∷ spelled_enumerator (next_enumerator_of x).1

abbrev pub spell_next_operand : NextOperand → Symbols
spell_next_operand x = (next_operand_of x).0 ∷ spelled (next_operand_of x).1

abbrev pub spell_next_param : NextParam → Symbols
spell_next_param x = punct marks.Comma (next_param_of x).0 ∷ spelled_param (next_param_of x).1

abbrev pub spell_target : Target → Symbols
spell_target x = spelled (target_of x).0 ++ (target_of x).1 ∷ []
