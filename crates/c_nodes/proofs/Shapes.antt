-- What each tree of the code is as pure data.
use Rattle.std.proofs.Common.{◌≡◌, List, [], ◌∷◌, Some, None, map, refl, sym, ap, ◌∙◌}
use Rattle.c_nodes.specs.Words.{Symbol, keyed, signed, named, type_named, spell_constant, spell_pointers, spell_tag}
use Rattle.c_nodes.specs.Trees as tree
use Rattle.c_nodes.specs.Trees.{Tree, Post, Pre, TypeTree, SpecTrees, SpecTree, MemberTree, DeclaratorTree, SuffixTree, ParamTree, EnumeratorTree}
use Rattle.c_nodes.specs.Lists.{posted, prefixed, joined, listed, ChoiceParts, chosen, assigned, more_specs, more_members, more_declarators, suffixes_of, more_params, more_enumerators}
use Rattle.c_nodes.specs.Views.{NextOperand, Target, operand_by, target_by, binary_of, enumerator_of, operand_of, param_of, postfix_suffix_of, prefix_of, primary_of, spec_of, suffix_of, assign_of, cast_of, choice_of, cond_of, declarator_of, enum_body_of, expr_of, member_of, next_assign_of, next_declarator_of, next_enumerator_of, next_operand_of, next_param_of, postfix_of, specs_of, struct_body_of, target_of, type_name_of, binary_step, enumerator_step, operand_step, param_step, postfix_suffix_step, prefix_step, primary_step, spec_step, suffix_step, assign_step, cast_step, choice_step, cond_step, declarator_step, enum_body_step, expr_step, member_step, postfix_step, specs_step, struct_body_step}
use Rattle.c_nodes.specs.declared.expression.Assign.{Assign}
use Rattle.c_nodes.specs.declared.expression.Cast.{Cast}
use Rattle.c_nodes.specs.declared.expression.Choice.{Choice}
use Rattle.c_nodes.specs.declared.expression.Cond.{Cond}
use Rattle.c_nodes.specs.declared.expression.Declarator.{Declarator}
use Rattle.c_nodes.specs.declared.expression.EnumBody.{EnumBody}
use Rattle.c_nodes.specs.declared.expression.Expr.{Expr}
use Rattle.c_nodes.specs.declared.expression.Member.{Member}
use Rattle.c_nodes.specs.declared.expression.Postfix.{Postfix}
use Rattle.c_nodes.specs.declared.expression.Specs.{Specs}
use Rattle.c_nodes.specs.declared.expression.StructBody.{StructBody}
use Rattle.c_nodes.specs.declared.expression.Binary.TheVariants as Binary
use Rattle.c_nodes.specs.declared.expression.Enumerator.TheVariants as Enumerator
use Rattle.c_nodes.specs.declared.expression.Operand.TheVariants as Operand
use Rattle.c_nodes.specs.declared.expression.Param.TheVariants as Param
use Rattle.c_nodes.specs.declared.expression.PostfixSuffix.TheVariants as PostfixSuffix
use Rattle.c_nodes.specs.declared.expression.Prefix.TheVariants as Prefix
use Rattle.c_nodes.specs.declared.expression.Primary.TheVariants as Primary
use Rattle.c_nodes.specs.declared.expression.Spec.TheVariants as Spec
use Rattle.c_nodes.specs.declared.expression.Suffix.TheVariants as Suffix
use Rattle.c_nodes.specs.declared.expression.Binary.TheOpen as Open
use Rattle.c_nodes.specs.declared.expression.Binary.TheViews.{out-Assign, out-Cast, out-Choice, out-Cond, out-Declarator, out-EnumBody, out-Expr, out-Member, out-Postfix, out-Specs, out-StructBody, roll-Assign, roll-Cast, roll-Choice, roll-Cond, roll-Declarator, roll-EnumBody, roll-Expr, roll-Member, roll-Postfix, roll-Specs, roll-StructBody}
use Rattle.c_nodes.specs.declared.expression.Binary.TheFolds.{fold-Binary, fold-roll-Binary, fold-Enumerator, fold-roll-Enumerator, fold-Operand, fold-roll-Operand, fold-Param, fold-roll-Param, fold-PostfixSuffix, fold-roll-PostfixSuffix, fold-Prefix, fold-roll-Prefix, fold-Primary, fold-roll-Primary, fold-Spec, fold-roll-Spec, fold-Suffix, fold-roll-Suffix, fold-roll-Assign, fold_out-Assign, fold-roll-Cast, fold_out-Cast, fold-roll-Choice, fold_out-Choice, fold-roll-Cond, fold_out-Cond, fold-roll-Declarator, fold_out-Declarator, fold-roll-EnumBody, fold_out-EnumBody, fold-roll-Expr, fold_out-Expr, fold-roll-Member, fold_out-Member, fold-roll-Postfix, fold_out-Postfix, fold-roll-Specs, fold_out-Specs, fold-roll-StructBody, fold_out-StructBody}

operands_seen : (bs : List NextOperand) → map operand_by (map (λ (b : NextOperand). (b.0, binary_of b.1)) bs) ≡ map next_operand_of bs
operands_seen [] = refl
operands_seen (b ∷ bs) = ap (λ (l : List (Symbol × Tree)). next_operand_of b ∷ l) (operands_seen bs)

targets_seen : (ts : List Target) → map target_by (map (λ (t : Target). (cast_of t.0, t.1)) ts) ≡ map target_of ts
targets_seen [] = refl
targets_seen (t ∷ ts) = ap (λ (l : List (Tree × Symbol)). target_of t ∷ l) (targets_seen ts)

pub show_binary_operand : (operand : _) → binary_of (Binary.Operand operand) ≡ cast_of operand
unfolding binary_of enumerator_of operand_of param_of postfix_suffix_of prefix_of primary_of spec_of suffix_of assign_of cast_of choice_of cond_of declarator_of enum_body_of expr_of member_of postfix_of specs_of struct_body_of
show_binary_operand operand = ap (fold-Binary Tree EnumeratorTree Tree ParamTree Post Pre Tree SpecTree SuffixTree Tree Tree ChoiceParts Tree DeclaratorTree SpecTree Tree MemberTree Tree SpecTrees SpecTree binary_step enumerator_step operand_step param_step postfix_suffix_step prefix_step primary_step spec_step suffix_step assign_step cast_step choice_step cond_step declarator_step enum_body_step expr_step member_step postfix_step specs_step struct_body_step) (sym (Binary.rolls-Operand operand)) ∙ fold-roll-Binary Tree EnumeratorTree Tree ParamTree Post Pre Tree SpecTree SuffixTree Tree Tree ChoiceParts Tree DeclaratorTree SpecTree Tree MemberTree Tree SpecTrees SpecTree binary_step enumerator_step operand_step param_step postfix_suffix_step prefix_step primary_step spec_step suffix_step assign_step cast_step choice_step cond_step declarator_step enum_body_step expr_step member_step postfix_step specs_step struct_body_step (Open.Operand operand)

pub show_binary_chain : (first : _) (others : _) → binary_of (Binary.Chain first others) ≡ joined (binary_of first.value) (map next_operand_of others.items)
unfolding binary_of enumerator_of operand_of param_of postfix_suffix_of prefix_of primary_of spec_of suffix_of assign_of cast_of choice_of cond_of declarator_of enum_body_of expr_of member_of postfix_of specs_of struct_body_of
show_binary_chain first others = ap (fold-Binary Tree EnumeratorTree Tree ParamTree Post Pre Tree SpecTree SuffixTree Tree Tree ChoiceParts Tree DeclaratorTree SpecTree Tree MemberTree Tree SpecTrees SpecTree binary_step enumerator_step operand_step param_step postfix_suffix_step prefix_step primary_step spec_step suffix_step assign_step cast_step choice_step cond_step declarator_step enum_body_step expr_step member_step postfix_step specs_step struct_body_step) (sym (Binary.rolls-Chain first others)) ∙ fold-roll-Binary Tree EnumeratorTree Tree ParamTree Post Pre Tree SpecTree SuffixTree Tree Tree ChoiceParts Tree DeclaratorTree SpecTree Tree MemberTree Tree SpecTrees SpecTree binary_step enumerator_step operand_step param_step postfix_suffix_step prefix_step primary_step spec_step suffix_step assign_step cast_step choice_step cond_step declarator_step enum_body_step expr_step member_step postfix_step specs_step struct_body_step (Open.Chain first others) ∙ ap (joined (binary_of first.value)) (operands_seen others.items)

pub show_enumerator_bare : (name : _) → enumerator_of (Enumerator.Bare name) ≡ tree.Bare (named name)
unfolding binary_of enumerator_of operand_of param_of postfix_suffix_of prefix_of primary_of spec_of suffix_of assign_of cast_of choice_of cond_of declarator_of enum_body_of expr_of member_of postfix_of specs_of struct_body_of
show_enumerator_bare name = ap (fold-Enumerator Tree EnumeratorTree Tree ParamTree Post Pre Tree SpecTree SuffixTree Tree Tree ChoiceParts Tree DeclaratorTree SpecTree Tree MemberTree Tree SpecTrees SpecTree binary_step enumerator_step operand_step param_step postfix_suffix_step prefix_step primary_step spec_step suffix_step assign_step cast_step choice_step cond_step declarator_step enum_body_step expr_step member_step postfix_step specs_step struct_body_step) (sym (Enumerator.rolls-Bare name)) ∙ fold-roll-Enumerator Tree EnumeratorTree Tree ParamTree Post Pre Tree SpecTree SuffixTree Tree Tree ChoiceParts Tree DeclaratorTree SpecTree Tree MemberTree Tree SpecTrees SpecTree binary_step enumerator_step operand_step param_step postfix_suffix_step prefix_step primary_step spec_step suffix_step assign_step cast_step choice_step cond_step declarator_step enum_body_step expr_step member_step postfix_step specs_step struct_body_step (Open.Bare name)

pub show_enumerator_valued : (name : _) (equals : _) (value : _) → enumerator_of (Enumerator.Valued name equals value) ≡ tree.Valued (named name) equals (cond_of value.value)
unfolding binary_of enumerator_of operand_of param_of postfix_suffix_of prefix_of primary_of spec_of suffix_of assign_of cast_of choice_of cond_of declarator_of enum_body_of expr_of member_of postfix_of specs_of struct_body_of
show_enumerator_valued name equals value = ap (fold-Enumerator Tree EnumeratorTree Tree ParamTree Post Pre Tree SpecTree SuffixTree Tree Tree ChoiceParts Tree DeclaratorTree SpecTree Tree MemberTree Tree SpecTrees SpecTree binary_step enumerator_step operand_step param_step postfix_suffix_step prefix_step primary_step spec_step suffix_step assign_step cast_step choice_step cond_step declarator_step enum_body_step expr_step member_step postfix_step specs_step struct_body_step) (sym (Enumerator.rolls-Valued name equals value)) ∙ fold-roll-Enumerator Tree EnumeratorTree Tree ParamTree Post Pre Tree SpecTree SuffixTree Tree Tree ChoiceParts Tree DeclaratorTree SpecTree Tree MemberTree Tree SpecTrees SpecTree binary_step enumerator_step operand_step param_step postfix_suffix_step prefix_step primary_step spec_step suffix_step assign_step cast_step choice_step cond_step declarator_step enum_body_step expr_step member_step postfix_step specs_step struct_body_step (Open.Valued name equals value)

pub show_operand_postfix : (postfix : _) → operand_of (Operand.Postfix postfix) ≡ postfix_of postfix
unfolding binary_of enumerator_of operand_of param_of postfix_suffix_of prefix_of primary_of spec_of suffix_of assign_of cast_of choice_of cond_of declarator_of enum_body_of expr_of member_of postfix_of specs_of struct_body_of
show_operand_postfix postfix = ap (fold-Operand Tree EnumeratorTree Tree ParamTree Post Pre Tree SpecTree SuffixTree Tree Tree ChoiceParts Tree DeclaratorTree SpecTree Tree MemberTree Tree SpecTrees SpecTree binary_step enumerator_step operand_step param_step postfix_suffix_step prefix_step primary_step spec_step suffix_step assign_step cast_step choice_step cond_step declarator_step enum_body_step expr_step member_step postfix_step specs_step struct_body_step) (sym (Operand.rolls-Postfix postfix)) ∙ fold-roll-Operand Tree EnumeratorTree Tree ParamTree Post Pre Tree SpecTree SuffixTree Tree Tree ChoiceParts Tree DeclaratorTree SpecTree Tree MemberTree Tree SpecTrees SpecTree binary_step enumerator_step operand_step param_step postfix_suffix_step prefix_step primary_step spec_step suffix_step assign_step cast_step choice_step cond_step declarator_step enum_body_step expr_step member_step postfix_step specs_step struct_body_step (Open.Postfix postfix)

pub show_operand_sizeof_type : (keyword : _) (opening : _) (type_name : _) (closing : _) → operand_of (Operand.SizeofType keyword opening type_name closing) ≡ tree.Measure keyword opening (type_name_of type_name.value) closing
unfolding binary_of enumerator_of operand_of param_of postfix_suffix_of prefix_of primary_of spec_of suffix_of assign_of cast_of choice_of cond_of declarator_of enum_body_of expr_of member_of postfix_of specs_of struct_body_of
show_operand_sizeof_type keyword opening type_name closing = ap (fold-Operand Tree EnumeratorTree Tree ParamTree Post Pre Tree SpecTree SuffixTree Tree Tree ChoiceParts Tree DeclaratorTree SpecTree Tree MemberTree Tree SpecTrees SpecTree binary_step enumerator_step operand_step param_step postfix_suffix_step prefix_step primary_step spec_step suffix_step assign_step cast_step choice_step cond_step declarator_step enum_body_step expr_step member_step postfix_step specs_step struct_body_step) (sym (Operand.rolls-SizeofType keyword opening type_name closing)) ∙ fold-roll-Operand Tree EnumeratorTree Tree ParamTree Post Pre Tree SpecTree SuffixTree Tree Tree ChoiceParts Tree DeclaratorTree SpecTree Tree MemberTree Tree SpecTrees SpecTree binary_step enumerator_step operand_step param_step postfix_suffix_step prefix_step primary_step spec_step suffix_step assign_step cast_step choice_step cond_step declarator_step enum_body_step expr_step member_step postfix_step specs_step struct_body_step (Open.SizeofType keyword opening type_name closing)

pub show_param_named : (specs : _) (declarator : _) → param_of (Param.Named specs declarator) ≡ tree.Named (specs_of specs) (declarator_of declarator)
unfolding binary_of enumerator_of operand_of param_of postfix_suffix_of prefix_of primary_of spec_of suffix_of assign_of cast_of choice_of cond_of declarator_of enum_body_of expr_of member_of postfix_of specs_of struct_body_of
show_param_named specs declarator = ap (fold-Param Tree EnumeratorTree Tree ParamTree Post Pre Tree SpecTree SuffixTree Tree Tree ChoiceParts Tree DeclaratorTree SpecTree Tree MemberTree Tree SpecTrees SpecTree binary_step enumerator_step operand_step param_step postfix_suffix_step prefix_step primary_step spec_step suffix_step assign_step cast_step choice_step cond_step declarator_step enum_body_step expr_step member_step postfix_step specs_step struct_body_step) (sym (Param.rolls-Named specs declarator)) ∙ fold-roll-Param Tree EnumeratorTree Tree ParamTree Post Pre Tree SpecTree SuffixTree Tree Tree ChoiceParts Tree DeclaratorTree SpecTree Tree MemberTree Tree SpecTrees SpecTree binary_step enumerator_step operand_step param_step postfix_suffix_step prefix_step primary_step spec_step suffix_step assign_step cast_step choice_step cond_step declarator_step enum_body_step expr_step member_step postfix_step specs_step struct_body_step (Open.Named specs declarator)

pub show_param_unnamed : (specs : _) (pointers : _) (suffixes : _) → param_of (Param.Unnamed specs pointers suffixes) ≡ tree.Unnamed (specs_of specs) (spell_pointers pointers.items) (suffixes_of (map suffix_of suffixes.items))
unfolding binary_of enumerator_of operand_of param_of postfix_suffix_of prefix_of primary_of spec_of suffix_of assign_of cast_of choice_of cond_of declarator_of enum_body_of expr_of member_of postfix_of specs_of struct_body_of
show_param_unnamed specs pointers suffixes = ap (fold-Param Tree EnumeratorTree Tree ParamTree Post Pre Tree SpecTree SuffixTree Tree Tree ChoiceParts Tree DeclaratorTree SpecTree Tree MemberTree Tree SpecTrees SpecTree binary_step enumerator_step operand_step param_step postfix_suffix_step prefix_step primary_step spec_step suffix_step assign_step cast_step choice_step cond_step declarator_step enum_body_step expr_step member_step postfix_step specs_step struct_body_step) (sym (Param.rolls-Unnamed specs pointers suffixes)) ∙ fold-roll-Param Tree EnumeratorTree Tree ParamTree Post Pre Tree SpecTree SuffixTree Tree Tree ChoiceParts Tree DeclaratorTree SpecTree Tree MemberTree Tree SpecTrees SpecTree binary_step enumerator_step operand_step param_step postfix_suffix_step prefix_step primary_step spec_step suffix_step assign_step cast_step choice_step cond_step declarator_step enum_body_step expr_step member_step postfix_step specs_step struct_body_step (Open.Unnamed specs pointers suffixes)

pub show_postfix_suffix_index : (opening : _) (index : _) (closing : _) → postfix_suffix_of (PostfixSuffix.Index opening index closing) ≡ tree.Index opening (expr_of index.value) closing
unfolding binary_of enumerator_of operand_of param_of postfix_suffix_of prefix_of primary_of spec_of suffix_of assign_of cast_of choice_of cond_of declarator_of enum_body_of expr_of member_of postfix_of specs_of struct_body_of
show_postfix_suffix_index opening index closing = ap (fold-PostfixSuffix Tree EnumeratorTree Tree ParamTree Post Pre Tree SpecTree SuffixTree Tree Tree ChoiceParts Tree DeclaratorTree SpecTree Tree MemberTree Tree SpecTrees SpecTree binary_step enumerator_step operand_step param_step postfix_suffix_step prefix_step primary_step spec_step suffix_step assign_step cast_step choice_step cond_step declarator_step enum_body_step expr_step member_step postfix_step specs_step struct_body_step) (sym (PostfixSuffix.rolls-Index opening index closing)) ∙ fold-roll-PostfixSuffix Tree EnumeratorTree Tree ParamTree Post Pre Tree SpecTree SuffixTree Tree Tree ChoiceParts Tree DeclaratorTree SpecTree Tree MemberTree Tree SpecTrees SpecTree binary_step enumerator_step operand_step param_step postfix_suffix_step prefix_step primary_step spec_step suffix_step assign_step cast_step choice_step cond_step declarator_step enum_body_step expr_step member_step postfix_step specs_step struct_body_step (Open.Index opening index closing)

pub show_postfix_suffix_call_bare : (opening : _) (closing : _) → postfix_suffix_of (PostfixSuffix.Call opening None closing) ≡ tree.CallBare opening closing
unfolding binary_of enumerator_of operand_of param_of postfix_suffix_of prefix_of primary_of spec_of suffix_of assign_of cast_of choice_of cond_of declarator_of enum_body_of expr_of member_of postfix_of specs_of struct_body_of
show_postfix_suffix_call_bare opening closing = ap (fold-PostfixSuffix Tree EnumeratorTree Tree ParamTree Post Pre Tree SpecTree SuffixTree Tree Tree ChoiceParts Tree DeclaratorTree SpecTree Tree MemberTree Tree SpecTrees SpecTree binary_step enumerator_step operand_step param_step postfix_suffix_step prefix_step primary_step spec_step suffix_step assign_step cast_step choice_step cond_step declarator_step enum_body_step expr_step member_step postfix_step specs_step struct_body_step) (sym (PostfixSuffix.rolls-Call opening None closing)) ∙ fold-roll-PostfixSuffix Tree EnumeratorTree Tree ParamTree Post Pre Tree SpecTree SuffixTree Tree Tree ChoiceParts Tree DeclaratorTree SpecTree Tree MemberTree Tree SpecTrees SpecTree binary_step enumerator_step operand_step param_step postfix_suffix_step prefix_step primary_step spec_step suffix_step assign_step cast_step choice_step cond_step declarator_step enum_body_step expr_step member_step postfix_step specs_step struct_body_step (Open.Call opening None closing)

pub show_postfix_suffix_call : (opening : _) (arguments : _) (closing : _) → postfix_suffix_of (PostfixSuffix.Call opening (Some arguments) closing) ≡ tree.Call opening (expr_of arguments.value) closing
unfolding binary_of enumerator_of operand_of param_of postfix_suffix_of prefix_of primary_of spec_of suffix_of assign_of cast_of choice_of cond_of declarator_of enum_body_of expr_of member_of postfix_of specs_of struct_body_of
show_postfix_suffix_call opening arguments closing = ap (fold-PostfixSuffix Tree EnumeratorTree Tree ParamTree Post Pre Tree SpecTree SuffixTree Tree Tree ChoiceParts Tree DeclaratorTree SpecTree Tree MemberTree Tree SpecTrees SpecTree binary_step enumerator_step operand_step param_step postfix_suffix_step prefix_step primary_step spec_step suffix_step assign_step cast_step choice_step cond_step declarator_step enum_body_step expr_step member_step postfix_step specs_step struct_body_step) (sym (PostfixSuffix.rolls-Call opening (Some arguments) closing)) ∙ fold-roll-PostfixSuffix Tree EnumeratorTree Tree ParamTree Post Pre Tree SpecTree SuffixTree Tree Tree ChoiceParts Tree DeclaratorTree SpecTree Tree MemberTree Tree SpecTrees SpecTree binary_step enumerator_step operand_step param_step postfix_suffix_step prefix_step primary_step spec_step suffix_step assign_step cast_step choice_step cond_step declarator_step enum_body_step expr_step member_step postfix_step specs_step struct_body_step (Open.Call opening (Some arguments) closing)

pub show_postfix_suffix_member : (operator : _) (name : _) → postfix_suffix_of (PostfixSuffix.Member operator name) ≡ tree.Field (signed operator) (named name)
unfolding binary_of enumerator_of operand_of param_of postfix_suffix_of prefix_of primary_of spec_of suffix_of assign_of cast_of choice_of cond_of declarator_of enum_body_of expr_of member_of postfix_of specs_of struct_body_of
show_postfix_suffix_member operator name = ap (fold-PostfixSuffix Tree EnumeratorTree Tree ParamTree Post Pre Tree SpecTree SuffixTree Tree Tree ChoiceParts Tree DeclaratorTree SpecTree Tree MemberTree Tree SpecTrees SpecTree binary_step enumerator_step operand_step param_step postfix_suffix_step prefix_step primary_step spec_step suffix_step assign_step cast_step choice_step cond_step declarator_step enum_body_step expr_step member_step postfix_step specs_step struct_body_step) (sym (PostfixSuffix.rolls-Member operator name)) ∙ fold-roll-PostfixSuffix Tree EnumeratorTree Tree ParamTree Post Pre Tree SpecTree SuffixTree Tree Tree ChoiceParts Tree DeclaratorTree SpecTree Tree MemberTree Tree SpecTrees SpecTree binary_step enumerator_step operand_step param_step postfix_suffix_step prefix_step primary_step spec_step suffix_step assign_step cast_step choice_step cond_step declarator_step enum_body_step expr_step member_step postfix_step specs_step struct_body_step (Open.Member operator name)

pub show_postfix_suffix_step : (operator : _) → postfix_suffix_of (PostfixSuffix.Step operator) ≡ tree.Step (signed operator)
unfolding binary_of enumerator_of operand_of param_of postfix_suffix_of prefix_of primary_of spec_of suffix_of assign_of cast_of choice_of cond_of declarator_of enum_body_of expr_of member_of postfix_of specs_of struct_body_of
show_postfix_suffix_step operator = ap (fold-PostfixSuffix Tree EnumeratorTree Tree ParamTree Post Pre Tree SpecTree SuffixTree Tree Tree ChoiceParts Tree DeclaratorTree SpecTree Tree MemberTree Tree SpecTrees SpecTree binary_step enumerator_step operand_step param_step postfix_suffix_step prefix_step primary_step spec_step suffix_step assign_step cast_step choice_step cond_step declarator_step enum_body_step expr_step member_step postfix_step specs_step struct_body_step) (sym (PostfixSuffix.rolls-Step operator)) ∙ fold-roll-PostfixSuffix Tree EnumeratorTree Tree ParamTree Post Pre Tree SpecTree SuffixTree Tree Tree ChoiceParts Tree DeclaratorTree SpecTree Tree MemberTree Tree SpecTrees SpecTree binary_step enumerator_step operand_step param_step postfix_suffix_step prefix_step primary_step spec_step suffix_step assign_step cast_step choice_step cond_step declarator_step enum_body_step expr_step member_step postfix_step specs_step struct_body_step (Open.Step operator)

pub show_prefix_operator : (operator : _) → prefix_of (Prefix.Operator operator) ≡ tree.Sign (signed operator)
unfolding binary_of enumerator_of operand_of param_of postfix_suffix_of prefix_of primary_of spec_of suffix_of assign_of cast_of choice_of cond_of declarator_of enum_body_of expr_of member_of postfix_of specs_of struct_body_of
show_prefix_operator operator = ap (fold-Prefix Tree EnumeratorTree Tree ParamTree Post Pre Tree SpecTree SuffixTree Tree Tree ChoiceParts Tree DeclaratorTree SpecTree Tree MemberTree Tree SpecTrees SpecTree binary_step enumerator_step operand_step param_step postfix_suffix_step prefix_step primary_step spec_step suffix_step assign_step cast_step choice_step cond_step declarator_step enum_body_step expr_step member_step postfix_step specs_step struct_body_step) (sym (Prefix.rolls-Operator operator)) ∙ fold-roll-Prefix Tree EnumeratorTree Tree ParamTree Post Pre Tree SpecTree SuffixTree Tree Tree ChoiceParts Tree DeclaratorTree SpecTree Tree MemberTree Tree SpecTrees SpecTree binary_step enumerator_step operand_step param_step postfix_suffix_step prefix_step primary_step spec_step suffix_step assign_step cast_step choice_step cond_step declarator_step enum_body_step expr_step member_step postfix_step specs_step struct_body_step (Open.Operator operator)

pub show_prefix_sizeof : (keyword : _) → prefix_of (Prefix.Sizeof keyword) ≡ tree.Sizeof keyword
unfolding binary_of enumerator_of operand_of param_of postfix_suffix_of prefix_of primary_of spec_of suffix_of assign_of cast_of choice_of cond_of declarator_of enum_body_of expr_of member_of postfix_of specs_of struct_body_of
show_prefix_sizeof keyword = ap (fold-Prefix Tree EnumeratorTree Tree ParamTree Post Pre Tree SpecTree SuffixTree Tree Tree ChoiceParts Tree DeclaratorTree SpecTree Tree MemberTree Tree SpecTrees SpecTree binary_step enumerator_step operand_step param_step postfix_suffix_step prefix_step primary_step spec_step suffix_step assign_step cast_step choice_step cond_step declarator_step enum_body_step expr_step member_step postfix_step specs_step struct_body_step) (sym (Prefix.rolls-Sizeof keyword)) ∙ fold-roll-Prefix Tree EnumeratorTree Tree ParamTree Post Pre Tree SpecTree SuffixTree Tree Tree ChoiceParts Tree DeclaratorTree SpecTree Tree MemberTree Tree SpecTrees SpecTree binary_step enumerator_step operand_step param_step postfix_suffix_step prefix_step primary_step spec_step suffix_step assign_step cast_step choice_step cond_step declarator_step enum_body_step expr_step member_step postfix_step specs_step struct_body_step (Open.Sizeof keyword)

pub show_prefix_cast : (opening : _) (type_name : _) (closing : _) → prefix_of (Prefix.Cast opening type_name closing) ≡ tree.Cast opening (type_name_of type_name.value) closing
unfolding binary_of enumerator_of operand_of param_of postfix_suffix_of prefix_of primary_of spec_of suffix_of assign_of cast_of choice_of cond_of declarator_of enum_body_of expr_of member_of postfix_of specs_of struct_body_of
show_prefix_cast opening type_name closing = ap (fold-Prefix Tree EnumeratorTree Tree ParamTree Post Pre Tree SpecTree SuffixTree Tree Tree ChoiceParts Tree DeclaratorTree SpecTree Tree MemberTree Tree SpecTrees SpecTree binary_step enumerator_step operand_step param_step postfix_suffix_step prefix_step primary_step spec_step suffix_step assign_step cast_step choice_step cond_step declarator_step enum_body_step expr_step member_step postfix_step specs_step struct_body_step) (sym (Prefix.rolls-Cast opening type_name closing)) ∙ fold-roll-Prefix Tree EnumeratorTree Tree ParamTree Post Pre Tree SpecTree SuffixTree Tree Tree ChoiceParts Tree DeclaratorTree SpecTree Tree MemberTree Tree SpecTrees SpecTree binary_step enumerator_step operand_step param_step postfix_suffix_step prefix_step primary_step spec_step suffix_step assign_step cast_step choice_step cond_step declarator_step enum_body_step expr_step member_step postfix_step specs_step struct_body_step (Open.Cast opening type_name closing)

pub show_primary_name : (name : _) → primary_of (Primary.Name name) ≡ tree.Leaf (named name)
unfolding binary_of enumerator_of operand_of param_of postfix_suffix_of prefix_of primary_of spec_of suffix_of assign_of cast_of choice_of cond_of declarator_of enum_body_of expr_of member_of postfix_of specs_of struct_body_of
show_primary_name name = ap (fold-Primary Tree EnumeratorTree Tree ParamTree Post Pre Tree SpecTree SuffixTree Tree Tree ChoiceParts Tree DeclaratorTree SpecTree Tree MemberTree Tree SpecTrees SpecTree binary_step enumerator_step operand_step param_step postfix_suffix_step prefix_step primary_step spec_step suffix_step assign_step cast_step choice_step cond_step declarator_step enum_body_step expr_step member_step postfix_step specs_step struct_body_step) (sym (Primary.rolls-Name name)) ∙ fold-roll-Primary Tree EnumeratorTree Tree ParamTree Post Pre Tree SpecTree SuffixTree Tree Tree ChoiceParts Tree DeclaratorTree SpecTree Tree MemberTree Tree SpecTrees SpecTree binary_step enumerator_step operand_step param_step postfix_suffix_step prefix_step primary_step spec_step suffix_step assign_step cast_step choice_step cond_step declarator_step enum_body_step expr_step member_step postfix_step specs_step struct_body_step (Open.Name name)

pub show_primary_constant : (constant : _) → primary_of (Primary.Constant constant) ≡ tree.Leaf (spell_constant constant)
unfolding binary_of enumerator_of operand_of param_of postfix_suffix_of prefix_of primary_of spec_of suffix_of assign_of cast_of choice_of cond_of declarator_of enum_body_of expr_of member_of postfix_of specs_of struct_body_of
show_primary_constant constant = ap (fold-Primary Tree EnumeratorTree Tree ParamTree Post Pre Tree SpecTree SuffixTree Tree Tree ChoiceParts Tree DeclaratorTree SpecTree Tree MemberTree Tree SpecTrees SpecTree binary_step enumerator_step operand_step param_step postfix_suffix_step prefix_step primary_step spec_step suffix_step assign_step cast_step choice_step cond_step declarator_step enum_body_step expr_step member_step postfix_step specs_step struct_body_step) (sym (Primary.rolls-Constant constant)) ∙ fold-roll-Primary Tree EnumeratorTree Tree ParamTree Post Pre Tree SpecTree SuffixTree Tree Tree ChoiceParts Tree DeclaratorTree SpecTree Tree MemberTree Tree SpecTrees SpecTree binary_step enumerator_step operand_step param_step postfix_suffix_step prefix_step primary_step spec_step suffix_step assign_step cast_step choice_step cond_step declarator_step enum_body_step expr_step member_step postfix_step specs_step struct_body_step (Open.Constant constant)

pub show_primary_group : (opening : _) (inner : _) (closing : _) → primary_of (Primary.Group opening inner closing) ≡ tree.Group opening (expr_of inner.value) closing
unfolding binary_of enumerator_of operand_of param_of postfix_suffix_of prefix_of primary_of spec_of suffix_of assign_of cast_of choice_of cond_of declarator_of enum_body_of expr_of member_of postfix_of specs_of struct_body_of
show_primary_group opening inner closing = ap (fold-Primary Tree EnumeratorTree Tree ParamTree Post Pre Tree SpecTree SuffixTree Tree Tree ChoiceParts Tree DeclaratorTree SpecTree Tree MemberTree Tree SpecTrees SpecTree binary_step enumerator_step operand_step param_step postfix_suffix_step prefix_step primary_step spec_step suffix_step assign_step cast_step choice_step cond_step declarator_step enum_body_step expr_step member_step postfix_step specs_step struct_body_step) (sym (Primary.rolls-Group opening inner closing)) ∙ fold-roll-Primary Tree EnumeratorTree Tree ParamTree Post Pre Tree SpecTree SuffixTree Tree Tree ChoiceParts Tree DeclaratorTree SpecTree Tree MemberTree Tree SpecTrees SpecTree binary_step enumerator_step operand_step param_step postfix_suffix_step prefix_step primary_step spec_step suffix_step assign_step cast_step choice_step cond_step declarator_step enum_body_step expr_step member_step postfix_step specs_step struct_body_step (Open.Group opening inner closing)

pub show_spec_word : (word : _) → spec_of (Spec.Word word) ≡ tree.OneWord (keyed word)
unfolding binary_of enumerator_of operand_of param_of postfix_suffix_of prefix_of primary_of spec_of suffix_of assign_of cast_of choice_of cond_of declarator_of enum_body_of expr_of member_of postfix_of specs_of struct_body_of
show_spec_word word = ap (fold-Spec Tree EnumeratorTree Tree ParamTree Post Pre Tree SpecTree SuffixTree Tree Tree ChoiceParts Tree DeclaratorTree SpecTree Tree MemberTree Tree SpecTrees SpecTree binary_step enumerator_step operand_step param_step postfix_suffix_step prefix_step primary_step spec_step suffix_step assign_step cast_step choice_step cond_step declarator_step enum_body_step expr_step member_step postfix_step specs_step struct_body_step) (sym (Spec.rolls-Word word)) ∙ fold-roll-Spec Tree EnumeratorTree Tree ParamTree Post Pre Tree SpecTree SuffixTree Tree Tree ChoiceParts Tree DeclaratorTree SpecTree Tree MemberTree Tree SpecTrees SpecTree binary_step enumerator_step operand_step param_step postfix_suffix_step prefix_step primary_step spec_step suffix_step assign_step cast_step choice_step cond_step declarator_step enum_body_step expr_step member_step postfix_step specs_step struct_body_step (Open.Word word)

pub show_spec_reference : (keyword : _) (tag : _) → spec_of (Spec.Reference keyword tag) ≡ tree.Tagged keyword (named tag)
unfolding binary_of enumerator_of operand_of param_of postfix_suffix_of prefix_of primary_of spec_of suffix_of assign_of cast_of choice_of cond_of declarator_of enum_body_of expr_of member_of postfix_of specs_of struct_body_of
show_spec_reference keyword tag = ap (fold-Spec Tree EnumeratorTree Tree ParamTree Post Pre Tree SpecTree SuffixTree Tree Tree ChoiceParts Tree DeclaratorTree SpecTree Tree MemberTree Tree SpecTrees SpecTree binary_step enumerator_step operand_step param_step postfix_suffix_step prefix_step primary_step spec_step suffix_step assign_step cast_step choice_step cond_step declarator_step enum_body_step expr_step member_step postfix_step specs_step struct_body_step) (sym (Spec.rolls-Reference keyword tag)) ∙ fold-roll-Spec Tree EnumeratorTree Tree ParamTree Post Pre Tree SpecTree SuffixTree Tree Tree ChoiceParts Tree DeclaratorTree SpecTree Tree MemberTree Tree SpecTrees SpecTree binary_step enumerator_step operand_step param_step postfix_suffix_step prefix_step primary_step spec_step suffix_step assign_step cast_step choice_step cond_step declarator_step enum_body_step expr_step member_step postfix_step specs_step struct_body_step (Open.Reference keyword tag)

pub show_spec_body : (body : _) → spec_of (Spec.Body body) ≡ struct_body_of body.value
unfolding binary_of enumerator_of operand_of param_of postfix_suffix_of prefix_of primary_of spec_of suffix_of assign_of cast_of choice_of cond_of declarator_of enum_body_of expr_of member_of postfix_of specs_of struct_body_of
show_spec_body body = ap (fold-Spec Tree EnumeratorTree Tree ParamTree Post Pre Tree SpecTree SuffixTree Tree Tree ChoiceParts Tree DeclaratorTree SpecTree Tree MemberTree Tree SpecTrees SpecTree binary_step enumerator_step operand_step param_step postfix_suffix_step prefix_step primary_step spec_step suffix_step assign_step cast_step choice_step cond_step declarator_step enum_body_step expr_step member_step postfix_step specs_step struct_body_step) (sym (Spec.rolls-Body body)) ∙ fold-roll-Spec Tree EnumeratorTree Tree ParamTree Post Pre Tree SpecTree SuffixTree Tree Tree ChoiceParts Tree DeclaratorTree SpecTree Tree MemberTree Tree SpecTrees SpecTree binary_step enumerator_step operand_step param_step postfix_suffix_step prefix_step primary_step spec_step suffix_step assign_step cast_step choice_step cond_step declarator_step enum_body_step expr_step member_step postfix_step specs_step struct_body_step (Open.Body body)

pub show_spec_type_name : (name : _) → spec_of (Spec.TypeName name) ≡ tree.NamedType (type_named name)
unfolding binary_of enumerator_of operand_of param_of postfix_suffix_of prefix_of primary_of spec_of suffix_of assign_of cast_of choice_of cond_of declarator_of enum_body_of expr_of member_of postfix_of specs_of struct_body_of
show_spec_type_name name = ap (fold-Spec Tree EnumeratorTree Tree ParamTree Post Pre Tree SpecTree SuffixTree Tree Tree ChoiceParts Tree DeclaratorTree SpecTree Tree MemberTree Tree SpecTrees SpecTree binary_step enumerator_step operand_step param_step postfix_suffix_step prefix_step primary_step spec_step suffix_step assign_step cast_step choice_step cond_step declarator_step enum_body_step expr_step member_step postfix_step specs_step struct_body_step) (sym (Spec.rolls-TypeName name)) ∙ fold-roll-Spec Tree EnumeratorTree Tree ParamTree Post Pre Tree SpecTree SuffixTree Tree Tree ChoiceParts Tree DeclaratorTree SpecTree Tree MemberTree Tree SpecTrees SpecTree binary_step enumerator_step operand_step param_step postfix_suffix_step prefix_step primary_step spec_step suffix_step assign_step cast_step choice_step cond_step declarator_step enum_body_step expr_step member_step postfix_step specs_step struct_body_step (Open.TypeName name)

pub show_spec_enum_reference : (keyword : _) (tag : _) → spec_of (Spec.EnumReference keyword tag) ≡ tree.EnumTagged keyword (named tag)
unfolding binary_of enumerator_of operand_of param_of postfix_suffix_of prefix_of primary_of spec_of suffix_of assign_of cast_of choice_of cond_of declarator_of enum_body_of expr_of member_of postfix_of specs_of struct_body_of
show_spec_enum_reference keyword tag = ap (fold-Spec Tree EnumeratorTree Tree ParamTree Post Pre Tree SpecTree SuffixTree Tree Tree ChoiceParts Tree DeclaratorTree SpecTree Tree MemberTree Tree SpecTrees SpecTree binary_step enumerator_step operand_step param_step postfix_suffix_step prefix_step primary_step spec_step suffix_step assign_step cast_step choice_step cond_step declarator_step enum_body_step expr_step member_step postfix_step specs_step struct_body_step) (sym (Spec.rolls-EnumReference keyword tag)) ∙ fold-roll-Spec Tree EnumeratorTree Tree ParamTree Post Pre Tree SpecTree SuffixTree Tree Tree ChoiceParts Tree DeclaratorTree SpecTree Tree MemberTree Tree SpecTrees SpecTree binary_step enumerator_step operand_step param_step postfix_suffix_step prefix_step primary_step spec_step suffix_step assign_step cast_step choice_step cond_step declarator_step enum_body_step expr_step member_step postfix_step specs_step struct_body_step (Open.EnumReference keyword tag)

pub show_spec_enum_body : (body : _) → spec_of (Spec.EnumBody body) ≡ enum_body_of body.value
unfolding binary_of enumerator_of operand_of param_of postfix_suffix_of prefix_of primary_of spec_of suffix_of assign_of cast_of choice_of cond_of declarator_of enum_body_of expr_of member_of postfix_of specs_of struct_body_of
show_spec_enum_body body = ap (fold-Spec Tree EnumeratorTree Tree ParamTree Post Pre Tree SpecTree SuffixTree Tree Tree ChoiceParts Tree DeclaratorTree SpecTree Tree MemberTree Tree SpecTrees SpecTree binary_step enumerator_step operand_step param_step postfix_suffix_step prefix_step primary_step spec_step suffix_step assign_step cast_step choice_step cond_step declarator_step enum_body_step expr_step member_step postfix_step specs_step struct_body_step) (sym (Spec.rolls-EnumBody body)) ∙ fold-roll-Spec Tree EnumeratorTree Tree ParamTree Post Pre Tree SpecTree SuffixTree Tree Tree ChoiceParts Tree DeclaratorTree SpecTree Tree MemberTree Tree SpecTrees SpecTree binary_step enumerator_step operand_step param_step postfix_suffix_step prefix_step primary_step spec_step suffix_step assign_step cast_step choice_step cond_step declarator_step enum_body_step expr_step member_step postfix_step specs_step struct_body_step (Open.EnumBody body)

pub show_suffix_array_unsized : (opening : _) (closing : _) → suffix_of (Suffix.Array opening None closing) ≡ tree.Unsized opening closing
unfolding binary_of enumerator_of operand_of param_of postfix_suffix_of prefix_of primary_of spec_of suffix_of assign_of cast_of choice_of cond_of declarator_of enum_body_of expr_of member_of postfix_of specs_of struct_body_of
show_suffix_array_unsized opening closing = ap (fold-Suffix Tree EnumeratorTree Tree ParamTree Post Pre Tree SpecTree SuffixTree Tree Tree ChoiceParts Tree DeclaratorTree SpecTree Tree MemberTree Tree SpecTrees SpecTree binary_step enumerator_step operand_step param_step postfix_suffix_step prefix_step primary_step spec_step suffix_step assign_step cast_step choice_step cond_step declarator_step enum_body_step expr_step member_step postfix_step specs_step struct_body_step) (sym (Suffix.rolls-Array opening None closing)) ∙ fold-roll-Suffix Tree EnumeratorTree Tree ParamTree Post Pre Tree SpecTree SuffixTree Tree Tree ChoiceParts Tree DeclaratorTree SpecTree Tree MemberTree Tree SpecTrees SpecTree binary_step enumerator_step operand_step param_step postfix_suffix_step prefix_step primary_step spec_step suffix_step assign_step cast_step choice_step cond_step declarator_step enum_body_step expr_step member_step postfix_step specs_step struct_body_step (Open.Array opening None closing)

pub show_suffix_array : (opening : _) (size : _) (closing : _) → suffix_of (Suffix.Array opening (Some size) closing) ≡ tree.Sized opening (cond_of size.value) closing
unfolding binary_of enumerator_of operand_of param_of postfix_suffix_of prefix_of primary_of spec_of suffix_of assign_of cast_of choice_of cond_of declarator_of enum_body_of expr_of member_of postfix_of specs_of struct_body_of
show_suffix_array opening size closing = ap (fold-Suffix Tree EnumeratorTree Tree ParamTree Post Pre Tree SpecTree SuffixTree Tree Tree ChoiceParts Tree DeclaratorTree SpecTree Tree MemberTree Tree SpecTrees SpecTree binary_step enumerator_step operand_step param_step postfix_suffix_step prefix_step primary_step spec_step suffix_step assign_step cast_step choice_step cond_step declarator_step enum_body_step expr_step member_step postfix_step specs_step struct_body_step) (sym (Suffix.rolls-Array opening (Some size) closing)) ∙ fold-roll-Suffix Tree EnumeratorTree Tree ParamTree Post Pre Tree SpecTree SuffixTree Tree Tree ChoiceParts Tree DeclaratorTree SpecTree Tree MemberTree Tree SpecTrees SpecTree binary_step enumerator_step operand_step param_step postfix_suffix_step prefix_step primary_step spec_step suffix_step assign_step cast_step choice_step cond_step declarator_step enum_body_step expr_step member_step postfix_step specs_step struct_body_step (Open.Array opening (Some size) closing)

pub show_suffix_empty : (opening : _) (closing : _) → suffix_of (Suffix.Empty opening closing) ≡ tree.Empty opening closing
unfolding binary_of enumerator_of operand_of param_of postfix_suffix_of prefix_of primary_of spec_of suffix_of assign_of cast_of choice_of cond_of declarator_of enum_body_of expr_of member_of postfix_of specs_of struct_body_of
show_suffix_empty opening closing = ap (fold-Suffix Tree EnumeratorTree Tree ParamTree Post Pre Tree SpecTree SuffixTree Tree Tree ChoiceParts Tree DeclaratorTree SpecTree Tree MemberTree Tree SpecTrees SpecTree binary_step enumerator_step operand_step param_step postfix_suffix_step prefix_step primary_step spec_step suffix_step assign_step cast_step choice_step cond_step declarator_step enum_body_step expr_step member_step postfix_step specs_step struct_body_step) (sym (Suffix.rolls-Empty opening closing)) ∙ fold-roll-Suffix Tree EnumeratorTree Tree ParamTree Post Pre Tree SpecTree SuffixTree Tree Tree ChoiceParts Tree DeclaratorTree SpecTree Tree MemberTree Tree SpecTrees SpecTree binary_step enumerator_step operand_step param_step postfix_suffix_step prefix_step primary_step spec_step suffix_step assign_step cast_step choice_step cond_step declarator_step enum_body_step expr_step member_step postfix_step specs_step struct_body_step (Open.Empty opening closing)

pub show_suffix_void : (opening : _) (void : _) (closing : _) → suffix_of (Suffix.Void opening void closing) ≡ tree.VoidOnly opening void closing
unfolding binary_of enumerator_of operand_of param_of postfix_suffix_of prefix_of primary_of spec_of suffix_of assign_of cast_of choice_of cond_of declarator_of enum_body_of expr_of member_of postfix_of specs_of struct_body_of
show_suffix_void opening void closing = ap (fold-Suffix Tree EnumeratorTree Tree ParamTree Post Pre Tree SpecTree SuffixTree Tree Tree ChoiceParts Tree DeclaratorTree SpecTree Tree MemberTree Tree SpecTrees SpecTree binary_step enumerator_step operand_step param_step postfix_suffix_step prefix_step primary_step spec_step suffix_step assign_step cast_step choice_step cond_step declarator_step enum_body_step expr_step member_step postfix_step specs_step struct_body_step) (sym (Suffix.rolls-Void opening void closing)) ∙ fold-roll-Suffix Tree EnumeratorTree Tree ParamTree Post Pre Tree SpecTree SuffixTree Tree Tree ChoiceParts Tree DeclaratorTree SpecTree Tree MemberTree Tree SpecTrees SpecTree binary_step enumerator_step operand_step param_step postfix_suffix_step prefix_step primary_step spec_step suffix_step assign_step cast_step choice_step cond_step declarator_step enum_body_step expr_step member_step postfix_step specs_step struct_body_step (Open.Void opening void closing)

pub show_suffix_params : (opening : _) (first : _) (others : _) (closing : _) → suffix_of (Suffix.Params opening first others closing) ≡ tree.Params opening (param_of first.value) (more_params (map next_param_of others.items)) closing
unfolding binary_of enumerator_of operand_of param_of postfix_suffix_of prefix_of primary_of spec_of suffix_of assign_of cast_of choice_of cond_of declarator_of enum_body_of expr_of member_of postfix_of specs_of struct_body_of
show_suffix_params opening first others closing = ap (fold-Suffix Tree EnumeratorTree Tree ParamTree Post Pre Tree SpecTree SuffixTree Tree Tree ChoiceParts Tree DeclaratorTree SpecTree Tree MemberTree Tree SpecTrees SpecTree binary_step enumerator_step operand_step param_step postfix_suffix_step prefix_step primary_step spec_step suffix_step assign_step cast_step choice_step cond_step declarator_step enum_body_step expr_step member_step postfix_step specs_step struct_body_step) (sym (Suffix.rolls-Params opening first others closing)) ∙ fold-roll-Suffix Tree EnumeratorTree Tree ParamTree Post Pre Tree SpecTree SuffixTree Tree Tree ChoiceParts Tree DeclaratorTree SpecTree Tree MemberTree Tree SpecTrees SpecTree binary_step enumerator_step operand_step param_step postfix_suffix_step prefix_step primary_step spec_step suffix_step assign_step cast_step choice_step cond_step declarator_step enum_body_step expr_step member_step postfix_step specs_step struct_body_step (Open.Params opening first others closing)

pub show_assign : (x : Assign) → assign_of x ≡ assigned (map target_of (out-Assign x).targets.items) (cond_of (out-Assign x).value)
unfolding binary_of enumerator_of operand_of param_of postfix_suffix_of prefix_of primary_of spec_of suffix_of assign_of cast_of choice_of cond_of declarator_of enum_body_of expr_of member_of postfix_of specs_of struct_body_of
show_assign x = fold_out-Assign Tree EnumeratorTree Tree ParamTree Post Pre Tree SpecTree SuffixTree Tree Tree ChoiceParts Tree DeclaratorTree SpecTree Tree MemberTree Tree SpecTrees SpecTree binary_step enumerator_step operand_step param_step postfix_suffix_step prefix_step primary_step spec_step suffix_step assign_step cast_step choice_step cond_step declarator_step enum_body_step expr_step member_step postfix_step specs_step struct_body_step x ∙ ap (λ (ts : List (Tree × Symbol)). assigned ts (cond_of (out-Assign x).value)) (targets_seen (out-Assign x).targets.items)

pub made_assign : (y : _) → assign_of (roll-Assign y) ≡ assigned (map target_of y.targets.items) (cond_of y.value)
unfolding binary_of enumerator_of operand_of param_of postfix_suffix_of prefix_of primary_of spec_of suffix_of assign_of cast_of choice_of cond_of declarator_of enum_body_of expr_of member_of postfix_of specs_of struct_body_of
made_assign y = fold-roll-Assign Tree EnumeratorTree Tree ParamTree Post Pre Tree SpecTree SuffixTree Tree Tree ChoiceParts Tree DeclaratorTree SpecTree Tree MemberTree Tree SpecTrees SpecTree binary_step enumerator_step operand_step param_step postfix_suffix_step prefix_step primary_step spec_step suffix_step assign_step cast_step choice_step cond_step declarator_step enum_body_step expr_step member_step postfix_step specs_step struct_body_step y ∙ ap (λ (ts : List (Tree × Symbol)). assigned ts (cond_of y.value)) (targets_seen y.targets.items)

pub show_cast : (x : Cast) → cast_of x ≡ prefixed (map prefix_of (out-Cast x).prefixes.items) (operand_of (out-Cast x).operand)
unfolding binary_of enumerator_of operand_of param_of postfix_suffix_of prefix_of primary_of spec_of suffix_of assign_of cast_of choice_of cond_of declarator_of enum_body_of expr_of member_of postfix_of specs_of struct_body_of
show_cast x = fold_out-Cast Tree EnumeratorTree Tree ParamTree Post Pre Tree SpecTree SuffixTree Tree Tree ChoiceParts Tree DeclaratorTree SpecTree Tree MemberTree Tree SpecTrees SpecTree binary_step enumerator_step operand_step param_step postfix_suffix_step prefix_step primary_step spec_step suffix_step assign_step cast_step choice_step cond_step declarator_step enum_body_step expr_step member_step postfix_step specs_step struct_body_step x

pub made_cast : (y : _) → cast_of (roll-Cast y) ≡ prefixed (map prefix_of y.prefixes.items) (operand_of y.operand)
unfolding binary_of enumerator_of operand_of param_of postfix_suffix_of prefix_of primary_of spec_of suffix_of assign_of cast_of choice_of cond_of declarator_of enum_body_of expr_of member_of postfix_of specs_of struct_body_of
made_cast y = fold-roll-Cast Tree EnumeratorTree Tree ParamTree Post Pre Tree SpecTree SuffixTree Tree Tree ChoiceParts Tree DeclaratorTree SpecTree Tree MemberTree Tree SpecTrees SpecTree binary_step enumerator_step operand_step param_step postfix_suffix_step prefix_step primary_step spec_step suffix_step assign_step cast_step choice_step cond_step declarator_step enum_body_step expr_step member_step postfix_step specs_step struct_body_step y

pub show_choice : (x : Choice) → choice_of x ≡ (binary_of (out-Choice x).condition, (out-Choice x).question, expr_of (out-Choice x).then.value, (out-Choice x).colon)
unfolding binary_of enumerator_of operand_of param_of postfix_suffix_of prefix_of primary_of spec_of suffix_of assign_of cast_of choice_of cond_of declarator_of enum_body_of expr_of member_of postfix_of specs_of struct_body_of
show_choice x = fold_out-Choice Tree EnumeratorTree Tree ParamTree Post Pre Tree SpecTree SuffixTree Tree Tree ChoiceParts Tree DeclaratorTree SpecTree Tree MemberTree Tree SpecTrees SpecTree binary_step enumerator_step operand_step param_step postfix_suffix_step prefix_step primary_step spec_step suffix_step assign_step cast_step choice_step cond_step declarator_step enum_body_step expr_step member_step postfix_step specs_step struct_body_step x

pub made_choice : (y : _) → choice_of (roll-Choice y) ≡ (binary_of y.condition, y.question, expr_of y.then.value, y.colon)
unfolding binary_of enumerator_of operand_of param_of postfix_suffix_of prefix_of primary_of spec_of suffix_of assign_of cast_of choice_of cond_of declarator_of enum_body_of expr_of member_of postfix_of specs_of struct_body_of
made_choice y = fold-roll-Choice Tree EnumeratorTree Tree ParamTree Post Pre Tree SpecTree SuffixTree Tree Tree ChoiceParts Tree DeclaratorTree SpecTree Tree MemberTree Tree SpecTrees SpecTree binary_step enumerator_step operand_step param_step postfix_suffix_step prefix_step primary_step spec_step suffix_step assign_step cast_step choice_step cond_step declarator_step enum_body_step expr_step member_step postfix_step specs_step struct_body_step y

pub show_cond : (x : Cond) → cond_of x ≡ chosen (map choice_of (out-Cond x).choices.items) (binary_of (out-Cond x).last)
unfolding binary_of enumerator_of operand_of param_of postfix_suffix_of prefix_of primary_of spec_of suffix_of assign_of cast_of choice_of cond_of declarator_of enum_body_of expr_of member_of postfix_of specs_of struct_body_of
show_cond x = fold_out-Cond Tree EnumeratorTree Tree ParamTree Post Pre Tree SpecTree SuffixTree Tree Tree ChoiceParts Tree DeclaratorTree SpecTree Tree MemberTree Tree SpecTrees SpecTree binary_step enumerator_step operand_step param_step postfix_suffix_step prefix_step primary_step spec_step suffix_step assign_step cast_step choice_step cond_step declarator_step enum_body_step expr_step member_step postfix_step specs_step struct_body_step x

pub made_cond : (y : _) → cond_of (roll-Cond y) ≡ chosen (map choice_of y.choices.items) (binary_of y.last)
unfolding binary_of enumerator_of operand_of param_of postfix_suffix_of prefix_of primary_of spec_of suffix_of assign_of cast_of choice_of cond_of declarator_of enum_body_of expr_of member_of postfix_of specs_of struct_body_of
made_cond y = fold-roll-Cond Tree EnumeratorTree Tree ParamTree Post Pre Tree SpecTree SuffixTree Tree Tree ChoiceParts Tree DeclaratorTree SpecTree Tree MemberTree Tree SpecTrees SpecTree binary_step enumerator_step operand_step param_step postfix_suffix_step prefix_step primary_step spec_step suffix_step assign_step cast_step choice_step cond_step declarator_step enum_body_step expr_step member_step postfix_step specs_step struct_body_step y

pub show_declarator : (x : Declarator) → declarator_of x ≡ tree.Declares (spell_pointers (out-Declarator x).pointers.items) (named (out-Declarator x).name) (suffixes_of (map suffix_of (out-Declarator x).suffixes.items))
unfolding binary_of enumerator_of operand_of param_of postfix_suffix_of prefix_of primary_of spec_of suffix_of assign_of cast_of choice_of cond_of declarator_of enum_body_of expr_of member_of postfix_of specs_of struct_body_of
show_declarator x = fold_out-Declarator Tree EnumeratorTree Tree ParamTree Post Pre Tree SpecTree SuffixTree Tree Tree ChoiceParts Tree DeclaratorTree SpecTree Tree MemberTree Tree SpecTrees SpecTree binary_step enumerator_step operand_step param_step postfix_suffix_step prefix_step primary_step spec_step suffix_step assign_step cast_step choice_step cond_step declarator_step enum_body_step expr_step member_step postfix_step specs_step struct_body_step x

pub made_declarator : (y : _) → declarator_of (roll-Declarator y) ≡ tree.Declares (spell_pointers y.pointers.items) (named y.name) (suffixes_of (map suffix_of y.suffixes.items))
unfolding binary_of enumerator_of operand_of param_of postfix_suffix_of prefix_of primary_of spec_of suffix_of assign_of cast_of choice_of cond_of declarator_of enum_body_of expr_of member_of postfix_of specs_of struct_body_of
made_declarator y = fold-roll-Declarator Tree EnumeratorTree Tree ParamTree Post Pre Tree SpecTree SuffixTree Tree Tree ChoiceParts Tree DeclaratorTree SpecTree Tree MemberTree Tree SpecTrees SpecTree binary_step enumerator_step operand_step param_step postfix_suffix_step prefix_step primary_step spec_step suffix_step assign_step cast_step choice_step cond_step declarator_step enum_body_step expr_step member_step postfix_step specs_step struct_body_step y

pub show_enum_body : (x : EnumBody) → enum_body_of x ≡ tree.EnumBody (out-EnumBody x).keyword (spell_tag (out-EnumBody x).tag) (out-EnumBody x).opening (enumerator_of (out-EnumBody x).first) (more_enumerators (map next_enumerator_of (out-EnumBody x).others.items)) (out-EnumBody x).last_comma (out-EnumBody x).closing
unfolding binary_of enumerator_of operand_of param_of postfix_suffix_of prefix_of primary_of spec_of suffix_of assign_of cast_of choice_of cond_of declarator_of enum_body_of expr_of member_of postfix_of specs_of struct_body_of
show_enum_body x = fold_out-EnumBody Tree EnumeratorTree Tree ParamTree Post Pre Tree SpecTree SuffixTree Tree Tree ChoiceParts Tree DeclaratorTree SpecTree Tree MemberTree Tree SpecTrees SpecTree binary_step enumerator_step operand_step param_step postfix_suffix_step prefix_step primary_step spec_step suffix_step assign_step cast_step choice_step cond_step declarator_step enum_body_step expr_step member_step postfix_step specs_step struct_body_step x

pub made_enum_body : (y : _) → enum_body_of (roll-EnumBody y) ≡ tree.EnumBody y.keyword (spell_tag y.tag) y.opening (enumerator_of y.first) (more_enumerators (map next_enumerator_of y.others.items)) y.last_comma y.closing
unfolding binary_of enumerator_of operand_of param_of postfix_suffix_of prefix_of primary_of spec_of suffix_of assign_of cast_of choice_of cond_of declarator_of enum_body_of expr_of member_of postfix_of specs_of struct_body_of
made_enum_body y = fold-roll-EnumBody Tree EnumeratorTree Tree ParamTree Post Pre Tree SpecTree SuffixTree Tree Tree ChoiceParts Tree DeclaratorTree SpecTree Tree MemberTree Tree SpecTrees SpecTree binary_step enumerator_step operand_step param_step postfix_suffix_step prefix_step primary_step spec_step suffix_step assign_step cast_step choice_step cond_step declarator_step enum_body_step expr_step member_step postfix_step specs_step struct_body_step y

pub show_expr : (x : Expr) → expr_of x ≡ listed (assign_of (out-Expr x).first) (map next_assign_of (out-Expr x).others.items)
unfolding binary_of enumerator_of operand_of param_of postfix_suffix_of prefix_of primary_of spec_of suffix_of assign_of cast_of choice_of cond_of declarator_of enum_body_of expr_of member_of postfix_of specs_of struct_body_of
show_expr x = fold_out-Expr Tree EnumeratorTree Tree ParamTree Post Pre Tree SpecTree SuffixTree Tree Tree ChoiceParts Tree DeclaratorTree SpecTree Tree MemberTree Tree SpecTrees SpecTree binary_step enumerator_step operand_step param_step postfix_suffix_step prefix_step primary_step spec_step suffix_step assign_step cast_step choice_step cond_step declarator_step enum_body_step expr_step member_step postfix_step specs_step struct_body_step x

pub made_expr : (y : _) → expr_of (roll-Expr y) ≡ listed (assign_of y.first) (map next_assign_of y.others.items)
unfolding binary_of enumerator_of operand_of param_of postfix_suffix_of prefix_of primary_of spec_of suffix_of assign_of cast_of choice_of cond_of declarator_of enum_body_of expr_of member_of postfix_of specs_of struct_body_of
made_expr y = fold-roll-Expr Tree EnumeratorTree Tree ParamTree Post Pre Tree SpecTree SuffixTree Tree Tree ChoiceParts Tree DeclaratorTree SpecTree Tree MemberTree Tree SpecTrees SpecTree binary_step enumerator_step operand_step param_step postfix_suffix_step prefix_step primary_step spec_step suffix_step assign_step cast_step choice_step cond_step declarator_step enum_body_step expr_step member_step postfix_step specs_step struct_body_step y

pub show_member : (x : Member) → member_of x ≡ tree.Members (specs_of (out-Member x).specs) (declarator_of (out-Member x).first) (more_declarators (map next_declarator_of (out-Member x).others.items)) (out-Member x).semicolon
unfolding binary_of enumerator_of operand_of param_of postfix_suffix_of prefix_of primary_of spec_of suffix_of assign_of cast_of choice_of cond_of declarator_of enum_body_of expr_of member_of postfix_of specs_of struct_body_of
show_member x = fold_out-Member Tree EnumeratorTree Tree ParamTree Post Pre Tree SpecTree SuffixTree Tree Tree ChoiceParts Tree DeclaratorTree SpecTree Tree MemberTree Tree SpecTrees SpecTree binary_step enumerator_step operand_step param_step postfix_suffix_step prefix_step primary_step spec_step suffix_step assign_step cast_step choice_step cond_step declarator_step enum_body_step expr_step member_step postfix_step specs_step struct_body_step x

pub made_member : (y : _) → member_of (roll-Member y) ≡ tree.Members (specs_of y.specs) (declarator_of y.first) (more_declarators (map next_declarator_of y.others.items)) y.semicolon
unfolding binary_of enumerator_of operand_of param_of postfix_suffix_of prefix_of primary_of spec_of suffix_of assign_of cast_of choice_of cond_of declarator_of enum_body_of expr_of member_of postfix_of specs_of struct_body_of
made_member y = fold-roll-Member Tree EnumeratorTree Tree ParamTree Post Pre Tree SpecTree SuffixTree Tree Tree ChoiceParts Tree DeclaratorTree SpecTree Tree MemberTree Tree SpecTrees SpecTree binary_step enumerator_step operand_step param_step postfix_suffix_step prefix_step primary_step spec_step suffix_step assign_step cast_step choice_step cond_step declarator_step enum_body_step expr_step member_step postfix_step specs_step struct_body_step y

pub show_postfix : (x : Postfix) → postfix_of x ≡ posted (primary_of (out-Postfix x).primary) (map postfix_suffix_of (out-Postfix x).suffixes.items)
unfolding binary_of enumerator_of operand_of param_of postfix_suffix_of prefix_of primary_of spec_of suffix_of assign_of cast_of choice_of cond_of declarator_of enum_body_of expr_of member_of postfix_of specs_of struct_body_of
show_postfix x = fold_out-Postfix Tree EnumeratorTree Tree ParamTree Post Pre Tree SpecTree SuffixTree Tree Tree ChoiceParts Tree DeclaratorTree SpecTree Tree MemberTree Tree SpecTrees SpecTree binary_step enumerator_step operand_step param_step postfix_suffix_step prefix_step primary_step spec_step suffix_step assign_step cast_step choice_step cond_step declarator_step enum_body_step expr_step member_step postfix_step specs_step struct_body_step x

pub made_postfix : (y : _) → postfix_of (roll-Postfix y) ≡ posted (primary_of y.primary) (map postfix_suffix_of y.suffixes.items)
unfolding binary_of enumerator_of operand_of param_of postfix_suffix_of prefix_of primary_of spec_of suffix_of assign_of cast_of choice_of cond_of declarator_of enum_body_of expr_of member_of postfix_of specs_of struct_body_of
made_postfix y = fold-roll-Postfix Tree EnumeratorTree Tree ParamTree Post Pre Tree SpecTree SuffixTree Tree Tree ChoiceParts Tree DeclaratorTree SpecTree Tree MemberTree Tree SpecTrees SpecTree binary_step enumerator_step operand_step param_step postfix_suffix_step prefix_step primary_step spec_step suffix_step assign_step cast_step choice_step cond_step declarator_step enum_body_step expr_step member_step postfix_step specs_step struct_body_step y

pub show_specs : (x : Specs) → specs_of x ≡ tree.Specified (spec_of (out-Specs x).first) (more_specs (map spec_of (out-Specs x).others.items))
unfolding binary_of enumerator_of operand_of param_of postfix_suffix_of prefix_of primary_of spec_of suffix_of assign_of cast_of choice_of cond_of declarator_of enum_body_of expr_of member_of postfix_of specs_of struct_body_of
show_specs x = fold_out-Specs Tree EnumeratorTree Tree ParamTree Post Pre Tree SpecTree SuffixTree Tree Tree ChoiceParts Tree DeclaratorTree SpecTree Tree MemberTree Tree SpecTrees SpecTree binary_step enumerator_step operand_step param_step postfix_suffix_step prefix_step primary_step spec_step suffix_step assign_step cast_step choice_step cond_step declarator_step enum_body_step expr_step member_step postfix_step specs_step struct_body_step x

pub made_specs : (y : _) → specs_of (roll-Specs y) ≡ tree.Specified (spec_of y.first) (more_specs (map spec_of y.others.items))
unfolding binary_of enumerator_of operand_of param_of postfix_suffix_of prefix_of primary_of spec_of suffix_of assign_of cast_of choice_of cond_of declarator_of enum_body_of expr_of member_of postfix_of specs_of struct_body_of
made_specs y = fold-roll-Specs Tree EnumeratorTree Tree ParamTree Post Pre Tree SpecTree SuffixTree Tree Tree ChoiceParts Tree DeclaratorTree SpecTree Tree MemberTree Tree SpecTrees SpecTree binary_step enumerator_step operand_step param_step postfix_suffix_step prefix_step primary_step spec_step suffix_step assign_step cast_step choice_step cond_step declarator_step enum_body_step expr_step member_step postfix_step specs_step struct_body_step y

pub show_struct_body : (x : StructBody) → struct_body_of x ≡ tree.Body (out-StructBody x).keyword (spell_tag (out-StructBody x).tag) (out-StructBody x).opening (member_of (out-StructBody x).first) (more_members (map member_of (out-StructBody x).others.items)) (out-StructBody x).closing
unfolding binary_of enumerator_of operand_of param_of postfix_suffix_of prefix_of primary_of spec_of suffix_of assign_of cast_of choice_of cond_of declarator_of enum_body_of expr_of member_of postfix_of specs_of struct_body_of
show_struct_body x = fold_out-StructBody Tree EnumeratorTree Tree ParamTree Post Pre Tree SpecTree SuffixTree Tree Tree ChoiceParts Tree DeclaratorTree SpecTree Tree MemberTree Tree SpecTrees SpecTree binary_step enumerator_step operand_step param_step postfix_suffix_step prefix_step primary_step spec_step suffix_step assign_step cast_step choice_step cond_step declarator_step enum_body_step expr_step member_step postfix_step specs_step struct_body_step x

pub made_struct_body : (y : _) → struct_body_of (roll-StructBody y) ≡ tree.Body y.keyword (spell_tag y.tag) y.opening (member_of y.first) (more_members (map member_of y.others.items)) y.closing
unfolding binary_of enumerator_of operand_of param_of postfix_suffix_of prefix_of primary_of spec_of suffix_of assign_of cast_of choice_of cond_of declarator_of enum_body_of expr_of member_of postfix_of specs_of struct_body_of
made_struct_body y = fold-roll-StructBody Tree EnumeratorTree Tree ParamTree Post Pre Tree SpecTree SuffixTree Tree Tree ChoiceParts Tree DeclaratorTree SpecTree Tree MemberTree Tree SpecTrees SpecTree binary_step enumerator_step operand_step param_step postfix_suffix_step prefix_step primary_step spec_step suffix_step assign_step cast_step choice_step cond_step declarator_step enum_body_step expr_step member_step postfix_step specs_step struct_body_step y
