-- The spelling of each tree from the spellings of its parts.
use Rattle.std.proofs.Common.{refl, ◌≡◌, ℕ, [], ◌∷◌, ◌++◌, Some, None, map, ap, ◌∙◌}
use Rattle.c_token.specs.declared.token.Keyword.TheVariants as words
use Rattle.c_token.specs.declared.token.Punct.TheVariants.{LeftBracket, RightBracket, LeftParenthesis, RightParenthesis, LeftBrace, RightBrace, Question, Colon, Semicolon, Comma}
use Rattle.c_token.specs.declared.token.Punct.TheVariants as marks
use Rattle.c_nodes.specs.Words.{Symbol, Symbols, key, punct, keyed, signed, named, flat, spell_constant, spell_pointers, spell_tag, type_named, spelled_comma}
use Rattle.c_nodes.specs.Trees.{Tree, DeclaratorTree, ParamTree, spelled, spelled_post, spelled_pre, spelled_type, spelled_specs, spelled_spec, spelled_member, spelled_declarator, spelled_suffix, spelled_param, EnumeratorTree, spelled_enumerator}
use Rattle.c_nodes.specs.Lists.{ChoiceParts}
use Rattle.c_nodes.specs.Views.{NextAssign, NextDeclarator, NextEnumerator, NextOperand, NextParam, Target, TypeName, binary_of, operand_of, param_of, postfix_suffix_of, prefix_of, primary_of, spec_of, suffix_of, assign_of, choice_of, cond_of, declarator_of, member_of, next_assign_of, next_declarator_of, next_operand_of, next_param_of, specs_of, target_of, enumerator_of, next_enumerator_of}
use Rattle.c_tree.specs.Spelling.{spell_binary, spell_operand, spell_param, spell_postfix_suffix, spell_prefix, spell_primary, spell_spec, spell_suffix, spell_assign, spell_cast, spell_choice, spell_cond, spell_declarator, spell_expr, spell_member, spell_next_assign, spell_next_declarator, spell_next_operand, spell_next_param, spell_postfix, spell_specs, spell_struct_body, spell_target, spell_type_name, spell_enum_body, spell_enumerator, spell_next_enumerator}
use Rattle.c_tree.proofs.Lists.{spelled_posted, spelled_joined, spelled_listed, spelled_prefixed, spelled_chosen, spelled_assigned, specs_listed, members_listed, declarators_listed, suffixes_listed, params_listed, enumerators_listed}
use Rattle.c_nodes.proofs.Shapes.{show_binary_operand, show_binary_chain, show_operand_postfix, show_operand_sizeof_type, show_param_named, show_param_unnamed, show_postfix_suffix_index, show_postfix_suffix_call_bare, show_postfix_suffix_call, show_postfix_suffix_member, show_postfix_suffix_step, show_prefix_operator, show_prefix_sizeof, show_prefix_cast, show_primary_name, show_primary_constant, show_primary_group, show_spec_word, show_spec_reference, show_spec_body, show_suffix_array_unsized, show_suffix_array, show_suffix_empty, show_suffix_void, show_suffix_params, show_assign, show_cast, show_choice, show_cond, show_declarator, show_expr, show_member, show_postfix, show_specs, show_struct_body, show_enumerator_bare, show_enumerator_valued, show_spec_type_name, show_spec_enum_reference, show_spec_enum_body, show_enum_body}
use Rattle.c_nodes.specs.declared.expression.Assign.{Assign}
use Rattle.c_nodes.specs.declared.expression.Cast.{Cast}
use Rattle.c_nodes.specs.declared.expression.Choice.{Choice}
use Rattle.c_nodes.specs.declared.expression.Cond.{Cond}
use Rattle.c_nodes.specs.declared.expression.Declarator.{Declarator}
use Rattle.c_nodes.specs.declared.expression.EnumBody.{EnumBody}
use Rattle.c_nodes.specs.declared.expression.Expr.{Expr}
use Rattle.c_nodes.specs.declared.expression.Member.{Member}
use Rattle.c_nodes.specs.declared.expression.Postfix.{Postfix}
use Rattle.c_nodes.specs.declared.expression.Specs.{Specs}
use Rattle.c_nodes.specs.declared.expression.StructBody.{StructBody}
use Rattle.c_nodes.specs.declared.expression.Binary.TheVariants as Binary
use Rattle.c_nodes.specs.declared.expression.Enumerator.TheVariants as Enumerator
use Rattle.c_nodes.specs.declared.expression.Operand.TheVariants as Operand
use Rattle.c_nodes.specs.declared.expression.Param.TheVariants as Param
use Rattle.c_nodes.specs.declared.expression.PostfixSuffix.TheVariants as PostfixSuffix
use Rattle.c_nodes.specs.declared.expression.Prefix.TheVariants as Prefix
use Rattle.c_nodes.specs.declared.expression.Primary.TheVariants as Primary
use Rattle.c_nodes.specs.declared.expression.Spec.TheVariants as Spec
use Rattle.c_nodes.specs.declared.expression.Suffix.TheVariants as Suffix
use Rattle.c_nodes.specs.declared.expression.Binary.TheViews.{out-Assign, out-Cast, out-Choice, out-Cond, out-Declarator, out-EnumBody, out-Expr, out-Member, out-Postfix, out-Specs, out-StructBody}

pub see_binary_operand : (operand : _) → spell_binary (Binary.Operand operand) ≡ spell_cast operand
see_binary_operand operand = ap spelled (show_binary_operand operand)

pub see_binary_chain : (first : _) (others : _) → spell_binary (Binary.Chain first others) ≡ spell_binary first.value ++ flat (map spell_next_operand others.items)
see_binary_chain first others = ap spelled (show_binary_chain first others) ∙ spelled_joined next_operand_of others.items (binary_of first.value)

pub see_operand_postfix : (postfix : _) → spell_operand (Operand.Postfix postfix) ≡ spell_postfix postfix
see_operand_postfix postfix = ap spelled (show_operand_postfix postfix)

pub see_operand_sizeof_type : (keyword : _) (opening : _) (type_name : _) (closing : _) → spell_operand (Operand.SizeofType keyword opening type_name closing) ≡ key words.Sizeof keyword ∷ punct LeftParenthesis opening ∷ (spell_type_name type_name.value ++ punct RightParenthesis closing ∷ [])
see_operand_sizeof_type keyword opening type_name closing = ap spelled (show_operand_sizeof_type keyword opening type_name closing)

pub see_param_named : (specs : _) (declarator : _) → spell_param (Param.Named specs declarator) ≡ spell_specs specs ++ spell_declarator declarator
see_param_named specs declarator = ap spelled_param (show_param_named specs declarator)

pub see_param_unnamed : (specs : _) (pointers : _) (suffixes : _) → spell_param (Param.Unnamed specs pointers suffixes) ≡ spell_specs specs ++ (spell_pointers pointers.items ++ flat (map spell_suffix suffixes.items))
see_param_unnamed specs pointers suffixes = ap spelled_param (show_param_unnamed specs pointers suffixes) ∙ ap (λ (l : Symbols). spelled_specs (specs_of specs) ++ (spell_pointers pointers.items ++ l)) (suffixes_listed suffix_of suffixes.items)

pub see_postfix_suffix_index : (opening : _) (index : _) (closing : _) → spell_postfix_suffix (PostfixSuffix.Index opening index closing) ≡ punct LeftBracket opening ∷ (spell_expr index.value ++ punct RightBracket closing ∷ [])
see_postfix_suffix_index opening index closing = ap spelled_post (show_postfix_suffix_index opening index closing)

pub see_postfix_suffix_call_none : (opening : _) (closing : _) → spell_postfix_suffix (PostfixSuffix.Call opening None closing) ≡ punct LeftParenthesis opening ∷ punct RightParenthesis closing ∷ []
see_postfix_suffix_call_none opening closing = ap spelled_post (show_postfix_suffix_call_bare opening closing)

pub see_postfix_suffix_call_some : (opening : _) (arguments : _) (closing : _) → spell_postfix_suffix (PostfixSuffix.Call opening (Some arguments) closing) ≡ punct LeftParenthesis opening ∷ (spell_expr arguments.value ++ punct RightParenthesis closing ∷ [])
see_postfix_suffix_call_some opening arguments closing = ap spelled_post (show_postfix_suffix_call opening arguments closing)

pub see_postfix_suffix_member : (operator : _) (name : _) → spell_postfix_suffix (PostfixSuffix.Member operator name) ≡ signed operator ∷ named name ∷ []
see_postfix_suffix_member operator name = ap spelled_post (show_postfix_suffix_member operator name)

pub see_postfix_suffix_step : (operator : _) → spell_postfix_suffix (PostfixSuffix.Step operator) ≡ signed operator ∷ []
see_postfix_suffix_step operator = ap spelled_post (show_postfix_suffix_step operator)

pub see_prefix_operator : (operator : _) → spell_prefix (Prefix.Operator operator) ≡ signed operator ∷ []
see_prefix_operator operator = ap spelled_pre (show_prefix_operator operator)

pub see_prefix_sizeof : (keyword : _) → spell_prefix (Prefix.Sizeof keyword) ≡ key words.Sizeof keyword ∷ []
see_prefix_sizeof keyword = ap spelled_pre (show_prefix_sizeof keyword)

pub see_prefix_cast : (opening : _) (type_name : _) (closing : _) → spell_prefix (Prefix.Cast opening type_name closing) ≡ punct LeftParenthesis opening ∷ (spell_type_name type_name.value ++ punct RightParenthesis closing ∷ [])
see_prefix_cast opening type_name closing = ap spelled_pre (show_prefix_cast opening type_name closing)

pub see_primary_name : (name : _) → spell_primary (Primary.Name name) ≡ named name ∷ []
see_primary_name name = ap spelled (show_primary_name name)

pub see_primary_constant : (constant : _) → spell_primary (Primary.Constant constant) ≡ spell_constant constant ∷ []
see_primary_constant constant = ap spelled (show_primary_constant constant)

pub see_primary_group : (opening : _) (inner : _) (closing : _) → spell_primary (Primary.Group opening inner closing) ≡ punct LeftParenthesis opening ∷ (spell_expr inner.value ++ punct RightParenthesis closing ∷ [])
see_primary_group opening inner closing = ap spelled (show_primary_group opening inner closing)

pub see_spec_word : (word : _) → spell_spec (Spec.Word word) ≡ keyed word ∷ []
see_spec_word word = ap spelled_spec (show_spec_word word)

pub see_spec_reference : (keyword : _) (tag : _) → spell_spec (Spec.Reference keyword tag) ≡ key words.Struct keyword ∷ named tag ∷ []
see_spec_reference keyword tag = ap spelled_spec (show_spec_reference keyword tag)

pub see_spec_body : (body : _) → spell_spec (Spec.Body body) ≡ spell_struct_body body.value
see_spec_body body = ap spelled_spec (show_spec_body body)

pub see_spec_type_name : (name : _) → spell_spec (Spec.TypeName name) ≡ type_named name ∷ []
see_spec_type_name name = ap spelled_spec (show_spec_type_name name)

pub see_spec_enum_reference : (keyword : _) (tag : _) → spell_spec (Spec.EnumReference keyword tag) ≡ key words.Enum keyword ∷ named tag ∷ []
see_spec_enum_reference keyword tag = ap spelled_spec (show_spec_enum_reference keyword tag)

pub see_spec_enum_body : (body : _) → spell_spec (Spec.EnumBody body) ≡ spell_enum_body body.value
see_spec_enum_body body = ap spelled_spec (show_spec_enum_body body)

pub see_enumerator_bare : (name : _) → spell_enumerator (Enumerator.Bare name) ≡ named name ∷ []
see_enumerator_bare name = ap spelled_enumerator (show_enumerator_bare name)

pub see_enumerator_valued : (name : _) (equals : _) (value : _) → spell_enumerator (Enumerator.Valued name equals value) ≡ named name ∷ punct marks.Assign equals ∷ spell_cond value.value
see_enumerator_valued name equals value = ap spelled_enumerator (show_enumerator_valued name equals value)

pub see_suffix_array_none : (opening : _) (closing : _) → spell_suffix (Suffix.Array opening None closing) ≡ punct LeftBracket opening ∷ punct RightBracket closing ∷ []
see_suffix_array_none opening closing = ap spelled_suffix (show_suffix_array_unsized opening closing)

pub see_suffix_array_some : (opening : _) (length : _) (closing : _) → spell_suffix (Suffix.Array opening (Some length) closing) ≡ punct LeftBracket opening ∷ (spell_cond length.value ++ punct RightBracket closing ∷ [])
see_suffix_array_some opening length closing = ap spelled_suffix (show_suffix_array opening length closing)

pub see_suffix_empty : (opening : _) (closing : _) → spell_suffix (Suffix.Empty opening closing) ≡ punct LeftParenthesis opening ∷ punct RightParenthesis closing ∷ []
see_suffix_empty opening closing = ap spelled_suffix (show_suffix_empty opening closing)

pub see_suffix_void : (opening : _) (void : _) (closing : _) → spell_suffix (Suffix.Void opening void closing) ≡ punct LeftParenthesis opening ∷ key words.Void void ∷ punct RightParenthesis closing ∷ []
see_suffix_void opening void closing = ap spelled_suffix (show_suffix_void opening void closing)

pub see_suffix_params : (opening : _) (first : _) (others : _) (closing : _) → spell_suffix (Suffix.Params opening first others closing) ≡ punct LeftParenthesis opening ∷ (spell_param first.value ++ (flat (map spell_next_param others.items) ++ punct RightParenthesis closing ∷ []))
see_suffix_params opening first others closing = ap spelled_suffix (show_suffix_params opening first others closing) ∙ ap (λ (l : Symbols). punct LeftParenthesis opening ∷ (spelled_param (param_of first.value) ++ (l ++ punct RightParenthesis closing ∷ []))) (params_listed next_param_of others.items)

pub see_assign : (x : Assign) → spell_assign x ≡ flat (map spell_target (out-Assign x).targets.items) ++ spell_cond (out-Assign x).value
see_assign x = ap spelled (show_assign x) ∙ spelled_assigned target_of (out-Assign x).targets.items (cond_of (out-Assign x).value)

pub see_cast : (x : Cast) → spell_cast x ≡ flat (map spell_prefix (out-Cast x).prefixes.items) ++ spell_operand (out-Cast x).operand
see_cast x = ap spelled (show_cast x) ∙ spelled_prefixed prefix_of (out-Cast x).prefixes.items (operand_of (out-Cast x).operand)

pub see_choice : (x : Choice) → spell_choice x ≡ spell_binary (out-Choice x).condition ++ punct Question (out-Choice x).question ∷ (spell_expr (out-Choice x).then.value ++ punct Colon (out-Choice x).colon ∷ [])
see_choice x = ap (λ (c : ChoiceParts). spelled c.0 ++ punct Question c.1 ∷ (spelled c.2 ++ punct Colon c.3 ∷ [])) (show_choice x)

pub see_cond : (x : Cond) → spell_cond x ≡ flat (map spell_choice (out-Cond x).choices.items) ++ spell_binary (out-Cond x).last
see_cond x = ap spelled (show_cond x) ∙ spelled_chosen choice_of (out-Cond x).choices.items (binary_of (out-Cond x).last)

pub see_declarator : (x : Declarator) → spell_declarator x ≡ spell_pointers (out-Declarator x).pointers.items ++ named (out-Declarator x).name ∷ flat (map spell_suffix (out-Declarator x).suffixes.items)
see_declarator x = ap spelled_declarator (show_declarator x) ∙ ap (λ (l : Symbols). spell_pointers (out-Declarator x).pointers.items ++ named (out-Declarator x).name ∷ l) (suffixes_listed suffix_of (out-Declarator x).suffixes.items)

pub see_expr : (x : Expr) → spell_expr x ≡ spell_assign (out-Expr x).first ++ flat (map spell_next_assign (out-Expr x).others.items)
see_expr x = ap spelled (show_expr x) ∙ spelled_listed next_assign_of (out-Expr x).others.items (assign_of (out-Expr x).first)

pub see_member : (x : Member) → spell_member x ≡ spell_specs (out-Member x).specs ++ (spell_declarator (out-Member x).first ++ (flat (map spell_next_declarator (out-Member x).others.items) ++ punct Semicolon (out-Member x).semicolon ∷ []))
see_member x = ap spelled_member (show_member x) ∙ ap (λ (l : Symbols). spelled_specs (specs_of (out-Member x).specs) ++ (spelled_declarator (declarator_of (out-Member x).first) ++ (l ++ punct Semicolon (out-Member x).semicolon ∷ []))) (declarators_listed next_declarator_of (out-Member x).others.items)

pub see_next_assign : (x : NextAssign) → spell_next_assign x ≡ punct Comma x.0 ∷ spell_assign x.1
see_next_assign x = refl

pub see_next_declarator : (x : NextDeclarator) → spell_next_declarator x ≡ punct Comma x.0 ∷ spell_declarator x.1
see_next_declarator x = refl

pub see_next_operand : (x : NextOperand) → spell_next_operand x ≡ signed x.0.sign ∷ spell_binary x.1
see_next_operand x = refl

pub see_next_param : (x : NextParam) → spell_next_param x ≡ punct Comma x.0 ∷ spell_param x.1
see_next_param x = refl

pub see_postfix : (x : Postfix) → spell_postfix x ≡ spell_primary (out-Postfix x).primary ++ flat (map spell_postfix_suffix (out-Postfix x).suffixes.items)
see_postfix x = ap spelled (show_postfix x) ∙ spelled_posted postfix_suffix_of (out-Postfix x).suffixes.items (primary_of (out-Postfix x).primary)

pub see_specs : (x : Specs) → spell_specs x ≡ spell_spec (out-Specs x).first ++ flat (map spell_spec (out-Specs x).others.items)
see_specs x = ap spelled_specs (show_specs x) ∙ ap (λ (l : Symbols). spelled_spec (spec_of (out-Specs x).first) ++ l) (specs_listed spec_of (out-Specs x).others.items)

pub see_struct_body : (x : StructBody) → spell_struct_body x ≡ key words.Struct (out-StructBody x).keyword ∷ (spell_tag (out-StructBody x).tag ++ punct LeftBrace (out-StructBody x).opening ∷ (spell_member (out-StructBody x).first ++ (flat (map spell_member (out-StructBody x).others.items) ++ punct RightBrace (out-StructBody x).closing ∷ [])))
see_struct_body x = ap spelled_spec (show_struct_body x) ∙ ap (λ (l : Symbols). key words.Struct (out-StructBody x).keyword ∷ (spell_tag (out-StructBody x).tag ++ punct LeftBrace (out-StructBody x).opening ∷ (spelled_member (member_of (out-StructBody x).first) ++ (l ++ punct RightBrace (out-StructBody x).closing ∷ [])))) (members_listed member_of (out-StructBody x).others.items)

pub see_next_enumerator : (x : NextEnumerator) → spell_next_enumerator x ≡ punct Comma x.0 ∷ spell_enumerator x.1
see_next_enumerator x = refl

pub see_enum_body : (x : EnumBody) → spell_enum_body x ≡ key words.Enum (out-EnumBody x).keyword ∷ (spell_tag (out-EnumBody x).tag ++ punct LeftBrace (out-EnumBody x).opening ∷ (spell_enumerator (out-EnumBody x).first ++ (flat (map spell_next_enumerator (out-EnumBody x).others.items) ++ (spelled_comma (out-EnumBody x).last_comma ++ punct RightBrace (out-EnumBody x).closing ∷ []))))
see_enum_body x = ap spelled_spec (show_enum_body x) ∙ ap (λ (l : Symbols). key words.Enum (out-EnumBody x).keyword ∷ (spell_tag (out-EnumBody x).tag ++ punct LeftBrace (out-EnumBody x).opening ∷ (spelled_enumerator (enumerator_of (out-EnumBody x).first) ++ (l ++ (spelled_comma (out-EnumBody x).last_comma ++ punct RightBrace (out-EnumBody x).closing ∷ []))))) (enumerators_listed next_enumerator_of (out-EnumBody x).others.items)

pub see_target : (x : Target) → spell_target x ≡ spell_cast x.0 ++ signed x.1 ∷ []
see_target x = refl

pub see_type_name : (x : TypeName) → spell_type_name x ≡ spell_specs x.0 ++ spell_pointers x.1.items
see_type_name x = refl
