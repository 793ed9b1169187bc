-- The trees that the code has, as pure data.
use Rattle.std.specs.Prelude.{ℕ, Some, None, map}
use Rattle.std.specs.Global.{Global}
use Rattle.std.specs.declared.vec.Vec.{Vec}
use Rattle.c_nodes.specs.Words.{Symbol, keyed, signed, named, type_named, spell_constant, spell_pointers, spell_tag}
use Rattle.c_nodes.specs.Trees as tree
use Rattle.c_nodes.specs.Trees.{Tree, Post, Pre, TypeTree, SpecTrees, SpecTree, MemberTree, DeclaratorTree, SuffixTree, ParamTree, EnumeratorTree}
use Rattle.c_nodes.specs.Lists.{posted, prefixed, joined, listed, ChoiceParts, chosen, assigned, more_specs, more_members, more_declarators, suffixes_of, more_params, more_enumerators}
use Rattle.c_nodes.specs.declared.expression.Binary.{Binary}
use Rattle.c_nodes.specs.declared.expression.Enumerator.{Enumerator}
use Rattle.c_nodes.specs.declared.expression.Operand.{Operand}
use Rattle.c_nodes.specs.declared.expression.Param.{Param}
use Rattle.c_nodes.specs.declared.expression.PostfixSuffix.{PostfixSuffix}
use Rattle.c_nodes.specs.declared.expression.Prefix.{Prefix}
use Rattle.c_nodes.specs.declared.expression.Primary.{Primary}
use Rattle.c_nodes.specs.declared.expression.Spec.{Spec}
use Rattle.c_nodes.specs.declared.expression.Suffix.{Suffix}
use Rattle.c_nodes.specs.declared.expression.Assign.{Assign}
use Rattle.c_nodes.specs.declared.expression.Cast.{Cast}
use Rattle.c_nodes.specs.declared.expression.Choice.{Choice}
use Rattle.c_nodes.specs.declared.expression.Cond.{Cond}
use Rattle.c_nodes.specs.declared.expression.Declarator.{Declarator}
use Rattle.c_nodes.specs.declared.expression.EnumBody.{EnumBody}
use Rattle.c_nodes.specs.declared.expression.Expr.{Expr}
use Rattle.c_nodes.specs.declared.expression.Member.{Member}
use Rattle.c_nodes.specs.declared.expression.Postfix.{Postfix}
use Rattle.c_nodes.specs.declared.expression.Specs.{Specs}
use Rattle.c_nodes.specs.declared.expression.StructBody.{StructBody}
use Rattle.c_nodes.specs.declared.word.Infix.{Infix}
use Rattle.c_nodes.specs.declared.word.Pointer.{Pointer}
use Rattle.c_nodes.specs.declared.word.Sign.{Sign}
use Rattle.c_nodes.specs.declared.expression.Binary.TheOpen as Open
use Rattle.c_nodes.specs.declared.expression.Binary.TheFolds.{fold-Binary, fold-Enumerator, fold-Operand, fold-Param, fold-PostfixSuffix, fold-Prefix, fold-Primary, fold-Spec, fold-Suffix, fold-Assign, fold-Cast, fold-Choice, fold-Cond, fold-Declarator, fold-EnumBody, fold-Expr, fold-Member, fold-Postfix, fold-Specs, fold-StructBody}

-- Pairs with the pure data of their part: a binary operator and its operand, a place and its operator, the name of a type.
abbrev pub operand_by : Infix × Tree → Symbol × Tree
operand_by n = (signed n.0.sign, n.1)

abbrev pub target_by : Tree × Sign → Tree × Symbol
target_by t = (t.0, signed t.1)

abbrev pub type_name_by : SpecTrees × Vec Pointer Global → TypeTree
type_name_by t = tree.TypeOf t.0 (spell_pointers t.1.items)

-- One layer of a tree, with the pure data of each part in the place of that part.
abbrev pub LayerBinary : Type 0
LayerBinary = Open.Binary-F Tree EnumeratorTree Tree ParamTree Post Pre Tree SpecTree SuffixTree Tree Tree ChoiceParts Tree DeclaratorTree SpecTree Tree MemberTree Tree SpecTrees SpecTree

abbrev pub LayerEnumerator : Type 0
LayerEnumerator = Open.Enumerator-F Tree EnumeratorTree Tree ParamTree Post Pre Tree SpecTree SuffixTree Tree Tree ChoiceParts Tree DeclaratorTree SpecTree Tree MemberTree Tree SpecTrees SpecTree

abbrev pub LayerOperand : Type 0
LayerOperand = Open.Operand-F Tree EnumeratorTree Tree ParamTree Post Pre Tree SpecTree SuffixTree Tree Tree ChoiceParts Tree DeclaratorTree SpecTree Tree MemberTree Tree SpecTrees SpecTree

abbrev pub LayerParam : Type 0
LayerParam = Open.Param-F Tree EnumeratorTree Tree ParamTree Post Pre Tree SpecTree SuffixTree Tree Tree ChoiceParts Tree DeclaratorTree SpecTree Tree MemberTree Tree SpecTrees SpecTree

abbrev pub LayerPostfixSuffix : Type 0
LayerPostfixSuffix = Open.PostfixSuffix-F Tree EnumeratorTree Tree ParamTree Post Pre Tree SpecTree SuffixTree Tree Tree ChoiceParts Tree DeclaratorTree SpecTree Tree MemberTree Tree SpecTrees SpecTree

abbrev pub LayerPrefix : Type 0
LayerPrefix = Open.Prefix-F Tree EnumeratorTree Tree ParamTree Post Pre Tree SpecTree SuffixTree Tree Tree ChoiceParts Tree DeclaratorTree SpecTree Tree MemberTree Tree SpecTrees SpecTree

abbrev pub LayerPrimary : Type 0
LayerPrimary = Open.Primary-F Tree EnumeratorTree Tree ParamTree Post Pre Tree SpecTree SuffixTree Tree Tree ChoiceParts Tree DeclaratorTree SpecTree Tree MemberTree Tree SpecTrees SpecTree

abbrev pub LayerSpec : Type 0
LayerSpec = Open.Spec-F Tree EnumeratorTree Tree ParamTree Post Pre Tree SpecTree SuffixTree Tree Tree ChoiceParts Tree DeclaratorTree SpecTree Tree MemberTree Tree SpecTrees SpecTree

abbrev pub LayerSuffix : Type 0
LayerSuffix = Open.Suffix-F Tree EnumeratorTree Tree ParamTree Post Pre Tree SpecTree SuffixTree Tree Tree ChoiceParts Tree DeclaratorTree SpecTree Tree MemberTree Tree SpecTrees SpecTree

abbrev pub LayerAssign : Type 0
LayerAssign = Open.Assign-F Tree EnumeratorTree Tree ParamTree Post Pre Tree SpecTree SuffixTree Tree Tree ChoiceParts Tree DeclaratorTree SpecTree Tree MemberTree Tree SpecTrees SpecTree

abbrev pub LayerCast : Type 0
LayerCast = Open.Cast-F Tree EnumeratorTree Tree ParamTree Post Pre Tree SpecTree SuffixTree Tree Tree ChoiceParts Tree DeclaratorTree SpecTree Tree MemberTree Tree SpecTrees SpecTree

abbrev pub LayerChoice : Type 0
LayerChoice = Open.Choice-F Tree EnumeratorTree Tree ParamTree Post Pre Tree SpecTree SuffixTree Tree Tree ChoiceParts Tree DeclaratorTree SpecTree Tree MemberTree Tree SpecTrees SpecTree

abbrev pub LayerCond : Type 0
LayerCond = Open.Cond-F Tree EnumeratorTree Tree ParamTree Post Pre Tree SpecTree SuffixTree Tree Tree ChoiceParts Tree DeclaratorTree SpecTree Tree MemberTree Tree SpecTrees SpecTree

abbrev pub LayerDeclarator : Type 0
LayerDeclarator = Open.Declarator-F Tree EnumeratorTree Tree ParamTree Post Pre Tree SpecTree SuffixTree Tree Tree ChoiceParts Tree DeclaratorTree SpecTree Tree MemberTree Tree SpecTrees SpecTree

abbrev pub LayerEnumBody : Type 0
LayerEnumBody = Open.EnumBody-F Tree EnumeratorTree Tree ParamTree Post Pre Tree SpecTree SuffixTree Tree Tree ChoiceParts Tree DeclaratorTree SpecTree Tree MemberTree Tree SpecTrees SpecTree

abbrev pub LayerExpr : Type 0
LayerExpr = Open.Expr-F Tree EnumeratorTree Tree ParamTree Post Pre Tree SpecTree SuffixTree Tree Tree ChoiceParts Tree DeclaratorTree SpecTree Tree MemberTree Tree SpecTrees SpecTree

abbrev pub LayerMember : Type 0
LayerMember = Open.Member-F Tree EnumeratorTree Tree ParamTree Post Pre Tree SpecTree SuffixTree Tree Tree ChoiceParts Tree DeclaratorTree SpecTree Tree MemberTree Tree SpecTrees SpecTree

abbrev pub LayerPostfix : Type 0
LayerPostfix = Open.Postfix-F Tree EnumeratorTree Tree ParamTree Post Pre Tree SpecTree SuffixTree Tree Tree ChoiceParts Tree DeclaratorTree SpecTree Tree MemberTree Tree SpecTrees SpecTree

abbrev pub LayerSpecs : Type 0
LayerSpecs = Open.Specs-F Tree EnumeratorTree Tree ParamTree Post Pre Tree SpecTree SuffixTree Tree Tree ChoiceParts Tree DeclaratorTree SpecTree Tree MemberTree Tree SpecTrees SpecTree

abbrev pub LayerStructBody : Type 0
LayerStructBody = Open.StructBody-F Tree EnumeratorTree Tree ParamTree Post Pre Tree SpecTree SuffixTree Tree Tree ChoiceParts Tree DeclaratorTree SpecTree Tree MemberTree Tree SpecTrees SpecTree

abbrev pub binary_step : LayerBinary → Tree
binary_step (Open.Operand operand) = operand
binary_step (Open.Chain first others) = joined first.value (map operand_by others.items)

abbrev pub enumerator_step : LayerEnumerator → EnumeratorTree
enumerator_step (Open.Bare name) = tree.Bare (named name)
enumerator_step (Open.Valued name equals value) = tree.Valued (named name) equals value.value

abbrev pub operand_step : LayerOperand → Tree
operand_step (Open.Postfix postfix) = postfix
operand_step (Open.SizeofType keyword opening type_name closing) = tree.Measure keyword opening (type_name_by type_name.value) closing

abbrev pub param_step : LayerParam → ParamTree
param_step (Open.Named specs declarator) = tree.Named specs declarator
param_step (Open.Unnamed specs pointers suffixes) = tree.Unnamed specs (spell_pointers pointers.items) (suffixes_of suffixes.items)

abbrev pub postfix_suffix_step : LayerPostfixSuffix → Post
postfix_suffix_step (Open.Index opening index closing) = tree.Index opening index.value closing
postfix_suffix_step (Open.Call opening None closing) = tree.CallBare opening closing
postfix_suffix_step (Open.Call opening (Some arguments) closing) = tree.Call opening arguments.value closing
postfix_suffix_step (Open.Member operator name) = tree.Field (signed operator) (named name)
postfix_suffix_step (Open.Step operator) = tree.Step (signed operator)

abbrev pub prefix_step : LayerPrefix → Pre
prefix_step (Open.Operator operator) = tree.Sign (signed operator)
prefix_step (Open.Sizeof keyword) = tree.Sizeof keyword
prefix_step (Open.Cast opening type_name closing) = tree.Cast opening (type_name_by type_name.value) closing

abbrev pub primary_step : LayerPrimary → Tree
primary_step (Open.Name name) = tree.Leaf (named name)
primary_step (Open.Constant constant) = tree.Leaf (spell_constant constant)
primary_step (Open.Group opening inner closing) = tree.Group opening inner.value closing

abbrev pub spec_step : LayerSpec → SpecTree
spec_step (Open.Word word) = tree.OneWord (keyed word)
spec_step (Open.Reference keyword tag) = tree.Tagged keyword (named tag)
spec_step (Open.Body body) = body.value
spec_step (Open.TypeName name) = tree.NamedType (type_named name)
spec_step (Open.EnumReference keyword tag) = tree.EnumTagged keyword (named tag)
spec_step (Open.EnumBody body) = body.value

abbrev pub suffix_step : LayerSuffix → SuffixTree
suffix_step (Open.Array opening None closing) = tree.Unsized opening closing
suffix_step (Open.Array opening (Some length) closing) = tree.Sized opening length.value closing
suffix_step (Open.Empty opening closing) = tree.Empty opening closing
suffix_step (Open.Void opening void closing) = tree.VoidOnly opening void closing
suffix_step (Open.Params opening first others closing) = tree.Params opening first.value (more_params others.items) closing

abbrev pub assign_step : LayerAssign → Tree
assign_step a = assigned (map target_by a.targets.items) a.value

abbrev pub cast_step : LayerCast → Tree
cast_step c = prefixed c.prefixes.items c.operand

abbrev pub choice_step : LayerChoice → ChoiceParts
choice_step c = (c.condition, c.question, c.then.value, c.colon)

abbrev pub cond_step : LayerCond → Tree
cond_step c = chosen c.choices.items c.last

abbrev pub declarator_step : LayerDeclarator → DeclaratorTree
declarator_step d = tree.Declares (spell_pointers d.pointers.items) (named d.name) (suffixes_of d.suffixes.items)

abbrev pub enum_body_step : LayerEnumBody → SpecTree
enum_body_step e = tree.EnumBody e.keyword (spell_tag e.tag) e.opening e.first (more_enumerators e.others.items) e.last_comma e.closing

abbrev pub expr_step : LayerExpr → Tree
expr_step e = listed e.first e.others.items

abbrev pub member_step : LayerMember → MemberTree
member_step m = tree.Members m.specs m.first (more_declarators m.others.items) m.semicolon

abbrev pub postfix_step : LayerPostfix → Tree
postfix_step p = posted p.primary p.suffixes.items

abbrev pub specs_step : LayerSpecs → SpecTrees
specs_step s = tree.Specified s.first (more_specs s.others.items)

abbrev pub struct_body_step : LayerStructBody → SpecTree
struct_body_step s = tree.Body s.keyword (spell_tag s.tag) s.opening s.first (more_members s.others.items) s.closing

-- A whole tree.
unfoldable pub binary_of : Binary → Tree
binary_of = fold-Binary Tree EnumeratorTree Tree ParamTree Post Pre Tree SpecTree SuffixTree Tree Tree ChoiceParts Tree DeclaratorTree SpecTree Tree MemberTree Tree SpecTrees SpecTree binary_step enumerator_step operand_step param_step postfix_suffix_step prefix_step primary_step spec_step suffix_step assign_step cast_step choice_step cond_step declarator_step enum_body_step expr_step member_step postfix_step specs_step struct_body_step

unfoldable pub enumerator_of : Enumerator → EnumeratorTree
enumerator_of = fold-Enumerator Tree EnumeratorTree Tree ParamTree Post Pre Tree SpecTree SuffixTree Tree Tree ChoiceParts Tree DeclaratorTree SpecTree Tree MemberTree Tree SpecTrees SpecTree binary_step enumerator_step operand_step param_step postfix_suffix_step prefix_step primary_step spec_step suffix_step assign_step cast_step choice_step cond_step declarator_step enum_body_step expr_step member_step postfix_step specs_step struct_body_step

unfoldable pub operand_of : Operand → Tree
operand_of = fold-Operand Tree EnumeratorTree Tree ParamTree Post Pre Tree SpecTree SuffixTree Tree Tree ChoiceParts Tree DeclaratorTree SpecTree Tree MemberTree Tree SpecTrees SpecTree binary_step enumerator_step operand_step param_step postfix_suffix_step prefix_step primary_step spec_step suffix_step assign_step cast_step choice_step cond_step declarator_step enum_body_step expr_step member_step postfix_step specs_step struct_body_step

unfoldable pub param_of : Param → ParamTree
param_of = fold-Param Tree EnumeratorTree Tree ParamTree Post Pre Tree SpecTree SuffixTree Tree Tree ChoiceParts Tree DeclaratorTree SpecTree Tree MemberTree Tree SpecTrees SpecTree binary_step enumerator_step operand_step param_step postfix_suffix_step prefix_step primary_step spec_step suffix_step assign_step cast_step choice_step cond_step declarator_step enum_body_step expr_step member_step postfix_step specs_step struct_body_step

unfoldable pub postfix_suffix_of : PostfixSuffix → Post
postfix_suffix_of = fold-PostfixSuffix Tree EnumeratorTree Tree ParamTree Post Pre Tree SpecTree SuffixTree Tree Tree ChoiceParts Tree DeclaratorTree SpecTree Tree MemberTree Tree SpecTrees SpecTree binary_step enumerator_step operand_step param_step postfix_suffix_step prefix_step primary_step spec_step suffix_step assign_step cast_step choice_step cond_step declarator_step enum_body_step expr_step member_step postfix_step specs_step struct_body_step

unfoldable pub prefix_of : Prefix → Pre
prefix_of = fold-Prefix Tree EnumeratorTree Tree ParamTree Post Pre Tree SpecTree SuffixTree Tree Tree ChoiceParts Tree DeclaratorTree SpecTree Tree MemberTree Tree SpecTrees SpecTree binary_step enumerator_step operand_step param_step postfix_suffix_step prefix_step primary_step spec_step suffix_step assign_step cast_step choice_step cond_step declarator_step enum_body_step expr_step member_step postfix_step specs_step struct_body_step

unfoldable pub primary_of : Primary → Tree
primary_of = fold-Primary Tree EnumeratorTree Tree ParamTree Post Pre Tree SpecTree SuffixTree Tree Tree ChoiceParts Tree DeclaratorTree SpecTree Tree MemberTree Tree SpecTrees SpecTree binary_step enumerator_step operand_step param_step postfix_suffix_step prefix_step primary_step spec_step suffix_step assign_step cast_step choice_step cond_step declarator_step enum_body_step expr_step member_step postfix_step specs_step struct_body_step

unfoldable pub spec_of : Spec → SpecTree
spec_of = fold-Spec Tree EnumeratorTree Tree ParamTree Post Pre Tree SpecTree SuffixTree Tree Tree ChoiceParts Tree DeclaratorTree SpecTree Tree MemberTree Tree SpecTrees SpecTree binary_step enumerator_step operand_step param_step postfix_suffix_step prefix_step primary_step spec_step suffix_step assign_step cast_step choice_step cond_step declarator_step enum_body_step expr_step member_step postfix_step specs_step struct_body_step

unfoldable pub suffix_of : Suffix → SuffixTree
suffix_of = fold-Suffix Tree EnumeratorTree Tree ParamTree Post Pre Tree SpecTree SuffixTree Tree Tree ChoiceParts Tree DeclaratorTree SpecTree Tree MemberTree Tree SpecTrees SpecTree binary_step enumerator_step operand_step param_step postfix_suffix_step prefix_step primary_step spec_step suffix_step assign_step cast_step choice_step cond_step declarator_step enum_body_step expr_step member_step postfix_step specs_step struct_body_step

unfoldable pub assign_of : Assign → Tree
assign_of = fold-Assign Tree EnumeratorTree Tree ParamTree Post Pre Tree SpecTree SuffixTree Tree Tree ChoiceParts Tree DeclaratorTree SpecTree Tree MemberTree Tree SpecTrees SpecTree binary_step enumerator_step operand_step param_step postfix_suffix_step prefix_step primary_step spec_step suffix_step assign_step cast_step choice_step cond_step declarator_step enum_body_step expr_step member_step postfix_step specs_step struct_body_step

unfoldable pub cast_of : Cast → Tree
cast_of = fold-Cast Tree EnumeratorTree Tree ParamTree Post Pre Tree SpecTree SuffixTree Tree Tree ChoiceParts Tree DeclaratorTree SpecTree Tree MemberTree Tree SpecTrees SpecTree binary_step enumerator_step operand_step param_step postfix_suffix_step prefix_step primary_step spec_step suffix_step assign_step cast_step choice_step cond_step declarator_step enum_body_step expr_step member_step postfix_step specs_step struct_body_step

unfoldable pub choice_of : Choice → ChoiceParts
choice_of = fold-Choice Tree EnumeratorTree Tree ParamTree Post Pre Tree SpecTree SuffixTree Tree Tree ChoiceParts Tree DeclaratorTree SpecTree Tree MemberTree Tree SpecTrees SpecTree binary_step enumerator_step operand_step param_step postfix_suffix_step prefix_step primary_step spec_step suffix_step assign_step cast_step choice_step cond_step declarator_step enum_body_step expr_step member_step postfix_step specs_step struct_body_step

unfoldable pub cond_of : Cond → Tree
cond_of = fold-Cond Tree EnumeratorTree Tree ParamTree Post Pre Tree SpecTree SuffixTree Tree Tree ChoiceParts Tree DeclaratorTree SpecTree Tree MemberTree Tree SpecTrees SpecTree binary_step enumerator_step operand_step param_step postfix_suffix_step prefix_step primary_step spec_step suffix_step assign_step cast_step choice_step cond_step declarator_step enum_body_step expr_step member_step postfix_step specs_step struct_body_step

unfoldable pub declarator_of : Declarator → DeclaratorTree
declarator_of = fold-Declarator Tree EnumeratorTree Tree ParamTree Post Pre Tree SpecTree SuffixTree Tree Tree ChoiceParts Tree DeclaratorTree SpecTree Tree MemberTree Tree SpecTrees SpecTree binary_step enumerator_step operand_step param_step postfix_suffix_step prefix_step primary_step spec_step suffix_step assign_step cast_step choice_step cond_step declarator_step enum_body_step expr_step member_step postfix_step specs_step struct_body_step

unfoldable pub enum_body_of : EnumBody → SpecTree
enum_body_of = fold-EnumBody Tree EnumeratorTree Tree ParamTree Post Pre Tree SpecTree SuffixTree Tree Tree ChoiceParts Tree DeclaratorTree SpecTree Tree MemberTree Tree SpecTrees SpecTree binary_step enumerator_step operand_step param_step postfix_suffix_step prefix_step primary_step spec_step suffix_step assign_step cast_step choice_step cond_step declarator_step enum_body_step expr_step member_step postfix_step specs_step struct_body_step

unfoldable pub expr_of : Expr → Tree
expr_of = fold-Expr Tree EnumeratorTree Tree ParamTree Post Pre Tree SpecTree SuffixTree Tree Tree ChoiceParts Tree DeclaratorTree SpecTree Tree MemberTree Tree SpecTrees SpecTree binary_step enumerator_step operand_step param_step postfix_suffix_step prefix_step primary_step spec_step suffix_step assign_step cast_step choice_step cond_step declarator_step enum_body_step expr_step member_step postfix_step specs_step struct_body_step

unfoldable pub member_of : Member → MemberTree
member_of = fold-Member Tree EnumeratorTree Tree ParamTree Post Pre Tree SpecTree SuffixTree Tree Tree ChoiceParts Tree DeclaratorTree SpecTree Tree MemberTree Tree SpecTrees SpecTree binary_step enumerator_step operand_step param_step postfix_suffix_step prefix_step primary_step spec_step suffix_step assign_step cast_step choice_step cond_step declarator_step enum_body_step expr_step member_step postfix_step specs_step struct_body_step

unfoldable pub postfix_of : Postfix → Tree
postfix_of = fold-Postfix Tree EnumeratorTree Tree ParamTree Post Pre Tree SpecTree SuffixTree Tree Tree ChoiceParts Tree DeclaratorTree SpecTree Tree MemberTree Tree SpecTrees SpecTree binary_step enumerator_step operand_step param_step postfix_suffix_step prefix_step primary_step spec_step suffix_step assign_step cast_step choice_step cond_step declarator_step enum_body_step expr_step member_step postfix_step specs_step struct_body_step

unfoldable pub specs_of : Specs → SpecTrees
specs_of = fold-Specs Tree EnumeratorTree Tree ParamTree Post Pre Tree SpecTree SuffixTree Tree Tree ChoiceParts Tree DeclaratorTree SpecTree Tree MemberTree Tree SpecTrees SpecTree binary_step enumerator_step operand_step param_step postfix_suffix_step prefix_step primary_step spec_step suffix_step assign_step cast_step choice_step cond_step declarator_step enum_body_step expr_step member_step postfix_step specs_step struct_body_step

unfoldable pub struct_body_of : StructBody → SpecTree
struct_body_of = fold-StructBody Tree EnumeratorTree Tree ParamTree Post Pre Tree SpecTree SuffixTree Tree Tree ChoiceParts Tree DeclaratorTree SpecTree Tree MemberTree Tree SpecTrees SpecTree binary_step enumerator_step operand_step param_step postfix_suffix_step prefix_step primary_step spec_step suffix_step assign_step cast_step choice_step cond_step declarator_step enum_body_step expr_step member_step postfix_step specs_step struct_body_step

-- The pairs of the code.
abbrev pub NextEnumerator : Type 0
NextEnumerator = ℕ × Enumerator

abbrev pub NextDeclarator : Type 0
NextDeclarator = ℕ × Declarator

abbrev pub NextParam : Type 0
NextParam = ℕ × Param

abbrev pub NextAssign : Type 0
NextAssign = ℕ × Assign

abbrev pub NextOperand : Type 0
NextOperand = Infix × Binary

abbrev pub Target : Type 0
Target = Cast × Sign

abbrev pub TypeName : Type 0
TypeName = Specs × Vec Pointer Global

abbrev pub next_enumerator_of : NextEnumerator → ℕ × EnumeratorTree
next_enumerator_of n = (n.0, enumerator_of n.1)

abbrev pub next_declarator_of : NextDeclarator → ℕ × DeclaratorTree
next_declarator_of n = (n.0, declarator_of n.1)

abbrev pub next_param_of : NextParam → ℕ × ParamTree
next_param_of n = (n.0, param_of n.1)

abbrev pub next_assign_of : NextAssign → ℕ × Tree
next_assign_of n = (n.0, assign_of n.1)

abbrev pub next_operand_of : NextOperand → Symbol × Tree
next_operand_of n = (signed n.0.sign, binary_of n.1)

abbrev pub target_of : Target → Tree × Symbol
target_of t = (cast_of t.0, signed t.1)

abbrev pub type_name_of : TypeName → TypeTree
type_name_of t = tree.TypeOf (specs_of t.0) (spell_pointers t.1.items)
