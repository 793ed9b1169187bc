-- The typing rule of a node holds of the node once more, in a program with more rows of types and with the readers.
use Rattle.std.proofs.Common.{◌≡◌, ℕ, true, not, ◌&&◌, List, Option, Some, None, refl, ap, ◌∙◌, slice_get}
use Rattle.std.proofs.lemmas.Bool.{false≢true}
use Rattle.c_ints.specs.declared.operators.BinOp.{BinOp}
use Rattle.c_ints.specs.declared.operators.UnOp.{UnOp}
use Rattle.c_typed.specs.declared.expression.LogicalOp.{LogicalOp}
use Rattle.c_typed.specs.declared.expression.StepOp.{StepOp}
use Rattle.c_typed.specs.declared.expression.Object.{Object}
use Rattle.c_typed.specs.declared.expression.Object.TheVariants as object
use Rattle.c_typed.specs.Fits.{Standing, assigned_fits, leads_fits, is_null, is_converted, is_memory, is_reached, is_local_name, is_alone, member_at, returns_type, params_of, source_of, sides_fit, rule_holds, place_rule_holds}
use Rattle.c_typed.specs.Rules.{convert_fits, cast_fits, unary_fits, binary_fits, offset_fits, difference_fits, logical_fits, copy_fits, update_fits, step_fits, member_fits, deref_fits, read_fits}
use Rattle.c_typed.specs.Sameness.{same_type, is_scalar, is_int}
use Rattle.c_typed.specs.Trees as tree
use Rattle.c_typed.specs.Trees.{Expression, Expressions, Place, FunctionTree, VariableTree, Program}
use Rattle.c_typed.specs.Types.{type_of, place_type}
use Rattle.c_typed.specs.declared.types.Qualified.{Qualified}
use Rattle.c_typed.specs.declared.types.Ty.{Ty}
use Rattle.rom_tables.proofs.Attributes.{type_again, place_type_again, null_again, source_again, converted_again, memory_again, local_again, place_reached_again}
use Rattle.rom_tables.proofs.Wider.{second_holds, Stays, wider, member_same, leads_holds, convert_holds, cast_holds, binary_by, offset_holds, difference_holds, assigned_holds, update_holds, step_holds, deref_holds}
use Rattle.rom_tables.specs.Outlined.{outlined_expression, outlined_arguments, outlined_place, outlined_function}

module _ (p : Program) (rows : List Qualified) (functions : List FunctionTree) (more : (n : ℕ) → Stays (slice_get p.targets n) (slice_get rows n)) (ts : List ℕ) (first : ℕ) where
  -- ---- values
  pub read_rule : (standing : Standing) (place : Place) (ty : Ty) (line : ℕ) → rule_holds p standing (tree.Read place ty line) ≡ true → rule_holds (wider p rows functions) standing (tree.Read (outlined_place ts first place) ty line) ≡ true
  unfolding rule_holds
  read_rule standing place ty line h = ap (λ t. read_fits t ty) (place_type_again ts first place) ∙ h

  pub address_rule : (standing : Standing) (place : Place) (ty : Ty) (line : ℕ) → rule_holds p standing (tree.Address place ty line) ≡ true → rule_holds (wider p rows functions) standing (tree.Address (outlined_place ts first place) ty line) ≡ true
  unfolding rule_holds
  address_rule standing place ty line h =
      ap (λ b. leads_fits (wider p rows functions) standing b (is_reached (outlined_place ts first place)) (place_type (outlined_place ts first place)) ty) (memory_again ts first place)
      ∙ ap (λ b. leads_fits (wider p rows functions) standing (is_memory place) b (place_type (outlined_place ts first place)) ty) (place_reached_again ts first place)
      ∙ ap (λ t. leads_fits (wider p rows functions) standing (is_memory place) (is_reached place) t ty) (place_type_again ts first place)
      ∙ leads_holds p rows functions more standing (is_memory place) (is_reached place) (place_type place) ty h

  pub convert_rule : (standing : Standing) (operand : Expression) (ty : Ty) (line : ℕ) → rule_holds p standing (tree.Convert operand ty line) ≡ true → rule_holds (wider p rows functions) standing (tree.Convert (outlined_expression ts first operand) ty line) ≡ true
  unfolding rule_holds
  convert_rule standing operand ty line h =
      ap (λ b. not b && convert_fits (wider p rows functions) (is_null (outlined_expression ts first operand)) (type_of (outlined_expression ts first operand)) ty) (converted_again ts first operand)
      ∙ ap (λ b. not (is_converted operand) && convert_fits (wider p rows functions) b (type_of (outlined_expression ts first operand)) ty) (null_again ts first operand)
      ∙ ap (λ t. not (is_converted operand) && convert_fits (wider p rows functions) (is_null operand) t ty) (type_again ts first operand)
      ∙ second_holds (not (is_converted operand)) (convert_fits p (is_null operand) (type_of operand) ty) (convert_fits (wider p rows functions) (is_null operand) (type_of operand) ty) (convert_holds p rows functions more (is_null operand) (type_of operand) ty) h

  pub cast_rule : (standing : Standing) (operand : Expression) (ty : Ty) (line : ℕ) → rule_holds p standing (tree.Cast operand ty line) ≡ true → rule_holds (wider p rows functions) standing (tree.Cast (outlined_expression ts first operand) ty line) ≡ true
  unfolding rule_holds
  cast_rule standing operand ty line h =
      ap (λ b. cast_fits (wider p rows functions) b (type_of (outlined_expression ts first operand)) ty) (null_again ts first operand)
      ∙ ap (λ t. cast_fits (wider p rows functions) (is_null operand) t ty) (type_again ts first operand)
      ∙ cast_holds p rows functions more (is_null operand) (type_of operand) ty h

  pub unary_rule : (standing : Standing) (op : UnOp) (operand : Expression) (ty : Ty) (line : ℕ) → rule_holds p standing (tree.Unary op operand ty line) ≡ true → rule_holds (wider p rows functions) standing (tree.Unary op (outlined_expression ts first operand) ty line) ≡ true
  unfolding rule_holds
  unary_rule standing op operand ty line h = ap (λ t. unary_fits op t ty) (type_again ts first operand) ∙ h

  pub binary_rule : (standing : Standing) (op : BinOp) (left right : Expression) (ty : Ty) (line : ℕ) → rule_holds p standing (tree.Binary op left right ty line) ≡ true → rule_holds (wider p rows functions) standing (tree.Binary op (outlined_expression ts first left) (outlined_expression ts first right) ty line) ≡ true
  unfolding rule_holds
  binary_rule standing op left right ty line h =
      ap (λ t. binary_fits (wider p rows functions) op t (type_of (outlined_expression ts first right)) ty) (type_again ts first left)
      ∙ ap (λ t. binary_fits (wider p rows functions) op (type_of left) t ty) (type_again ts first right)
      ∙ binary_by p rows functions more (is_int (type_of left)) op (type_of left) (type_of right) ty h

  pub offset_rule : (standing : Standing) (op : BinOp) (left right : Expression) (size : ℕ) (ty : Ty) (line : ℕ) → rule_holds p standing (tree.Offset op left right size ty line) ≡ true → rule_holds (wider p rows functions) standing (tree.Offset op (outlined_expression ts first left) (outlined_expression ts first right) size ty line) ≡ true
  unfolding rule_holds
  offset_rule standing op left right size ty line h =
      ap (λ t. offset_fits (wider p rows functions) op t (type_of (outlined_expression ts first right)) size ty) (type_again ts first left)
      ∙ ap (λ t. offset_fits (wider p rows functions) op (type_of left) t size ty) (type_again ts first right)
      ∙ offset_holds p rows functions more op (type_of left) (type_of right) size ty h

  pub difference_rule : (standing : Standing) (left right : Expression) (size : ℕ) (line : ℕ) → rule_holds p standing (tree.Difference left right size line) ≡ true → rule_holds (wider p rows functions) standing (tree.Difference (outlined_expression ts first left) (outlined_expression ts first right) size line) ≡ true
  unfolding rule_holds
  difference_rule standing left right size line h =
      ap (λ t. difference_fits (wider p rows functions) t (type_of (outlined_expression ts first right)) size) (type_again ts first left)
      ∙ ap (λ t. difference_fits (wider p rows functions) (type_of left) t size) (type_again ts first right)
      ∙ difference_holds p rows functions more (type_of left) (type_of right) size h

  pub logical_rule : (standing : Standing) (op : LogicalOp) (left right : Expression) (line : ℕ) → rule_holds p standing (tree.Logical op left right line) ≡ true → rule_holds (wider p rows functions) standing (tree.Logical op (outlined_expression ts first left) (outlined_expression ts first right) line) ≡ true
  unfolding rule_holds
  logical_rule standing op left right line h =
      ap (λ t. logical_fits t (type_of (outlined_expression ts first right))) (type_again ts first left)
      ∙ ap (λ t. logical_fits (type_of left) t) (type_again ts first right) ∙ h

  pub choice_rule : (standing : Standing) (condition chosen otherwise : Expression) (ty : Ty) (line : ℕ) → rule_holds p standing (tree.Conditional condition chosen otherwise ty line) ≡ true → rule_holds (wider p rows functions) standing (tree.Conditional (outlined_expression ts first condition) (outlined_expression ts first chosen) (outlined_expression ts first otherwise) ty line) ≡ true
  unfolding rule_holds
  choice_rule standing condition chosen otherwise ty line h =
      ap (λ t. is_scalar t && sides_fit (source_of (outlined_expression ts first chosen)) (type_of (outlined_expression ts first chosen)) (source_of (outlined_expression ts first otherwise)) (type_of (outlined_expression ts first otherwise)) ty) (type_again ts first condition)
      ∙ ap (λ s. is_scalar (type_of condition) && sides_fit s (type_of (outlined_expression ts first chosen)) (source_of (outlined_expression ts first otherwise)) (type_of (outlined_expression ts first otherwise)) ty) (source_again ts first chosen)
      ∙ ap (λ t. is_scalar (type_of condition) && sides_fit (source_of chosen) t (source_of (outlined_expression ts first otherwise)) (type_of (outlined_expression ts first otherwise)) ty) (type_again ts first chosen)
      ∙ ap (λ s. is_scalar (type_of condition) && sides_fit (source_of chosen) (type_of chosen) s (type_of (outlined_expression ts first otherwise)) ty) (source_again ts first otherwise)
      ∙ ap (λ t. is_scalar (type_of condition) && sides_fit (source_of chosen) (type_of chosen) (source_of otherwise) t ty) (type_again ts first otherwise) ∙ h

  pub comma_rule : (standing : Standing) (left right : Expression) (ty : Ty) (line : ℕ) → rule_holds p standing (tree.Comma left right ty line) ≡ true → rule_holds (wider p rows functions) standing (tree.Comma (outlined_expression ts first left) (outlined_expression ts first right) ty line) ≡ true
  unfolding rule_holds
  comma_rule standing left right ty line h = ap (λ t. same_type t ty) (type_again ts first right) ∙ h

  pub assign_rule : (standing : Standing) (place : Place) (value : Expression) (ty : Ty) (line : ℕ) → rule_holds p standing (tree.Assign place value ty line) ≡ true → rule_holds (wider p rows functions) standing (tree.Assign (outlined_place ts first place) (outlined_expression ts first value) ty line) ≡ true
  unfolding rule_holds
  assign_rule standing place value ty line h =
      ap (λ t. assigned_fits (wider p rows functions) t (source_of (outlined_expression ts first value)) (type_of (outlined_expression ts first value)) ty) (place_type_again ts first place)
      ∙ ap (λ s. assigned_fits (wider p rows functions) (place_type place) s (type_of (outlined_expression ts first value)) ty) (source_again ts first value)
      ∙ ap (λ t. assigned_fits (wider p rows functions) (place_type place) (source_of value) t ty) (type_again ts first value)
      ∙ assigned_holds p rows functions more (place_type place) (source_of value) (type_of value) ty h

  pub copy_rule : (standing : Standing) (place from : Place) (size line : ℕ) → rule_holds p standing (tree.StructAssign place from size line) ≡ true → rule_holds (wider p rows functions) standing (tree.StructAssign (outlined_place ts first place) (outlined_place ts first from) size line) ≡ true
  unfolding rule_holds
  copy_rule standing place from size line h =
      ap (λ b. copy_fits (wider p rows functions) (is_alone standing && b) (place_type (outlined_place ts first place)) (place_type (outlined_place ts first from)) size) (local_again ts first place)
      ∙ ap (λ t. copy_fits (wider p rows functions) (is_alone standing && is_local_name place) t (place_type (outlined_place ts first from)) size) (place_type_again ts first place)
      ∙ ap (λ t. copy_fits (wider p rows functions) (is_alone standing && is_local_name place) (place_type place) t size) (place_type_again ts first from) ∙ h

  pub update_rule : (standing : Standing) (op : BinOp) (place : Place) (value : Expression) (operation : Ty) (size : ℕ) (ty : Ty) (line : ℕ) → rule_holds p standing (tree.Update op place value operation size ty line) ≡ true → rule_holds (wider p rows functions) standing (tree.Update op (outlined_place ts first place) (outlined_expression ts first value) operation size ty line) ≡ true
  unfolding rule_holds
  update_rule standing op place value operation size ty line h =
      ap (λ t. update_fits (wider p rows functions) op t (type_of (outlined_expression ts first value)) operation size ty) (place_type_again ts first place)
      ∙ ap (λ t. update_fits (wider p rows functions) op (place_type place) t operation size ty) (type_again ts first value)
      ∙ update_holds p rows functions more op (place_type place) (type_of value) operation size ty h

  pub step_rule : (standing : Standing) (op : StepOp) (place : Place) (operation : Ty) (size : ℕ) (ty : Ty) (line : ℕ) → rule_holds p standing (tree.Step op place operation size ty line) ≡ true → rule_holds (wider p rows functions) standing (tree.Step op (outlined_place ts first place) operation size ty line) ≡ true
  unfolding rule_holds
  step_rule standing op place operation size ty line h =
      ap (λ t. step_fits (wider p rows functions) t operation size ty) (place_type_again ts first place)
      ∙ step_holds p rows functions more (place_type place) operation size ty h

  -- ---- places
  pub member_rule : (f g : FunctionTree) (whole : Place) (member offset : ℕ) (ty : Qualified) (line : ℕ) → place_rule_holds p f (tree.Member whole member offset ty line) ≡ true → place_rule_holds (wider p rows functions) g (tree.Member (outlined_place ts first whole) member offset ty line) ≡ true
  unfolding place_rule_holds
  member_rule f g whole member offset ty line h =
      ap (λ t. member_fits (member_at (wider p rows functions) t.ty member) t offset ty) (place_type_again ts first whole)
      ∙ ap (λ m. member_fits m (place_type whole) offset ty) (member_same p rows functions more (place_type whole).ty member) ∙ h

  pub deref_rule : (f g : FunctionTree) (pointer : Expression) (ty : Qualified) (line : ℕ) → place_rule_holds p f (tree.Deref pointer ty line) ≡ true → place_rule_holds (wider p rows functions) g (tree.Deref (outlined_expression ts first pointer) ty line) ≡ true
  unfolding place_rule_holds
  deref_rule f g pointer ty line h = ap (λ t. deref_fits (wider p rows functions) t ty) (type_again ts first pointer) ∙ deref_holds p rows functions more (type_of pointer) ty h

  pub name_rule : (f : FunctionTree) (o : Object) (ty : Qualified) (line : ℕ) → place_rule_holds p f (tree.Name o ty line) ≡ true → place_rule_holds (wider p rows functions) (outlined_function ts first f) (tree.Name o ty line) ≡ true
  unfolding place_rule_holds
  name_rule f (object.Static number) ty line h = h
  name_rule f (object.Param number) ty line h = h
  name_rule f (object.Local number) ty line h = h
  name_rule f (object.Register number) ty line h = h

  -- ---- calls
  module _ (same : (n : ℕ) (g : FunctionTree) → slice_get p.functions n ≡ Some g → slice_get functions n ≡ Some (outlined_function ts first g)) where
    returns_again : (found : Option FunctionTree) (n : ℕ) (ty : Ty) → slice_get p.functions n ≡ found → returns_type found ty ≡ true → returns_type (slice_get functions n) ty ≡ true
    returns_again None n ty is h = absurd (false≢true h)
    returns_again (Some g) n ty is h = ap (λ o. returns_type o ty) (same n g is) ∙ h

    pub call_rule : (standing : Standing) (function : ℕ) (arguments : Expressions) (ty : Ty) (line : ℕ) → rule_holds p standing (tree.Call function arguments ty line) ≡ true → rule_holds (wider p rows functions) standing (tree.Call function (outlined_arguments ts first arguments) ty line) ≡ true
    unfolding rule_holds
    call_rule standing function arguments ty line h = returns_again (slice_get p.functions function) function ty refl h

    params_by : (found : Option FunctionTree) (n : ℕ) (ty : Ty) → slice_get p.functions n ≡ found → returns_type found ty ≡ true → params_of (slice_get functions n) ≡ params_of found
    params_by None n ty is h = absurd (false≢true h)
    params_by (Some g) n ty is h = ap params_of (same n g is)

    pub params_again : (n : ℕ) (ty : Ty) → returns_type (slice_get p.functions n) ty ≡ true → params_of (slice_get functions n) ≡ params_of (slice_get p.functions n)
    params_again n ty h = params_by (slice_get p.functions n) n ty refl h
