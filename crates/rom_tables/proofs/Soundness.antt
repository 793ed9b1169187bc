-- Expressions, places and statements fit once more, in the program with the readers.
use Rattle.std.proofs.Common.{◌≡◌, ℕ, ◌+◌, true, ◌&&◌, List, [], ◌∷◌, Option, Some, None, ◌⊎◌, inl, inr, refl, sym, ap, ◌∙◌, slice_get}
use Rattle.std.proofs.lemmas.Bool.{and_parts, and_from, false≢true}
use Rattle.c_ints.specs.declared.operators.BinOp.{BinOp}
use Rattle.c_typed.specs.declared.expression.Object.TheVariants as object
use Rattle.c_typed.specs.Fits.{Standing, Used, Pointed, operand_standing, source_of, goes_to, keeps_from, returns_type, params_of, rule_holds, place_rule_holds, fits, place_fits, arguments_fit}
use Rattle.c_typed.specs.Rules.{read_fits}
use Rattle.c_typed.specs.Sameness.{same_type, is_index}
use Rattle.c_typed.specs.Trees as tree
use Rattle.c_typed.specs.Trees.{Expression, Expressions, Place, StaticTree, FunctionTree, VariableTree, Program}
use Rattle.c_typed.specs.Types.{type_of, place_type}
use Rattle.c_typed.specs.declared.types.Qualified.{Qualified}
use Rattle.c_typed.specs.declared.types.Ty.{Ty}
use Rattle.rom_tables.proofs.Attributes.{type_again, source_again}
use Rattle.rom_tables.proofs.Elements.{left_element, right_element, argument_fits, argument_typed}
use Rattle.rom_tables.proofs.Nodes.{read_rule, address_rule, convert_rule, cast_rule, unary_rule, binary_rule, offset_rule, difference_rule, logical_rule, choice_rule, comma_rule, assign_rule, copy_rule, update_rule, step_rule, member_rule, deref_rule, name_rule, call_rule, params_again}
use Rattle.rom_tables.proofs.Wider.{both_hold, goes_to_holds, Stays, wider}
use Rattle.rom_tables.specs.Outlined.{outlined_expression, outlined_arguments, outlined_place, outlined_function, element_type, index_argument, read_of, reader_call, reader_parameter, unsigned_int}
use Rattle.rom_tables.specs.Tables.{is_table, place_in, start_table}

-- ---- where an expression leads to a table's first element
pub record IsStart (ts : List ℕ) (e : Expression) : Type 0 where
  pub number : ℕ
  pub table : ℕ
  pub ty : Qualified
  pub line : ℕ
  pub pointer : Ty
  pub at : ℕ
  pub is : e ≡ tree.Address (tree.Name (object.Static number) ty line) pointer at
  pub place : place_in number 0 ts ≡ Some table
  pub found : start_table ts e ≡ Some table

start_by : (ts : List ℕ) (n : ℕ) (q : Qualified) (l : ℕ) (ty : Ty) (at : ℕ) (found : Option ℕ) → place_in n 0 ts ≡ found → (start_table ts (tree.Address (tree.Name (object.Static n) q l) ty at) ≡ None) ⊎ IsStart ts (tree.Address (tree.Name (object.Static n) q l) ty at)
start_by ts n q l ty at None is = inl is
start_by ts n q l ty at (Some t) is = inr (record { number = n; table = t; ty = q; line = l; pointer = ty; at = at; is = refl; place = is; found = is })

pub start_or_none : (ts : List ℕ) (e : Expression) → (start_table ts e ≡ None) ⊎ IsStart ts e
start_or_none ts (tree.Address (tree.Name (object.Static n) q l) ty at) = start_by ts n q l ty at (place_in n 0 ts) refl
start_or_none ts (tree.Address (tree.Name (object.Param n) q l) ty at) = inl refl
start_or_none ts (tree.Address (tree.Name (object.Local n) q l) ty at) = inl refl
start_or_none ts (tree.Address (tree.Name (object.Register n) q l) ty at) = inl refl
start_or_none ts (tree.Address (tree.Bit register bit l) ty at) = inl refl
start_or_none ts (tree.Address (tree.Member whole member offset q l) ty at) = inl refl
start_or_none ts (tree.Address (tree.Deref pointer q l) ty at) = inl refl
start_or_none ts (tree.Constant value line) = inl refl
start_or_none ts _ = inl refl

-- A table, and its reader behind the other functions.
pub record IsRead (p : Program) (functions : List FunctionTree) (first n t : ℕ) : Type 0 where
  pub static : StaticTree
  pub there : slice_get p.statics n ≡ Some static
  pub table : is_table p static ≡ true
  pub reader : FunctionTree
  pub stands : slice_get functions (first + t) ≡ Some reader
  pub gives : reader.result ≡ element_type p static
  pub takes : reader.params ≡ reader_parameter static.line ∷ []

keeps_number : (p : Program) (from : Option Ty) → keeps_from p from unsigned_int ≡ true
keeps_number p None = refl
keeps_number p (Some ty) = refl

constant_rule : (p q : Program) (standing : Standing) (value : _) (line : ℕ) → rule_holds q standing (tree.Constant value line) ≡ true
unfolding rule_holds
constant_rule p q standing value line = refl

module _ (p : Program) (rows : List Qualified) (functions : List FunctionTree) (more : (n : ℕ) → Stays (slice_get p.targets n) (slice_get rows n)) (ts : List ℕ) (first : ℕ) (same : (n : ℕ) (g : FunctionTree) → slice_get p.functions n ≡ Some g → slice_get functions n ≡ Some (outlined_function ts first g)) (reads : (n t : ℕ) → place_in n 0 ts ≡ Some t → IsRead p functions first n t) where
  -- ---- a call of a reader
  call_fits : (f : FunctionTree) (standing : Standing) (index : Expression) (ty : Ty) (line n t : ℕ) (r : IsRead p functions first n t) → same_type (element_type p r.static) ty ≡ true → is_index (type_of index) ≡ true → fits (wider p rows functions) f Used index ≡ true → fits (wider p rows functions) f standing (reader_call (first + t) index ty line) ≡ true
  unfolding fits rule_holds
  call_fits f standing index ty line n t r typed number fit =
      let q = wider p rows functions in
      let a = index_argument index line in
      and_from (returns_type (slice_get functions (first + t)) ty) (arguments_fit q f (tree.AndExpression a tree.NoExpression) (params_of (slice_get functions (first + t))))
      (ap (λ o. returns_type o ty) r.stands ∙ ap (λ u. same_type u ty) r.gives ∙ typed)
      (ap (λ o. arguments_fit q f (tree.AndExpression a tree.NoExpression) (params_of o)) r.stands
      ∙ ap (λ vs. arguments_fit q f (tree.AndExpression a tree.NoExpression) vs) r.takes
      ∙ and_from (goes_to q (source_of a) (type_of a) unsigned_int) (fits q f Used a && true)
      (and_from (same_type (type_of a) unsigned_int) (keeps_from q (source_of a) unsigned_int) (argument_typed index line) (keeps_number q (source_of a)))
      (and_from (fits q f Used a) true (argument_fits q f index line number fit) refl))

  stays : (f : FunctionTree) (standing : Standing) (place : Place) (ty : Ty) (line : ℕ) → rule_holds p standing (tree.Read place ty line) ≡ true → place_fits (wider p rows functions) f (outlined_place ts first place) ≡ true → fits (wider p rows functions) f standing (tree.Read (outlined_place ts first place) ty line) ≡ true
  unfolding fits
  stays f standing place ty line rule fit = and_from (rule_holds (wider p rows functions) standing (tree.Read (outlined_place ts first place) ty line)) (place_fits (wider p rows functions) f (outlined_place ts first place)) (read_rule p rows functions more ts first standing place ty line rule) fit

  read_rule_of : (standing : Standing) (place : Place) (ty : Ty) (line : ℕ) → rule_holds p standing (tree.Read place ty line) ≡ true → read_fits (place_type place) ty ≡ true
  unfolding rule_holds
  read_rule_of standing place ty line h = h

  sum_again : (f : FunctionTree) (standing : Standing) (op : BinOp) (left right : Expression) (size : ℕ) (pty : Ty) (pat : ℕ) (tq : Qualified) (at : ℕ) (ty : Ty) (line : ℕ)
      → rule_holds p standing (tree.Read (tree.Deref (tree.Offset op left right size pty pat) tq at) ty line) ≡ true
      → place_fits p f (tree.Deref (tree.Offset op left right size pty pat) tq at) ≡ true
      → (fits p f Used left ≡ true → fits (wider p rows functions) (outlined_function ts first f) Used (outlined_expression ts first left) ≡ true)
      → (fits p f Used right ≡ true → fits (wider p rows functions) (outlined_function ts first f) Used (outlined_expression ts first right) ≡ true)
      → place_fits (wider p rows functions) (outlined_function ts first f) (outlined_place ts first (tree.Deref (tree.Offset op left right size pty pat) tq at)) ≡ true
      → (start_table ts left ≡ None) ⊎ IsStart ts left → (start_table ts right ≡ None) ⊎ IsStart ts right
      → fits (wider p rows functions) (outlined_function ts first f) standing (read_of first (start_table ts left) (start_table ts right) (outlined_place ts first (tree.Deref (tree.Offset op left right size pty pat) tq at)) ty line) ≡ true
  unfolding outlined_expression outlined_arguments outlined_place
  sum_again f standing op left right size pty pat tq at ty line rule fit again_left again_right whole (inr s) other =
      let q = wider p rows functions in
      let g = outlined_function ts first f in
      let place = outlined_place ts first (tree.Deref (tree.Offset op left right size pty pat) tq at) in
      let r = reads s.number s.table s.place in
      let e = left_element p f r.static s.number r.there r.table s.ty s.line s.pointer s.at size pty pat tq at ty right op (ap (λ x. place_fits p f (tree.Deref (tree.Offset op x right size pty pat) tq at)) (sym s.is) ∙ fit) (read_rule_of standing (tree.Deref (tree.Offset op left right size pty pat) tq at) ty line rule) in
      ap (λ o. fits q g standing (read_of first o (start_table ts right) place ty line)) s.found
      ∙ call_fits g standing (outlined_expression ts first right) ty line s.number s.table r e.typed (ap is_index (type_again ts first right) ∙ e.number) (again_right e.fitting)
  sum_again f standing op left right size pty pat tq at ty line rule fit again_left again_right whole (inl none) (inr s) =
      let q = wider p rows functions in
      let g = outlined_function ts first f in
      let place = outlined_place ts first (tree.Deref (tree.Offset op left right size pty pat) tq at) in
      let r = reads s.number s.table s.place in
      let e = right_element p f r.static s.number r.there r.table s.ty s.line s.pointer s.at size pty pat tq at ty left op (ap (λ x. place_fits p f (tree.Deref (tree.Offset op left x size pty pat) tq at)) (sym s.is) ∙ fit) (read_rule_of standing (tree.Deref (tree.Offset op left right size pty pat) tq at) ty line rule) in
      ap (λ o. fits q g standing (read_of first o (start_table ts right) place ty line)) none
      ∙ ap (λ o. fits q g standing (read_of first None o place ty line)) s.found
      ∙ call_fits g standing (outlined_expression ts first left) ty line s.number s.table r e.typed (ap is_index (type_again ts first left) ∙ e.number) (again_left e.fitting)
  sum_again f standing op left right size pty pat tq at ty line rule fit again_left again_right whole (inl none) (inl neither) =
      let q = wider p rows functions in
      let g = outlined_function ts first f in
      let place = outlined_place ts first (tree.Deref (tree.Offset op left right size pty pat) tq at) in
      ap (λ o. fits q g standing (read_of first o (start_table ts right) place ty line)) none
      ∙ ap (λ o. fits q g standing (read_of first None o place ty line)) neither
      ∙ stays g standing (tree.Deref (tree.Offset op left right size pty pat) tq at) ty line rule whole

  -- ---- trees
  bit_rule : (f : FunctionTree) (register bit line : ℕ) → place_rule_holds p f (tree.Bit register bit line) ≡ true → place_rule_holds (wider p rows functions) (outlined_function ts first f) (tree.Bit register bit line) ≡ true
  unfolding place_rule_holds
  bit_rule f register bit line h = h

  returns_of : (standing : Standing) (function : ℕ) (arguments : Expressions) (ty : Ty) (line : ℕ) → rule_holds p standing (tree.Call function arguments ty line) ≡ true → returns_type (slice_get p.functions function) ty ≡ true
  unfolding rule_holds
  returns_of standing function arguments ty line h = h

  pub argument_goes : (e : Expression) (to : Ty) → goes_to p (source_of e) (type_of e) to ≡ true → goes_to (wider p rows functions) (source_of (outlined_expression ts first e)) (type_of (outlined_expression ts first e)) to ≡ true
  argument_goes e to h =
      ap (λ s. goes_to (wider p rows functions) s (type_of (outlined_expression ts first e)) to) (source_again ts first e)
      ∙ ap (λ t. goes_to (wider p rows functions) (source_of e) t to) (type_again ts first e)
      ∙ goes_to_holds p rows functions more (source_of e) (type_of e) to h

  mutual
    unfolding outlined_expression outlined_arguments outlined_place fits place_fits arguments_fit

    pub fits_again : (f : FunctionTree) (standing : Standing) (e : Expression) → fits p f standing e ≡ true → fits (wider p rows functions) (outlined_function ts first f) standing (outlined_expression ts first e) ≡ true
    fits_again f standing (tree.Constant value line) h = constant_rule p (wider p rows functions) standing value line
    fits_again f standing (tree.Read place ty line) h = let k = and_parts (rule_holds p standing (tree.Read place ty line)) (place_fits p f place) h in read_again f standing place ty line k.0 k.1
    fits_again f standing (tree.Address place ty line) h = both_hold _ _ _ _ (address_rule p rows functions more ts first standing place ty line) (place_again f place) h
    fits_again f standing (tree.Convert operand ty line) h = both_hold _ _ _ _ (convert_rule p rows functions more ts first standing operand ty line) (fits_again f Used operand) h
    fits_again f standing (tree.Cast operand ty line) h = both_hold _ _ _ _ (cast_rule p rows functions more ts first standing operand ty line) (fits_again f Used operand) h
    fits_again f standing (tree.Unary op operand ty line) h = both_hold _ _ _ _ (unary_rule p rows functions more ts first standing op operand ty line) (fits_again f Used operand) h
    fits_again f standing (tree.Binary op left right ty line) h = both_hold _ _ _ _ (binary_rule p rows functions more ts first standing op left right ty line) (both_hold _ _ _ _ (fits_again f Used left) (fits_again f Used right)) h
    fits_again f standing (tree.Offset op left right size ty line) h = both_hold _ _ _ _ (offset_rule p rows functions more ts first standing op left right size ty line) (both_hold _ _ _ _ (fits_again f (operand_standing standing op) left) (fits_again f (operand_standing standing op) right)) h
    fits_again f standing (tree.Difference left right size line) h = both_hold _ _ _ _ (difference_rule p rows functions more ts first standing left right size line) (both_hold _ _ _ _ (fits_again f Used left) (fits_again f Used right)) h
    fits_again f standing (tree.Logical op left right line) h = both_hold _ _ _ _ (logical_rule p rows functions more ts first standing op left right line) (both_hold _ _ _ _ (fits_again f Used left) (fits_again f Used right)) h
    fits_again f standing (tree.Conditional condition chosen otherwise ty line) h = both_hold _ _ _ _ (choice_rule p rows functions more ts first standing condition chosen otherwise ty line) (both_hold _ _ _ _ (fits_again f Used condition) (both_hold _ _ _ _ (fits_again f Used chosen) (fits_again f Used otherwise))) h
    fits_again f standing (tree.Comma left right ty line) h = both_hold _ _ _ _ (comma_rule p rows functions more ts first standing left right ty line) (both_hold _ _ _ _ (fits_again f Used left) (fits_again f Used right)) h
    fits_again f standing (tree.Assign place value ty line) h = both_hold _ _ _ _ (assign_rule p rows functions more ts first standing place value ty line) (both_hold _ _ _ _ (place_again f place) (fits_again f Used value)) h
    fits_again f standing (tree.StructAssign place from size line) h = both_hold _ _ _ _ (copy_rule p rows functions more ts first standing place from size line) (both_hold _ _ _ _ (place_again f place) (place_again f from)) h
    fits_again f standing (tree.Update op place value operation size ty line) h = both_hold _ _ _ _ (update_rule p rows functions more ts first standing op place value operation size ty line) (both_hold _ _ _ _ (place_again f place) (fits_again f Used value)) h
    fits_again f standing (tree.Step op place operation size ty line) h = both_hold _ _ _ _ (step_rule p rows functions more ts first standing op place operation size ty line) (place_again f place) h
    fits_again f standing (tree.Call function arguments ty line) h =
        let k = and_parts (rule_holds p standing (tree.Call function arguments ty line)) (arguments_fit p f arguments (params_of (slice_get p.functions function))) h in
        and_from (rule_holds (wider p rows functions) standing (tree.Call function (outlined_arguments ts first arguments) ty line)) (arguments_fit (wider p rows functions) (outlined_function ts first f) (outlined_arguments ts first arguments) (params_of (slice_get functions function)))
        (call_rule p rows functions more ts first same standing function arguments ty line k.0)
        (ap (arguments_fit (wider p rows functions) (outlined_function ts first f) (outlined_arguments ts first arguments)) (params_again p rows functions more ts first same function ty (returns_of standing function arguments ty line k.0)) ∙ arguments_again f arguments (params_of (slice_get p.functions function)) k.1)

    pub read_again : (f : FunctionTree) (standing : Standing) (place : Place) (ty : Ty) (line : ℕ) → rule_holds p standing (tree.Read place ty line) ≡ true → place_fits p f place ≡ true → fits (wider p rows functions) (outlined_function ts first f) standing (outlined_expression ts first (tree.Read place ty line)) ≡ true
    read_again f standing (tree.Name o q at) ty line rule h = stays (outlined_function ts first f) standing (tree.Name o q at) ty line rule (name_rule p rows functions more ts first f o q at h)
    read_again f standing (tree.Bit register bit at) ty line rule h = stays (outlined_function ts first f) standing (tree.Bit register bit at) ty line rule (bit_rule f register bit at h)
    read_again f standing (tree.Member whole member offset q at) ty line rule h = stays (outlined_function ts first f) standing (tree.Member whole member offset q at) ty line rule (both_hold _ _ _ _ (member_rule p rows functions more ts first f (outlined_function ts first f) whole member offset q at) (place_again f whole) h)
    read_again f standing (tree.Deref (tree.Offset op left right size pty pat) q at) ty line rule h =
        sum_again f standing op left right size pty pat q at ty line rule h (fits_again f Used left) (fits_again f Used right)
        (both_hold _ _ _ _ (deref_rule p rows functions more ts first f (outlined_function ts first f) (tree.Offset op left right size pty pat) q at) (fits_again f Pointed (tree.Offset op left right size pty pat)) h)
        (start_or_none ts left) (start_or_none ts right)
    read_again f standing (tree.Deref (tree.Constant value pat) q at) ty line rule h = stays (outlined_function ts first f) standing (tree.Deref (tree.Constant value pat) q at) ty line rule (both_hold _ _ _ _ (deref_rule p rows functions more ts first f (outlined_function ts first f) (tree.Constant value pat) q at) (fits_again f Pointed (tree.Constant value pat)) h)
    read_again f standing (tree.Deref pointer q at) ty line rule h = stays (outlined_function ts first f) standing (tree.Deref pointer q at) ty line rule (both_hold _ _ _ _ (deref_rule p rows functions more ts first f (outlined_function ts first f) pointer q at) (fits_again f Pointed pointer) h)

    pub place_again : (f : FunctionTree) (place : Place) → place_fits p f place ≡ true → place_fits (wider p rows functions) (outlined_function ts first f) (outlined_place ts first place) ≡ true
    place_again f (tree.Name o ty line) h = name_rule p rows functions more ts first f o ty line h
    place_again f (tree.Bit register bit line) h = bit_rule f register bit line h
    place_again f (tree.Member whole member offset ty line) h = both_hold _ _ _ _ (member_rule p rows functions more ts first f (outlined_function ts first f) whole member offset ty line) (place_again f whole) h
    place_again f (tree.Deref pointer ty line) h = both_hold _ _ _ _ (deref_rule p rows functions more ts first f (outlined_function ts first f) pointer ty line) (fits_again f Pointed pointer) h

    pub arguments_again : (f : FunctionTree) (es : Expressions) (vs : List VariableTree) → arguments_fit p f es vs ≡ true → arguments_fit (wider p rows functions) (outlined_function ts first f) (outlined_arguments ts first es) vs ≡ true
    arguments_again f tree.NoExpression vs h = h
    arguments_again f (tree.AndExpression e es) [] h = absurd (false≢true h)
    arguments_again f (tree.AndExpression e es) (v ∷ vs) h = both_hold _ _ _ _ (argument_goes e v.ty.ty) (both_hold _ _ _ _ (fits_again f Used e) (arguments_again f es vs)) h
