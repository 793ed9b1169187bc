-- The code of an expression takes at most its stated words.
use Rattle.std.proofs.Common.{◌≡◌, ℕ, ◌+◌, ◌≤◌, Bool, true, false, ◌&&◌, List, [], ◌∷◌, ◌++◌, slice_get, refl, ap, arith}
use Rattle.c_ints.specs.Range.{bytes_of}
use Rattle.c_typed.specs.Fits.{goes_to, source_of, rule_holds, place_rule_holds, params_of, operand_standing, fits, place_fits, arguments_fit, Standing, Used, Pointed}
use Rattle.c_typed.specs.Folding.{bits, constant_bits}
use Rattle.c_typed.specs.Trees as tree
use Rattle.c_typed.specs.Trees.{Expression, Expressions, Place, VariableTree, FunctionTree, Program}
use Rattle.c_typed.specs.Types.{type_of, is_constant, form_of}
use Rattle.c_typed.specs.Words.{words, place_words, arguments_words, difference_words, offset_words, member_words}
use Rattle.c_typed.specs.declared.expression.PlaceForm.{PlaceForm}
use Rattle.call_graph.specs.declared.types.FnCopy.{FnCopy}
use Rattle.core_code.specs.Tree.{Tree}
use Rattle.core_code.specs.declared.code.Byte.TheVariants as bytes
use Rattle.core_puts.specs.Bytes.{beyond}
use Rattle.lower_expr.specs.Layout.{Layout, value_width, copy_of}
use Rattle.lower_expr.specs.Lowering.{pointer_code, behind_pointer, is_pointer, expr_code, address_code, arguments_code}
use Rattle.lower_expr.specs.Rows.{offset_row, difference_row, member_row}
use Rattle.lower_expr.specs.Spots.{spot_of, member_spot}
use Rattle.lower_expr.specs.declared.places.Spot.{Spot}
use Rattle.lower_expr.specs.declared.places.Spot.TheVariants.{Fixed, Bit, Computed}
use Rattle.pic_world.specs.declared.Root.{Root}
use Rattle.select_code.specs.declared.control.Ending.{Ending}
use Rattle.program_code.proofs.Chain.{never}
use Rattle.program_code.proofs.Lowered.{Takes, takes_on, takes_more, takes_none}
use Rattle.program_code.proofs.Rows.{form_at, offset_takes, difference_takes, member_takes}
use Rattle.program_code.proofs.Typing.{and_first, and_last, offset_moves}
use Rattle.program_code.proofs.Nodes.{mine, form_same, constant_node, read_node, address_node, convert_node, unary_node, binary_node, three_node, logical_node, choice_node, assign_node, struct_node, update_node, step_node, call_node}

-- the address of this place is computed
abbrev pub is_computed : Spot → Bool
is_computed (Fixed byte) = false
is_computed (Bit register bit) = true
is_computed Computed = true

pub whole_computed : (spot : Spot) (offset : ℕ) → is_computed (member_spot spot offset) ≡ true → is_computed spot ≡ true
whole_computed (Fixed byte) offset e = never e
whole_computed (Bit register bit) offset e = refl
whole_computed Computed offset e = refl

member_twelve : (f : PlaceForm) (spot : Spot) → form_at spot ≡ f → is_computed spot ≡ true → 12 ≤ member_words f
member_twelve f (Fixed byte) e h = never h
member_twelve f (Bit register bit) e h = let same = ap member_words e in omega (arith, same)
member_twelve f Computed e h = let same = ap member_words e in omega (arith, same)

module _ (list : List FnCopy) (root : Root) (end : Ending) (l : Layout) (c : ℕ) (p : Program) (f : FunctionTree) where
  -- the code of an address counts where there is one
  pointer_takes : (spot : Spot) (n : ℕ) (address : List Tree) → (is_computed spot ≡ true → Takes list root end c n address) → Takes list root end c n (pointer_code spot address)
  pointer_takes (Fixed byte) n address h = takes_more list root end c 0 n [] (omega arith) (takes_none list root end c)
  pointer_takes (Bit register bit) n address h = takes_more list root end c 0 n [] (omega arith) (takes_none list root end c)
  pointer_takes Computed n address h = h refl

  mutual
    unfolding expr_code words fits rule_holds address_code place_words place_fits spot_of arguments_code arguments_words arguments_fit

    pub expr_takes : (wanted : Bool) (base : ℕ) (standing : Standing) (e : Expression) → fits p f standing e ≡ true → Takes list root end c (words l.sizes e) (expr_code l c base wanted e)
    expr_takes wanted base standing (tree.Constant value line) h = constant_node list root end l c base (bits value) (bytes_of value.ty)
    expr_takes wanted base standing (tree.Read place ty line) h =
        read_node list root end l c base place ty (place_words l.sizes place) (pointer_code (spot_of l c place) (address_code l c base place)) (pointer_takes (spot_of l c place) (place_words l.sizes place) (address_code l c base place) (λ e. address_takes base place (and_last (rule_holds p standing (tree.Read place ty line)) (place_fits p f place) h) e))
    expr_takes wanted base standing (tree.Address place ty line) h =
        address_node list root end l c base place (place_words l.sizes place) (pointer_code (spot_of l c place) (address_code l c base place)) (pointer_takes (spot_of l c place) (place_words l.sizes place) (address_code l c base place) (λ e. address_takes base place (and_last (rule_holds p standing (tree.Address place ty line)) (place_fits p f place) h) e))
    expr_takes wanted base standing (tree.Convert operand ty line) h =
        convert_node list root end l c base (type_of operand) ty (words l.sizes operand) (expr_code l c base true operand) (expr_takes true base Used operand (and_last (rule_holds p standing (tree.Convert operand ty line)) (fits p f Used operand) h))
    expr_takes wanted base standing (tree.Cast operand ty line) h =
        convert_node list root end l c base (type_of operand) ty (words l.sizes operand) (expr_code l c base true operand) (expr_takes true base Used operand (and_last (rule_holds p standing (tree.Cast operand ty line)) (fits p f Used operand) h))
    expr_takes wanted base standing (tree.Unary op operand ty line) h =
        unary_node list root end l c op base (type_of operand) ty (words l.sizes operand) (expr_code l c base true operand) (and_first (rule_holds p standing (tree.Unary op operand ty line)) (fits p f Used operand) h)
        (expr_takes true base Used operand (and_last (rule_holds p standing (tree.Unary op operand ty line)) (fits p f Used operand) h))
    expr_takes wanted base standing (tree.Binary op left right ty line) h =
        let rule = rule_holds p standing (tree.Binary op left right ty line) in
        let parts = and_last rule (fits p f Used left && fits p f Used right) h in
        binary_node list root end l c p op base (type_of left) (type_of right) ty (is_constant right) (constant_bits right) (words l.sizes left) (words l.sizes right) (expr_code l c base true left) (expr_code l c (beyond base (value_width l left)) true right)
        (and_first rule (fits p f Used left && fits p f Used right) h)
        (expr_takes true base Used left (and_first (fits p f Used left) (fits p f Used right) parts)) (expr_takes true (beyond base (value_width l left)) Used right (and_last (fits p f Used left) (fits p f Used right) parts))
    expr_takes wanted base standing (tree.Offset op left right size ty line) h =
        let rule = rule_holds p standing (tree.Offset op left right size ty line) in
        let s = operand_standing standing op in
        let parts = and_last rule (fits p f s left && fits p f s right) h in
        three_node list root end l c (words l.sizes left) (words l.sizes right) (offset_words size) (expr_code l c base true left) (expr_code l c (beyond base 2) true right) (offset_row op (bytes.Frame c base) (is_pointer (type_of left)) size)
        (expr_takes true base s left (and_first (fits p f s left) (fits p f s right) parts)) (expr_takes true (beyond base 2) s right (and_last (fits p f s left) (fits p f s right) parts))
        (offset_takes list root end c op (bytes.Frame c base) (is_pointer (type_of left)) size (offset_moves p op (type_of left) (type_of right) size ty (and_first rule (fits p f s left && fits p f s right) h)) (mine list root end l c base))
    expr_takes wanted base standing (tree.Difference left right size line) h =
        let rule = rule_holds p standing (tree.Difference left right size line) in
        let parts = and_last rule (fits p f Used left && fits p f Used right) h in
        three_node list root end l c (words l.sizes left) (words l.sizes right) (difference_words size) (expr_code l c base true left) (expr_code l c (beyond base 2) true right) (difference_row (bytes.Frame c base) size)
        (expr_takes true base Used left (and_first (fits p f Used left) (fits p f Used right) parts)) (expr_takes true (beyond base 2) Used right (and_last (fits p f Used left) (fits p f Used right) parts))
        (difference_takes list root end c (bytes.Frame c base) size (mine list root end l c base))
    expr_takes wanted base standing (tree.Logical op left right line) h =
        let parts = and_last (rule_holds p standing (tree.Logical op left right line)) (fits p f Used left && fits p f Used right) h in
        logical_node list root end l c op base (type_of left) (type_of right) (words l.sizes left) (words l.sizes right) (expr_code l c base true left) (expr_code l c base true right)
        (expr_takes true base Used left (and_first (fits p f Used left) (fits p f Used right) parts)) (expr_takes true base Used right (and_last (fits p f Used left) (fits p f Used right) parts))
    expr_takes wanted base standing (tree.Conditional condition held failed ty line) h =
        let parts = and_last (rule_holds p standing (tree.Conditional condition held failed ty line)) (fits p f Used condition && (fits p f Used held && fits p f Used failed)) h in
        let sides = and_last (fits p f Used condition) (fits p f Used held && fits p f Used failed) parts in
        choice_node list root end l c base (type_of condition) (words l.sizes condition) (words l.sizes held) (words l.sizes failed) (expr_code l c base true condition) (expr_code l c base wanted held) (expr_code l c base wanted failed)
        (expr_takes true base Used condition (and_first (fits p f Used condition) (fits p f Used held && fits p f Used failed) parts))
        (expr_takes wanted base Used held (and_first (fits p f Used held) (fits p f Used failed) sides)) (expr_takes wanted base Used failed (and_last (fits p f Used held) (fits p f Used failed) sides))
    expr_takes wanted base standing (tree.Comma left right ty line) h =
        let parts = and_last (rule_holds p standing (tree.Comma left right ty line)) (fits p f Used left && fits p f Used right) h in
        let code = expr_code l c base false left ++ expr_code l c base wanted right in
        takes_more list root end c (words l.sizes left + words l.sizes right) (0 + (words l.sizes left + words l.sizes right)) code (omega arith)
        (takes_on list root end c (words l.sizes left) (words l.sizes right) (expr_code l c base false left) (expr_code l c base wanted right)
        (expr_takes false base Used left (and_first (fits p f Used left) (fits p f Used right) parts)) (expr_takes wanted base Used right (and_last (fits p f Used left) (fits p f Used right) parts)))
    expr_takes wanted base standing (tree.Assign place value ty line) h =
        let parts = and_last (rule_holds p standing (tree.Assign place value ty line)) (place_fits p f place && fits p f Used value) h in
        let next = behind_pointer l c base place in
        assign_node list root end l c wanted l.root base place ty (place_words l.sizes place) (words l.sizes value) (pointer_code (spot_of l c place) (address_code l c base place)) (expr_code l c next true value)
        (pointer_takes (spot_of l c place) (place_words l.sizes place) (address_code l c base place) (λ e. address_takes base place (and_first (place_fits p f place) (fits p f Used value) parts) e)) (expr_takes true next Used value (and_last (place_fits p f place) (fits p f Used value) parts))
    expr_takes wanted base standing (tree.StructAssign place from size line) h =
        let parts = and_last (rule_holds p standing (tree.StructAssign place from size line)) (place_fits p f place && place_fits p f from) h in
        let next = behind_pointer l c base place in
        struct_node list root end l c l.root base place from size (place_words l.sizes place) (place_words l.sizes from) (pointer_code (spot_of l c place) (address_code l c base place)) (pointer_code (spot_of l c from) (address_code l c next from))
        (pointer_takes (spot_of l c place) (place_words l.sizes place) (address_code l c base place) (λ e. address_takes base place (and_first (place_fits p f place) (place_fits p f from) parts) e)) (pointer_takes (spot_of l c from) (place_words l.sizes from) (address_code l c next from) (λ e. address_takes next from (and_last (place_fits p f place) (place_fits p f from) parts) e))
    expr_takes wanted base standing (tree.Update op place value operation size ty line) h =
        let rule = rule_holds p standing (tree.Update op place value operation size ty line) in
        let parts = and_last rule (place_fits p f place && fits p f Used value) h in
        let next = behind_pointer l c base place in
        update_node list root end l c p wanted op place value operation size ty l.root base (place_words l.sizes place) (words l.sizes value) (pointer_code (spot_of l c place) (address_code l c base place)) (expr_code l c next true value)
        (and_first rule (place_fits p f place && fits p f Used value) h) (pointer_takes (spot_of l c place) (place_words l.sizes place) (address_code l c base place) (λ e. address_takes base place (and_first (place_fits p f place) (fits p f Used value) parts) e)) (expr_takes true next Used value (and_last (place_fits p f place) (fits p f Used value) parts))
    expr_takes wanted base standing (tree.Step op place operation size ty line) h =
        let rule = rule_holds p standing (tree.Step op place operation size ty line) in
        step_node list root end l c p wanted op place operation size ty l.root base (place_words l.sizes place) (pointer_code (spot_of l c place) (address_code l c base place)) (and_first rule (place_fits p f place) h) (pointer_takes (spot_of l c place) (place_words l.sizes place) (address_code l c base place) (λ e. address_takes base place (and_last rule (place_fits p f place) h) e))
    expr_takes wanted base standing (tree.Call function arguments ty line) h =
        let given = params_of (slice_get p.functions function) in
        call_node list root end l c wanted l.root (copy_of l function) base arguments ty (arguments_words l.sizes arguments) (arguments_code l c base 0 arguments)
        (arguments_take base 0 arguments given (and_last (rule_holds p standing (tree.Call function arguments ty line)) (arguments_fit p f arguments given) h))

    address_takes : (base : ℕ) (place : Place) → place_fits p f place ≡ true → is_computed (spot_of l c place) ≡ true → Takes list root end c (place_words l.sizes place) (address_code l c base place)
    address_takes base (tree.Name object ty line) h e = never e
    address_takes base (tree.Bit register bit line) h e = takes_none list root end c
    address_takes base (tree.Member whole member offset ty line) h e =
        let there = whole_computed (spot_of l c whole) offset e in
        let twelve = member_twelve (form_of whole) (spot_of l c whole) (form_same l c whole) there in
        takes_more list root end c (place_words l.sizes whole + 12) (member_words (form_of whole) + place_words l.sizes whole) (address_code l c base whole ++ member_row (bytes.Frame c base) offset (bytes.Result l.root 0)) (omega (arith, twelve))
        (takes_on list root end c (place_words l.sizes whole) 12 (address_code l c base whole) (member_row (bytes.Frame c base) offset (bytes.Result l.root 0))
        (address_takes base whole (and_last (place_rule_holds p f (tree.Member whole member offset ty line)) (place_fits p f whole) h) there) (member_takes list root end c (bytes.Frame c base) offset l.root (mine list root end l c base)))
    address_takes base (tree.Deref pointer ty line) h e = expr_takes true base Pointed pointer (and_last (place_rule_holds p f (tree.Deref pointer ty line)) (fits p f Pointed pointer) h)

    arguments_take : (base before : ℕ) (es : Expressions) (vs : List VariableTree) → arguments_fit p f es vs ≡ true → Takes list root end c (arguments_words l.sizes es) (arguments_code l c base before es)
    arguments_take base before tree.NoExpression vs h = takes_none list root end c
    arguments_take base before (tree.AndExpression e es) [] h = never h
    arguments_take base before (tree.AndExpression e es) (v ∷ vs) h =
        let goes = goes_to p (source_of e) (type_of e) v.ty.ty in
        let parts = and_last goes (fits p f Used e && arguments_fit p f es vs) h in
        let next = beyond before (value_width l e) in
        takes_on list root end c (words l.sizes e) (arguments_words l.sizes es) (expr_code l c (beyond base before) true e) (arguments_code l c base next es)
        (expr_takes true (beyond base before) Used e (and_first (fits p f Used e) (arguments_fit p f es vs) parts)) (arguments_take base next es vs (and_last (fits p f Used e) (arguments_fit p f es vs) parts))

  -- what comes before the value of a place, or its writing
  pub place_takes : (base : ℕ) (place : Place) → place_fits p f place ≡ true → Takes list root end c (place_words l.sizes place) (pointer_code (spot_of l c place) (address_code l c base place))
  place_takes base place h = pointer_takes (spot_of l c place) (place_words l.sizes place) (address_code l c base place) (λ e. address_takes base place h e)
