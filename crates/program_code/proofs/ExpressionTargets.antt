-- Byte code of an expression calls only copies by their numbers in the layout.
use Rattle.std.proofs.Common.{◌≡◌, ℕ, Bool, true, false, nat_lt, List, [], ◌∷◌, ◌++◌, refl}
use Rattle.c_ints.specs.Range.{bytes_of}
use Rattle.c_typed.specs.Folding.{bits, constant_bits}
use Rattle.c_typed.specs.Trees as tree
use Rattle.c_typed.specs.Trees.{Expression, Expressions, Place}
use Rattle.c_typed.specs.Types.{type_of, place_type}
use Rattle.core_code.specs.Tree as code
use Rattle.core_code.specs.Tree.{Tree}
use Rattle.core_code.specs.declared.code.Byte.TheVariants.{Frame, Result}
use Rattle.core_puts.specs.Bytes.{beyond, operation_type}
use Rattle.lower_expr.specs.Layout.{Layout, width, value_width, place_width, object_byte, copy_of}
use Rattle.lower_expr.specs.Lowering.{behind_pointer, shifts_by_constant, change_code, is_pointer, arguments_width, expr_code, address_code, arguments_code}
use Rattle.core_puts.specs.Puts.{choice}
use Rattle.lower_expr.specs.Rows.{tested, logical_row, step_number}
use Rattle.lower_expr.specs.Spots.{spot_of}
use Rattle.program_code.proofs.RowTargets.{AreBelow, none, one, join, sets_below, choice_below, widened_below, tested_below, unary_below, logical_below, binary_below, offset_below, difference_below, member_below, pointer_below, address_below, value_below, assigned_below, update_below, step_below, called_below, struct_below}

pub change_below : (limit : ℕ) (b : Bool) (right : List Tree) → AreBelow limit right → AreBelow limit (change_code b right)
change_below limit true right h = none limit
change_below limit false right h = h

module _ (limit : ℕ) (l : Layout) (copy : ℕ) (low : (function : ℕ) → nat_lt (copy_of l function) limit ≡ true) where
  mutual
    unfolding expr_code address_code arguments_code

    pub expression_below : (base : ℕ) (wanted : Bool) (e : Expression) → AreBelow limit (expr_code l copy base wanted e)
    expression_below base wanted (tree.Constant value line) = sets_below limit (Frame copy base) (bits value) (bytes_of value.ty)
    expression_below base wanted (tree.Read place ty line) =
        join limit _ _ (pointer_below limit (spot_of l copy place) (address_code l copy base place) (place_below base place)) (value_below limit (spot_of l copy place) (Frame copy base) (width l ty))
    expression_below base wanted (tree.Address place ty line) =
        join limit _ _ (pointer_below limit (spot_of l copy place) (address_code l copy base place) (place_below base place)) (address_below limit (spot_of l copy place) (Frame copy base))
    expression_below base wanted (tree.Convert operand ty line) = join limit _ _ (expression_below base true operand) (widened_below limit (type_of operand) ty (Frame copy base))
    expression_below base wanted (tree.Cast operand ty line) = join limit _ _ (expression_below base true operand) (widened_below limit (type_of operand) ty (Frame copy base))
    expression_below base wanted (tree.Unary op operand ty line) = join limit _ _ (expression_below base true operand) (unary_below limit op (operation_type ty) (Frame copy base) (value_width l operand))
    expression_below base wanted (tree.Binary op left right ty line) =
        let next = beyond base (value_width l left) in
        join limit _ _ (join limit _ _ (expression_below base true left) (change_below limit (shifts_by_constant op right) (expr_code l copy next true right) (expression_below next true right)))
        (binary_below limit (shifts_by_constant op right) op (operation_type (type_of left)) (Frame copy base) (Frame copy next) (constant_bits right) (value_width l right))
    expression_below base wanted (tree.Offset op left right size ty line) =
        join limit _ _ (join limit _ _ (expression_below base true left) (expression_below (beyond base 2) true right)) (offset_below limit op (Frame copy base) (is_pointer (type_of left)) size)
    expression_below base wanted (tree.Difference left right size line) =
        join limit _ _ (join limit _ _ (expression_below base true left) (expression_below (beyond base 2) true right)) (difference_below limit (Frame copy base) size)
    expression_below base wanted (tree.Logical op left right line) =
        let other = expr_code l copy base true right ++ tested (Frame copy base) (value_width l right) 1 0 ∷ [] in
        join limit _ _ (expression_below base true left)
        (one limit (logical_row op (Frame copy base) (value_width l left) other)
        (logical_below limit op (Frame copy base) (value_width l left) other
        (join limit _ _ (expression_below base true right) (one limit (tested (Frame copy base) (value_width l right) 1 0) (tested_below limit (Frame copy base) (value_width l right) 1 0)))))
    expression_below base wanted (tree.Conditional condition held failed ty line) =
        let a = expr_code l copy base wanted held in
        let b = expr_code l copy base wanted failed in
        join limit _ _ (expression_below base true condition)
        (one limit (choice (Frame copy base) (value_width l condition) a b)
        (choice_below limit (Frame copy base) (value_width l condition) a b (expression_below base wanted held) (expression_below base wanted failed)))
    expression_below base wanted (tree.Comma left right ty line) = join limit _ _ (expression_below base false left) (expression_below base wanted right)
    expression_below base wanted (tree.Assign place value ty line) =
        join limit _ _ (join limit _ _ (pointer_below limit (spot_of l copy place) (address_code l copy base place) (place_below base place)) (expression_below (behind_pointer l copy base place) true value))
        (assigned_below limit wanted (spot_of l copy place) l.root (Frame copy base) (width l ty))
    expression_below base wanted (tree.StructAssign place from size line) =
        let next = behind_pointer l copy base place in
        join limit _ _ (join limit _ _ (pointer_below limit (spot_of l copy place) (address_code l copy base place) (place_below base place))
        (pointer_below limit (spot_of l copy from) (address_code l copy next from) (place_below next from)))
        (struct_below limit l.root (spot_of l copy place) (spot_of l copy from) (Frame copy base) size)
    expression_below base wanted (tree.Update op place value operation size ty line) =
        let next = behind_pointer l copy base place in
        join limit _ _ (join limit _ _ (pointer_below limit (spot_of l copy place) (address_code l copy base place) (place_below base place))
        (change_below limit (shifts_by_constant op value) (expr_code l copy next true value) (expression_below next true value)))
        (update_below limit wanted l op place value operation size (spot_of l copy place) l.root (Frame copy base) (place_width l place) (place_type place).ty)
    expression_below base wanted (tree.Step op place operation size ty line) =
        join limit _ _ (pointer_below limit (spot_of l copy place) (address_code l copy base place) (place_below base place))
        (step_below limit wanted l op operation (step_number operation size) (spot_of l copy place) l.root (Frame copy base) (place_width l place) (place_type place).ty)
    expression_below base wanted (tree.Call function arguments ty line) =
        join limit _ _ (arguments_below base 0 arguments) (called_below limit wanted l.root (copy_of l function) (Frame copy base) (arguments_width l 0 arguments) (width l ty) (low function))

    pub place_below : (base : ℕ) (place : Place) → AreBelow limit (address_code l copy base place)
    place_below base (tree.Name object ty line) = one limit (code.Address (Frame copy base) (object_byte l copy object)) refl
    place_below base (tree.Bit register bit line) = none limit
    place_below base (tree.Member whole member offset ty line) = join limit _ _ (place_below base whole) (member_below limit (Frame copy base) offset (Result l.root 0))
    place_below base (tree.Deref pointer ty line) = expression_below base true pointer

    arguments_below : (base before : ℕ) (es : Expressions) → AreBelow limit (arguments_code l copy base before es)
    arguments_below base before tree.NoExpression = none limit
    arguments_below base before (tree.AndExpression e es) =
        join limit _ _ (expression_below (beyond base before) true e) (arguments_below base (beyond before (value_width l e)) es)
