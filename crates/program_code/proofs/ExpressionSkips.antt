-- In byte code of an expression operators work on bytes of the copy's frame and on results.
use Rattle.std.proofs.Common.{◌≡◌, ℕ, Bool, true, false, nat_eq, List, [], ◌∷◌, ◌++◌, refl}
use Rattle.std.proofs.lemmas.Bool.{eq-eqb}
use Rattle.c_ints.specs.Range.{bytes_of}
use Rattle.c_typed.specs.Folding.{bits, constant_bits}
use Rattle.c_typed.specs.Trees as tree
use Rattle.c_typed.specs.Trees.{Expression, Expressions, Place}
use Rattle.c_typed.specs.Types.{type_of, place_type}
use Rattle.core_code.specs.Tree as code
use Rattle.core_code.specs.Tree.{Tree}
use Rattle.core_code.specs.declared.code.Byte.TheVariants.{Frame, Result}
use Rattle.core_puts.specs.Bytes.{beyond, operation_type}
use Rattle.lower_expr.specs.Layout.{Layout, width, value_width, place_width, object_byte, copy_of}
use Rattle.lower_expr.specs.Lowering.{behind_pointer, shifts_by_constant, change_code, is_pointer, arguments_width, expr_code, address_code, arguments_code}
use Rattle.core_puts.specs.Puts.{choice}
use Rattle.lower_expr.specs.Rows.{tested, logical_row, step_number}
use Rattle.lower_expr.specs.Spots.{spot_of}
use Rattle.program_code.proofs.PutSkips.{AreClose, none, one, join, sets_close, choice_close, widened_close, tested_close, unary_close, logical_close, binary_close, offset_close, difference_close, member_close, pointer_close, address_close, value_close, assigned_close, update_close, step_close, called_close, struct_close}

change_fine : (copy : ℕ) (b : Bool) (right : List Tree) → AreClose copy right → AreClose copy (change_code b right)
change_fine copy true right h = none copy
change_fine copy false right h = h

module _ (l : Layout) (copy : ℕ) where
  own : nat_eq copy copy ≡ true
  own = eq-eqb copy copy refl

  mutual
    unfolding expr_code address_code arguments_code

    pub expression_close : (base : ℕ) (wanted : Bool) (e : Expression) → AreClose copy (expr_code l copy base wanted e)
    expression_close base wanted (tree.Constant value line) = sets_close copy (Frame copy base) (bits value) (bytes_of value.ty)
    expression_close base wanted (tree.Read place ty line) =
        join copy _ _ (pointer_close copy (spot_of l copy place) (address_code l copy base place) (place_close base place)) (value_close copy (spot_of l copy place) (Frame copy base) (width l ty))
    expression_close base wanted (tree.Address place ty line) =
        join copy _ _ (pointer_close copy (spot_of l copy place) (address_code l copy base place) (place_close base place)) (address_close copy (spot_of l copy place) (Frame copy base))
    expression_close base wanted (tree.Convert operand ty line) = join copy _ _ (expression_close base true operand) (widened_close copy (type_of operand) ty (Frame copy base))
    expression_close base wanted (tree.Cast operand ty line) = join copy _ _ (expression_close base true operand) (widened_close copy (type_of operand) ty (Frame copy base))
    expression_close base wanted (tree.Unary op operand ty line) = join copy _ _ (expression_close base true operand) (unary_close copy op (operation_type ty) (Frame copy base) (value_width l operand))
    expression_close base wanted (tree.Binary op left right ty line) =
        let next = beyond base (value_width l left) in
        join copy _ _ (join copy _ _ (expression_close base true left) (change_fine copy (shifts_by_constant op right) (expr_code l copy next true right) (expression_close next true right)))
        (binary_close copy (shifts_by_constant op right) op (operation_type (type_of left)) (Frame copy base) (Frame copy next) (constant_bits right) (value_width l right) own own)
    expression_close base wanted (tree.Offset op left right size ty line) =
        join copy _ _ (join copy _ _ (expression_close base true left) (expression_close (beyond base 2) true right)) (offset_close copy op (Frame copy base) (is_pointer (type_of left)) size own)
    expression_close base wanted (tree.Difference left right size line) =
        join copy _ _ (join copy _ _ (expression_close base true left) (expression_close (beyond base 2) true right)) (difference_close copy (Frame copy base) size own)
    expression_close base wanted (tree.Logical op left right line) =
        let other = expr_code l copy base true right ++ tested (Frame copy base) (value_width l right) 1 0 ∷ [] in
        join copy _ _ (expression_close base true left)
        (one copy (logical_row op (Frame copy base) (value_width l left) other)
        (logical_close copy op (Frame copy base) (value_width l left) other
        (join copy _ _ (expression_close base true right) (one copy (tested (Frame copy base) (value_width l right) 1 0) (tested_close copy (Frame copy base) (value_width l right) 1 0)))))
    expression_close base wanted (tree.Conditional condition held failed ty line) =
        let a = expr_code l copy base wanted held in
        let b = expr_code l copy base wanted failed in
        join copy _ _ (expression_close base true condition)
        (one copy (choice (Frame copy base) (value_width l condition) a b)
        (choice_close copy (Frame copy base) (value_width l condition) a b (expression_close base wanted held) (expression_close base wanted failed)))
    expression_close base wanted (tree.Comma left right ty line) = join copy _ _ (expression_close base false left) (expression_close base wanted right)
    expression_close base wanted (tree.Assign place value ty line) =
        join copy _ _ (join copy _ _ (pointer_close copy (spot_of l copy place) (address_code l copy base place) (place_close base place)) (expression_close (behind_pointer l copy base place) true value))
        (assigned_close copy wanted (spot_of l copy place) l.root (Frame copy base) (width l ty) own)
    expression_close base wanted (tree.StructAssign place from size line) =
        let next = behind_pointer l copy base place in
        join copy _ _ (join copy _ _ (pointer_close copy (spot_of l copy place) (address_code l copy base place) (place_close base place))
        (pointer_close copy (spot_of l copy from) (address_code l copy next from) (place_close next from)))
        (struct_close copy l.root (spot_of l copy place) (spot_of l copy from) (Frame copy base) size own)
    expression_close base wanted (tree.Update op place value operation size ty line) =
        let next = behind_pointer l copy base place in
        join copy _ _ (join copy _ _ (pointer_close copy (spot_of l copy place) (address_code l copy base place) (place_close base place))
        (change_fine copy (shifts_by_constant op value) (expr_code l copy next true value) (expression_close next true value)))
        (update_close copy wanted l op place value operation size (spot_of l copy place) l.root (Frame copy base) (place_width l place) (place_type place).ty own)
    expression_close base wanted (tree.Step op place operation size ty line) =
        join copy _ _ (pointer_close copy (spot_of l copy place) (address_code l copy base place) (place_close base place))
        (step_close copy wanted l op operation (step_number operation size) (spot_of l copy place) l.root (Frame copy base) (place_width l place) (place_type place).ty own)
    expression_close base wanted (tree.Call function arguments ty line) =
        join copy _ _ (arguments_close base 0 arguments) (called_close copy wanted l.root (copy_of l function) (Frame copy base) (arguments_width l 0 arguments) (width l ty))

    pub place_close : (base : ℕ) (place : Place) → AreClose copy (address_code l copy base place)
    place_close base (tree.Name object ty line) = one copy (code.Address (Frame copy base) (object_byte l copy object)) refl
    place_close base (tree.Bit register bit line) = none copy
    place_close base (tree.Member whole member offset ty line) = join copy _ _ (place_close base whole) (member_close copy (Frame copy base) offset (Result l.root 0) own refl)
    place_close base (tree.Deref pointer ty line) = expression_close base true pointer

    arguments_close : (base before : ℕ) (es : Expressions) → AreClose copy (arguments_code l copy base before es)
    arguments_close base before tree.NoExpression = none copy
    arguments_close base before (tree.AndExpression e es) =
        join copy _ _ (expression_close (beyond base before) true e) (arguments_close base (beyond before (value_width l e)) es)
