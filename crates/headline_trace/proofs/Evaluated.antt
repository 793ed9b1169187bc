-- Byte code of an expression of a sound program sets bytes alone.
use Rattle.std.proofs.Common.{◌≡◌, ℕ, ◌+◌, Bool, true, false, ◌&&◌, nat_eq, nat_lt, if◌then◌else◌, List, [], ◌∷◌, ◌++◌, Some, None, is_some, min, refl, sym, ap, ◌∙◌, arith}
use Rattle.std.proofs.lemmas.Bool.{eqb-true, lt-ltb}
use Rattle.c_ints.specs.Range.{bytes_of}
use Rattle.c_typed.specs.Fits.{place_rule_holds, is_named, is_device, register_type}
use Rattle.c_typed.specs.Folding.{bits, constant_bits}
use Rattle.c_typed.specs.Trees as tree
use Rattle.c_typed.specs.Trees.{Expression, Expressions, Place, Program, VariableTree}
use Rattle.c_typed.specs.Types.{type_of, place_type}
use Rattle.c_typed.specs.declared.expression.Object.{Object}
use Rattle.c_typed.specs.declared.expression.Object.TheVariants as object
use Rattle.c_typed.specs.declared.types.Qualified.{Qualified}
use Rattle.core_code.specs.Tree as code
use Rattle.core_code.specs.Tree.{Tree}
use Rattle.core_code.specs.declared.code.Byte.{Byte}
use Rattle.core_code.specs.declared.code.Byte.TheVariants.{Static, Frame, Result, Device}
use Rattle.core_puts.specs.Bytes.{behind, beyond, little_beyond, operation_type}
use Rattle.lower_expr.specs.Layout.{Layout, width, value_width, place_width, object_byte, copy_of}
use Rattle.lower_expr.specs.Lowering.{behind_pointer, shifts_by_constant, change_code, is_pointer, arguments_width, expr_code, address_code, arguments_code}
use Rattle.core_puts.specs.Puts.{choice}
use Rattle.lower_expr.specs.Rows.{tested, logical_row, step_number}
use Rattle.lower_expr.specs.Spots.{spot_of, member_spot}
use Rattle.lower_expr.specs.declared.places.Spot.{Spot}
use Rattle.lower_expr.specs.declared.places.Spot.TheVariants.{Fixed, Bit, Computed}
use Rattle.pic_world.specs.Registers.{Register, registers, name_in}
use Rattle.src_rules.specs.Parts.{IsExpressionOf, AreArgumentsOf, IsPlaceOf, ObeysIn}
use Rattle.chip_trace.specs.Arriving.{is_near}
use Rattle.headline_trace.proofs.Numbers.{AreGiven, IsNearSpot, none, one, join, sets_given, choice_given, widened_given, tested_given, unary_given, logical_given, binary_given, offset_given, difference_given, member_given, pointer_given, address_given, value_given, assigned_given, update_given, step_given, called_given, struct_given}

-- ---- registers
are_low : List Register → Bool
are_low [] = true
are_low (r ∷ rs) = nat_lt r.1 512 && are_low rs

is_low : (rs : List Register) (address : ℕ) → are_low rs ≡ true → is_some (name_in rs address) ≡ true → nat_lt address 512 ≡ true
unfolding are_low
is_low [] address low named = absurd (cc)
is_low (r ∷ rs) address low named = by (nat_lt r.1 512) (nat_eq r.1 address) refl refl low named (is_low rs address) where
  by : (a b : Bool) → nat_lt r.1 512 ≡ a → nat_eq r.1 address ≡ b → (a && are_low rs) ≡ true → is_some (if b then Some r.0 else name_in rs address) ≡ true
      → (are_low rs ≡ true → is_some (name_in rs address) ≡ true → nat_lt address 512 ≡ true) → nat_lt address 512 ≡ true
  by true true small same l n below = sym (ap (λ x. nat_lt x 512) (eqb-true r.1 address same)) ∙ small
  by true false small other l n below = below l n
  by false b small same l n below = absurd (cc)

registers_low : are_low registers ≡ true
unfolding are_low
registers_low = refl

device_near : (number : ℕ) (ty : Qualified) (b : Bool) → is_device number ≡ b → is_named false (if b then Some register_type else None) ty ≡ true → nat_lt number 512 ≡ true
unfolding is_device
device_near number ty true is h = is_low registers number registers_low is
device_near number ty false is h = absurd (cc)

object_near : (p : Program) (f : ℕ) (l : Layout) (copy : ℕ) (object : Object) (ty : Qualified) (line : ℕ) → ObeysIn p f (tree.Name object ty line) → is_near (object_byte l copy object) ≡ true
unfolding place_rule_holds
object_near p f l copy (object.Static number) ty line h = refl
object_near p f l copy (object.Param number) ty line h = refl
object_near p f l copy (object.Local number) ty line h = refl
object_near p f l copy (object.Register address) ty line h = device_near address ty (is_device address) refl h

-- ---- places
little_near : (a b : ℕ) → nat_lt (little_beyond a b) 512 ≡ true
unfolding little_beyond
little_near a b = lt-ltb (min (a + b) 0xff) 512 (omega arith)

behind_near : (byte : Byte) (bytes : ℕ) → is_near byte ≡ true → is_near (behind byte bytes) ≡ true
behind_near (Static number offset) bytes h = refl
behind_near (Frame copy offset) bytes h = refl
behind_near (Result root k) bytes h = refl
behind_near (Device address) bytes h = little_near address bytes

member_near : (spot : Spot) (offset : ℕ) → IsNearSpot spot → IsNearSpot (member_spot spot offset)
member_near (Fixed byte) offset h = behind_near byte offset h
member_near (Bit register bit) offset h = tt
member_near Computed offset h = tt

pub change_given : (b : Bool) (right : List Tree) → AreGiven right → AreGiven (change_code b right)
change_given true right h = none
change_given false right h = h

module _ (p : Program) (f : ℕ) (l : Layout) (copy : ℕ) where
  pub place_near : (place : Place) → IsPlaceOf p f place → IsNearSpot (spot_of l copy place)
  unfolding spot_of
  place_near (tree.Name object ty line) h = object_near p f l copy object ty line h
  place_near (tree.Bit register bit line) h = tt
  place_near (tree.Member whole member offset ty line) h = member_near (spot_of l copy whole) offset (place_near whole h.1)
  place_near (tree.Deref pointer ty line) h = tt

  mutual
    unfolding expr_code address_code arguments_code

    pub expression_given : (base : ℕ) (wanted : Bool) (e : Expression) → IsExpressionOf p f e → AreGiven (expr_code l copy base wanted e)
    expression_given base wanted (tree.Constant value line) h = sets_given (Frame copy base) (bits value) (bytes_of value.ty)
    expression_given base wanted (tree.Read place ty line) h =
        join _ _ (pointer_given (spot_of l copy place) (address_code l copy base place) (place_given base place h.1)) (value_given (spot_of l copy place) (Frame copy base) (width l ty))
    expression_given base wanted (tree.Address place ty line) h =
        join _ _ (pointer_given (spot_of l copy place) (address_code l copy base place) (place_given base place h.1)) (address_given (spot_of l copy place) (Frame copy base) (place_near place h.1))
    expression_given base wanted (tree.Convert operand ty line) h = join _ _ (expression_given base true operand h.1) (widened_given (type_of operand) ty (Frame copy base))
    expression_given base wanted (tree.Cast operand ty line) h = join _ _ (expression_given base true operand h.1) (widened_given (type_of operand) ty (Frame copy base))
    expression_given base wanted (tree.Unary op operand ty line) h = join _ _ (expression_given base true operand h.1) (unary_given op (operation_type ty) (Frame copy base) (value_width l operand))
    expression_given base wanted (tree.Binary op left right ty line) h =
        let next = beyond base (value_width l left) in
        join _ _ (join _ _ (expression_given base true left h.1) (change_given (shifts_by_constant op right) (expr_code l copy next true right) (expression_given next true right h.2)))
        (binary_given (shifts_by_constant op right) op (operation_type (type_of left)) (Frame copy base) (Frame copy next) (constant_bits right) (value_width l right))
    expression_given base wanted (tree.Offset op left right size ty line) h =
        join _ _ (join _ _ (expression_given base true left h.1) (expression_given (beyond base 2) true right h.2)) (offset_given op (Frame copy base) (is_pointer (type_of left)) size)
    expression_given base wanted (tree.Difference left right size line) h =
        join _ _ (join _ _ (expression_given base true left h.1) (expression_given (beyond base 2) true right h.2)) (difference_given (Frame copy base) size)
    expression_given base wanted (tree.Logical op left right line) h =
        let other = expr_code l copy base true right ++ tested (Frame copy base) (value_width l right) 1 0 ∷ [] in
        join _ _ (expression_given base true left h.1)
        (one (logical_row op (Frame copy base) (value_width l left) other)
        (logical_given op (Frame copy base) (value_width l left) other
        (join _ _ (expression_given base true right h.2) (one (tested (Frame copy base) (value_width l right) 1 0) (tested_given (Frame copy base) (value_width l right) 1 0)))))
    expression_given base wanted (tree.Conditional condition held failed ty line) h =
        let a = expr_code l copy base wanted held in
        let b = expr_code l copy base wanted failed in
        join _ _ (expression_given base true condition h.1)
        (one (choice (Frame copy base) (value_width l condition) a b)
        (choice_given (Frame copy base) (value_width l condition) a b (expression_given base wanted held h.2) (expression_given base wanted failed h.3)))
    expression_given base wanted (tree.Comma left right ty line) h = join _ _ (expression_given base false left h.1) (expression_given base wanted right h.2)
    expression_given base wanted (tree.Assign place value ty line) h =
        join _ _ (join _ _ (pointer_given (spot_of l copy place) (address_code l copy base place) (place_given base place h.1)) (expression_given (behind_pointer l copy base place) true value h.2))
        (assigned_given wanted (spot_of l copy place) l.root (Frame copy base) (width l ty))
    expression_given base wanted (tree.StructAssign place from size line) h =
        let next = behind_pointer l copy base place in
        join _ _ (join _ _ (pointer_given (spot_of l copy place) (address_code l copy base place) (place_given base place h.1))
        (pointer_given (spot_of l copy from) (address_code l copy next from) (place_given next from h.2)))
        (struct_given l.root (spot_of l copy place) (spot_of l copy from) (Frame copy base) size)
    expression_given base wanted (tree.Update op place value operation size ty line) h =
        let next = behind_pointer l copy base place in
        join _ _ (join _ _ (pointer_given (spot_of l copy place) (address_code l copy base place) (place_given base place h.1))
        (change_given (shifts_by_constant op value) (expr_code l copy next true value) (expression_given next true value h.2)))
        (update_given wanted l op place value operation size (spot_of l copy place) l.root (Frame copy base) (place_width l place) (place_type place).ty)
    expression_given base wanted (tree.Step op place operation size ty line) h =
        join _ _ (pointer_given (spot_of l copy place) (address_code l copy base place) (place_given base place h.1))
        (step_given wanted l op operation (step_number operation size) (spot_of l copy place) l.root (Frame copy base) (place_width l place) (place_type place).ty)
    expression_given base wanted (tree.Call function arguments ty line) h =
        join _ _ (arguments_given base 0 arguments _ h.3) (called_given wanted l.root (copy_of l function) (Frame copy base) (arguments_width l 0 arguments) (width l ty))

    pub place_given : (base : ℕ) (place : Place) → IsPlaceOf p f place → AreGiven (address_code l copy base place)
    place_given base (tree.Name object ty line) h = one (code.Address (Frame copy base) (object_byte l copy object)) (object_near p f l copy object ty line h)
    place_given base (tree.Bit register bit line) h = none
    place_given base (tree.Member whole member offset ty line) h = join _ _ (place_given base whole h.1) (member_given (Frame copy base) offset (Result l.root 0))
    place_given base (tree.Deref pointer ty line) h = expression_given base true pointer h.1

    arguments_given : (base before : ℕ) (es : Expressions) (vs : List VariableTree) → AreArgumentsOf p f es vs → AreGiven (arguments_code l copy base before es)
    arguments_given base before tree.NoExpression vs h = none
    arguments_given base before (tree.AndExpression e es) [] h = absurd h
    arguments_given base before (tree.AndExpression e es) (v ∷ vs) h =
        join _ _ (expression_given (beyond base before) true e h.1) (arguments_given base (beyond before (value_width l e)) es vs h.2)
