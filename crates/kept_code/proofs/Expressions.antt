-- The code of an expression names static objects that it names, and takes the addresses that it takes.
use Rattle.std.proofs.Common.{◌≡◌, ℕ, Bool, true, false, ◌&&◌, List, [], ◌∷◌, ◌++◌, refl}
use Rattle.std.specs.List.{list_all}
use Rattle.c_ints.specs.Range.{bytes_of}
use Rattle.c_typed.specs.Folding.{bits, constant_bits}
use Rattle.c_typed.specs.Trees as tree
use Rattle.c_typed.specs.Trees.{Expression, Expressions, Place}
use Rattle.c_typed.specs.Types.{type_of, place_type}
use Rattle.c_typed.specs.declared.expression.Object.{Object}
use Rattle.c_typed.specs.declared.expression.Object.TheVariants as object
use Rattle.core_code.specs.Tree.{Tree}
use Rattle.core_code.specs.declared.code.Byte.TheVariants.{Frame, Result}
use Rattle.core_puts.specs.Bytes.{beyond, operation_type}
use Rattle.lower_expr.specs.Layout.{Layout, width, value_width, place_width, object_byte, static_number, copy_of}
use Rattle.lower_expr.specs.Lowering.{pointer_code, behind_pointer, shifts_by_constant, change_code, is_pointer, arguments_width, expr_code, address_code, arguments_code}
use Rattle.lower_expr.specs.Rows.{step_number, address_row}
use Rattle.lower_expr.specs.Spots.{member_spot, spot_of}
use Rattle.lower_expr.specs.declared.places.Spot.{Spot}
use Rattle.lower_expr.specs.declared.places.Spot.TheVariants.{Fixed, Bit, Computed}
use Rattle.vol_opt.specs.Uses.{static_in, whole_of, uses, place_uses, arguments_uses}
use Rattle.kept_code.specs.Naming.{byte_keeps, tree_keeps}
use Rattle.kept_code.proofs.Rows.{both, and_map, and_last, Fine, SpotFine, join, sets_fine, behind_fine, widened_fine, tested_fine, unary_row_fine, logical_fine, binary_row_fine, offset_fine, difference_fine, member_fine, value_fine, assigned_fine, update_fine, step_fine, called_fine, struct_fine, choice_fine}

module _ (named lent : ℕ → Bool) (l : Layout) (copy : ℕ) where
  -- numbers as byte code has them
  abbrev by_number : (ℕ → Bool) → ℕ → Bool
  by_number test n = test (static_number n)

  -- what is named, and what has its address taken, passes the tests
  pub record Passes (used : Bool → List ℕ) : Type 0 where
    pub names : list_all (by_number named) (used true) ≡ true
    pub addresses : list_all (by_number lent) (used false) ≡ true

  all_first : (test : ℕ → Bool) (xs ys : List ℕ) → list_all test (xs ++ ys) ≡ true → list_all test xs ≡ true
  all_first test [] ys h = refl
  all_first test (x ∷ xs) ys h = and_map (test x) (list_all test (xs ++ ys)) (list_all test xs) (λ e. all_first test xs ys e) h

  all_last : (test : ℕ → Bool) (xs ys : List ℕ) → list_all test (xs ++ ys) ≡ true → list_all test ys ≡ true
  all_last test [] ys h = h
  all_last test (x ∷ xs) ys h = all_last test xs ys (and_last (test x) (list_all test (xs ++ ys)) h)

  pub front : (u v : Bool → List ℕ) → Passes (λ b. u b ++ v b) → Passes u
  front u v h = record { names = all_first (by_number named) (u true) (v true) h.names; addresses = all_first (by_number lent) (u false) (v false) h.addresses }

  pub back : (u v : Bool → List ℕ) → Passes (λ b. u b ++ v b) → Passes v
  back u v h = record { names = all_last (by_number named) (u true) (v true) h.names; addresses = all_last (by_number lent) (u false) (v false) h.addresses }

  -- ---- places
  object_fine : (test : ℕ → Bool) (o : Object) → list_all (by_number test) (static_in o) ≡ true → byte_keeps test (object_byte l copy o) ≡ true
  object_fine test (object.Static number) h = by (test (static_number number)) h
    where
      by : (b : Bool) → (b && true) ≡ true → b ≡ true
      by true e = refl
      by false e = e
  object_fine test (object.Param number) h = refl
  object_fine test (object.Local number) h = refl
  object_fine test (object.Register address) h = refl

  member_spot_fine : (test : ℕ → Bool) (spot : Spot) (offset : ℕ) → SpotFine test lent spot → SpotFine test lent (member_spot spot offset)
  member_spot_fine test (Fixed byte) offset h = behind_fine test lent byte offset h
  member_spot_fine test (Bit register bit) offset h = tt
  member_spot_fine test Computed offset h = tt

  pub spot_fine : (place : Place) → list_all (by_number named) (place_uses true place) ≡ true → SpotFine named lent (spot_of l copy place)
  unfolding spot_of place_uses
  spot_fine (tree.Name o ty line) h = object_fine named o h
  spot_fine (tree.Bit register bit line) h = tt
  spot_fine (tree.Member whole member offset ty line) h = member_spot_fine named (spot_of l copy whole) offset (spot_fine whole h)
  spot_fine (tree.Deref pointer ty line) h = tt

  spot_lent : (place : Place) → list_all (by_number lent) (whole_of place) ≡ true → SpotFine lent lent (spot_of l copy place)
  unfolding spot_of whole_of
  spot_lent (tree.Name o ty line) h = object_fine lent o h
  spot_lent (tree.Bit register bit line) h = tt
  spot_lent (tree.Member whole member offset ty line) h = member_spot_fine lent (spot_of l copy whole) offset (spot_lent whole h)
  spot_lent (tree.Deref pointer ty line) h = tt

  address_fine : (spot : Spot) (base : ℕ) → SpotFine lent lent spot → Fine named lent (address_row spot (Frame copy base))
  unfolding tree_keeps
  address_fine (Fixed byte) base h = both (byte_keeps lent byte) true h refl
  address_fine (Bit register bit) base h = refl
  address_fine Computed base h = refl

  -- how the address of a place is computed, by its spot: only one that is computed has code
  pointer_fine : (spot : Spot) (address : List Tree) → (spot ≡ Computed → Fine named lent address) → Fine named lent (pointer_code spot address)
  pointer_fine (Fixed byte) address h = refl
  pointer_fine (Bit register bit) address h = refl
  pointer_fine Computed address h = h refl

  changed : (b : Bool) (right : List Tree) → Fine named lent right → Fine named lent (change_code b right)
  changed true right h = refl
  changed false right h = h

  is_fixed : Spot → Bool
  is_fixed (Fixed byte) = true
  is_fixed (Bit register bit) = false
  is_fixed Computed = false

  of_member : (spot : Spot) (offset : ℕ) → is_fixed (member_spot spot offset) ≡ false → is_fixed spot ≡ false
  unfolding is_fixed
  of_member (Fixed byte) offset e = e
  of_member (Bit register bit) offset e = refl
  of_member Computed offset e = refl

  member_place : (spot : Spot) (offset : ℕ) (address : List Tree) → (is_fixed spot ≡ false → Fine named lent address) → Fine named lent (pointer_code (member_spot spot offset) address)
  unfolding is_fixed
  member_place (Fixed byte) offset address h = refl
  member_place (Bit register bit) offset address h = h refl
  member_place Computed offset address h = h refl

  mutual
    unfolding expr_code address_code arguments_code uses place_uses arguments_uses spot_of is_fixed

    pub expr_fine : (e : Expression) (base : ℕ) (wanted : Bool) → Passes (λ b. uses b e) → Fine named lent (expr_code l copy base wanted e)
    expr_fine (tree.Constant value line) base wanted h = sets_fine named lent (Frame copy base) (bits value) (bytes_of value.ty) refl
    expr_fine (tree.Read place ty line) base wanted h =
        join named lent (pointer_code (spot_of l copy place) (address_code l copy base place)) _ (place_fine place base h)
        (value_fine named lent (spot_of l copy place) (Frame copy base) (width l ty) (spot_fine place h.names) refl)
    expr_fine (tree.Address place ty line) base wanted h =
        join named lent (pointer_code (spot_of l copy place) (address_code l copy base place)) _ (place_fine place base (back (λ b. whole_of place) (λ b. place_uses b place) h))
        (address_fine (spot_of l copy place) base (spot_lent place (front (λ b. whole_of place) (λ b. place_uses b place) h).addresses))
    expr_fine (tree.Convert operand ty line) base wanted h = join named lent (expr_code l copy base true operand) _ (expr_fine operand base true h) (widened_fine named lent (Frame copy base) refl (type_of operand) ty)
    expr_fine (tree.Cast operand ty line) base wanted h = join named lent (expr_code l copy base true operand) _ (expr_fine operand base true h) (widened_fine named lent (Frame copy base) refl (type_of operand) ty)
    expr_fine (tree.Unary op operand ty line) base wanted h = join named lent (expr_code l copy base true operand) _ (expr_fine operand base true h) (unary_row_fine named lent (Frame copy base) refl op (operation_type ty) (value_width l operand))
    expr_fine (tree.Binary op left right ty line) base wanted h =
        join named lent (expr_code l copy base true left ++ change_code (shifts_by_constant op right) (expr_code l copy (beyond base (value_width l left)) true right)) _
        (join named lent (expr_code l copy base true left) _ (expr_fine left base true (front (λ b. uses b left) (λ b. uses b right) h))
        (changed (shifts_by_constant op right) _ (expr_fine right (beyond base (value_width l left)) true (back (λ b. uses b left) (λ b. uses b right) h))))
        (binary_row_fine named lent (Frame copy base) refl (shifts_by_constant op right) op (operation_type (type_of left)) (Frame copy (beyond base (value_width l left))) (constant_bits right) (value_width l right) refl)
    expr_fine (tree.Offset op left right size ty line) base wanted h =
        join named lent (expr_code l copy base true left ++ expr_code l copy (beyond base 2) true right) _
        (join named lent (expr_code l copy base true left) _ (expr_fine left base true (front (λ b. uses b left) (λ b. uses b right) h)) (expr_fine right (beyond base 2) true (back (λ b. uses b left) (λ b. uses b right) h)))
        (offset_fine named lent (Frame copy base) refl op (is_pointer (type_of left)) size)
    expr_fine (tree.Difference left right size line) base wanted h =
        join named lent (expr_code l copy base true left ++ expr_code l copy (beyond base 2) true right) _
        (join named lent (expr_code l copy base true left) _ (expr_fine left base true (front (λ b. uses b left) (λ b. uses b right) h)) (expr_fine right (beyond base 2) true (back (λ b. uses b left) (λ b. uses b right) h)))
        (difference_fine named lent (Frame copy base) refl size)
    expr_fine (tree.Logical op left right line) base wanted h =
        join named lent (expr_code l copy base true left) _ (expr_fine left base true (front (λ b. uses b left) (λ b. uses b right) h))
        (logical_fine named lent (Frame copy base) refl op (value_width l left) _
        (join named lent (expr_code l copy base true right) _ (expr_fine right base true (back (λ b. uses b left) (λ b. uses b right) h)) (tested_fine named lent (Frame copy base) refl (value_width l right) 1 0)))
    expr_fine (tree.Conditional condition held failed ty line) base wanted h =
        let first = front (λ b. uses b condition ++ uses b held) (λ b. uses b failed) h in
        join named lent (expr_code l copy base true condition) _ (expr_fine condition base true (front (λ b. uses b condition) (λ b. uses b held) first))
        (choice_fine named lent (Frame copy base) (value_width l condition) _ _ refl (expr_fine held base wanted (back (λ b. uses b condition) (λ b. uses b held) first)) (expr_fine failed base wanted (back (λ b. uses b condition ++ uses b held) (λ b. uses b failed) h)))
    expr_fine (tree.Comma left right ty line) base wanted h =
        join named lent (expr_code l copy base false left) _ (expr_fine left base false (front (λ b. uses b left) (λ b. uses b right) h)) (expr_fine right base wanted (back (λ b. uses b left) (λ b. uses b right) h))
    expr_fine (tree.Assign place value ty line) base wanted h =
        let p = front (λ b. place_uses b place) (λ b. uses b value) h in
        join named lent (pointer_code (spot_of l copy place) (address_code l copy base place) ++ expr_code l copy (behind_pointer l copy base place) true value) _
        (join named lent (pointer_code (spot_of l copy place) (address_code l copy base place)) _ (place_fine place base p) (expr_fine value (behind_pointer l copy base place) true (back (λ b. place_uses b place) (λ b. uses b value) h)))
        (assigned_fine named lent wanted (spot_of l copy place) l.root (Frame copy base) (width l ty) (spot_fine place p.names) refl)
    expr_fine (tree.StructAssign place from size line) base wanted h =
        let p = front (λ b. place_uses b place) (λ b. place_uses b from) h in
        let q = back (λ b. place_uses b place) (λ b. place_uses b from) h in
        join named lent (pointer_code (spot_of l copy place) (address_code l copy base place) ++ pointer_code (spot_of l copy from) (address_code l copy (behind_pointer l copy base place) from)) _
        (join named lent (pointer_code (spot_of l copy place) (address_code l copy base place)) _ (place_fine place base p) (place_fine from (behind_pointer l copy base place) q))
        (struct_fine named lent l.root (spot_of l copy place) (spot_of l copy from) (Frame copy base) size (spot_fine place p.names) (spot_fine from q.names) refl)
    expr_fine (tree.Update op place value operation size ty line) base wanted h =
        let p = front (λ b. place_uses b place) (λ b. uses b value) h in
        join named lent (pointer_code (spot_of l copy place) (address_code l copy base place) ++ change_code (shifts_by_constant op value) (expr_code l copy (behind_pointer l copy base place) true value)) _
        (join named lent (pointer_code (spot_of l copy place) (address_code l copy base place)) _ (place_fine place base p)
        (changed (shifts_by_constant op value) _ (expr_fine value (behind_pointer l copy base place) true (back (λ b. place_uses b place) (λ b. uses b value) h))))
        (update_fine named lent l (spot_of l copy place) l.root (Frame copy base) (place_width l place) (place_type place).ty (spot_fine place p.names) refl wanted op place value operation size)
    expr_fine (tree.Step op place operation size ty line) base wanted h =
        join named lent (pointer_code (spot_of l copy place) (address_code l copy base place)) _ (place_fine place base h)
        (step_fine named lent l (spot_of l copy place) l.root (Frame copy base) (place_width l place) (place_type place).ty (spot_fine place h.names) refl wanted op operation (step_number operation size))
    expr_fine (tree.Call function arguments ty line) base wanted h =
        join named lent (arguments_code l copy base 0 arguments) _ (arguments_fine arguments base 0 h) (called_fine named lent wanted l.root (copy_of l function) (Frame copy base) (arguments_width l 0 arguments) (width l ty) refl)

    -- the code of a place's address, where it has some
    pub place_fine : (place : Place) (base : ℕ) → Passes (λ b. place_uses b place) → Fine named lent (pointer_code (spot_of l copy place) (address_code l copy base place))
    place_fine (tree.Name o ty line) base h = refl
    place_fine (tree.Bit register bit line) base h = refl
    place_fine (tree.Member whole member offset ty line) base h = member_place (spot_of l copy whole) offset (address_code l copy base (tree.Member whole member offset ty line))
        (λ e. join named lent (address_code l copy base whole) _ (whole_address whole base h e) (member_fine named lent (Frame copy base) refl offset (Result l.root 0) refl))
    place_fine (tree.Deref pointer ty line) base h = expr_fine pointer base true h

    -- the address of a place that isn't fixed
    whole_address : (place : Place) (base : ℕ) → Passes (λ b. place_uses b place) → is_fixed (spot_of l copy place) ≡ false → Fine named lent (address_code l copy base place)
    whole_address (tree.Name o ty line) base h e = absurd (cc)
    whole_address (tree.Bit register bit line) base h e = refl
    whole_address (tree.Member whole member offset ty line) base h e =
        join named lent (address_code l copy base whole) _ (whole_address whole base h (of_member (spot_of l copy whole) offset e)) (member_fine named lent (Frame copy base) refl offset (Result l.root 0) refl)
    whole_address (tree.Deref pointer ty line) base h e = expr_fine pointer base true h

    arguments_fine : (es : Expressions) (base before : ℕ) → Passes (λ b. arguments_uses b es) → Fine named lent (arguments_code l copy base before es)
    arguments_fine tree.NoExpression base before h = refl
    arguments_fine (tree.AndExpression e es) base before h =
        join named lent (expr_code l copy (beyond base before) true e) _ (expr_fine e (beyond base before) true (front (λ b. uses b e) (λ b. arguments_uses b es) h))
        (arguments_fine es base (beyond before (value_width l e)) (back (λ b. uses b e) (λ b. arguments_uses b es) h))
