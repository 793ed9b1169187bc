-- The code of an expression names bytes alone that are there, where its copy's frame has its room.
use Rattle.std.proofs.Common.{◌≡◌, ℕ, ◌+◌, ◌≤◌, Bool, true, false, ◌&&◌, ◌||◌, nat_eq, List, [], ◌∷◌, ◌++◌, slice_get, ap, ◌∙◌, eqb-true, arith}
use Rattle.c_ints.specs.Range.{bytes_of}
use Rattle.c_ints.specs.declared.operators.UnOp.{UnOp}
use Rattle.c_ints.specs.declared.operators.UnOp.TheVariants as unop
use Rattle.c_typed.specs.Calls.{calls, place_calls, arguments_calls, helper_calls, helper_for, difference_helper}
use Rattle.c_typed.specs.Fits.{goes_to, source_of, params_of, operand_standing, rule_holds, place_rule_holds, member_at, fits, place_fits, arguments_fit, is_alone, is_local_name, Standing, Used, Pointed}
use Rattle.c_typed.specs.Folding.{bits, constant_bits}
use Rattle.c_typed.specs.Room.{unary_room, room, place_room, arguments_room}
use Rattle.c_typed.specs.Rules.{point_alike, counts_in, copy_fits, assign_fits, is_writable, member_fits, deref_fits}
use Rattle.c_typed.specs.Sameness.{same_type, is_struct, pointed}
use Rattle.c_typed.specs.Trees as tree
use Rattle.c_typed.specs.Trees.{Expression, Expressions, Place, VariableTree, FunctionTree, Program}
use Rattle.c_typed.specs.Types.{type_bytes, value_bytes, type_of, place_type, is_constant}
use Rattle.c_typed.specs.declared.calls.FnId.TheVariants as callee
use Rattle.c_typed.specs.declared.types.Qualified.{Qualified}
use Rattle.core_code.specs.declared.code.Byte.TheVariants as bytes
use Rattle.core_puts.specs.Bytes.{beyond}
use Rattle.lower_expr.specs.Layout.{Layout, value_width, copy_of}
use Rattle.lower_expr.specs.Lowering.{pointer_code, behind_pointer, shifts_by_constant, is_pointer, expr_code, address_code, arguments_code}
use Rattle.lower_expr.specs.Rows.{offset_row, difference_row, member_row, address_row, struct_row}
use Rattle.lower_expr.specs.Spots.{spot_of, pointer_bytes}
use Rattle.named_registers.specs.Registers.{registers, place_registers, arguments_registers}
use Rattle.program_code.specs.Naming.{Memory}
use Rattle.program_code.proofs.Chain.{never}
use Rattle.program_code.proofs.Typing.{and_first, and_last}
use Rattle.program_code.proofs.Nodes.{width_within}
use Rattle.program_code.proofs.Expressions.{is_computed, whole_computed}
use Rattle.program_code.proofs.Rooms.{same_type_bytes, assigned_same, room_holds}
use Rattle.program_code.proofs.Standing.{Stand, whole_no_bit, offset_two, counted_two, pointer_same, beyond_within, fit_last, PartFits, part_first, part_last, without, at_base, spot_points, spot_lies, two_room, pointer_lies}
use Rattle.program_code.proofs.Within.{read_within, convert_within, unary_within, binary_within, assign_within, logical_within, choice_within, update_within, step_within, call_within}
use Rattle.program_code.proofs.Lying.{AllLie, lie_on, sets_lie, offset_lie, difference_lie, member_lie, address_lie, struct_lie}

-- the room of an operand that an operator stands behind
pub unary_front : (size : ℕ) (op : UnOp) (base operand from to : ℕ) → base + unary_room op operand from to ≤ size → base + operand ≤ size
unary_front size unop.Plus base operand from to b = omega (arith, b)
unary_front size unop.Minus base operand from to b = omega (arith, b)
unary_front size unop.Not base operand from to b = omega (arith, b)
unary_front size unop.Bang base operand from to b = omega (arith, b)

-- a structure that is copied has the bytes of both places
pub struct_sizes : (p : Program) (sizes : List ℕ) (begins : Bool) (place from : Qualified) (elements : ℕ) → p.sizes ≡ sizes → copy_fits p begins place from elements ≡ true → (elements ≡ type_bytes sizes place.ty) × (elements ≡ type_bytes sizes from.ty)
struct_sizes p sizes begins place from elements is e =
    let rest = and_last (begins || is_writable place) (is_struct place.ty && (same_type place.ty from.ty && nat_eq elements (type_bytes p.sizes place.ty))) e in
    let both = and_last (is_struct place.ty) (same_type place.ty from.ty && nat_eq elements (type_bytes p.sizes place.ty)) rest in
    let same = same_type_bytes sizes place.ty from.ty (and_first (same_type place.ty from.ty) (nat_eq elements (type_bytes p.sizes place.ty)) both) in
    let one = eqb-true elements (type_bytes p.sizes place.ty) (and_last (same_type place.ty from.ty) (nat_eq elements (type_bytes p.sizes place.ty)) both) in
    let at = ap (λ (s : List ℕ). type_bytes s place.ty) is in
    (one ∙ at, one ∙ at ∙ same)

module _ (c size : ℕ) (memory : Memory) (l : Layout) (p : Program) (f : FunctionTree) (has : Stand c size memory l p f) where
  mutual
    unfolding expr_code room fits rule_holds calls address_code place_room place_fits place_rule_holds spot_of place_calls arguments_code arguments_room arguments_fit arguments_calls registers place_registers arguments_registers

    pub expr_lies : (wanted : Bool) (base : ℕ) (standing : Standing) (e : Expression) → fits p f standing e ≡ true → PartFits p memory (copy_of l) (calls e) (registers e) → base + room l.sizes e ≤ size → AllLie memory (expr_code l c base wanted e)
    expr_lies wanted base standing (tree.Constant value line) h o b = sets_lie memory (bytes.Frame c base) (bits value) (bytes_of value.ty) (at_base c size memory l p f has (bytes_of value.ty) base b)
    expr_lies wanted base standing (tree.Read place ty line) h o b =
        let rule = rule_holds p standing (tree.Read place ty line) in
        let fit = and_last rule (place_fits p f place) h in
        read_within c size memory l p f has base place ty (pointer_code (spot_of l c place) (address_code l c base place)) fit o.1 (and_first rule (place_fits p f place) h) (omega (arith, b))
        (pointer_lies c size memory l p f has (spot_of l c place) (address_code l c base place) (λ e. address_lies base place fit o e (omega (arith, b))))
    expr_lies wanted base standing (tree.Address place ty line) h o b =
        let fit = and_last (rule_holds p standing (tree.Address place ty line)) (place_fits p f place) h in
        let address = pointer_code (spot_of l c place) (address_code l c base place) in
        lie_on memory address (address_row (spot_of l c place) (bytes.Frame c base)) (pointer_lies c size memory l p f has (spot_of l c place) (address_code l c base place) (λ e. address_lies base place fit o e (omega (arith, b))))
        (address_lie memory (spot_of l c place) (bytes.Frame c base) (spot_points c size memory l p f has place (and_last (rule_holds p standing (tree.Address place ty line)) (place_fits p f place) h) o.1) (at_base c size memory l p f has 2 base (omega (arith, b))))
    expr_lies wanted base standing (tree.Convert operand ty line) h o b =
        convert_within c size memory l p f has base (type_of operand) ty (expr_code l c base true operand) (omega (arith, b)) (expr_lies true base Used operand (and_last (rule_holds p standing (tree.Convert operand ty line)) (fits p f Used operand) h) o (omega (arith, b)))
    expr_lies wanted base standing (tree.Cast operand ty line) h o b =
        convert_within c size memory l p f has base (type_of operand) ty (expr_code l c base true operand) (omega (arith, b)) (expr_lies true base Used operand (and_last (rule_holds p standing (tree.Cast operand ty line)) (fits p f Used operand) h) o (omega (arith, b)))
    expr_lies wanted base standing (tree.Unary op operand ty line) h o b =
        let rule = rule_holds p standing (tree.Unary op operand ty line) in
        unary_within c size memory l p f has op base (room l.sizes operand) (type_of operand) ty (expr_code l c base true operand) (and_first rule (fits p f Used operand) h) b
        (expr_lies true base Used operand (and_last rule (fits p f Used operand) h) o (unary_front size op base (room l.sizes operand) (type_bytes l.sizes (type_of operand)) (type_bytes l.sizes ty) b))
    expr_lies wanted base standing (tree.Binary op left right ty line) h o b =
        let rule = rule_holds p standing (tree.Binary op left right ty line) in
        let parts = and_last rule (fits p f Used left && fits p f Used right) h in
        let helpers = helper_calls (helper_for op (is_constant right) (type_of left)) in
        let both = without p memory (copy_of l) (calls left ++ calls right) helpers (registers left ++ registers right) o in
        let w = width_within l (type_of left) in
        let next = beyond_within base (value_width l left) in
        binary_within c size memory l p f has op (shifts_by_constant op right) base (constant_bits right) (type_of left) (type_of right) ty (expr_code l c base true left) (expr_code l c (beyond base (value_width l left)) true right)
        (and_first rule (fits p f Used left && fits p f Used right) h) (omega (arith, b))
        (expr_lies true base Used left (and_first (fits p f Used left) (fits p f Used right) parts) (part_first p memory (copy_of l) (calls left) (calls right) (registers left) (registers right) both) (omega (arith, b)))
        (expr_lies true (beyond base (value_width l left)) Used right (and_last (fits p f Used left) (fits p f Used right) parts) (part_last p memory (copy_of l) (calls left) (calls right) (registers left) (registers right) both) (omega (arith, b, w, next)))
    expr_lies wanted base standing (tree.Offset op left right elements ty line) h o b =
        let rule = rule_holds p standing (tree.Offset op left right elements ty line) in
        let s = operand_standing standing op in
        let parts = and_last rule (fits p f s left && fits p f s right) h in
        let two = offset_two l.sizes p op (type_of left) (type_of right) elements ty (and_first rule (fits p f s left && fits p f s right) h) in
        let x = two.0 in
        let y = two.1 in
        let next = beyond_within base 2 in
        lie_on memory (expr_code l c base true left ++ expr_code l c (beyond base 2) true right) (offset_row op (bytes.Frame c base) (is_pointer (type_of left)) elements)
        (lie_on memory (expr_code l c base true left) (expr_code l c (beyond base 2) true right)
        (expr_lies true base s left (and_first (fits p f s left) (fits p f s right) parts) (part_first p memory (copy_of l) (calls left) (calls right) (registers left) (registers right) o) (omega (arith, b)))
        (expr_lies true (beyond base 2) s right (and_last (fits p f s left) (fits p f s right) parts) (part_last p memory (copy_of l) (calls left) (calls right) (registers left) (registers right) o) (omega (arith, b, x, next))))
        (offset_lie memory op (bytes.Frame c base) (is_pointer (type_of left)) elements (at_base c size memory l p f has 6 base (omega (arith, b, x, y))))
    expr_lies wanted base standing (tree.Difference left right elements line) h o b =
        let rule = rule_holds p standing (tree.Difference left right elements line) in
        let parts = and_last rule (fits p f Used left && fits p f Used right) h in
        let given = and_first rule (fits p f Used left && fits p f Used right) h in
        let both = without p memory (copy_of l) (calls left ++ calls right) (helper_calls (difference_helper elements)) (registers left ++ registers right) o in
        let x = counted_two l.sizes p (type_of left) elements (and_last (point_alike (pointed p (type_of left)) (pointed p (type_of right))) (counts_in p (pointed p (type_of left)) elements) given) in
        let next = beyond_within base 2 in
        lie_on memory (expr_code l c base true left ++ expr_code l c (beyond base 2) true right) (difference_row (bytes.Frame c base) elements)
        (lie_on memory (expr_code l c base true left) (expr_code l c (beyond base 2) true right)
        (expr_lies true base Used left (and_first (fits p f Used left) (fits p f Used right) parts) (part_first p memory (copy_of l) (calls left) (calls right) (registers left) (registers right) both) (omega (arith, b)))
        (expr_lies true (beyond base 2) Used right (and_last (fits p f Used left) (fits p f Used right) parts) (part_last p memory (copy_of l) (calls left) (calls right) (registers left) (registers right) both) (omega (arith, b, x, next))))
        (difference_lie memory (bytes.Frame c base) elements (at_base c size memory l p f has 4 base (omega (arith, b, x))))
    expr_lies wanted base standing (tree.Logical op left right line) h o b =
        let parts = and_last (rule_holds p standing (tree.Logical op left right line)) (fits p f Used left && fits p f Used right) h in
        let first = and_first (fits p f Used left) (fits p f Used right) parts in
        let second = and_last (fits p f Used left) (fits p f Used right) parts in
        logical_within c size memory l p f has op base (room l.sizes left) (room l.sizes right) (type_of left) (type_of right) (expr_code l c base true left) (expr_code l c base true right) (room_holds l.sizes p f Used left first) (room_holds l.sizes p f Used right second) b
        (expr_lies true base Used left first (part_first p memory (copy_of l) (calls left) (calls right) (registers left) (registers right) o) (omega (arith, b))) (expr_lies true base Used right second (part_last p memory (copy_of l) (calls left) (calls right) (registers left) (registers right) o) (omega (arith, b)))
    expr_lies wanted base standing (tree.Conditional condition held failed ty line) h o b =
        let parts = and_last (rule_holds p standing (tree.Conditional condition held failed ty line)) (fits p f Used condition && (fits p f Used held && fits p f Used failed)) h in
        let sides = and_last (fits p f Used condition) (fits p f Used held && fits p f Used failed) parts in
        let first = and_first (fits p f Used condition) (fits p f Used held && fits p f Used failed) parts in
        let both = part_first p memory (copy_of l) (calls condition ++ calls held) (calls failed) (registers condition ++ registers held) (registers failed) o in
        choice_within c size memory l p f has base (room l.sizes condition) (type_of condition) (expr_code l c base true condition) (expr_code l c base wanted held) (expr_code l c base wanted failed) (room_holds l.sizes p f Used condition first) (omega (arith, b))
        (expr_lies true base Used condition first (part_first p memory (copy_of l) (calls condition) (calls held) (registers condition) (registers held) both) (omega (arith, b)))
        (expr_lies wanted base Used held (and_first (fits p f Used held) (fits p f Used failed) sides) (part_last p memory (copy_of l) (calls condition) (calls held) (registers condition) (registers held) both) (omega (arith, b)))
        (expr_lies wanted base Used failed (and_last (fits p f Used held) (fits p f Used failed) sides) (part_last p memory (copy_of l) (calls condition ++ calls held) (calls failed) (registers condition ++ registers held) (registers failed) o) (omega (arith, b)))
    expr_lies wanted base standing (tree.Comma left right ty line) h o b =
        let parts = and_last (rule_holds p standing (tree.Comma left right ty line)) (fits p f Used left && fits p f Used right) h in
        lie_on memory (expr_code l c base false left) (expr_code l c base wanted right)
        (expr_lies false base Used left (and_first (fits p f Used left) (fits p f Used right) parts) (part_first p memory (copy_of l) (calls left) (calls right) (registers left) (registers right) o) (omega (arith, b)))
        (expr_lies wanted base Used right (and_last (fits p f Used left) (fits p f Used right) parts) (part_last p memory (copy_of l) (calls left) (calls right) (registers left) (registers right) o) (omega (arith, b)))
    expr_lies wanted base standing (tree.Assign place value ty line) h o b =
        let rule = rule_holds p standing (tree.Assign place value ty line) in
        let parts = and_last rule (place_fits p f place && fits p f Used value) h in
        let fit = and_first (place_fits p f place) (fits p f Used value) parts in
        let goes = goes_to p (source_of value) (type_of value) ty in
        let given = and_first rule (place_fits p f place && fits p f Used value) h in
        let same = same_type_bytes l.sizes (type_of value) ty (assigned_same l.sizes p f (source_of value) (type_of value) ty (and_last (assign_fits (place_type place) ty) goes given)) in
        let next = behind_pointer l c base place in
        let step = beyond_within base (pointer_bytes (spot_of l c place)) in
        let pointer = pointer_same l c place in
        assign_within c size memory l p f has wanted base place ty (value_bytes l.sizes value) (pointer_code (spot_of l c place) (address_code l c base place)) (expr_code l c next true value) fit (part_first p memory (copy_of l) (place_calls place) (calls value) (place_registers place) (registers value) o).1 (and_first (assign_fits (place_type place) ty) goes given) (omega (arith, same)) (omega (arith, b))
        (pointer_lies c size memory l p f has (spot_of l c place) (address_code l c base place) (λ e. address_lies base place fit (part_first p memory (copy_of l) (place_calls place) (calls value) (place_registers place) (registers value) o) e (omega (arith, b))))
        (expr_lies true next Used value (and_last (place_fits p f place) (fits p f Used value) parts) (part_last p memory (copy_of l) (place_calls place) (calls value) (place_registers place) (registers value) o) (omega (arith, b, step, pointer)))
    expr_lies wanted base standing (tree.StructAssign place from elements line) h o b =
        let rule = rule_holds p standing (tree.StructAssign place from elements line) in
        let parts = and_last rule (place_fits p f place && place_fits p f from) h in
        let fit = and_first (place_fits p f place) (place_fits p f from) parts in
        let other = and_last (place_fits p f place) (place_fits p f from) parts in
        let next = behind_pointer l c base place in
        let step = beyond_within base (pointer_bytes (spot_of l c place)) in
        let pointer = pointer_same l c place in
        let pointed_to = pointer_same l c from in
        let sizes = struct_sizes p l.sizes (is_alone standing && is_local_name place) (place_type place) (place_type from) elements has.sizes (and_first rule (place_fits p f place && place_fits p f from) h) in
        let x = sizes.0 in
        let y = sizes.1 in
        let named = part_first p memory (copy_of l) (place_calls place) (place_calls from) (place_registers place) (place_registers from) o in
        let others = part_last p memory (copy_of l) (place_calls place) (place_calls from) (place_registers place) (place_registers from) o in
        let first = pointer_code (spot_of l c place) (address_code l c base place) in
        let second = pointer_code (spot_of l c from) (address_code l c next from) in
        lie_on memory (first ++ second) (struct_row l.root (spot_of l c place) (spot_of l c from) (bytes.Frame c base) elements)
        (lie_on memory first second
        (pointer_lies c size memory l p f has (spot_of l c place) (address_code l c base place) (λ e. address_lies base place fit named e (omega (arith, b))))
        (pointer_lies c size memory l p f has (spot_of l c from) (address_code l c next from) (λ e. address_lies next from other others e (omega (arith, b, step, pointer)))))
        (struct_lie memory l.root (spot_of l c place) (spot_of l c from) (bytes.Frame c base) elements (spot_lies c size memory l p f has place elements fit named.1 (omega (arith, x))) (spot_lies c size memory l p f has from elements other others.1 (omega (arith, y)))
        (at_base c size memory l p f has (pointer_bytes (spot_of l c place) + pointer_bytes (spot_of l c from) + 2) base (omega (arith, b, pointer, pointed_to))))
    expr_lies wanted base standing (tree.Update op place value operation elements ty line) h o b =
        let rule = rule_holds p standing (tree.Update op place value operation elements ty line) in
        let parts = and_last rule (place_fits p f place && fits p f Used value) h in
        let fit = and_first (place_fits p f place) (fits p f Used value) parts in
        let both = without p memory (copy_of l) (place_calls place ++ calls value) (helper_calls (helper_for op (is_constant value) operation)) (place_registers place ++ registers value) o in
        let next = behind_pointer l c base place in
        let step = beyond_within base (pointer_bytes (spot_of l c place)) in
        let pointer = pointer_same l c place in
        update_within c size memory l p f has wanted op place value operation elements ty base (pointer_code (spot_of l c place) (address_code l c base place)) (expr_code l c next true value) (and_first rule (place_fits p f place && fits p f Used value) h) fit (part_first p memory (copy_of l) (place_calls place) (calls value) (place_registers place) (registers value) both).1 (omega (arith, b))
        (pointer_lies c size memory l p f has (spot_of l c place) (address_code l c base place) (λ e. address_lies base place fit (part_first p memory (copy_of l) (place_calls place) (calls value) (place_registers place) (registers value) both) e (omega (arith, b))))
        (expr_lies true next Used value (and_last (place_fits p f place) (fits p f Used value) parts) (part_last p memory (copy_of l) (place_calls place) (calls value) (place_registers place) (registers value) both) (omega (arith, b, step, pointer)))
    expr_lies wanted base standing (tree.Step op place operation elements ty line) h o b =
        let rule = rule_holds p standing (tree.Step op place operation elements ty line) in
        let fit = and_last rule (place_fits p f place) h in
        step_within c size memory l p f has wanted op place operation elements ty base (pointer_code (spot_of l c place) (address_code l c base place)) (and_first rule (place_fits p f place) h) fit o.1 (omega (arith, b))
        (pointer_lies c size memory l p f has (spot_of l c place) (address_code l c base place) (λ e. address_lies base place fit o e (omega (arith, b))))
    expr_lies wanted base standing (tree.Call function arguments ty line) h o b =
        let given = params_of (slice_get p.functions function) in
        let rule = rule_holds p standing (tree.Call function arguments ty line) in
        let fit = and_last rule (arguments_fit p f arguments given) h in
        call_within c size memory l p f has wanted function base arguments ty (arguments_code l c base 0 arguments) (and_first rule (arguments_fit p f arguments given) h) fit (fit_last p memory (copy_of l) (arguments_calls arguments) (callee.User function ∷ []) o.0).0 (omega (arith, b))
        (arguments_lie base 0 0 arguments given fit (without p memory (copy_of l) (arguments_calls arguments) (callee.User function ∷ []) (arguments_registers arguments) o) (omega arith) (omega (arith, b)))

    pub address_lies : (base : ℕ) (place : Place) → place_fits p f place ≡ true → PartFits p memory (copy_of l) (place_calls place) (place_registers place) → is_computed (spot_of l c place) ≡ true → base + place_room l.sizes place ≤ size → AllLie memory (address_code l c base place)
    address_lies base (tree.Name object ty line) h o e b = never e
    address_lies base (tree.Bit register bit line) h o e b = tt
    address_lies base (tree.Member whole member offset ty line) h o e b =
        let rule = member_fits (member_at p (place_type whole).ty member) (place_type whole) offset ty in
        let fit = and_last rule (place_fits p f whole) h in
        let there = whole_computed (spot_of l c whole) offset e in
        let two = two_room c size memory l p f has whole fit there (whole_no_bit p whole member offset ty (and_first rule (place_fits p f whole) h)) in
        lie_on memory (address_code l c base whole) (member_row (bytes.Frame c base) offset (bytes.Result l.root 0)) (address_lies base whole fit o there b) (member_lie memory (bytes.Frame c base) offset l.root (at_base c size memory l p f has 2 base (omega (arith, b, two))))
    address_lies base (tree.Deref pointer ty line) h o e b = expr_lies true base Pointed pointer (and_last (deref_fits p (type_of pointer) ty) (fits p f Pointed pointer) h) o b

    -- Each argument stands behind those before it.
    arguments_lie : (base before stated : ℕ) (es : Expressions) (vs : List VariableTree) → arguments_fit p f es vs ≡ true → PartFits p memory (copy_of l) (arguments_calls es) (arguments_registers es) → before ≤ stated → base + arguments_room l.sizes stated es ≤ size → AllLie memory (arguments_code l c base before es)
    arguments_lie base before stated tree.NoExpression vs h o m b = tt
    arguments_lie base before stated (tree.AndExpression e es) [] h o m b = never h
    arguments_lie base before stated (tree.AndExpression e es) (v ∷ vs) h o m b =
        let goes = goes_to p (source_of e) (type_of e) v.ty.ty in
        let parts = and_last goes (fits p f Used e && arguments_fit p f es vs) h in
        let next = beyond before (value_width l e) in
        let here = beyond_within base before in
        let step = beyond_within before (value_width l e) in
        let w = width_within l (type_of e) in
        lie_on memory (expr_code l c (beyond base before) true e) (arguments_code l c base next es)
        (expr_lies true (beyond base before) Used e (and_first (fits p f Used e) (arguments_fit p f es vs) parts) (part_first p memory (copy_of l) (calls e) (arguments_calls es) (registers e) (arguments_registers es) o) (omega (arith, b, here, m)))
        (arguments_lie base next (stated + value_bytes l.sizes e) es vs (and_last (fits p f Used e) (arguments_fit p f es vs) parts) (part_last p memory (copy_of l) (calls e) (arguments_calls es) (registers e) (arguments_registers es) o) (omega (arith, step, w, m)) (omega (arith, b)))
