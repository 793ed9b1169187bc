-- Binary operators on numbers, as the source applies them.
use Rattle.std.proofs.Common.{◌≡◌, ℕ, ◌+◌, ◌-◌, ◌*◌, ◌≤◌, true, false, ◌&&◌, if◌then◌else◌, nat_lt, List, [], ◌∷◌, None, refl, sym, ap, ◌∙◌, subst, arith}
use Rattle.c_ints.specs.Operators.{value_of, cut_to, unary_type, exact_unary, type_of as result_type}
use Rattle.c_ints.specs.declared.operators.UnOp.{UnOp}
use Rattle.c_ints.specs.declared.operators.UnOp.TheVariants as unary
use Rattle.c_ints.specs.declared.types.IntTy.{IntTy}
use Rattle.core_code.specs.declared.code.Byte.{Byte}
use Rattle.c_ints.specs.Quantity.{Quantity}
use Rattle.c_ints.specs.Range.{bytes_of, IsInRange}
use Rattle.c_ints.specs.declared.operators.BinOp.{BinOp}
use Rattle.c_ints.specs.declared.operators.BinOp.TheVariants as ops
use Rattle.c_typed.specs.Folding.{constant_bits}
use Rattle.c_typed.specs.Trees as tree
use Rattle.c_typed.specs.Trees.{Expression, Program}
use Rattle.c_typed.specs.Types.{type_of, type_bytes, is_constant}
use Rattle.c_typed.specs.declared.types.Ty.{Ty}
use Rattle.c_typed.specs.declared.types.Ty.TheVariants as types
use Rattle.core_code.specs.Bytes.{with_bytes}
use Rattle.core_code.specs.Machine.{Machine, Task, Do as Todo}
use Rattle.core_code.specs.Tree as code
use Rattle.core_code.specs.Values as core
use Rattle.core_code.specs.declared.code.Byte.TheVariants.{Frame}
use Rattle.core_puts.specs.Bytes.{beyond, operation_type}
use Rattle.lower_expr.specs.Layout.{value_width}
use Rattle.lower_expr.specs.Lowering.{shifts_by_constant}
use Rattle.lower_expr.specs.Rows.{binary_row, unary_row, widened, is_shift}
use Rattle.pic_world.specs.World.{World, arrived, is_due, world_as}
use Rattle.src_rules.specs.Giving.{take_in, answered}
use Rattle.src_rules.specs.State.{state}
use Rattle.src_values.specs.Control.{Holds as Value, Nothing, One, Pending, In, active}
use Rattle.src_values.specs.Data as datum
use Rattle.src_values.specs.Memory as source
use Rattle.src_values.specs.Values as answers
use Rattle.src_values.specs.Values.{byte_count, byte_of, binary_answer, bad_right, unless_bad, on_values, number_or_overflow, unary_answer, converted}
use Rattle.src_values.specs.declared.objects.Byte as value
use Rattle.src_values.specs.declared.objects.CopyOf.{CopyOf}
use Rattle.lower_trace.proofs.Beginnings.{Follow}
use Rattle.lower_trace.proofs.CodeLeft.{Scene, held, number, ground_in, core_in, source_in, todo, base, code_after, stack_after}
use Rattle.lower_trace.proofs.Constants.{due_below, again_below, same_below}
use Rattle.lower_trace.proofs.Giving.{Around, placed_of, gives}
use Rattle.lower_trace.proofs.Kept.{SceneLaws, own_copy, bytes_small}
use Rattle.lower_trace.proofs.Mirrors.{Mirrors, HasDatum}
use Rattle.lower_trace.proofs.Operating.{IsPlain, plain_gives, binary_then, IsSigned, unary_then, convert_words_then}
use Rattle.lower_trace.proofs.Operations.{comes_here, comes_within, beyond_is}
use Rattle.lower_trace.proofs.Placed.{Placed}

plain_divides : (op : BinOp) (ty : Ty) (y : Quantity) → IsPlain op → bad_right op ty (datum.Number y) ≡ None
plain_divides ops.Add ty y p = refl
plain_divides ops.And ty y p = refl
plain_divides ops.Or ty y p = refl
plain_divides ops.Xor ty y p = refl
plain_divides ops.Sub ty y p = refl
plain_divides ops.Eq ty y p = refl
plain_divides ops.Ne ty y p = refl
plain_divides ops.Lt ty y p = refl
plain_divides ops.Gt ty y p = refl
plain_divides ops.Le ty y p = refl
plain_divides ops.Ge ty y p = refl
plain_divides ops.Mul ty y p = absurd p
plain_divides ops.Div ty y p = absurd p
plain_divides ops.Rem ty y p = absurd p
plain_divides ops.Shl ty y p = absurd p
plain_divides ops.Shr ty y p = absurd p

plain_unshifted : (op : BinOp) → IsPlain op → is_shift op ≡ false
plain_unshifted ops.Add p = refl
plain_unshifted ops.And p = refl
plain_unshifted ops.Or p = refl
plain_unshifted ops.Xor p = refl
plain_unshifted ops.Sub p = refl
plain_unshifted ops.Eq p = refl
plain_unshifted ops.Ne p = refl
plain_unshifted ops.Lt p = refl
plain_unshifted ops.Gt p = refl
plain_unshifted ops.Le p = refl
plain_unshifted ops.Ge p = refl
plain_unshifted ops.Mul p = absurd p
plain_unshifted ops.Div p = absurd p
plain_unshifted ops.Rem p = absurd p
plain_unshifted ops.Shl p = absurd p
plain_unshifted ops.Shr p = absurd p

pub plain_answer : (p : Program) (live : List CopyOf) (op : BinOp) (ty : Ty) (x y : Quantity) → IsPlain op → binary_answer p live op ty (datum.Number x) (datum.Number y) ≡ answers.Gives (datum.Number (value_of op x y))
unfolding binary_answer
plain_answer p live op ty x y plain = ap (λ f. unless_bad f (on_values p live op (datum.Number x) (datum.Number y))) (plain_divides op ty y plain) ∙ ap number_or_overflow (plain_gives op x y plain)

-- A plain operator on two numbers of one type.
pub binary_given : (z : Scene) (laws : SceneLaws z) (op : BinOp) (left right : Expression) (ty : Ty) (line : ℕ) (x y : Quantity) (k : List Pending) (cp : CopyOf) (l : source.Memory) (w : World value.Byte) (c : Machine) → Around z cp k → IsPlain op → type_of left ≡ types.Int x.ty → y.ty ≡ x.ty → IsInRange x.ty x.number → IsInRange y.ty y.number
    → base (ground_in z cp) k + bytes_of x.ty + bytes_of x.ty ≤ (core_in z).program.frame_bytes (number z cp) → base (ground_in z cp) k + bytes_of (result_type op x.ty) ≤ (core_in z).program.frame_bytes (number z cp) → is_due (arrived z.outside w) ≡ false
    → Mirrors z (state cp (Value (datum.Number y)) (In (tree.Binary op left right ty line) (One (datum.Number x)) ∷ k) l w) c
    → Follow z (10 * bytes_of x.ty + 30) 0 c (take_in (source_in z) (tree.Binary op left right ty line) (One (datum.Number x)) (datum.Number y) k cp l (arrived z.outside w))
unfolding active
binary_given z laws op left right ty line x y k cp l w c around plain type same xr yr room out due h =
    let e = tree.Binary op left right ty line in
    let n = number z cp in
    let g = ground_in z cp in
    let b = base g k in
    let i = bytes_of x.ty in
    let v = datum.Number (value_of op x y) in
    let W = world_as (held z) (arrived z.outside w) in
    let T = Mirrors z (state cp (Value v) k l (arrived z.outside w)) in
    let few = bytes_small x.ty in
    let small = laws.small n in
    let wide : value_width g.layout left ≡ i = ap (λ t. beyond 0 (type_bytes g.layout.sizes t)) type ∙ beyond_is 0 i (omega arith) ∙ (omega arith) in
    let second : beyond b (value_width g.layout left) ≡ b + i = ap (beyond b) wide ∙ beyond_is b i (omega arith) in
    let s = stack_after z g k in
    let now : todo (binary_row (shifts_by_constant op right) op (operation_type (type_of left)) (Frame g.copy b) (Frame g.copy (beyond b (value_width g.layout left))) (constant_bits right) (value_width g.layout right)) (code_after g k) ≡ Todo [] (code.Binary op x.ty (Frame n b) (Frame n b) (Frame n (b + i))) ∷ code_after g k =
    ap (λ f. todo (binary_row (f && is_constant right) op (operation_type (type_of left)) (Frame g.copy b) (Frame g.copy (beyond b (value_width g.layout left))) (constant_bits right) (value_width g.layout right)) (code_after g k)) (plain_unshifted op plain)
    ∙ ap (λ t. Todo [] (code.Binary op (operation_type t) (Frame g.copy b) (Frame g.copy b) (Frame g.copy (beyond b (value_width g.layout left)))) ∷ code_after g k) type
    ∙ ap (λ f. Todo [] (code.Binary op x.ty (Frame g.copy b) (Frame g.copy b) (Frame g.copy f)) ∷ code_after g k) second
    ∙ ap (λ f. Todo [] (code.Binary op x.ty (Frame f b) (Frame f b) (Frame f (b + i))) ∷ code_after g k) (own_copy z cp) in
    let hx : HasDatum z n b (datum.Number x) c.memory = subst (λ f. HasDatum z f b (datum.Number x) c.memory) (own_copy z cp) h.holds.0.0 in
    let hy : HasDatum z n (b + i) (datum.Number y) c.memory = subst (λ f. HasDatum z n f (datum.Number y) c.memory) second (subst (λ f. HasDatum z f (beyond b (value_width g.layout left)) (datum.Number y) c.memory) (own_copy z cp) h.value) in
    subst (λ a. Follow z (10 * i + 30) 0 c (answered a line k cp l (arrived z.outside w))) (sym (plain_answer z.program (active cp (Value (datum.Number y)) k) op ty x y plain))
    (comes_within (core_in z) T (10 * i + 30 + 0) 0 (10 * i + 30) 0 c
    (binary_then z (core_in z) T n s W (due_below z (arrived z.outside w) due) (again_below z w) op x y b (code_after g k) c.memory c 0 0 plain xr yr same room out hx hy
    (subst (λ f. Placed (core_in z) n None f s c.memory W c) now (placed_of z (state cp (Value (datum.Number y)) (In e (One (datum.Number x)) ∷ k) l w) c h))
    (λ d pd. comes_here (core_in z) T d
    (gives z laws cp k l (arrived z.outside w) c.memory (bytes_of (result_type op x.ty)) (core.byte_of (core.Number (value_of op x y))) v d around (omega arith) (λ j lt. refl)
    (subst (λ f. Placed (core_in z) n None (code_after g k) s (with_bytes c.memory (Frame n b) (bytes_of (result_type op x.ty)) (core.byte_of (core.Number (value_of op x y)))) f d) (same_below z w) pd)
    h.agrees h.holds.1)))
    (omega arith) (omega arith))

-- ---- operators and conversions of one number
signed_row : (op : UnOp) (ty : IntTy) (at : Byte) (size : ℕ) (r : List Task) → IsSigned op → todo (unary_row op ty at size) r ≡ Todo [] (code.Unary op ty at) ∷ r
signed_row unary.Plus ty at size r s = absurd s
signed_row unary.Minus ty at size r s = refl
signed_row unary.Not ty at size r s = refl
signed_row unary.Bang ty at size r s = absurd s

pub unary_given : (z : Scene) (laws : SceneLaws z) (op : UnOp) (operand : Expression) (ty : Ty) (line : ℕ) (x : Quantity) (k : List Pending) (cp : CopyOf) (l : source.Memory) (w : World value.Byte) (c : Machine) → Around z cp k → IsSigned op → ty ≡ types.Int x.ty → nat_lt 1 (bytes_of x.ty) ≡ true → IsInRange x.ty x.number
    → base (ground_in z cp) k + bytes_of x.ty ≤ (core_in z).program.frame_bytes (number z cp) → base (ground_in z cp) k + bytes_of (unary_type op x.ty) ≤ (core_in z).program.frame_bytes (number z cp) → is_due (arrived z.outside w) ≡ false
    → Mirrors z (state cp (Value (datum.Number x)) (In (tree.Unary op operand ty line) Nothing ∷ k) l w) c
    → Follow z (10 * bytes_of x.ty) 0 c (take_in (source_in z) (tree.Unary op operand ty line) Nothing (datum.Number x) k cp l (arrived z.outside w))
unfolding active unary_answer
unary_given z laws op operand ty line x k cp l w c around signed type two xr room out due h =
    let e = tree.Unary op operand ty line in
    let n = number z cp in
    let g = ground_in z cp in
    let b = base g k in
    let q = cut_to (unary_type op x.ty) (exact_unary op x.number) in
    let W = world_as (held z) (arrived z.outside w) in
    let T = Mirrors z (state cp (Value (datum.Number q)) k l (arrived z.outside w)) in
    let s = stack_after z g k in
    let now : todo (unary_row op (operation_type ty) (Frame g.copy b) (value_width g.layout operand)) (code_after g k) ≡ Todo [] (code.Unary op x.ty (Frame n b)) ∷ code_after g k =
    ap (λ t. todo (unary_row op (operation_type t) (Frame g.copy b) (value_width g.layout operand)) (code_after g k)) type ∙ signed_row op x.ty (Frame g.copy b) (value_width g.layout operand) (code_after g k) signed ∙ ap (λ i. Todo [] (code.Unary op x.ty (Frame i b)) ∷ code_after g k) (own_copy z cp) in
    comes_within (core_in z) T (10 * bytes_of x.ty + 0) 0 (10 * bytes_of x.ty) 0 c
    (unary_then z (core_in z) T n s W (due_below z (arrived z.outside w) due) (again_below z w) op x b (code_after g k) c.memory c 0 0 signed two xr room out (subst (λ i. HasDatum z i b (datum.Number x) c.memory) (own_copy z cp) h.value)
    (subst (λ f. Placed (core_in z) n None f s c.memory W c) now (placed_of z (state cp (Value (datum.Number x)) (In e Nothing ∷ k) l w) c h))
    (λ d pd. comes_here (core_in z) T d
    (gives z laws cp k l (arrived z.outside w) c.memory (bytes_of (unary_type op x.ty)) (core.byte_of (core.Number q)) (datum.Number q) d around (omega arith) (λ j lt. refl)
    (subst (λ f. Placed (core_in z) n None (code_after g k) s (with_bytes c.memory (Frame n b) (bytes_of (unary_type op x.ty)) (core.byte_of (core.Number q))) f d) (same_below z w) pd)
    h.agrees h.holds.1)))
    (omega arith) (omega arith)

-- a conversion to more bytes
pub widened_given : (z : Scene) (laws : SceneLaws z) (operand : Expression) (to : IntTy) (line : ℕ) (x : Quantity) (k : List Pending) (cp : CopyOf) (l : source.Memory) (w : World value.Byte) (c : Machine) → Around z cp k → type_of operand ≡ types.Int x.ty → nat_lt (bytes_of x.ty) (bytes_of to) ≡ true → IsInRange x.ty x.number
    → base (ground_in z cp) k + bytes_of x.ty ≤ (core_in z).program.frame_bytes (number z cp) → base (ground_in z cp) k + bytes_of to ≤ (core_in z).program.frame_bytes (number z cp) → is_due (arrived z.outside w) ≡ false
    → Mirrors z (state cp (Value (datum.Number x)) (In (tree.Convert operand (types.Int to) line) Nothing ∷ k) l w) c
    → Follow z (8 + 4 * (bytes_of to - bytes_of x.ty)) 0 c (take_in (source_in z) (tree.Convert operand (types.Int to) line) Nothing (datum.Number x) k cp l (arrived z.outside w))
unfolding active converted
widened_given z laws operand to line x k cp l w c around type wider_is xr room out due h =
    let e = tree.Convert operand (types.Int to) line in
    let n = number z cp in
    let g = ground_in z cp in
    let b = base g k in
    let q = cut_to to x.number in
    let W = world_as (held z) (arrived z.outside w) in
    let T = Mirrors z (state cp (Value (datum.Number q)) k l (arrived z.outside w)) in
    let s = stack_after z g k in
    let now : todo (widened (type_of operand) (types.Int to) (Frame g.copy b)) (code_after g k) ≡ Todo [] (code.Convert x.ty to (Frame n b)) ∷ code_after g k =
    ap (λ t. todo (widened t (types.Int to) (Frame g.copy b)) (code_after g k)) type
    ∙ ap (λ f. todo (if f then code.Convert x.ty to (Frame g.copy b) ∷ [] else []) (code_after g k)) wider_is
    ∙ ap (λ i. Todo [] (code.Convert x.ty to (Frame i b)) ∷ code_after g k) (own_copy z cp) in
    comes_within (core_in z) T (8 + 4 * (bytes_of to - bytes_of x.ty) + 0) 0 (8 + 4 * (bytes_of to - bytes_of x.ty)) 0 c
    (convert_words_then z (core_in z) T n s W (due_below z (arrived z.outside w) due) (again_below z w) to x b (code_after g k) c.memory c 0 0 xr wider_is room out (subst (λ i. HasDatum z i b (datum.Number x) c.memory) (own_copy z cp) h.value)
    (subst (λ f. Placed (core_in z) n None f s c.memory W c) now (placed_of z (state cp (Value (datum.Number x)) (In e Nothing ∷ k) l w) c h))
    (λ d pd. comes_here (core_in z) T d
    (gives z laws cp k l (arrived z.outside w) c.memory (bytes_of to) (core.byte_of (core.Number q)) (datum.Number q) d around (omega arith) (λ j lt. refl)
    (subst (λ f. Placed (core_in z) n None (code_after g k) s (with_bytes c.memory (Frame n b) (bytes_of to) (core.byte_of (core.Number q))) f d) (same_below z w) pd)
    h.agrees h.holds.1)))
    (omega arith) (omega arith)
