-- Shifts by a constant: the count's bytes are set, and so the operator, which knows the count, calls no helper.
use Rattle.c_ints.specs.Operators as numbers
use Rattle.c_ints.specs.Operators.{cut_to, has_no_value, outcome, shifts_badly}
use Rattle.c_ints.specs.Quantity.{Quantity}
use Rattle.c_ints.specs.Range.{IsInRange, bytes_of, pattern}
use Rattle.c_ints.specs.declared.operators.BinOp.TheVariants as ops
use Rattle.c_ints.specs.declared.operators.BinOp.{BinOp}
use Rattle.c_ints.specs.declared.types.IntTy.TheVariants as int
use Rattle.c_ints.specs.declared.types.IntTy.{IntTy}
use Rattle.c_typed.specs.Folding.{constant_bits}
use Rattle.c_typed.specs.Trees as tree
use Rattle.c_typed.specs.Trees.{Expression}
use Rattle.c_typed.specs.Types.{type_of}
use Rattle.c_typed.specs.declared.types.Ty.TheVariants as types
use Rattle.core_code.specs.Bytes.{Held, Memory, Number, same_byte, with_byte, with_bytes}
use Rattle.core_code.specs.Cost.{binary_cost, cost_of}
use Rattle.core_code.specs.Machine.{Machine, Setting, Task, Do as Todo, Waiting, operate, tasks}
use Rattle.core_code.specs.Operands.{fits_together, is_helped, number_behind, number_from, number_left}
use Rattle.core_code.specs.Tree as code
use Rattle.core_code.specs.Tree.{Tree, many, trees_of, list_of}
use Rattle.core_code.specs.Values as core
use Rattle.core_code.specs.Values.{binary_value, right_type, value_in}
use Rattle.core_code.specs.declared.code.Byte.TheVariants.{Frame}
use Rattle.core_code.specs.declared.code.Byte.{Byte}
use Rattle.core_puts.specs.Bytes as lower
use Rattle.core_puts.specs.Bytes.{beyond, byte_at, operation_type}
use Rattle.lower_expr.specs.Layout.{value_width}
use Rattle.lower_expr.specs.Lowering.{change_code, expr_code, shifts_by_constant}
use Rattle.core_puts.specs.Puts.{sets}
use Rattle.lower_expr.specs.Rows.{binary_row, shift_row}
use Rattle.lower_trace.proofs.Beginnings.{Follow}
use Rattle.lower_trace.proofs.Changing.{OnlyAbove, above_then, above_written, agrees_above, datum_above, holds_above}
use Rattle.lower_trace.proofs.CodeLeft.{Scene, base, code_after, core_in, ground_in, held, number, plain, plain_behind, source_in, stack_after, todo, wanted}
use Rattle.lower_trace.proofs.Constants.{again_below, byte_is, due_below}
use Rattle.lower_trace.proofs.Flow.{arrive}
use Rattle.lower_trace.proofs.Giving.{Around, placed_of, value_high}
use Rattle.lower_trace.proofs.Helped.{Shifts, count_small, count_there, shift_bad, shift_right}
use Rattle.lower_trace.proofs.Kept.{SceneLaws, bytes_small, own_copy}
use Rattle.lower_trace.proofs.Members.{if_datum}
use Rattle.lower_trace.proofs.Mirrors.{HasDatum, Mirrors}
use Rattle.lower_trace.proofs.Operating.{itself, value_number}
use Rattle.lower_trace.proofs.Operations.{Comes, beyond_is, comes_free, comes_within, own_frame, own_put}
use Rattle.lower_trace.proofs.Placed.{Front, Placed, front, list_again, most_operates, operates, plain_tasks}
use Rattle.lower_trace.proofs.Written.{and_false, both, bytes_there, byte_same, nat_apart}
use Rattle.pic_world.specs.World.{World, arrived, is_due, world_as}
use Rattle.src_rules.specs.Giving.{answered, take_in}
use Rattle.src_rules.specs.State.{state}
use Rattle.src_values.specs.Control.{In, Nothing, One, Pending, Holds as Value, active}
use Rattle.src_values.specs.Data as datum
use Rattle.src_values.specs.Memory as source
use Rattle.src_values.specs.Values.{bad_right, binary_answer, number_or_overflow, unless_bad}
use Rattle.src_values.specs.declared.objects.Byte as value
use Rattle.src_values.specs.declared.objects.Byte.TheVariants as values
use Rattle.src_values.specs.declared.objects.CopyOf.{CopyOf}
use Rattle.src_values.specs.declared.objects.Undef.{Undef}
use Rattle.std.proofs.Common.{Bool, List, None, Option, Some, [], ap, arith, false, if◌then◌else◌, inr, nat_eq, nat_lt, pos, refl, subst, suc, sym, true, zero, ℕ, ◌%◌, ◌*◌, ◌++◌, ◌+◌, ◌/◌, ◌<◌, ◌^◌, ◌∙◌, ◌∷◌, ◌≡◌, ◌≤◌}
use Rattle.std.proofs.lemmas.List.{append-nil, append_assoc}
use Rattle.std.specs.Prelude.{unwrap_or}

-- ---- numbers that are known
known_more : (y : Byte) (left : Option ℕ) (ts : List Tree) (t : Tree) → number_from y left (ts ++ t ∷ []) ≡ number_behind y (number_from y left ts) t
known_more y left [] t = refl
known_more y left (x ∷ ts) t = known_more y (number_behind y left x) ts t

-- the sets of a number tell its lowest byte
pub known_sets : (n y v k : ℕ) → y + suc k ≤ 65535 → number_left (sets (Frame n y) v (suc k)) (Frame n y) ≡ Some (byte_at v 0)
unfolding sets
known_sets n y v zero le =
    let here : lower.behind (Frame n y) 0 ≡ Frame n y = ap (Frame n) (beyond_is y 0 (omega arith) ∙ (omega arith)) in
    ap (λ b. if same_byte b (Frame n y) then Some (byte_at v 0) else None) here ∙ ap (λ b. if b then Some (byte_at v 0) else None) (byte_same (Frame n y))
known_sets n y v (suc k) le =
    let there : lower.behind (Frame n y) (suc k) ≡ Frame n (y + suc k) = ap (Frame n) (beyond_is y (suc k) (omega arith)) in
    let far : same_byte (Frame n (y + suc k)) (Frame n y) ≡ false = and_false (nat_eq n n) (nat_eq (y + suc k) y) (nat_apart (y + suc k) y (inr (omega arith))) in
    known_more (Frame n y) None (sets (Frame n y) v (suc k)) (code.Set (lower.behind (Frame n y) (suc k)) (byte_at v (suc k)))
    ∙ ap (λ b. if same_byte b (Frame n y) then Some (byte_at v (suc k)) else number_left (sets (Frame n y) v (suc k)) (Frame n y)) there
    ∙ ap (λ b. if b then Some (byte_at v (suc k)) else number_left (sets (Frame n y) v (suc k)) (Frame n y)) far
    ∙ known_sets n y v k (omega arith)

-- ---- machines with operations whose fronts are known
pub record Exact (g : Setting) (n : ℕ) (a : Option ℕ) (before ts : List Tree) (rest r : List Task) (s : List Waiting) (m : Memory) (w : World Held) (c : Machine) : Type 0 where
  pub copy : c.copy ≡ n
  pub passing : c.passing ≡ a
  pub code : c.code ≡ tasks before ts rest
  pub left : plain rest ≡ r
  pub stack : plain_behind c.stack ≡ s
  pub memory : c.memory ≡ m
  pub world : arrived g.outside c.world ≡ w

module _ (g : Setting) (T : Machine → Type 0) (n : ℕ) (a : Option ℕ) (s : List Waiting) (w : World Held) (due : is_due w ≡ false) (again : arrived g.outside w ≡ w) where
  placed_exact : (before ts : List Tree) (rest r : List Task) (m : Memory) (c : Machine) → Exact g n a before ts rest r s m w c → Placed g n a (todo ts r) s m w c
  placed_exact before ts rest r m c x = record { copy = x.copy; passing = x.passing; code = ap plain x.code ∙ plain_tasks before ts rest ∙ ap (todo ts) x.left; stack = x.stack; memory = x.memory; world = x.world }

  pub exact_many_then : (ts : List Tree) (r : List Task) (m : Memory) (c : Machine) (q l : ℕ) → Placed g n a (Todo [] (many ts) ∷ r) s m w c → ((rest : List Task) (d : Machine) → Exact g n a [] ts rest r s m w d → Comes g T q l d) → Comes g T q l c
  unfolding operate cost_of
  exact_many_then ts r m c q l p next =
      let f = front c.code (many ts) r p.code in
      let d : Machine = record { copy = n; passing = a; code = tasks [] (list_of (trees_of ts)) f.rest; stack = c.stack; memory = m; world = w } in
      let em = most_operates g n a (Todo [] (many ts) ∷ r) s m w c p (many ts) r f due in
      comes_within g T (0 + q) l q l c
      (comes_free g T q l 0 c d (operates g n a (Todo [] (many ts) ∷ r) s m w c p (many ts) r f due) (omega arith)
      (next f.rest d (record { copy = refl; passing = refl; code = ap (λ y. tasks [] y f.rest) (list_again ts); left = f.behind; stack = p.stack; memory = refl; world = again })))
      (omega arith) (omega arith)

  front_of : (before : List Tree) (t : Tree) (us : List Tree) (rest r : List Task) (m : Memory) (c : Machine) → Exact g n a before (t ∷ us) rest r s m w c → Front c.code t (todo us r)
  front_of before t us rest r m c x = record { before = before; rest = tasks (before ++ t ∷ []) us rest; is = x.code; behind = plain_tasks (before ++ t ∷ []) us rest ∙ ap (todo us) x.left }

  exact_set_then : (before us : List Tree) (off_is v : ℕ) (rest r : List Task) (m : Memory) (c : Machine) (q l : ℕ) → off_is < g.program.frame_bytes n → Exact g n a before (code.Set (Frame n off_is) v ∷ us) rest r s m w c
      → ((d : Machine) → Exact g n a (before ++ code.Set (Frame n off_is) v ∷ []) us rest r s (with_byte m (Frame n off_is) (Number v)) w d → Comes g T q l d) → Comes g T (4 + q) l c
  unfolding operate cost_of front_of
  exact_set_then before us off_is v rest r m c q l lt x next =
      let t = code.Set (Frame n off_is) v in
      let f = front_of before t us rest r m c x in
      let p = placed_exact before (t ∷ us) rest r m c x in
      let m' = with_byte m (Frame n off_is) (Number v) in
      let d : Machine = record { copy = n; passing = a; code = tasks (before ++ t ∷ []) us rest; stack = c.stack; memory = m'; world = w } in
      let em = most_operates g n a (Todo [] t ∷ todo us r) s m w c p t (todo us r) f due in
      comes_free g T q l 4 c d
      (operates g n a (Todo [] t ∷ todo us r) s m w c p t (todo us r) f due ∙ own_put g.program (Frame n off_is) (Number v) (tasks (before ++ t ∷ []) us rest) n a c.stack m w (own_frame g.program n off_is 1 (omega arith)))
      (omega arith)
      (next d (record { copy = refl; passing = refl; code = refl; left = x.left; stack = x.stack; memory = refl; world = again }))

  pub exact_sets_then : (k : ℕ) (before us : List Tree) (b v : ℕ) (rest r : List Task) (m : Memory) (c : Machine) (q l : ℕ) → b + k ≤ g.program.frame_bytes n → g.program.frame_bytes n ≤ 65535 → Exact g n a before (sets (Frame n b) v k ++ us) rest r s m w c
      → ((d : Machine) → Exact g n a (before ++ sets (Frame n b) v k) us rest r s (with_bytes m (Frame n b) k (λ i. Number (byte_at v i))) w d → Comes g T q l d) → Comes g T (4 * k + q) l c
  unfolding sets
  exact_sets_then zero before us b v rest r m c q l le small x next =
      comes_within g T q l (4 * 0 + q) l c (next c (subst (λ y. Exact g n a y us rest r s m w c) (sym (append-nil before)) x)) (omega arith) (omega arith)
  exact_sets_then (suc k) before us b v rest r m c q l le small x next =
      let here : lower.behind (Frame n b) k ≡ Frame n (b + k) = ap (Frame n) (beyond_is b k (omega arith)) in
      let t = code.Set (Frame n (b + k)) (byte_at v k) in
      let m' = with_bytes m (Frame n b) k (λ i. Number (byte_at v i)) in
      let split : sets (Frame n b) v k ++ code.Set (lower.behind (Frame n b) k) (byte_at v k) ∷ [] ++ us ≡ sets (Frame n b) v k ++ (t ∷ us) =
      ap (λ y. sets (Frame n b) v k ++ code.Set y (byte_at v k) ∷ [] ++ us) here ∙ append_assoc (sets (Frame n b) v k) (t ∷ []) us in
      let joined : before ++ sets (Frame n b) v k ++ t ∷ [] ≡ before ++ (sets (Frame n b) v k ++ code.Set (lower.behind (Frame n b) k) (byte_at v k) ∷ []) =
      append_assoc before (sets (Frame n b) v k) (t ∷ []) ∙ ap (λ y. before ++ (sets (Frame n b) v k ++ code.Set y (byte_at v k) ∷ [])) (sym here) in
      comes_within g T (4 * k + (4 + q)) l (4 * suc k + q) l c
      (exact_sets_then k before (t ∷ us) b v rest r m c (4 + q) l (omega arith) small (subst (λ y. Exact g n a before y rest r s m w c) split x)
      (λ d xd. exact_set_then (before ++ sets (Frame n b) v k) us (b + k) (byte_at v k) rest r m' d q l (omega arith) xd
      (λ e xe. next e (subst (λ y. Exact g n a y us rest r s (with_bytes m (Frame n b) (suc k) (λ i. Number (byte_at v i))) w e) joined xe))))
      (omega arith) (omega arith)

-- ---- the operator
shift_fits : (op : BinOp) (ty : IntTy) (t n b y : ℕ) → Shifts op → nat_lt 1 (bytes_of ty) ≡ true → fits_together op ty (Some t) (Frame n b) (Frame n b) (Frame n y) ≡ true
unfolding fits_together
shift_fits ops.Shl ty t n b y s two = both _ _ two (itself n b (bytes_of ty))
shift_fits ops.Shr ty t n b y s two = both _ _ two (itself n b (bytes_of ty))
shift_fits ops.Mul ty t n b y s two = absurd s
shift_fits ops.Div ty t n b y s two = absurd s
shift_fits ops.Rem ty t n b y s two = absurd s
shift_fits ops.Add ty t n b y s two = absurd s
shift_fits ops.Sub ty t n b y s two = absurd s
shift_fits ops.And ty t n b y s two = absurd s
shift_fits ops.Or ty t n b y s two = absurd s
shift_fits ops.Xor ty t n b y s two = absurd s
shift_fits ops.Lt ty t n b y s two = absurd s
shift_fits ops.Gt ty t n b y s two = absurd s
shift_fits ops.Le ty t n b y s two = absurd s
shift_fits ops.Ge ty t n b y s two = absurd s
shift_fits ops.Eq ty t n b y s two = absurd s
shift_fits ops.Ne ty t n b y s two = absurd s

shift_alone : (op : BinOp) (t : ℕ) → Shifts op → is_helped op (Some t) ≡ false
shift_alone ops.Shl t s = refl
shift_alone ops.Shr t s = refl
shift_alone ops.Mul t s = absurd s
shift_alone ops.Div t s = absurd s
shift_alone ops.Rem t s = absurd s
shift_alone ops.Add t s = absurd s
shift_alone ops.Sub t s = absurd s
shift_alone ops.And t s = absurd s
shift_alone ops.Or t s = absurd s
shift_alone ops.Xor t s = absurd s
shift_alone ops.Lt t s = absurd s
shift_alone ops.Gt t s = absurd s
shift_alone ops.Le t s = absurd s
shift_alone ops.Ge t s = absurd s
shift_alone ops.Eq t s = absurd s
shift_alone ops.Ne t s = absurd s

shift_cheap : (op : BinOp) (t w : ℕ) → Shifts op → w ≤ 4 → binary_cost op (Some t) w ≤ 52
shift_cheap ops.Shl t w s few = omega arith
shift_cheap ops.Shr t w s few = omega arith
shift_cheap ops.Mul t w s few = absurd s
shift_cheap ops.Div t w s few = absurd s
shift_cheap ops.Rem t w s few = absurd s
shift_cheap ops.Add t w s few = absurd s
shift_cheap ops.Sub t w s few = absurd s
shift_cheap ops.And t w s few = absurd s
shift_cheap ops.Or t w s few = absurd s
shift_cheap ops.Xor t w s few = absurd s
shift_cheap ops.Lt t w s few = absurd s
shift_cheap ops.Gt t w s few = absurd s
shift_cheap ops.Le t w s few = absurd s
shift_cheap ops.Ge t w s few = absurd s
shift_cheap ops.Eq t w s few = absurd s
shift_cheap ops.Ne t w s few = absurd s

module _ (z : Scene) (laws : SceneLaws z) (T : Machine → Type 0) (n : ℕ) (s : List Waiting) (w : World Held) (due : is_due w ≡ false) (again : arrived (core_in z).outside w ≡ w) where
  -- a shift by a count that was set before it
  pub exact_shift_then : (op : BinOp) (ty : IntTy) (before : List Tree) (b y t : ℕ) (x u o : Quantity) (rest r : List Task) (m : Memory) (c : Machine) (q l : ℕ) → Shifts op → nat_lt 1 (bytes_of ty) ≡ true → number_left before (Frame n y) ≡ Some t → b + bytes_of ty ≤ (core_in z).program.frame_bytes n → y + bytes_of (right_type op ty) ≤ (core_in z).program.frame_bytes n → b + bytes_of o.ty ≤ (core_in z).program.frame_bytes n
      → value_in ty m (Frame n b) ≡ Some (core.Number x) → value_in (right_type op ty) m (Frame n y) ≡ Some (core.Number u) → outcome op x u ≡ Some o
      → Exact (core_in z) n None before (code.Binary op ty (Frame n b) (Frame n b) (Frame n y) ∷ []) rest r s m w c
      → ((d : Machine) → Placed (core_in z) n None r s (with_bytes m (Frame n b) (bytes_of o.ty) (core.byte_of (core.Number o))) w d → Comes (core_in z) T q l d) → Comes (core_in z) T (52 + q) l c
  unfolding operate cost_of binary_value fits_together front_of value_in
  exact_shift_then op ty before b y t x u o rest r m c q l shift two known room from out vx vu is e next =
      let g = core_in z in
      let tree_is = code.Binary op ty (Frame n b) (Frame n b) (Frame n y) in
      let f = front_of g T n None s w due again before tree_is [] rest r m c e in
      let p = placed_exact g T n None s w due again before (tree_is ∷ []) rest r m c e in
      let m' = with_bytes m (Frame n b) (bytes_of o.ty) (core.byte_of (core.Number o)) in
      let d : Machine = record { copy = n; passing = None; code = rest; stack = c.stack; memory = m'; world = w } in
      let em = most_operates g n None (Todo [] tree_is ∷ r) s m w c p tree_is r f due in
      let few = bytes_small ty in
      let cheap : binary_cost op (number_left before (Frame n y)) (bytes_of ty) ≤ 52 = subst (λ i. binary_cost op i (bytes_of ty) ≤ 52) (sym known) (shift_cheap op t (bytes_of ty) shift few) in
      let fits = shift_fits op ty t n b y shift two in
      let alone = shift_alone op t shift in
      let ox = own_frame g.program n b (bytes_of ty) room in
      let oy = own_frame g.program n y (bytes_of (right_type op ty)) from in
      let og = own_frame g.program n b (bytes_of o.ty) out in
      comes_free g T q l 52 c d
      (operates g n None (Todo [] tree_is ∷ r) s m w c p tree_is r f due ∙ rw (known, fits, alone, ox, oy, vx, vu, is, og) refl)
      (omega arith)
      (next d (record { copy = refl; passing = refl; code = e.left; stack = e.stack; memory = refl; world = again }))

some_type : (bad : Bool) (r v : Quantity) → (if bad then None else Some r) ≡ Some v → v.ty ≡ r.ty
some_type true r v e = absurd (cc)
some_type false r v e = ap (λ o. (unwrap_or o v).ty) (sym e)

pub shift_typed : (op : BinOp) (x y v : Quantity) → Shifts op → outcome op x y ≡ Some v → bytes_of v.ty ≡ bytes_of x.ty
shift_typed ops.Shl x y v s e = ap bytes_of (some_type (shifts_badly x.ty y.number) (numbers.value_of ops.Shl x y) v e)
shift_typed ops.Shr x y v s e = ap bytes_of (some_type (shifts_badly x.ty y.number) (numbers.value_of ops.Shr x y) v e)
shift_typed _ x y v s e = absurd s

module _ (z : Scene) (laws : SceneLaws z) where
  shift_case : (bad : Option Undef) (o : Option Quantity) (op : BinOp) (left right : Expression) (line : ℕ) (x y : Quantity) (at size : ℕ) (k : List Pending) (cp : CopyOf) (l : source.Memory) (w : World value.Byte) (c : Machine) → bad_right op (types.Int x.ty) (datum.Number y) ≡ bad → outcome op x y ≡ o → Shifts op → shifts_by_constant op right ≡ true → Around z cp k → nat_lt 1 (bytes_of x.ty) ≡ true → type_of left ≡ types.Int x.ty → IsInRange x.ty x.number → pattern y.ty y.number ≡ constant_bits right → value_width (ground_in z cp).layout right ≡ bytes_of y.ty → bytes_of y.ty ≡ suc size
      → beyond (base (ground_in z cp) k) (value_width (ground_in z cp).layout left) ≡ at → base (ground_in z cp) k + bytes_of x.ty ≤ at → at + bytes_of y.ty ≤ (core_in z).program.frame_bytes (number z cp) → is_due (arrived z.outside w) ≡ false
      → Mirrors z (state cp (Value (datum.Number x)) (In (tree.Binary op left right (types.Int x.ty) line) Nothing ∷ k) l w) c
      → Follow z 70 0 c (answered (unless_bad bad (number_or_overflow o)) line k cp l (arrived z.outside w))
  unfolding active
  shift_case (Some kind) o op left right line x y at size k cp l w c bad_is is shift constant around two type xr bits_are wide some second above room due h = tt
  shift_case None None op left right line x y at size k cp l w c bad_is is shift constant around two type xr bits_are wide some second above room due h = tt
  shift_case None (Some v) op left right line x y at size k cp l w c bad_is is shift constant around two type xr bits_are wide some second above room due h =
      let e = tree.Binary op left right (types.Int x.ty) line in
      let n = number z cp in
      let g = ground_in z cp in
      let b = base g k in
      let s = stack_after z g k in
      let r = code_after g k in
      let W = world_as (held z) (arrived z.outside w) in
      let T = Mirrors z (state cp (Value (datum.Number v)) k l (arrived z.outside w)) in
      let small = laws.small n in
      let few = bytes_small y.ty in
      let X = Frame n b in
      let Y = Frame n at in
      let number_is = constant_bits right in
      let shifted = code.Binary op x.ty X X Y in
      let now : todo (change_code (shifts_by_constant op right) (expr_code g.layout g.copy (beyond b (value_width g.layout left)) true right) ++ binary_row (shifts_by_constant op right) op (operation_type (type_of left)) (Frame g.copy b) (Frame g.copy (beyond b (value_width g.layout left))) (constant_bits right) (value_width g.layout right)) r ≡ Todo [] (many (sets Y number_is (suc size) ++ shifted ∷ [])) ∷ r =
      ap (λ f. todo (change_code f (expr_code g.layout g.copy (beyond b (value_width g.layout left)) true right) ++ binary_row f op (operation_type (type_of left)) (Frame g.copy b) (Frame g.copy (beyond b (value_width g.layout left))) (constant_bits right) (value_width g.layout right)) r) constant
      ∙ ap (λ t. Todo [] (shift_row op (operation_type t) (Frame g.copy b) (Frame g.copy (beyond b (value_width g.layout left))) (constant_bits right) (value_width g.layout right)) ∷ r) type
      ∙ ap (λ f. Todo [] (shift_row op x.ty (Frame g.copy b) (Frame g.copy f) (constant_bits right) (value_width g.layout right)) ∷ r) second
      ∙ ap (λ f. Todo [] (shift_row op x.ty (Frame g.copy b) (Frame g.copy at) (constant_bits right) f) ∷ r) (wide ∙ some)
      ∙ ap (λ f. Todo [] (shift_row op x.ty (Frame f b) (Frame f at) (constant_bits right) (suc size)) ∷ r) (own_copy z cp) in
      let hx : HasDatum z n b (datum.Number x) c.memory = subst (λ f. HasDatum z f b (datum.Number x) c.memory) (own_copy z cp) h.value in
      let set_bits = λ (i : ℕ). Number (byte_at number_is i) in
      let m1 = with_bytes c.memory Y (suc size) set_bits in
      let above1 = above_written n at at (suc size) c.memory set_bits (omega arith) in
      let hx1 : HasDatum z n b (datum.Number x) m1 = datum_above z n b at (datum.Number x) c.memory m1 above above1 hx in
      let hy : HasDatum z n at (datum.Number y) m1 = λ i lt. bytes_there c.memory n at (suc size) set_bits i (omega arith) ∙ ap Number (byte_is number_is i (omega arith)) ∙ ap (λ t. held z (values.Number (t / 256 ^ i % 256))) (sym bits_are) in
      let rt = shift_right op x.ty shift in
      let t = count_small x.ty y.number (shift_bad op x.ty y shift bad_is) in
      let u : Quantity = record { ty = int.UChar; number = pos t.0 } in
      let alike : outcome op x u ≡ outcome op x y = ap (λ i. if has_no_value op x.ty x.number i then None else Some (cut_to (numbers.type_of op x.ty) (numbers.exact op x.ty x.number i))) (sym t.1) in
      let typed : bytes_of v.ty ≡ bytes_of x.ty = shift_typed op x y v shift is in
      comes_within (core_in z) T (4 * suc size + (52 + 0)) 0 70 0 c
      (exact_many_then (core_in z) T n None s W (due_below z (arrived z.outside w) due) (again_below z w) (sets Y number_is (suc size) ++ shifted ∷ []) r c.memory c (4 * suc size + (52 + 0)) 0
      (subst (λ f. Placed (core_in z) n None f s c.memory W c) now (placed_of z (state cp (Value (datum.Number x)) (In e Nothing ∷ k) l w) c h))
      (λ rest d xd. exact_sets_then (core_in z) T n None s W (due_below z (arrived z.outside w) due) (again_below z w) (suc size) [] (shifted ∷ []) at number_is rest r c.memory d (52 + 0) 0 (omega arith) (omega arith) xd
      (λ d2 x2. exact_shift_then z laws T n s W (due_below z (arrived z.outside w) due) (again_below z w) op x.ty (sets Y number_is (suc size)) b at (byte_at number_is 0) x u v rest r m1 d2 0 0 shift two (known_sets n at number_is size (omega arith)) (omega arith) (let f = ap bytes_of rt in omega arith) (omega arith)
      (value_number z n b x m1 xr hx1) (ap (λ ty. value_in ty m1 Y) rt ∙ count_there z n at t.0 y m1 t.1 t.2 hy) (alike ∙ is) x2
      (λ d3 p3.
      let m2 = with_bytes m1 X (bytes_of v.ty) (core.byte_of (core.Number v)) in
      let only : OnlyAbove n b c.memory m2 = above_then n b c.memory m1 m2 (above_written n b at (suc size) c.memory set_bits (omega arith)) (above_written n b b (bytes_of v.ty) m1 (core.byte_of (core.Number v)) (omega arith)) in
      arrive z cp (Value (datum.Number v)) k l w m2 d3 p3
      (agrees_above z laws cp (active cp (Value (datum.Number v)) k) l c.memory m2 b around.reached (value_high z cp k around) only h.agrees)
      (holds_above z cp k c.memory m2 b around (omega arith) only h.holds.1)
      (if_datum z (wanted k) g.copy b (datum.Number v) m2 (subst (λ f. HasDatum z f b (datum.Number v) m2) (sym (own_copy z cp)) (λ i lt. bytes_there m1 n b (bytes_of v.ty) (core.byte_of (core.Number v)) i lt)))))))
      (omega arith) (omega arith)

  -- a shift by a constant, where byte code stands at the left operand's value
  pub constant_shift : (op : BinOp) (left right : Expression) (line : ℕ) (x y : Quantity) (at size : ℕ) (k : List Pending) (cp : CopyOf) (l : source.Memory) (w : World value.Byte) (c : Machine) → Shifts op → shifts_by_constant op right ≡ true → Around z cp k → nat_lt 1 (bytes_of x.ty) ≡ true → type_of left ≡ types.Int x.ty → IsInRange x.ty x.number → pattern y.ty y.number ≡ constant_bits right → value_width (ground_in z cp).layout right ≡ bytes_of y.ty → bytes_of y.ty ≡ suc size
      → beyond (base (ground_in z cp) k) (value_width (ground_in z cp).layout left) ≡ at → base (ground_in z cp) k + bytes_of x.ty ≤ at → at + bytes_of y.ty ≤ (core_in z).program.frame_bytes (number z cp) → is_due (arrived z.outside w) ≡ false
      → Mirrors z (state cp (Value (datum.Number x)) (In (tree.Binary op left right (types.Int x.ty) line) Nothing ∷ k) l w) c
      → Follow z 70 0 c (take_in (source_in z) (tree.Binary op left right (types.Int x.ty) line) (One (datum.Number x)) (datum.Number y) k cp l (arrived z.outside w))
  unfolding binary_answer
  constant_shift op left right line x y at size k cp l w c shift constant around two type xr bits_are wide some second above room due h =
      shift_case (bad_right op (types.Int x.ty) (datum.Number y)) (outcome op x y) op left right line x y at size k cp l w c refl refl shift constant around two type xr bits_are wide some second above room due h
