-- Operators that a helper computes: products, quotients, remainders, and shifts by a count that isn't constant.
use Rattle.c_ints.specs.Operators as numbers
use Rattle.c_ints.specs.Operators.{cut_to, has_no_value, outcome, shifts_badly, value_of}
use Rattle.c_ints.specs.Quantity.{Quantity}
use Rattle.c_ints.specs.Range.{IsInRange, bytes_of, cut, pattern, width}
use Rattle.c_ints.specs.declared.operators.BinOp.TheVariants as ops
use Rattle.c_ints.specs.declared.operators.BinOp.{BinOp}
use Rattle.c_ints.specs.declared.types.IntTy.TheVariants as int
use Rattle.c_ints.specs.declared.types.IntTy.{IntTy}
use Rattle.c_typed.specs.Folding.{constant_bits}
use Rattle.c_typed.specs.Trees as tree
use Rattle.c_typed.specs.Trees.{Expression}
use Rattle.c_typed.specs.Types.{is_constant, type_of}
use Rattle.c_typed.specs.declared.types.Ty.TheVariants as types
use Rattle.c_typed.specs.declared.types.Ty.{Ty}
use Rattle.core_code.specs.Bytes as bytes
use Rattle.core_code.specs.Bytes.{Held, Memory, with_bytes, without_results}
use Rattle.core_code.specs.Cost.{binary_cost, cost_of}
use Rattle.core_code.specs.Machine.{Machine, Setting, Task, Do as Todo, Waiting, operate}
use Rattle.core_code.specs.Operands.{fits_bytes, fits_together, is_helped, number_left}
use Rattle.core_code.specs.Tree as code
use Rattle.core_code.specs.Values as core
use Rattle.core_code.specs.Values.{binary_value, number_in, right_type, value_in}
use Rattle.core_code.specs.declared.code.Byte.TheVariants.{Frame, Result}
use Rattle.core_puts.specs.Bytes.{beyond, operation_type}
use Rattle.lower_expr.specs.Layout.{value_width}
use Rattle.lower_expr.specs.Lowering.{shifts_by_constant}
use Rattle.lower_expr.specs.Rows.{binary_row, is_shift}
use Rattle.lower_trace.proofs.Beginnings.{Follow}
use Rattle.lower_trace.proofs.CodeLeft.{Scene, base, code_after, core_in, ground_in, held, number, plain, source_in, stack_after, todo}
use Rattle.lower_trace.proofs.Constants.{again_below, due_below, same_below}
use Rattle.lower_trace.proofs.Giving.{Around, agrees_same, gives, placed_of}
use Rattle.lower_trace.proofs.Kept.{SceneLaws, bytes_small, own_copy}
use Rattle.lower_trace.proofs.Mirrors.{HasDatum, Mirrors, core_byte}
use Rattle.lower_trace.proofs.NumberBytes.{digits_sum, number_there, one_digit}
use Rattle.lower_trace.proofs.Operating.{itself, value_number}
use Rattle.lower_trace.proofs.Operations.{Comes, comes_first, comes_here, comes_within, own_frame}
use Rattle.lower_trace.proofs.Placed.{Placed, front, least_operates, most_operates, operates}
use Rattle.lower_trace.proofs.Returning.{Resumables, SameOthers, holds_frames}
use Rattle.lower_trace.proofs.Written.{both, off}
use Rattle.pic_world.specs.World.{World, arrived, is_due, left, world_as}
use Rattle.pic_world.specs.Roots.{same_root}
use Rattle.pic_world.specs.declared.Root.{Root}
use Rattle.src_rules.specs.Giving.{answered, take_in}
use Rattle.src_rules.specs.State.{state}
use Rattle.src_values.specs.Control.{In, One, Pending, Holds as Value, active}
use Rattle.src_values.specs.Data as datum
use Rattle.src_values.specs.Memory as source
use Rattle.src_values.specs.Values.{bad_right, binary_answer, number_or_overflow, unless_bad}
use Rattle.src_values.specs.declared.objects.Byte as value
use Rattle.src_values.specs.declared.objects.CopyOf.{CopyOf}
use Rattle.src_values.specs.declared.objects.Object as object
use Rattle.src_values.specs.declared.objects.Object.TheVariants as objects
use Rattle.src_values.specs.declared.objects.Undef.TheVariants.{Shift}
use Rattle.src_values.specs.declared.objects.Undef.{Undef}
use Rattle.std.proofs.Common.{Bool, List, None, Option, Some, [], ap, arith, false, if◌then◌else◌, nat_lt, negsuc, option_map, pos, refl, subst, sym, true, ℕ, ℤ, ◌%◌, ◌&&◌, ◌+◌, ◌/◌, ◌<◌, ◌^◌, ◌||◌, ◌∙◌, ◌∷◌, ◌≡◌, ◌≤◌}
use Rattle.std.proofs.lemmas.Grind.{common_steps}
use Rattle.std.proofs.lemmas.Int.{ints}
use Rattle.std.specs.Prelude.{int_le, int_lt, unwrap_or}

abbrev pub MayHelp : BinOp → Type 0
MayHelp ops.Mul = Unit {0}
MayHelp ops.Div = Unit {0}
MayHelp ops.Rem = Unit {0}
MayHelp ops.Shl = Unit {0}
MayHelp ops.Shr = Unit {0}
MayHelp _ = ⊥

helped_fits : (op : BinOp) (w : ℕ) (count : Option ℕ) (n b y : ℕ) → MayHelp op → nat_lt 1 w ≡ true → fits_bytes op w count (Frame n b) (Frame n b) (Frame n y) ≡ true
helped_fits ops.Mul w count n b y h two = both _ _ two refl
helped_fits ops.Div w count n b y h two = both _ _ two refl
helped_fits ops.Rem w count n b y h two = both _ _ two refl
helped_fits ops.Shl w None n b y h two = both _ _ two refl
helped_fits ops.Shl w (Some count) n b y h two = both _ _ two (itself n b w)
helped_fits ops.Shr w None n b y h two = both _ _ two refl
helped_fits ops.Shr w (Some count) n b y h two = both _ _ two (itself n b w)
helped_fits ops.Add w count n b y h two = absurd h
helped_fits ops.Sub w count n b y h two = absurd h
helped_fits ops.And w count n b y h two = absurd h
helped_fits ops.Or w count n b y h two = absurd h
helped_fits ops.Xor w count n b y h two = absurd h
helped_fits ops.Lt w count n b y h two = absurd h
helped_fits ops.Gt w count n b y h two = absurd h
helped_fits ops.Le w count n b y h two = absurd h
helped_fits ops.Ge w count n b y h two = absurd h
helped_fits ops.Eq w count n b y h two = absurd h
helped_fits ops.Ne w count n b y h two = absurd h

helped_cost : (op : BinOp) (count : Option ℕ) (w : ℕ) → w ≤ 4 → MayHelp op → binary_cost op count w ≤ 2138
helped_cost ops.Mul count w few h = omega arith
helped_cost ops.Div count w few h = omega arith
helped_cost ops.Rem count w few h = omega arith
helped_cost ops.Shl None w few h = omega arith
helped_cost ops.Shl (Some count) w few h = omega arith
helped_cost ops.Shr None w few h = omega arith
helped_cost ops.Shr (Some count) w few h = omega arith
helped_cost ops.Add count w few h = absurd h
helped_cost ops.Sub count w few h = absurd h
helped_cost ops.And count w few h = absurd h
helped_cost ops.Or count w few h = absurd h
helped_cost ops.Xor count w few h = absurd h
helped_cost ops.Lt count w few h = absurd h
helped_cost ops.Gt count w few h = absurd h
helped_cost ops.Le count w few h = absurd h
helped_cost ops.Ge count w few h = absurd h
helped_cost ops.Eq count w few h = absurd h
helped_cost ops.Ne count w few h = absurd h

-- memory behind an operator, whose helper may spoil the results
abbrev pub spoiled : Bool → Root → Memory → Memory
spoiled helped root m = if helped then without_results root m else m

pub spoiled_frame : (helped : Bool) (root : Root) (m : Memory) (i y : ℕ) → spoiled helped root m (Frame i y) ≡ m (Frame i y)
spoiled_frame true root m i y = refl
spoiled_frame false root m i y = refl

pub spoiled_others : (helped : Bool) (root q : Root) (m : Memory) → root ≡ q → SameOthers q m (spoiled helped root m)
spoiled_others true root q m e r i f = off (same_root r root) bytes.Unset (m (Result r i)) (ap (same_root r) e ∙ f)
spoiled_others false root q m e r i f = refl

pub spoiled_object : (z : Scene) (helped : Bool) (root : Root) (m : Memory) (o : object.Object) (at : ℕ) → spoiled helped root m (core_byte z o at) ≡ m (core_byte z o at)
spoiled_object z true root m (objects.Fixed i) at = refl
spoiled_object z true root m (objects.Variable d i) at = refl
spoiled_object z false root m o at = refl

module _ (z : Scene) (g : Setting) (T : Machine → Type 0) (n : ℕ) (s : List Waiting) (w : World Held) (due : is_due w ≡ false) (now : arrived g.outside w ≡ w) where
  helped_case : (helped : Bool) (op : BinOp) (ty : IntTy) (b y : ℕ) (x u v : Quantity) (r : List Task) (m : Memory) (c : Machine) (q l : ℕ) (p : Placed g n None (Todo [] (code.Binary op ty (Frame n b) (Frame n b) (Frame n y)) ∷ r) s m w c) → is_helped op (number_left (front c.code (code.Binary op ty (Frame n b) (Frame n b) (Frame n y)) r p.code).before (Frame n y)) ≡ helped
      → MayHelp op → nat_lt 1 (bytes_of ty) ≡ true → bytes_of ty ≤ 4 → g.program.helped n op ty ≡ true → b + bytes_of ty ≤ g.program.frame_bytes n → y + bytes_of (right_type op ty) ≤ g.program.frame_bytes n → b + bytes_of v.ty ≤ g.program.frame_bytes n
      → value_in ty m (Frame n b) ≡ Some (core.Number x) → value_in (right_type op ty) m (Frame n y) ≡ Some (core.Number u) → outcome op x u ≡ Some v
      → ((d : Machine) → Placed g n None r s (with_bytes (spoiled helped (g.program.root n) m) (Frame n b) (bytes_of v.ty) (core.byte_of (core.Number v))) w d → Comes g T q l d) → Comes g T (2138 + q) l c
  unfolding operate cost_of fits_together binary_value
  helped_case true op ty b y x u v r m c q l p is may two few there room from out vx vu outcome_is next =
      let t = code.Binary op ty (Frame n b) (Frame n b) (Frame n y) in
      let f = front c.code t r p.code in
      let m' = with_bytes (spoiled true (g.program.root n) m) (Frame n b) (bytes_of v.ty) (core.byte_of (core.Number v)) in
      let d : Machine = record { copy = n; passing = None; code = f.rest; stack = c.stack; memory = m'; world = w } in
      let em = most_operates g n None (Todo [] t ∷ r) s m w c p t r f due in
      let el = least_operates g n None (Todo [] t ∷ r) s m w c p t r f due in
      let cost = helped_cost op (number_left f.before (Frame n y)) (bytes_of ty) few may in
      let fits = helped_fits op (bytes_of ty) (number_left f.before (Frame n y)) n b y may two in
      let ox = own_frame g.program n b (bytes_of ty) room in
      let oy = own_frame g.program n y (bytes_of (right_type op ty)) from in
      let og = own_frame g.program n b (bytes_of v.ty) out in
      comes_within g T (2138 + q) (0 + l) (2138 + q) l c
      (comes_first g T q l 2138 0 c d
      (operates g n None (Todo [] t ∷ r) s m w c p t r f due ∙ rw (fits, is, ox, oy, vx, vu, outcome_is, there, og) refl)
      (omega arith)
      (omega arith)
      (next d (record { copy = refl; passing = refl; code = f.behind; stack = p.stack; memory = refl; world = now })))
      (omega arith) (omega arith)
  helped_case false op ty b y x u v r m c q l p is may two few there room from out vx vu outcome_is next =
      let t = code.Binary op ty (Frame n b) (Frame n b) (Frame n y) in
      let f = front c.code t r p.code in
      let m' = with_bytes (spoiled false (g.program.root n) m) (Frame n b) (bytes_of v.ty) (core.byte_of (core.Number v)) in
      let d : Machine = record { copy = n; passing = None; code = f.rest; stack = c.stack; memory = m'; world = w } in
      let em = most_operates g n None (Todo [] t ∷ r) s m w c p t r f due in
      let el = least_operates g n None (Todo [] t ∷ r) s m w c p t r f due in
      let cost = helped_cost op (number_left f.before (Frame n y)) (bytes_of ty) few may in
      let fits = helped_fits op (bytes_of ty) (number_left f.before (Frame n y)) n b y may two in
      let ox = own_frame g.program n b (bytes_of ty) room in
      let oy = own_frame g.program n y (bytes_of (right_type op ty)) from in
      let og = own_frame g.program n b (bytes_of v.ty) out in
      comes_within g T (2138 + q) (0 + l) (2138 + q) l c
      (comes_first g T q l 2138 0 c d
      (operates g n None (Todo [] t ∷ r) s m w c p t r f due ∙ rw (fits, is, ox, oy, vx, vu, outcome_is, og) refl)
      (omega arith)
      (omega arith)
      (next d (record { copy = refl; passing = refl; code = f.behind; stack = p.stack; memory = refl; world = now })))
      (omega arith) (omega arith)

  pub helped_then : (op : BinOp) (ty : IntTy) (b y : ℕ) (x u v : Quantity) (r : List Task) (m : Memory) (c : Machine) (q l : ℕ) → MayHelp op → nat_lt 1 (bytes_of ty) ≡ true → bytes_of ty ≤ 4 → g.program.helped n op ty ≡ true → b + bytes_of ty ≤ g.program.frame_bytes n → y + bytes_of (right_type op ty) ≤ g.program.frame_bytes n → b + bytes_of v.ty ≤ g.program.frame_bytes n
      → value_in ty m (Frame n b) ≡ Some (core.Number x) → value_in (right_type op ty) m (Frame n y) ≡ Some (core.Number u) → outcome op x u ≡ Some v
      → Placed g n None (Todo [] (code.Binary op ty (Frame n b) (Frame n b) (Frame n y)) ∷ r) s m w c
      → ((helped : Bool) (d : Machine) → Placed g n None r s (with_bytes (spoiled helped (g.program.root n) m) (Frame n b) (bytes_of v.ty) (core.byte_of (core.Number v))) w d → Comes g T q l d) → Comes g T (2138 + q) l c
  helped_then op ty b y x u v r m c q l may two few there room from out vx vu outcome_is p next =
      let helped = is_helped op (number_left (front c.code (code.Binary op ty (Frame n b) (Frame n b) (Frame n y)) r p.code).before (Frame n y)) in
      helped_case helped op ty b y x u v r m c q l p refl may two few there room from out vx vu outcome_is (next helped)

-- ---- the operator in the source
pub helped_unshared : (op : BinOp) (ty : IntTy) → MayHelp op → numbers.type_of op ty ≡ ty
helped_unshared ops.Mul ty h = refl
helped_unshared ops.Div ty h = refl
helped_unshared ops.Rem ty h = refl
helped_unshared ops.Shl ty h = refl
helped_unshared ops.Shr ty h = refl
helped_unshared ops.Add ty h = absurd h
helped_unshared ops.Sub ty h = absurd h
helped_unshared ops.And ty h = absurd h
helped_unshared ops.Or ty h = absurd h
helped_unshared ops.Xor ty h = absurd h
helped_unshared ops.Lt ty h = absurd h
helped_unshared ops.Gt ty h = absurd h
helped_unshared ops.Le ty h = absurd h
helped_unshared ops.Ge ty h = absurd h
helped_unshared ops.Eq ty h = absurd h
helped_unshared ops.Ne ty h = absurd h

-- the number that byte code has for the right operand: the same one, maybe of another type
pub record RightAs (z : Scene) (op : BinOp) (x y : Quantity) (n at : ℕ) (m : Memory) : Type 0 where
  pub u : Quantity
  pub there : value_in (right_type op x.ty) m (Frame n at) ≡ Some (core.Number u)
  pub alike : outcome op x u ≡ outcome op x y

some_quantity : (a b : Quantity) → Some a ≡ Some b → a ≡ b
some_quantity a b e = ap (λ x. unwrap_or x a) e

pub outcome_type : (none : Bool) (op : BinOp) (x y v : Quantity) → (if none then None else Some (value_of op x y)) ≡ Some v → v.ty ≡ numbers.type_of op x.ty
outcome_type true op x y v e = absurd (cc)
outcome_type false op x y v e = ap (λ q. q.ty) (sym (some_quantity (value_of op x y) v e))

module _ (z : Scene) (laws : SceneLaws z) where
  -- two numbers, of which the right one stands at `at`
  answer_case : (bad : Option Undef) (o : Option Quantity) (op : BinOp) (left right : Expression) (ty : Ty) (line : ℕ) (x y : Quantity) (at : ℕ) (k : List Pending) (cp : CopyOf) (l : source.Memory) (w : World value.Byte) (c : Machine) → outcome op x y ≡ o → (bad ≡ None → RightAs z op x y (number z cp) at c.memory) → Around z cp k → Resumables cp.root k → MayHelp op → nat_lt 1 (bytes_of x.ty) ≡ true → IsInRange x.ty x.number → (core_in z).program.helped (number z cp) op x.ty ≡ true
      → base (ground_in z cp) k + bytes_of x.ty ≤ (core_in z).program.frame_bytes (number z cp) → at + bytes_of (right_type op x.ty) ≤ (core_in z).program.frame_bytes (number z cp) → is_due (arrived z.outside w) ≡ false
      → todo (binary_row (shifts_by_constant op right) op (operation_type (type_of left)) (Frame (ground_in z cp).copy (base (ground_in z cp) k)) (Frame (ground_in z cp).copy (beyond (base (ground_in z cp) k) (value_width (ground_in z cp).layout left))) (constant_bits right) (value_width (ground_in z cp).layout right)) (code_after (ground_in z cp) k)
      ≡ Todo [] (code.Binary op x.ty (Frame (number z cp) (base (ground_in z cp) k)) (Frame (number z cp) (base (ground_in z cp) k)) (Frame (number z cp) at)) ∷ code_after (ground_in z cp) k
      → Mirrors z (state cp (Value (datum.Number y)) (In (tree.Binary op left right ty line) (One (datum.Number x)) ∷ k) l w) c
      → Follow z 2138 0 c (answered (unless_bad bad (number_or_overflow o)) line k cp l (arrived z.outside w))
  unfolding active
  answer_case (Some kind) o op left right ty line x y at k cp l w c is right_is around resumables may two xr there room from due now h = tt
  answer_case None None op left right ty line x y at k cp l w c is right_is around resumables may two xr there room from due now h = tt
  answer_case None (Some v) op left right ty line x y at k cp l w c is right_is around resumables may two xr there room from due now h =
      let e = tree.Binary op left right ty line in
      let n = number z cp in
      let g = ground_in z cp in
      let b = base g k in
      let W = world_as (held z) (arrived z.outside w) in
      let T = Mirrors z (state cp (Value (datum.Number v)) k l (arrived z.outside w)) in
      let ra = right_is refl in
      let hx : HasDatum z n b (datum.Number x) c.memory = subst (λ f. HasDatum z f b (datum.Number x) c.memory) (own_copy z cp) h.holds.0.0 in
      let typed : bytes_of v.ty ≡ bytes_of x.ty = ap bytes_of (value_type v is) ∙ ap bytes_of (helped_unshared op x.ty may) in
      comes_within (core_in z) T (2138 + 0) 0 2138 0 c
      (helped_then z (core_in z) T n (stack_after z g k) W (due_below z (arrived z.outside w) due) (again_below z w) op x.ty b at x ra.u v (code_after g k) c.memory c 0 0 may two (bytes_small x.ty) there room from (omega arith) (value_number z n b x c.memory xr hx) ra.there (ra.alike ∙ is)
      (subst (λ f. Placed (core_in z) n None f (stack_after z g k) c.memory W c) now (placed_of z (state cp (Value (datum.Number y)) (In e (One (datum.Number x)) ∷ k) l w) c h))
      (λ helped d pd. comes_here (core_in z) T d
      (gives z laws cp k l (arrived z.outside w) (spoiled helped ((core_in z).program.root n) c.memory) (bytes_of v.ty) (core.byte_of (core.Number v)) (datum.Number v) d around (omega arith) (λ j lt. refl)
      (subst (λ f. Placed (core_in z) n None (code_after g k) (stack_after z g k) (with_bytes (spoiled helped ((core_in z).program.root n) c.memory) (Frame n b) (bytes_of v.ty) (core.byte_of (core.Number v))) f d) (same_below z w) pd)
      (agrees_same z (active cp (Value (datum.Number v)) k) l c.memory (spoiled helped ((core_in z).program.root n) c.memory) (λ o t th lt. spoiled_object z helped ((core_in z).program.root n) c.memory o t) h.agrees)
      (holds_frames z cp.root cp k c.memory (spoiled helped ((core_in z).program.root n) c.memory) resumables (λ i t. spoiled_frame helped ((core_in z).program.root n) c.memory i t) (spoiled_others helped ((core_in z).program.root n) cp.root c.memory (laws.roots cp around.reached)) h.holds.1))))
      (omega arith) (omega arith)
    where
      value_type : (v : Quantity) → outcome op x y ≡ Some v → v.ty ≡ numbers.type_of op x.ty
      value_type v is = outcome_type (has_no_value op x.ty x.number y.number) op x y v is

-- ---- products, quotients and remainders
abbrev pub IsProduct : BinOp → Type 0
IsProduct ops.Mul = Unit {0}
IsProduct ops.Div = Unit {0}
IsProduct ops.Rem = Unit {0}
IsProduct _ = ⊥

pub product_helps : (op : BinOp) → IsProduct op → MayHelp op
product_helps ops.Mul h = tt
product_helps ops.Div h = tt
product_helps ops.Rem h = tt
product_helps ops.Shl h = absurd h
product_helps ops.Shr h = absurd h
product_helps ops.Add h = absurd h
product_helps ops.Sub h = absurd h
product_helps ops.And h = absurd h
product_helps ops.Or h = absurd h
product_helps ops.Xor h = absurd h
product_helps ops.Lt h = absurd h
product_helps ops.Gt h = absurd h
product_helps ops.Le h = absurd h
product_helps ops.Ge h = absurd h
product_helps ops.Eq h = absurd h
product_helps ops.Ne h = absurd h

pub product_right : (op : BinOp) (ty : IntTy) → IsProduct op → (right_type op ty ≡ ty) × (is_shift op ≡ false)
product_right ops.Mul ty h = (refl, refl)
product_right ops.Div ty h = (refl, refl)
product_right ops.Rem ty h = (refl, refl)
product_right ops.Shl ty h = absurd h
product_right ops.Shr ty h = absurd h
product_right ops.Add ty h = absurd h
product_right ops.Sub ty h = absurd h
product_right ops.And ty h = absurd h
product_right ops.Or ty h = absurd h
product_right ops.Xor ty h = absurd h
product_right ops.Lt ty h = absurd h
product_right ops.Gt ty h = absurd h
product_right ops.Le ty h = absurd h
product_right ops.Ge ty h = absurd h
product_right ops.Eq ty h = absurd h
product_right ops.Ne ty h = absurd h

-- ---- shifts
abbrev pub Shifts : BinOp → Type 0
Shifts ops.Shl = Unit {0}
Shifts ops.Shr = Unit {0}
Shifts _ = ⊥

pub shift_helps : (op : BinOp) → Shifts op → MayHelp op
shift_helps ops.Shl h = tt
shift_helps ops.Shr h = tt
shift_helps ops.Mul h = absurd h
shift_helps ops.Div h = absurd h
shift_helps ops.Rem h = absurd h
shift_helps ops.Add h = absurd h
shift_helps ops.Sub h = absurd h
shift_helps ops.And h = absurd h
shift_helps ops.Or h = absurd h
shift_helps ops.Xor h = absurd h
shift_helps ops.Lt h = absurd h
shift_helps ops.Gt h = absurd h
shift_helps ops.Le h = absurd h
shift_helps ops.Ge h = absurd h
shift_helps ops.Eq h = absurd h
shift_helps ops.Ne h = absurd h

pub shift_right : (op : BinOp) (ty : IntTy) → Shifts op → right_type op ty ≡ int.UChar
shift_right ops.Shl ty h = refl
shift_right ops.Shr ty h = refl
shift_right ops.Mul ty h = absurd h
shift_right ops.Div ty h = absurd h
shift_right ops.Rem ty h = absurd h
shift_right ops.Add ty h = absurd h
shift_right ops.Sub ty h = absurd h
shift_right ops.And ty h = absurd h
shift_right ops.Or ty h = absurd h
shift_right ops.Xor ty h = absurd h
shift_right ops.Lt ty h = absurd h
shift_right ops.Gt ty h = absurd h
shift_right ops.Le ty h = absurd h
shift_right ops.Ge ty h = absurd h
shift_right ops.Eq ty h = absurd h
shift_right ops.Ne ty h = absurd h

pub shift_bad : (op : BinOp) (ty : IntTy) (y : Quantity) → Shifts op → bad_right op (types.Int ty) (datum.Number y) ≡ None → shifts_badly ty y.number ≡ false
shift_bad ops.Shl ty y h e = bad_none (shifts_badly ty y.number) e
  where
    bad_none : (b : Bool) → (if b then Some Shift else None) ≡ None → b ≡ false
    bad_none true e = absurd (cc)
    bad_none false e = refl
shift_bad ops.Shr ty y h e = bad_none (shifts_badly ty y.number) e
  where
    bad_none : (b : Bool) → (if b then Some Shift else None) ≡ None → b ≡ false
    bad_none true e = absurd (cc)
    bad_none false e = refl
shift_bad ops.Mul ty y h e = absurd h
shift_bad ops.Div ty y h e = absurd h
shift_bad ops.Rem ty y h e = absurd h
shift_bad ops.Add ty y h e = absurd h
shift_bad ops.Sub ty y h e = absurd h
shift_bad ops.And ty y h e = absurd h
shift_bad ops.Or ty y h e = absurd h
shift_bad ops.Xor ty y h e = absurd h
shift_bad ops.Lt ty y h e = absurd h
shift_bad ops.Gt ty y h e = absurd h
shift_bad ops.Le ty y h e = absurd h
shift_bad ops.Ge ty y h e = absurd h
shift_bad ops.Eq ty y h e = absurd h
shift_bad ops.Ne ty y h e = absurd h

-- a count that isn't bad is the number of its lowest byte
small_pattern : (ty : IntTy) (t : ℕ) → t < 32 → pattern ty (pos t) ≡ t
small_pattern int.Char t lt = omega (arith, ints)
small_pattern int.SChar t lt = omega (arith, ints)
small_pattern int.UChar t lt = omega (arith, ints)
small_pattern int.Short t lt = omega (arith, ints)
small_pattern int.UShort t lt = omega (arith, ints)
small_pattern int.Int t lt = omega (arith, ints)
small_pattern int.UInt t lt = omega (arith, ints)
small_pattern int.Long t lt = omega (arith, ints)
small_pattern int.ULong t lt = omega (arith, ints)

cut_small : (t : ℕ) → t < 32 → cut int.UChar (pos t) ≡ pos t
cut_small t lt = omega (arith, ints)

bits_few : (ty : IntTy) → width ty ≤ 32
bits_few int.Char = omega arith
bits_few int.SChar = omega arith
bits_few int.UChar = omega arith
bits_few int.Short = omega arith
bits_few int.UShort = omega arith
bits_few int.Int = omega arith
bits_few int.UInt = omega arith
bits_few int.Long = omega arith
bits_few int.ULong = omega arith

or_none : (a b : Bool) → (a || b) ≡ false → (a ≡ false) × (b ≡ false)
or_none true b e = absurd (cc)
or_none false b e = (refl, e)

pub count_small : (ty : IntTy) (y : ℤ) → shifts_badly ty y ≡ false → (t : ℕ) × (y ≡ pos t) × (t < 32)
count_small ty (pos t) e =
    let h = or_none (int_lt (pos t) (pos 0)) (int_le (pos (width ty)) (pos t)) e in
    let few = bits_few ty in
    let lt : t < width ty = not_le (width ty) t h.1 in
    (t, refl, omega arith)
  where
    not_le : (a b : ℕ) → int_le (pos a) (pos b) ≡ false → b < a
    not_le a b e = grind (ints, arith, common_steps)
count_small ty (negsuc t) e = absurd (let h = or_none (int_lt (negsuc t) (pos 0)) (int_le (pos (width ty)) (negsuc t)) e in let q = h.0 in cc)

pub count_there : (z : Scene) (n at t : ℕ) (y : Quantity) (m : Memory) → y.number ≡ pos t → t < 32 → HasDatum z n at (datum.Number y) m → value_in int.UChar m (Frame n at) ≡ Some (core.Number (record { ty = int.UChar; number = pos t }))
unfolding value_in
count_there z n at t y m e lt h =
    let some = bytes_some y.ty in
    let low : pattern y.ty y.number ≡ t = ap (pattern y.ty) e ∙ small_pattern y.ty t lt in
    let there : number_in m (Frame n at) 1 ≡ Some t =
    number_there m n at 1 (λ i. pattern y.ty y.number / 256 ^ i % 256) (λ i lt2. h i (omega arith)) ∙ ap (λ x. Some (digits_sum (λ i. x / 256 ^ i % 256) 1)) low ∙ ap Some (one_digit t (omega arith)) in
    ap (λ x. core.or_number None (option_map (λ i. core.Number (cut_to int.UChar (pos i))) x)) there ∙ ap (λ x. Some (core.Number (record { ty = int.UChar; number = x }))) (cut_small t lt)
  where
    bytes_some : (ty : IntTy) → 0 < bytes_of ty
    bytes_some int.Char = omega arith
    bytes_some int.SChar = omega arith
    bytes_some int.UChar = omega arith
    bytes_some int.Short = omega arith
    bytes_some int.UShort = omega arith
    bytes_some int.Int = omega arith
    bytes_some int.UInt = omega arith
    bytes_some int.Long = omega arith
    bytes_some int.ULong = omega arith

module _ (z : Scene) (laws : SceneLaws z) where
  row_is : (op : BinOp) (left right : Expression) (x : Quantity) (at : ℕ) (k : List Pending) (cp : CopyOf) → shifts_by_constant op right ≡ false → type_of left ≡ types.Int x.ty → beyond (base (ground_in z cp) k) (value_width (ground_in z cp).layout left) ≡ at
      → todo (binary_row (shifts_by_constant op right) op (operation_type (type_of left)) (Frame (ground_in z cp).copy (base (ground_in z cp) k)) (Frame (ground_in z cp).copy (beyond (base (ground_in z cp) k) (value_width (ground_in z cp).layout left))) (constant_bits right) (value_width (ground_in z cp).layout right)) (code_after (ground_in z cp) k)
      ≡ Todo [] (code.Binary op x.ty (Frame (number z cp) (base (ground_in z cp) k)) (Frame (number z cp) (base (ground_in z cp) k)) (Frame (number z cp) at)) ∷ code_after (ground_in z cp) k
  row_is op left right x at k cp plain type second =
      let g = ground_in z cp in
      let b = base g k in
      ap (λ f. todo (binary_row f op (operation_type (type_of left)) (Frame g.copy b) (Frame g.copy (beyond b (value_width g.layout left))) (constant_bits right) (value_width g.layout right)) (code_after g k)) plain
      ∙ ap (λ t. Todo [] (code.Binary op (operation_type t) (Frame g.copy b) (Frame g.copy b) (Frame g.copy (beyond b (value_width g.layout left)))) ∷ code_after g k) type
      ∙ ap (λ f. Todo [] (code.Binary op x.ty (Frame g.copy b) (Frame g.copy b) (Frame g.copy f)) ∷ code_after g k) second
      ∙ ap (λ f. Todo [] (code.Binary op x.ty (Frame f b) (Frame f b) (Frame f at)) ∷ code_after g k) (own_copy z cp)

  pub product_given : (op : BinOp) (left right : Expression) (ty : Ty) (line : ℕ) (x y : Quantity) (at : ℕ) (k : List Pending) (cp : CopyOf) (l : source.Memory) (w : World value.Byte) (c : Machine) → IsProduct op → Around z cp k → Resumables cp.root k → nat_lt 1 (bytes_of x.ty) ≡ true → type_of left ≡ types.Int x.ty → y.ty ≡ x.ty → IsInRange x.ty x.number → IsInRange y.ty y.number → (core_in z).program.helped (number z cp) op x.ty ≡ true
      → beyond (base (ground_in z cp) k) (value_width (ground_in z cp).layout left) ≡ at → base (ground_in z cp) k + bytes_of x.ty ≤ (core_in z).program.frame_bytes (number z cp) → at + bytes_of x.ty ≤ (core_in z).program.frame_bytes (number z cp) → is_due (arrived z.outside w) ≡ false
      → Mirrors z (state cp (Value (datum.Number y)) (In (tree.Binary op left right ty line) (One (datum.Number x)) ∷ k) l w) c
      → Follow z 2138 0 c (take_in (source_in z) (tree.Binary op left right ty line) (One (datum.Number x)) (datum.Number y) k cp l (arrived z.outside w))
  unfolding binary_answer
  product_given op left right ty line x y at k cp l w c product around resumables two type yt xr yr there second room from due h =
      let n = number z cp in
      let g = ground_in z cp in
      let pr = product_right op x.ty product in
      let plain : shifts_by_constant op right ≡ false = ap (λ f. f && is_constant right) pr.1 in
      let at_is : HasDatum z n at (datum.Number y) c.memory = subst (λ f. HasDatum z n f (datum.Number y) c.memory) second (subst (λ f. HasDatum z f (beyond (base g k) (value_width g.layout left)) (datum.Number y) c.memory) (own_copy z cp) h.value) in
      answer_case z laws (bad_right op ty (datum.Number y)) (outcome op x y) op left right ty line x y at k cp l w c refl
      (λ none. record { u = y; there = ap (λ t. value_in t c.memory (Frame n at)) (pr.0 ∙ sym yt) ∙ value_number z n at y c.memory yr at_is; alike = refl })
      around resumables (product_helps op product) two xr there room (let q = ap bytes_of pr.0 in omega arith) due (row_is op left right x at k cp plain type second) h

  pub shift_given : (op : BinOp) (left right : Expression) (line : ℕ) (x y : Quantity) (at : ℕ) (k : List Pending) (cp : CopyOf) (l : source.Memory) (w : World value.Byte) (c : Machine) → Shifts op → shifts_by_constant op right ≡ false → Around z cp k → Resumables cp.root k → nat_lt 1 (bytes_of x.ty) ≡ true → type_of left ≡ types.Int x.ty → IsInRange x.ty x.number → (core_in z).program.helped (number z cp) op x.ty ≡ true
      → beyond (base (ground_in z cp) k) (value_width (ground_in z cp).layout left) ≡ at → base (ground_in z cp) k + bytes_of x.ty ≤ (core_in z).program.frame_bytes (number z cp) → at + 1 ≤ (core_in z).program.frame_bytes (number z cp) → is_due (arrived z.outside w) ≡ false
      → Mirrors z (state cp (Value (datum.Number y)) (In (tree.Binary op left right (types.Int x.ty) line) (One (datum.Number x)) ∷ k) l w) c
      → Follow z 2138 0 c (take_in (source_in z) (tree.Binary op left right (types.Int x.ty) line) (One (datum.Number x)) (datum.Number y) k cp l (arrived z.outside w))
  unfolding binary_answer
  shift_given op left right line x y at k cp l w c shift plain around resumables two type xr there second room from due h =
      let n = number z cp in
      let g = ground_in z cp in
      let rt = shift_right op x.ty shift in
      let at_is : HasDatum z n at (datum.Number y) c.memory = subst (λ f. HasDatum z n f (datum.Number y) c.memory) second (subst (λ f. HasDatum z f (beyond (base g k) (value_width g.layout left)) (datum.Number y) c.memory) (own_copy z cp) h.value) in
      answer_case z laws (bad_right op (types.Int x.ty) (datum.Number y)) (outcome op x y) op left right (types.Int x.ty) line x y at k cp l w c refl
      (λ none.
      let t = count_small x.ty y.number (shift_bad op x.ty y shift none) in
      record {
        u = record { ty = int.UChar; number = pos t.0 };
        there = ap (λ ty. value_in ty c.memory (Frame n at)) rt ∙ count_there z n at t.0 y c.memory t.1 t.2 at_is;
        alike = ap (λ i. if has_no_value op x.ty x.number i then None else Some (cut_to (numbers.type_of op x.ty) (numbers.exact op x.ty x.number i))) (sym t.1);
      })
      around resumables (shift_helps op shift) two xr there room (let q = ap bytes_of rt in omega arith) due (row_is op left right x at k cp plain type second) h
