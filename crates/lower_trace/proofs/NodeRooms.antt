-- Where a node's value stands that is written: behind the pointer to its place, with room for it, and for the node's own value.
use Rattle.std.proofs.Common.{◌≡◌, ℕ, ◌+◌, ◌<◌, ◌≤◌, inl, inr, true, List, ap, ◌∙◌, arith}
use Rattle.std.proofs.lemmas.Bool.{false≢true}
use Rattle.std.specs.List.{All}
use Rattle.c_ints.specs.Conversions.{common}
use Rattle.c_ints.specs.Range.{bytes_of}
use Rattle.c_ints.specs.declared.operators.BinOp.{BinOp}
use Rattle.c_ints.specs.declared.types.IntTy.{IntTy}
use Rattle.c_ints.specs.declared.types.IntTy.TheVariants as int
use Rattle.c_typed.specs.Room.{place_room, room}
use Rattle.c_typed.specs.Rules.{integer_step_fits}
use Rattle.c_typed.specs.Trees as tree
use Rattle.c_typed.specs.Trees.{Expression, Place, Program}
use Rattle.c_typed.specs.Types.{form_of, place_bytes, place_type, type_bytes, value_bytes}
use Rattle.c_typed.specs.declared.expression.StepOp.{StepOp}
use Rattle.c_typed.specs.declared.types.Ty.{Ty}
use Rattle.c_typed.specs.declared.types.Ty.TheVariants as types
use Rattle.core_puts.specs.Bytes.{beyond}
use Rattle.lower_expr.specs.Layout.{place_width, width}
use Rattle.lower_expr.specs.Lowering.{behind_pointer}
use Rattle.lower_expr.specs.Spots.{pointer_bytes, spot_of}
use Rattle.src_rules.proofs.Rules.{IsStep, assign_rule, update_rule, step_rule}
use Rattle.src_rules.proofs.Values.{same_int_is}
use Rattle.src_rules.specs.Parts.{Obeys}
use Rattle.src_rules.specs.Standing.{IsReached}
use Rattle.src_values.specs.Control.{Pending}
use Rattle.src_values.specs.declared.objects.CopyOf.{CopyOf}
use Rattle.lower_trace.specs.Lowering.{IsLowerable}
use Rattle.lower_trace.proofs.CodeLeft.{Scene, base, core_in, ground_in, number, stored}
use Rattle.lower_trace.proofs.Fitting.{frame_of, pointer_at, value_at, width_is}
use Rattle.lower_trace.proofs.Known.{small}
use Rattle.lower_trace.proofs.Operations.{beyond_is}
use Rattle.lower_trace.proofs.Rooms.{assign_parts, pointer_is, update_parts}
use Rattle.lower_trace.proofs.Scenes.{frame_is}

pub record Ahead (z : Scene) (cp : CopyOf) (k : List Pending) (e : Expression) (sought : Place) (count : ℕ) : Type 0 where
  pub front : base (ground_in z cp) k ≤ 96
  pub room : stored (ground_in z cp) (base (ground_in z cp) k) e + count ≤ (core_in z).program.frame_bytes (number z cp)
  pub ahead : base (ground_in z cp) k + count ≤ (core_in z).program.frame_bytes (number z cp)
  pub far : base (ground_in z cp) k + pointer_bytes (spot_of (ground_in z cp).layout (ground_in z cp).copy sought) ≤ stored (ground_in z cp) (base (ground_in z cp) k) e

-- where the old value of a step stands
pub record Behind (z : Scene) (cp : CopyOf) (k : List Pending) (e : Expression) (operation : Ty) (count : ℕ) : Type 0 where
  pub higher : stored (ground_in z cp) (base (ground_in z cp) k) e + count ≤ beyond (stored (ground_in z cp) (base (ground_in z cp) k) e) (width (ground_in z cp).layout operation)
  pub room : beyond (stored (ground_in z cp) (base (ground_in z cp) k) e) (width (ground_in z cp).layout operation) + count ≤ (core_in z).program.frame_bytes (number z cp)

-- ---- what a step counts in is no shorter than its place
common_wider : (t : IntTy) → bytes_of t ≤ bytes_of (common t int.Int)
common_wider int.Char = omega arith
common_wider int.SChar = omega arith
common_wider int.UChar = omega arith
common_wider int.Short = omega arith
common_wider int.UShort = omega arith
common_wider int.Int = omega arith
common_wider int.UInt = omega arith
common_wider int.Long = omega arith
common_wider int.ULong = omega arith

int_wider : (sizes : List ℕ) (ty operation : Ty) → integer_step_fits ty operation ≡ true → type_bytes sizes ty ≤ type_bytes sizes operation
int_wider sizes (types.Int t) (types.Int o) e = let is = ap bytes_of (same_int_is o (common t int.Int) e) in let w = common_wider t in omega arith
int_wider sizes (types.Int t) types.Void e = absurd (false≢true e)
int_wider sizes (types.Int t) (types.Pointer row) e = absurd (false≢true e)
int_wider sizes (types.Int t) (types.Array element length bytes) e = absurd (false≢true e)
int_wider sizes (types.Int t) (types.Struct number) e = absurd (false≢true e)
int_wider sizes types.Void operation e = absurd (false≢true e)
int_wider sizes (types.Pointer row) operation e = absurd (false≢true e)
int_wider sizes (types.Array element length bytes) operation e = absurd (false≢true e)
int_wider sizes (types.Struct number) operation e = absurd (false≢true e)

pub step_wider : (p : Program) (operation ty : Ty) → IsStep p operation ty → type_bytes p.sizes ty ≤ type_bytes p.sizes operation
step_wider p operation ty (inl e) = int_wider p.sizes ty operation e
step_wider p operation ty (inr h) = let is = ap (type_bytes p.sizes) h.0 in omega arith

module _ (z : Scene) (given : IsLowerable z.program z.copies) (input : All (λ byte. byte < 256) z.outside.input) (cp : CopyOf) (reached : IsReached z.program cp) (k : List Pending) where
  pub assign_ahead : (sought : Place) (right : Expression) (ty : Ty) (line : ℕ) → Obeys z.program (tree.Assign sought right ty line) → base (ground_in z cp) k + room z.program.sizes (tree.Assign sought right ty line) ≤ frame_of z cp
      → Ahead z cp k (tree.Assign sought right ty line) sought (type_bytes z.program.sizes ty)
  unfolding room
  assign_ahead sought right ty line rule fits =
      let sizes = z.program.sizes in
      let g = ground_in z cp in
      let less = small z given input cp reached in
      let f = frame_is z given cp reached in
      let t = ap (type_bytes sizes) (assign_rule z.program sought right ty line rule).1 in
      let q = (assign_parts (place_room sizes sought) (form_of sought) (room sizes right) (value_bytes sizes right)).2 in
      let p = pointer_is g.layout g.copy sought in
      let a = pointer_at z cp less (base g k) sought (omega arith) in
      record { front = omega arith; room = omega arith; ahead = omega arith; far = omega arith }

  pub update_ahead : (op : BinOp) (sought : Place) (right : Expression) (operation : Ty) (size : ℕ) (ty : Ty) (line : ℕ) → Obeys z.program (tree.Update op sought right operation size ty line) → base (ground_in z cp) k + room z.program.sizes (tree.Update op sought right operation size ty line) ≤ frame_of z cp
      → Ahead z cp k (tree.Update op sought right operation size ty line) sought (type_bytes z.program.sizes ty) × (place_width (ground_in z cp).layout sought ≡ type_bytes z.program.sizes ty)
  unfolding room
  update_ahead op sought right operation size ty line rule fits =
      let sizes = z.program.sizes in
      let g = ground_in z cp in
      let less = small z given input cp reached in
      let f = frame_is z given cp reached in
      let same = ap (type_bytes sizes) (update_rule z.program op sought right operation size ty line rule).0 in
      let q = (update_parts (place_room sizes sought) (form_of sought) (place_bytes sizes sought) (room sizes right) (value_bytes sizes right) (type_bytes sizes operation)).2 in
      let p = pointer_is g.layout g.copy sought in
      let a = pointer_at z cp less (base g k) sought (omega arith) in
      let v = value_at z cp less (behind_pointer g.layout g.copy (base g k) sought) right (omega arith) in
      (record { front = omega arith; room = omega arith; ahead = omega arith; far = omega arith }, width_is z cp (place_type sought).ty (omega arith) ∙ same)

  pub step_ahead : (op : StepOp) (sought : Place) (operation : Ty) (size : ℕ) (ty : Ty) (line : ℕ) → Obeys z.program (tree.Step op sought operation size ty line) → base (ground_in z cp) k + room z.program.sizes (tree.Step op sought operation size ty line) ≤ frame_of z cp → type_bytes z.program.sizes ty ≤ type_bytes z.program.sizes operation
      → Ahead z cp k (tree.Step op sought operation size ty line) sought (type_bytes z.program.sizes ty) × Behind z cp k (tree.Step op sought operation size ty line) operation (type_bytes z.program.sizes ty) × (place_width (ground_in z cp).layout sought ≡ type_bytes z.program.sizes ty)
  unfolding room
  step_ahead op sought operation size ty line rule fits wider =
      let sizes = z.program.sizes in
      let g = ground_in z cp in
      let less = small z given input cp reached in
      let f = frame_is z given cp reached in
      let same = ap (type_bytes sizes) (step_rule z.program op sought operation size ty line rule).0 in
      let q = (update_parts (place_room sizes sought) (form_of sought) (place_bytes sizes sought) 2 2 (type_bytes sizes operation)).2 in
      let p = pointer_is g.layout g.copy sought in
      let a = pointer_at z cp less (base g k) sought (omega arith) in
      let w = width_is z cp operation (omega arith) in
      let e = beyond_is (behind_pointer g.layout g.copy (base g k) sought) (width g.layout operation) (omega arith) in
      let d = beyond_is (beyond (behind_pointer g.layout g.copy (base g k) sought) (width g.layout operation)) (width g.layout operation) (omega arith) in
      (record { front = omega arith; room = omega arith; ahead = omega arith; far = omega arith }, record { higher = omega arith; room = omega arith }, width_is z cp (place_type sought).ty (omega arith) ∙ same)
