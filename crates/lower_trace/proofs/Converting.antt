-- Conversions and casts. Byte code has an operation only for those to more bytes.
use Rattle.c_ints.specs.Operators.{cut_to}
use Rattle.c_ints.specs.Quantity.{Quantity}
use Rattle.c_ints.specs.Range.{IsInRange, bytes_of, cut, pattern}
use Rattle.c_ints.specs.declared.types.IntTy.TheVariants as int
use Rattle.c_ints.specs.declared.types.IntTy.{IntTy}
use Rattle.c_typed.specs.Sameness.{is_pointer}
use Rattle.c_typed.specs.Trees as tree
use Rattle.c_typed.specs.Trees.{Expression}
use Rattle.c_typed.specs.Types.{type_of}
use Rattle.c_typed.specs.Words.{convert_words}
use Rattle.c_typed.specs.declared.types.Ty.TheVariants as types
use Rattle.c_typed.specs.declared.types.Ty.{Ty}
use Rattle.core_code.specs.Bytes.{Memory, with_bytes}
use Rattle.core_code.specs.Machine.{Machine, Do as Todo}
use Rattle.core_code.specs.Tree as code
use Rattle.core_code.specs.Values as core
use Rattle.core_code.specs.declared.code.Byte.TheVariants.{Frame}
use Rattle.core_code.specs.declared.code.Byte.{Byte}
use Rattle.core_puts.specs.Bytes.{number_type}
use Rattle.lower_expr.specs.Rows.{widened, widened_number, wider}
use Rattle.lower_trace.proofs.Beginnings.{Follow, rests}
use Rattle.lower_trace.proofs.CodeLeft.{Scene, base, code_after, core_in, ground_in, held, number, source_in, stack_after, todo, wanted}
use Rattle.lower_trace.proofs.Computing.{widened_given}
use Rattle.lower_trace.proofs.Constants.{again_below, due_below, same_below}
use Rattle.lower_trace.proofs.Giving.{Around, gives, placed_of}
use Rattle.lower_trace.proofs.Kept.{SceneLaws, bytes_small, own_copy}
use Rattle.lower_trace.proofs.Mirrors.{Agrees, HasDatum, HasIf, Holds, Mirrors}
use Rattle.lower_trace.proofs.Narrowing.{narrow_bytes, pattern_cut, zero_bytes}
use Rattle.lower_trace.proofs.Operating.{convert_words_then}
use Rattle.lower_trace.proofs.Operations.{Comes, comes_here, comes_within}
use Rattle.lower_trace.proofs.Placed.{Placed}
use Rattle.pic_world.specs.World.{World, arrived, is_due, world_as}
use Rattle.src_rules.specs.Giving.{take_in}
use Rattle.src_rules.specs.Standing.{HasType}
use Rattle.src_rules.specs.State.{state}
use Rattle.src_values.specs.Control.{In, Nothing, Pending, Holds as Value, active}
use Rattle.src_values.specs.Data as datum
use Rattle.src_values.specs.Data.{Datum}
use Rattle.src_values.specs.Memory as source
use Rattle.src_values.specs.Values.{byte_count, byte_of, converted}
use Rattle.src_values.specs.declared.objects.Byte as value
use Rattle.src_values.specs.declared.objects.Byte.TheVariants as values
use Rattle.src_values.specs.declared.objects.CopyOf.{CopyOf}
use Rattle.src_values.specs.declared.objects.Pointer.TheVariants.{Null}
use Rattle.std.proofs.Common.{Bool, List, None, Option, Some, [], ap, arith, false, if◌then◌else◌, nat_lt, pos, refl, subst, sym, true, ℕ, ◌%◌, ◌*◌, ◌+◌, ◌-◌, ◌/◌, ◌<◌, ◌^◌, ◌∙◌, ◌∷◌, ◌≡◌, ◌≤◌}
use Rattle.std.proofs.lemmas.Grind.{common_steps}

-- ---- where byte code does nothing
pub same_value : (z : Scene) (want : Bool) (n b : ℕ) (v u : Datum) (m : Memory) → byte_count u ≤ byte_count v → ((i : ℕ) → i < byte_count u → held z (byte_of v i) ≡ held z (byte_of u i)) → HasDatum z n b v m → HasIf want z n b u m
same_value z true n b v u m le s h = λ i lt. h i (omega arith) ∙ s i lt
same_value z false n b v u m le s h = tt

module _ (z : Scene) where
  convert_kept : (operand : Expression) (ty : Ty) (line : ℕ) (v u : Datum) (k : List Pending) (cp : CopyOf) (l : source.Memory) (w : World value.Byte) (c : Machine)
      → todo (widened (type_of operand) ty (Frame (ground_in z cp).copy (base (ground_in z cp) k))) (code_after (ground_in z cp) k) ≡ code_after (ground_in z cp) k
      → byte_count u ≤ byte_count v → ((i : ℕ) → i < byte_count u → held z (byte_of v i) ≡ held z (byte_of u i))
      → Mirrors z (state cp (Value v) (In (tree.Convert operand ty line) Nothing ∷ k) l w) c → Comes (core_in z) (Mirrors z (state cp (Value u) k l (arrived z.outside w))) 0 0 c
  unfolding active
  convert_kept operand ty line v u k cp l w c none le same h =
      rests z cp (Value v) (Value u) (In (tree.Convert operand ty line) Nothing ∷ k) k l l w c h refl none refl h.agrees h.holds.1
      (same_value z (wanted k) (ground_in z cp).copy (base (ground_in z cp) k) v u c.memory le same h.value)

  cast_kept : (operand : Expression) (ty : Ty) (line : ℕ) (v u : Datum) (k : List Pending) (cp : CopyOf) (l : source.Memory) (w : World value.Byte) (c : Machine)
      → todo (widened (type_of operand) ty (Frame (ground_in z cp).copy (base (ground_in z cp) k))) (code_after (ground_in z cp) k) ≡ code_after (ground_in z cp) k
      → byte_count u ≤ byte_count v → ((i : ℕ) → i < byte_count u → held z (byte_of v i) ≡ held z (byte_of u i))
      → Mirrors z (state cp (Value v) (In (tree.Cast operand ty line) Nothing ∷ k) l w) c → Comes (core_in z) (Mirrors z (state cp (Value u) k l (arrived z.outside w))) 0 0 c
  unfolding active
  cast_kept operand ty line v u k cp l w c none le same h =
      rests z cp (Value v) (Value u) (In (tree.Cast operand ty line) Nothing ∷ k) k l l w c h refl none refl h.agrees h.holds.1
      (same_value z (wanted k) (ground_in z cp).copy (base (ground_in z cp) k) v u c.memory le same h.value)

-- ---- to more bytes
-- a number that stands at the front of what is free becomes one of more bytes
pub widening_goes : (z : Scene) (laws : SceneLaws z) (to : IntTy) (x : Quantity) (k : List Pending) (cp : CopyOf) (l : source.Memory) (w : World value.Byte) (c : Machine) → Around z cp k → nat_lt (bytes_of x.ty) (bytes_of to) ≡ true → IsInRange x.ty x.number
    → base (ground_in z cp) k + bytes_of x.ty ≤ (core_in z).program.frame_bytes (number z cp) → base (ground_in z cp) k + bytes_of to ≤ (core_in z).program.frame_bytes (number z cp) → is_due (arrived z.outside w) ≡ false
    → (v : Datum) → byte_count v ≤ bytes_of to → ((i : ℕ) → i < byte_count v → held z (byte_of (datum.Number (cut_to to x.number)) i) ≡ held z (byte_of v i))
    → Agrees z (active cp (Value v) k) l c.memory → Holds z (ground_in z cp) k c.memory → HasDatum z (number z cp) (base (ground_in z cp) k) (datum.Number x) c.memory
    → Placed (core_in z) (number z cp) None (Todo [] (code.Convert x.ty to (Frame (number z cp) (base (ground_in z cp) k))) ∷ code_after (ground_in z cp) k) (stack_after z (ground_in z cp) k) c.memory (world_as (held z) (arrived z.outside w)) c
    → Comes (core_in z) (Mirrors z (state cp (Value v) k l (arrived z.outside w))) (8 + 4 * (bytes_of to - bytes_of x.ty)) 0 c
unfolding active
widening_goes z laws to x k cp l w c around wider_is xr room out due v few same agrees holds hx p =
    let n = number z cp in
    let g = ground_in z cp in
    let b = base g k in
    let q = cut_to to x.number in
    let W = world_as (held z) (arrived z.outside w) in
    let T = Mirrors z (state cp (Value v) k l (arrived z.outside w)) in
    let s = stack_after z g k in
    comes_within (core_in z) T (8 + 4 * (bytes_of to - bytes_of x.ty) + 0) 0 (8 + 4 * (bytes_of to - bytes_of x.ty)) 0 c
    (convert_words_then z (core_in z) T n s W (due_below z (arrived z.outside w) due) (again_below z w) to x b (code_after g k) c.memory c 0 0 xr wider_is room out hx p
    (λ d pd. comes_here (core_in z) T d
    (gives z laws cp k l (arrived z.outside w) c.memory (bytes_of to) (core.byte_of (core.Number q)) v d around few same
    (subst (λ f. Placed (core_in z) n None (code_after g k) s (with_bytes c.memory (Frame n b) (bytes_of to) (core.byte_of (core.Number q))) f d) (same_below z w) pd)
    agrees holds)))
    (omega arith) (omega arith)

none_wider : (o : Option IntTy) (at : Byte) → widened_number o None at ≡ []
none_wider None at = refl
none_wider (Some ty) at = refl

not_wider : (from to : IntTy) (at : Byte) → nat_lt (bytes_of from) (bytes_of to) ≡ false → wider from to at ≡ []
not_wider from to at e = rw e refl

is_wider_so : (from to : IntTy) (at : Byte) → nat_lt (bytes_of from) (bytes_of to) ≡ true → wider from to at ≡ code.Convert from to at ∷ []
is_wider_so from to at e = rw e refl

pub not_less : (a b : ℕ) → nat_lt a b ≡ false → b ≤ a
not_less a b e = grind (arith, common_steps)

-- ---- what is converted
-- The room for the value before and behind.
pub record Converted (z : Scene) (cp : CopyOf) (k : List Pending) (from to : ℕ) : Type 0 where
  pub around : Around z cp k
  pub before : base (ground_in z cp) k + from ≤ (core_in z).program.frame_bytes (number z cp)
  pub behind : base (ground_in z cp) k + to ≤ (core_in z).program.frame_bytes (number z cp)

-- a number becomes one of another type
number_case : (z : Scene) (laws : SceneLaws z) (operand : Expression) (to : IntTy) (line : ℕ) (x : Quantity) (more : Bool) (k : List Pending) (cp : CopyOf) (l : source.Memory) (w : World value.Byte) (c : Machine) → nat_lt (bytes_of x.ty) (bytes_of to) ≡ more → Converted z cp k (bytes_of x.ty) (bytes_of to) → type_of operand ≡ types.Int x.ty → IsInRange x.ty x.number → is_due (arrived z.outside w) ≡ false
    → Mirrors z (state cp (Value (datum.Number x)) (In (tree.Convert operand (types.Int to) line) Nothing ∷ k) l w) c → Comes (core_in z) (Mirrors z (state cp (Value (datum.Number (cut_to to x.number))) k l (arrived z.outside w))) (if more then 8 + 4 * (bytes_of to - bytes_of x.ty) else 0) 0 c
unfolding converted
number_case z laws operand to line x true k cp l w c e room type xr due h =
    comes_within (core_in z) (Mirrors z (state cp (Value (datum.Number (cut_to to x.number))) k l (arrived z.outside w))) (8 + 4 * (bytes_of to - bytes_of x.ty)) 0 (8 + 4 * (bytes_of to - bytes_of x.ty)) 0 c
    (widened_given z laws operand to line x k cp l w c room.around type e xr room.before room.behind due h)
    (omega arith) (omega arith)
number_case z laws operand to line x false k cp l w c e room type xr due h =
    let g = ground_in z cp in
    let at = Frame g.copy (base g k) in
    let le = not_less (bytes_of x.ty) (bytes_of to) e in
    comes_within (core_in z) (Mirrors z (state cp (Value (datum.Number (cut_to to x.number))) k l (arrived z.outside w))) 0 0 0 0 c
    (convert_kept z operand (types.Int to) line (datum.Number x) (datum.Number (cut_to to x.number)) k cp l w c
    (ap (λ t. todo (widened t (types.Int to) at) (code_after g k)) type ∙ ap (λ ts. todo ts (code_after g k)) (not_wider x.ty to at e))
    le
    (λ i lt. ap (λ y. held z (values.Number y)) (sym (narrow_bytes x.ty to x.number i le lt)))
    h)
    (omega arith) (omega arith)

number_cast : (z : Scene) (laws : SceneLaws z) (operand : Expression) (to : IntTy) (line : ℕ) (x : Quantity) (more : Bool) (k : List Pending) (cp : CopyOf) (l : source.Memory) (w : World value.Byte) (c : Machine) → nat_lt (bytes_of x.ty) (bytes_of to) ≡ more → Converted z cp k (bytes_of x.ty) (bytes_of to) → type_of operand ≡ types.Int x.ty → IsInRange x.ty x.number → is_due (arrived z.outside w) ≡ false
    → Mirrors z (state cp (Value (datum.Number x)) (In (tree.Cast operand (types.Int to) line) Nothing ∷ k) l w) c → Comes (core_in z) (Mirrors z (state cp (Value (datum.Number (cut_to to x.number))) k l (arrived z.outside w))) 24 0 c
unfolding active
number_cast z laws operand to line x true k cp l w c e room type xr due h =
    let g = ground_in z cp in
    let n = number z cp in
    let b = base g k in
    let now : todo (widened (type_of operand) (types.Int to) (Frame g.copy b)) (code_after g k) ≡ Todo [] (code.Convert x.ty to (Frame n b)) ∷ code_after g k =
    ap (λ t. todo (widened t (types.Int to) (Frame g.copy b)) (code_after g k)) type ∙ ap (λ ts. todo ts (code_after g k)) (is_wider_so x.ty to (Frame g.copy b) e) ∙ ap (λ i. Todo [] (code.Convert x.ty to (Frame i b)) ∷ code_after g k) (own_copy z cp) in
    let few = bytes_small to in
    comes_within (core_in z) (Mirrors z (state cp (Value (datum.Number (cut_to to x.number))) k l (arrived z.outside w))) (8 + 4 * (bytes_of to - bytes_of x.ty)) 0 24 0 c
    (widening_goes z laws to x k cp l w c room.around e xr room.before room.behind due (datum.Number (cut_to to x.number)) (omega arith) (λ i lt. refl) h.agrees h.holds.1
    (subst (λ i. HasDatum z i b (datum.Number x) c.memory) (own_copy z cp) h.value)
    (subst (λ f. Placed (core_in z) n None f (stack_after z g k) c.memory (world_as (held z) (arrived z.outside w)) c) now (placed_of z (state cp (Value (datum.Number x)) (In (tree.Cast operand (types.Int to) line) Nothing ∷ k) l w) c h)))
    (omega arith) (omega arith)
number_cast z laws operand to line x false k cp l w c e room type xr due h =
    let g = ground_in z cp in
    let at = Frame g.copy (base g k) in
    let le = not_less (bytes_of x.ty) (bytes_of to) e in
    comes_within (core_in z) (Mirrors z (state cp (Value (datum.Number (cut_to to x.number))) k l (arrived z.outside w))) 0 0 24 0 c
    (cast_kept z operand (types.Int to) line (datum.Number x) (datum.Number (cut_to to x.number)) k cp l w c
    (ap (λ t. todo (widened t (types.Int to) at) (code_after g k)) type ∙ ap (λ ts. todo ts (code_after g k)) (not_wider x.ty to at e))
    le
    (λ i lt. ap (λ y. held z (values.Number y)) (sym (narrow_bytes x.ty to x.number i le lt)))
    h)
    (omega arith) (omega arith)

-- an integer constant 0 becomes the null pointer
null_byte : (z : Scene) (ty : IntTy) (x i : ℕ) → x ≡ 0 → held z (values.Number x) ≡ held z (byte_of (datum.Pointer Null) i)
null_byte z ty x i e = ap (λ y. held z (values.Number y)) e

null_case : (z : Scene) (laws : SceneLaws z) (operand : Expression) (row line : ℕ) (x : Quantity) (more : Bool) (k : List Pending) (cp : CopyOf) (l : source.Memory) (w : World value.Byte) (c : Machine) → nat_lt (bytes_of x.ty) 2 ≡ more → x.number ≡ pos 0 → Converted z cp k (bytes_of x.ty) 2 → type_of operand ≡ types.Int x.ty → IsInRange x.ty x.number → is_due (arrived z.outside w) ≡ false
    → Mirrors z (state cp (Value (datum.Number x)) (In (tree.Convert operand (types.Pointer row) line) Nothing ∷ k) l w) c → Comes (core_in z) (Mirrors z (state cp (Value (datum.Pointer Null)) k l (arrived z.outside w))) (if more then 8 + 4 * (2 - bytes_of x.ty) else 0) 0 c
unfolding active
null_case z laws operand row line x true k cp l w c e zero room type xr due h =
    let g = ground_in z cp in
    let n = number z cp in
    let b = base g k in
    let now : todo (widened (type_of operand) (types.Pointer row) (Frame g.copy b)) (code_after g k) ≡ Todo [] (code.Convert x.ty int.UInt (Frame n b)) ∷ code_after g k =
    ap (λ t. todo (widened t (types.Pointer row) (Frame g.copy b)) (code_after g k)) type ∙ ap (λ ts. todo ts (code_after g k)) (is_wider_so x.ty int.UInt (Frame g.copy b) e) ∙ ap (λ i. Todo [] (code.Convert x.ty int.UInt (Frame i b)) ∷ code_after g k) (own_copy z cp) in
    comes_within (core_in z) (Mirrors z (state cp (Value (datum.Pointer Null)) k l (arrived z.outside w))) (8 + 4 * (2 - bytes_of x.ty)) 0 (8 + 4 * (2 - bytes_of x.ty)) 0 c
    (widening_goes z laws int.UInt x k cp l w c room.around e xr room.before room.behind due (datum.Pointer Null) (omega arith)
    (λ i lt. null_byte z int.UInt (pattern int.UInt (cut int.UInt x.number) / 256 ^ i % 256) i (ap (λ y. y / 256 ^ i % 256) (pattern_cut int.UInt x.number) ∙ ap (λ y. pattern int.UInt y / 256 ^ i % 256) zero ∙ zero_bytes int.UInt i))
    h.agrees h.holds.1
    (subst (λ i. HasDatum z i b (datum.Number x) c.memory) (own_copy z cp) h.value)
    (subst (λ f. Placed (core_in z) n None f (stack_after z g k) c.memory (world_as (held z) (arrived z.outside w)) c) now (placed_of z (state cp (Value (datum.Number x)) (In (tree.Convert operand (types.Pointer row) line) Nothing ∷ k) l w) c h)))
    (omega arith) (omega arith)
null_case z laws operand row line x false k cp l w c e zero room type xr due h =
    let g = ground_in z cp in
    let at = Frame g.copy (base g k) in
    let le = not_less (bytes_of x.ty) 2 e in
    comes_within (core_in z) (Mirrors z (state cp (Value (datum.Pointer Null)) k l (arrived z.outside w))) 0 0 0 0 c
    (convert_kept z operand (types.Pointer row) line (datum.Number x) (datum.Pointer Null) k cp l w c
    (ap (λ t. todo (widened t (types.Pointer row) at) (code_after g k)) type ∙ ap (λ ts. todo ts (code_after g k)) (not_wider x.ty int.UInt at e))
    le
    (λ i lt. null_byte z x.ty (pattern x.ty x.number / 256 ^ i % 256) i (ap (λ y. pattern x.ty y / 256 ^ i % 256) zero ∙ zero_bytes x.ty i))
    h)
    (omega arith) (omega arith)

null_cast : (z : Scene) (laws : SceneLaws z) (operand : Expression) (row line : ℕ) (x : Quantity) (more : Bool) (k : List Pending) (cp : CopyOf) (l : source.Memory) (w : World value.Byte) (c : Machine) → nat_lt (bytes_of x.ty) 2 ≡ more → x.number ≡ pos 0 → Converted z cp k (bytes_of x.ty) 2 → type_of operand ≡ types.Int x.ty → IsInRange x.ty x.number → is_due (arrived z.outside w) ≡ false
    → Mirrors z (state cp (Value (datum.Number x)) (In (tree.Cast operand (types.Pointer row) line) Nothing ∷ k) l w) c → Comes (core_in z) (Mirrors z (state cp (Value (datum.Pointer Null)) k l (arrived z.outside w))) 24 0 c
unfolding active
null_cast z laws operand row line x true k cp l w c e zero room type xr due h =
    let g = ground_in z cp in
    let n = number z cp in
    let b = base g k in
    let now : todo (widened (type_of operand) (types.Pointer row) (Frame g.copy b)) (code_after g k) ≡ Todo [] (code.Convert x.ty int.UInt (Frame n b)) ∷ code_after g k =
    ap (λ t. todo (widened t (types.Pointer row) (Frame g.copy b)) (code_after g k)) type ∙ ap (λ ts. todo ts (code_after g k)) (is_wider_so x.ty int.UInt (Frame g.copy b) e) ∙ ap (λ i. Todo [] (code.Convert x.ty int.UInt (Frame i b)) ∷ code_after g k) (own_copy z cp) in
    comes_within (core_in z) (Mirrors z (state cp (Value (datum.Pointer Null)) k l (arrived z.outside w))) (8 + 4 * (2 - bytes_of x.ty)) 0 24 0 c
    (widening_goes z laws int.UInt x k cp l w c room.around e xr room.before room.behind due (datum.Pointer Null) (omega arith)
    (λ i lt. null_byte z int.UInt (pattern int.UInt (cut int.UInt x.number) / 256 ^ i % 256) i (ap (λ y. y / 256 ^ i % 256) (pattern_cut int.UInt x.number) ∙ ap (λ y. pattern int.UInt y / 256 ^ i % 256) zero ∙ zero_bytes int.UInt i))
    h.agrees h.holds.1
    (subst (λ i. HasDatum z i b (datum.Number x) c.memory) (own_copy z cp) h.value)
    (subst (λ f. Placed (core_in z) n None f (stack_after z g k) c.memory (world_as (held z) (arrived z.outside w)) c) now (placed_of z (state cp (Value (datum.Number x)) (In (tree.Cast operand (types.Pointer row) line) Nothing ∷ k) l w) c h)))
    (omega arith) (omega arith)
null_cast z laws operand row line x false k cp l w c e zero room type xr due h =
    let g = ground_in z cp in
    let at = Frame g.copy (base g k) in
    let le = not_less (bytes_of x.ty) 2 e in
    comes_within (core_in z) (Mirrors z (state cp (Value (datum.Pointer Null)) k l (arrived z.outside w))) 0 0 24 0 c
    (cast_kept z operand (types.Pointer row) line (datum.Number x) (datum.Pointer Null) k cp l w c
    (ap (λ t. todo (widened t (types.Pointer row) at) (code_after g k)) type ∙ ap (λ ts. todo ts (code_after g k)) (not_wider x.ty int.UInt at e))
    le
    (λ i lt. null_byte z x.ty (pattern x.ty x.number / 256 ^ i % 256) i (ap (λ y. pattern x.ty y / 256 ^ i % 256) zero ∙ zero_bytes x.ty i))
    h)
    (omega arith) (omega arith)

-- pointers keep their bytes
pointer_is : (ty : Ty) → is_pointer ty ≡ true → number_type ty ≡ Some int.UInt
pointer_is types.Void e = absurd (cc)
pointer_is (types.Int ty) e = absurd (cc)
pointer_is (types.Pointer row) e = refl
pointer_is (types.Array element length size) e = absurd (cc)
pointer_is (types.Struct number) e = absurd (cc)

-- ---- the laws
-- Where a number becomes a pointer, it is 0: only a null constant does.
abbrev pub IsNullFor : Ty → Datum → Type 0
IsNullFor (types.Pointer row) (datum.Number q) = q.number ≡ pos 0
IsNullFor _ _ = Unit {0}

-- how many bytes the value before has, for the room
abbrev pub to_bytes : Ty → ℕ
to_bytes (types.Int ty) = bytes_of ty
to_bytes (types.Pointer row) = 2
to_bytes _ = 0

-- what a conversion of a value takes; a value that is missing has none
abbrev pub convert_most : Datum → Ty → ℕ
convert_most (datum.Number x) ty = convert_words (bytes_of x.ty) (to_bytes ty)
convert_most (datum.Pointer x) ty = convert_words 2 (to_bytes ty)
convert_most datum.Missing ty = 0

pub convert_given : (z : Scene) (laws : SceneLaws z) (operand : Expression) (ty : Ty) (line : ℕ) (v : Datum) (k : List Pending) (cp : CopyOf) (l : source.Memory) (w : World value.Byte) (c : Machine) → Converted z cp k (byte_count v) (to_bytes ty) → HasType z.program (type_of operand) v → IsNullFor ty v → is_due (arrived z.outside w) ≡ false
    → Mirrors z (state cp (Value v) (In (tree.Convert operand ty line) Nothing ∷ k) l w) c → Follow z (convert_most v ty) 0 c (take_in (source_in z) (tree.Convert operand ty line) Nothing v k cp l (arrived z.outside w))
unfolding converted
convert_given z laws operand types.Void line v k cp l w c room t null due h =
    comes_within (core_in z) (Mirrors z (state cp (Value datum.Missing) k l (arrived z.outside w))) 0 0 (convert_most v types.Void) 0 c
    (convert_kept z operand types.Void line v datum.Missing k cp l w c (ap (λ ts. todo ts (code_after (ground_in z cp) k)) (none_wider (number_type (type_of operand)) (Frame (ground_in z cp).copy (base (ground_in z cp) k)))) (omega arith) (λ i lt. absurd (omega arith)) h)
    (omega arith) (omega arith)
convert_given z laws operand (types.Int to) line (datum.Number x) k cp l w c room t null due h = number_case z laws operand to line x (nat_lt (bytes_of x.ty) (bytes_of to)) k cp l w c refl room t.0 t.1 due h
convert_given z laws operand (types.Int to) line (datum.Pointer x) k cp l w c room t null due h = tt
convert_given z laws operand (types.Int to) line datum.Missing k cp l w c room t null due h = tt
convert_given z laws operand (types.Pointer row) line (datum.Number x) k cp l w c room t null due h = null_case z laws operand row line x (nat_lt (bytes_of x.ty) 2) k cp l w c refl null room t.0 t.1 due h
convert_given z laws operand (types.Pointer row) line (datum.Pointer x) k cp l w c room t null due h =
    comes_within (core_in z) (Mirrors z (state cp (Value (datum.Pointer x)) k l (arrived z.outside w))) 0 0 (convert_most (datum.Pointer x) (types.Pointer row)) 0 c
    (convert_kept z operand (types.Pointer row) line (datum.Pointer x) (datum.Pointer x) k cp l w c (ap (λ o. todo (widened_number o (Some int.UInt) (Frame (ground_in z cp).copy (base (ground_in z cp) k))) (code_after (ground_in z cp) k)) (pointer_is (type_of operand) t.0)) (omega arith) (λ i lt. refl) h)
    (omega arith) (omega arith)
convert_given z laws operand (types.Pointer row) line datum.Missing k cp l w c room t null due h = tt
convert_given z laws operand (types.Array element length size) line v k cp l w c room t null due h = tt
convert_given z laws operand (types.Struct number) line v k cp l w c room t null due h = tt

pub cast_given : (z : Scene) (laws : SceneLaws z) (operand : Expression) (ty : Ty) (line : ℕ) (v : Datum) (k : List Pending) (cp : CopyOf) (l : source.Memory) (w : World value.Byte) (c : Machine) → Converted z cp k (byte_count v) (to_bytes ty) → HasType z.program (type_of operand) v → IsNullFor ty v → is_due (arrived z.outside w) ≡ false
    → Mirrors z (state cp (Value v) (In (tree.Cast operand ty line) Nothing ∷ k) l w) c → Follow z 24 0 c (take_in (source_in z) (tree.Cast operand ty line) Nothing v k cp l (arrived z.outside w))
unfolding converted
cast_given z laws operand types.Void line v k cp l w c room t null due h =
    comes_within (core_in z) (Mirrors z (state cp (Value datum.Missing) k l (arrived z.outside w))) 0 0 24 0 c
    (cast_kept z operand types.Void line v datum.Missing k cp l w c (ap (λ ts. todo ts (code_after (ground_in z cp) k)) (none_wider (number_type (type_of operand)) (Frame (ground_in z cp).copy (base (ground_in z cp) k)))) (omega arith) (λ i lt. absurd (omega arith)) h)
    (omega arith) (omega arith)
cast_given z laws operand (types.Int to) line (datum.Number x) k cp l w c room t null due h = number_cast z laws operand to line x (nat_lt (bytes_of x.ty) (bytes_of to)) k cp l w c refl room t.0 t.1 due h
cast_given z laws operand (types.Int to) line (datum.Pointer x) k cp l w c room t null due h = tt
cast_given z laws operand (types.Int to) line datum.Missing k cp l w c room t null due h = tt
cast_given z laws operand (types.Pointer row) line (datum.Number x) k cp l w c room t null due h = null_cast z laws operand row line x (nat_lt (bytes_of x.ty) 2) k cp l w c refl null room t.0 t.1 due h
cast_given z laws operand (types.Pointer row) line (datum.Pointer x) k cp l w c room t null due h =
    comes_within (core_in z) (Mirrors z (state cp (Value (datum.Pointer x)) k l (arrived z.outside w))) 0 0 24 0 c
    (cast_kept z operand (types.Pointer row) line (datum.Pointer x) (datum.Pointer x) k cp l w c (ap (λ o. todo (widened_number o (Some int.UInt) (Frame (ground_in z cp).copy (base (ground_in z cp) k))) (code_after (ground_in z cp) k)) (pointer_is (type_of operand) t.0)) (omega arith) (λ i lt. refl) h)
    (omega arith) (omega arith)
cast_given z laws operand (types.Pointer row) line datum.Missing k cp l w c room t null due h = tt
cast_given z laws operand (types.Array element length size) line v k cp l w c room t null due h = tt
cast_given z laws operand (types.Struct number) line v k cp l w c room t null due h = tt
