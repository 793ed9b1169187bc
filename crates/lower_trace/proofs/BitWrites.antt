-- Bits of registers are written: the bit is cut out of the value, the register is read, and written with the bit replaced.
use Rattle.c_ints.specs.Operators.{cut_to, value_of}
use Rattle.c_ints.specs.Quantity.{Quantity}
use Rattle.c_ints.specs.Range.{IsInRange, cut, pattern}
use Rattle.c_ints.specs.declared.operators.BinOp.TheVariants as ops
use Rattle.c_ints.specs.declared.types.IntTy.TheVariants as int
use Rattle.c_typed.specs.Fits.{is_device}
use Rattle.c_typed.specs.Trees as tree
use Rattle.c_typed.specs.Trees.{Expression, Place}
use Rattle.c_typed.specs.declared.types.Ty.{Ty}
use Rattle.core_code.specs.Bytes as bytes
use Rattle.core_code.specs.Bytes.{Held, Memory, with_byte, with_bytes}
use Rattle.core_code.specs.Cost.{cost_of}
use Rattle.core_code.specs.Machine as core_machine
use Rattle.core_code.specs.Machine.{Join, Machine, PutBack, Setting, Task, Do as Todo, Waiting, after_read, has_bit, operate}
use Rattle.core_code.specs.Operands.{fits_together}
use Rattle.core_code.specs.Tree as code
use Rattle.core_code.specs.Values as core
use Rattle.core_code.specs.Values.{binary_value, value_in}
use Rattle.core_code.specs.declared.code.Byte.TheVariants.{Frame, Result}
use Rattle.core_code.specs.declared.code.Byte.{Byte}
use Rattle.core_puts.specs.Bytes as lower
use Rattle.core_puts.specs.Bytes.{beyond}
use Rattle.lower_expr.specs.Layout.{width}
use Rattle.lower_expr.specs.Rows.{bit_row, kept_row}
use Rattle.lower_expr.specs.Spots.{pointer_bytes, spot_of}
use Rattle.lower_expr.specs.declared.places.Spot.TheVariants.{Bit}
use Rattle.lower_trace.proofs.Beginnings.{Follow}
use Rattle.lower_trace.proofs.Bits.{bit_there, put_back_then}
use Rattle.lower_trace.proofs.Changing.{above_written, agrees_above}
use Rattle.lower_trace.proofs.CodeLeft.{Scene, base, code_after, core_in, ground_in, held, number, source_in, stack_after, stored, stored_at, todo, wanted, writing, writing_at}
use Rattle.lower_trace.proofs.Constants.{again_below, due_below}
use Rattle.lower_trace.proofs.FixedPlaces.{device_valid}
use Rattle.lower_trace.proofs.Flow.{arrive}
use Rattle.lower_trace.proofs.Giving.{agrees_same, mirrors, placed_of}
use Rattle.lower_trace.proofs.Handing.{own_result}
use Rattle.lower_trace.proofs.Jumping.{join_then}
use Rattle.lower_trace.proofs.Kept.{SameFrame, SceneLaws, own_copy}
use Rattle.lower_trace.proofs.Mirrors.{HasDatum, HasIf, Holds, Mirrors, core_byte}
use Rattle.lower_trace.proofs.Moving.{binary_any_then, set_result_then}
use Rattle.lower_trace.proofs.Operating.{itself, value_number}
use Rattle.lower_trace.proofs.Operations.{Comes, beyond_is, comes_first, comes_here, comes_within, own_frame}
use Rattle.lower_trace.proofs.Placed.{Placed, front, least_operates, most_operates, operates}
use Rattle.lower_trace.proofs.Returning.{Resumables, holds_frames, set_others}
use Rattle.lower_trace.proofs.Written.{both, byte_same, bytes_there, on}
use Rattle.pic_world.proofs.WorldLaws.{arrived_as, gie_as, read_as, value_as, write_as}
use Rattle.pic_world.specs.World.{Happening, World, WriteOf, after_device_read, after_device_write, arrived, device_value, is_due, sets_gie, world_as}
use Rattle.pic_world.specs.declared.Cell.TheVariants as cells
use Rattle.pic_world.specs.declared.Root.{Root}
use Rattle.src_rules.specs.Accesses.{after_putting, put_bit, read_bit}
use Rattle.src_rules.specs.Standing.{IsReached}
use Rattle.src_rules.specs.State.{state}
use Rattle.src_values.specs.Accesses.{Puts, Refuses}
use Rattle.src_values.specs.Control.{In, Pending, PutBit, Stores, Holds as Value, Write, active, line_at}
use Rattle.src_values.specs.Data as datum
use Rattle.src_values.specs.Data.{Datum}
use Rattle.src_values.specs.Memory as source
use Rattle.src_values.specs.Values.{lowest_bit, number_of}
use Rattle.src_values.specs.declared.objects.Byte as value
use Rattle.src_values.specs.declared.objects.Byte.TheVariants as values
use Rattle.src_values.specs.declared.objects.CopyOf.{CopyOf}
use Rattle.src_values.specs.declared.objects.Object as object
use Rattle.src_values.specs.declared.objects.Object.TheVariants as objects
use Rattle.src_values.specs.declared.objects.Spot as spot
use Rattle.src_values.specs.declared.objects.Spot.TheVariants as spots
use Rattle.src_values.specs.declared.objects.Undef.TheVariants.{Gie}
use Rattle.std.proofs.Common.{Bool, List, None, Option, Some, [], ap, arith, false, if◌then◌else◌, option_map, pos, refl, subst, sym, true, ℕ, ℤ, ◌%◌, ◌+◌, ◌/◌, ◌<◌, ◌^◌, ◌∙◌, ◌∷◌, ◌≡◌, ◌≤◌}
use Rattle.std.proofs.lemmas.Grind.{and_numeral}

-- ---- the operation that reads a register for a bit of it to be written
pub bit_write_then : (g : Setting) (T : Machine → Type 0) (n : ℕ) (a : Option ℕ) (s : List Waiting) (w : World Held) (due : is_due w ≡ false) (now : arrived g.outside w ≡ w) (register bit_is from v : ℕ) (r : List Task) (m : Memory) (c : Machine) → has_bit g.program n register bit_is ≡ true → from + 1 ≤ g.program.frame_bytes n → m (Frame n from) ≡ bytes.Number v
    → Placed g n a (Todo [] (code.BitWrite register bit_is (Frame n from)) ∷ r) s m w c
    → ((d : Machine) → Placed g n a (PutBack register (core_machine.with_bit bit_is (v % 2) (device_value g.outside register w)) ∷ Join ∷ r) s m (arrived g.outside (after_device_read bytes.Number g.outside register w)) d → T d) → Comes g T 13 1 c
unfolding operate cost_of after_read
bit_write_then g T n a s w due now register bit_is from v r m c valid room is p next =
    let t = code.BitWrite register bit_is (Frame n from) in
    let f = front c.code t r p.code in
    let x = PutBack register (core_machine.with_bit bit_is (v % 2) (device_value g.outside register w)) in
    let d : Machine = record { copy = n; passing = a; code = x ∷ Join ∷ f.rest; stack = c.stack; memory = m; world = after_device_read bytes.Number g.outside register w } in
    let em = most_operates g n a (Todo [] t ∷ r) s m w c p t r f due in
    let el = least_operates g n a (Todo [] t ∷ r) s m w c p t r f due in
    let own = own_frame g.program n from 1 room in
    comes_within g T (13 + 0) (1 + 0) 13 1 c
    (comes_first g T 0 0 13 1 c d
    (operates g n a (Todo [] t ∷ r) s m w c p t r f due ∙ rw (own, is, valid) refl)
    (omega arith) (omega arith)
    (comes_here g T d (next d (record { copy = refl; passing = refl; code = ap (λ y. x ∷ Join ∷ y) f.behind; stack = p.stack; memory = refl; world = refl }))))
    (omega arith) (omega arith)

-- ---- the lowest bit of an unsigned char
pub bit_only : (q : ℤ) → value_of ops.And (record { ty = int.UChar; number = q }) (cut_to int.UChar (pos 1)) ≡ cut_to int.UChar (pos (pattern int.UChar q % 2))
bit_only q = ap (λ x. cut_to int.UChar (pos x)) (and_numeral (pattern int.UChar q) 0 refl)

pub bit_byte : (x : ℕ) → pattern int.UChar (cut int.UChar (pos (x % 2))) / 256 ^ 0 % 256 ≡ x % 2
bit_byte x = omega arith

pub bit_again : (x : ℕ) → x % 2 % 2 ≡ x % 2
bit_again x = omega arith

pub one_there : (m : Memory) (root : Root) → value_in int.UChar (with_byte m (Result root 0) (bytes.Number 1)) (Result root 0) ≡ Some (core.Number (cut_to int.UChar (pos 1)))
unfolding value_in
one_there m root = ap (λ x. core.or_number None (option_map (λ i. core.Number (cut_to int.UChar (pos i))) (core.with_low x (Some 0)))) (on (bytes.same_byte (Result root 0) (Result root 0)) (bytes.Number 1) (m (Result root 0)) (byte_same (Result root 0)))

-- What waits keeps what it has where the byte at `from` changes: it is the one byte of the value that is written.
module _ (z : Scene) (laws : SceneLaws z) (cp : CopyOf) (k : List Pending) (l : source.Memory) (reached : IsReached z.program cp) (resumables : Resumables cp.root k) (register bit_is count from : ℕ) (pointer : Byte) (code_is : (a : spot.Spot) (i : ℕ) → writing_at z (ground_in z cp) k a i ≡ writing z cp.root (Bit register bit_is) a pointer (Frame (ground_in z cp).copy from) count i (code_after (ground_in z cp) k)) (from_is : stored_at (ground_in z cp) k ≡ from) (room : from + 1 ≤ (core_in z).program.frame_bytes (number z cp)) (above_locals : (ground_in z cp).base ≤ from)
    (kept : (m : Memory) (h : ℕ → Held) → Holds z (ground_in z cp) k m → Holds z (ground_in z cp) k (with_bytes m (Frame (number z cp) from) 1 h)) (known : is_device register ≡ true) (small_bit : bit_is < 8) where
  -- the register is read
  pub write_bit : (q : ℤ) (line : ℕ) (w : World value.Byte) (c : Machine) → IsInRange int.UChar q → is_due (arrived z.outside w) ≡ false
      → Mirrors z (state cp (Write (spots.Bit register bit_is) (datum.Number (record { ty = int.UChar; number = q })) 0) k l w) c
      → Follow z 57 1 c (read_bit (source_in z) register bit_is (datum.Number (record { ty = int.UChar; number = q })) k cp l (arrived z.outside w))
  unfolding active fits_together binary_value
  write_bit q line w c qr due h =
      let x : Quantity = record { ty = int.UChar; number = q } in
      let v = datum.Number x in
      let n = number z cp in
      let g = ground_in z cp in
      let V = arrived z.outside w in
      let W = world_as (held z) V in
      let no = due_below z V due in
      let ag = again_below z w in
      let low = pattern int.UChar q % 2 in
      let old = device_value z.outside register V in
      let w' = after_device_read values.Number z.outside register V in
      let T = Mirrors z (state cp (PutBit register bit_is v old) k l w') in
      let one = cut_to int.UChar (pos 1) in
      let o = value_of ops.And x one in
      let m1 = with_byte c.memory (Result cp.root 0) (bytes.Number 1) in
      let m2 = with_bytes m1 (Frame n from) 1 (core.byte_of (core.Number o)) in
      let R = code_after g k in
      let own = own_result (core_in z) n 0 cp.root (laws.roots cp reached) (omega arith) in
      let hx : HasDatum z n from v m1 = λ i lt. ap (λ y. c.memory (Frame y (from + i))) (sym (own_copy z cp)) ∙ ap (λ y. c.memory (Frame g.copy (y + i))) (sym from_is) ∙ h.value i lt in
      let frames : (i : ℕ) → SameFrame i c.memory m1 = λ i y. refl in
      let zero_is : from ≡ from + 0 = omega arith in
      let bit_is_there : m2 (Frame n from) ≡ bytes.Number low =
      ap (λ y. m2 (Frame n y)) zero_is ∙ bytes_there m1 n from 1 (core.byte_of (core.Number o)) 0 (omega arith)
      ∙ ap (λ y. bytes.Number (pattern y.ty y.number / 256 ^ 0 % 256)) (bit_only q) ∙ ap bytes.Number (bit_byte (pattern int.UChar q)) in
      let now : writing_at z g k (spots.Bit register bit_is) 0 ≡ Todo [] (code.Set (Result cp.root 0) 1) ∷ Todo [] (code.Binary ops.And int.UChar (Frame n from) (Frame n from) (Result cp.root 0)) ∷ Todo [] (code.BitWrite register bit_is (Frame n from)) ∷ R =
      code_is (spots.Bit register bit_is) 0 ∙ ap (λ i. todo (bit_row cp.root register bit_is (Frame i from)) R) (own_copy z cp) in
      let later : PutBack register (core_machine.with_bit bit_is (low % 2) (device_value z.outside register W)) ≡ PutBack register (core_machine.with_bit bit_is low old) =
      ap (λ y. PutBack register (core_machine.with_bit bit_is y (device_value z.outside register W))) (bit_again (pattern int.UChar q)) ∙ ap (λ y. PutBack register (core_machine.with_bit bit_is low y)) (value_as (held z) z.outside register V) in
      comes_within (core_in z) T (4 + (40 + 13)) 1 57 1 c
      (set_result_then (core_in z) T n None (stack_after z g k) W no ag cp.root 0 1 (Todo [] (code.Binary ops.And int.UChar (Frame n from) (Frame n from) (Result cp.root 0)) ∷ Todo [] (code.BitWrite register bit_is (Frame n from)) ∷ R) c.memory c (40 + 13) 1 own
      (subst (λ y. Placed (core_in z) n None y (stack_after z g k) c.memory W c) now (placed_of z (state cp (Write (spots.Bit register bit_is) v 0) k l w) c h))
      (λ d pd. binary_any_then (core_in z) T n (stack_after z g k) W no ag ops.And int.UChar (Frame n from) (Frame n from) (Result cp.root 0) (core.Number x) (core.Number one) (core.Number o) (Todo [] (code.BitWrite register bit_is (Frame n from)) ∷ R) m1 d 13 1 40
      (λ before. both _ _ (itself n from 1) refl) (λ i. refl) (own_frame (core_in z).program n from 1 room) own
      (value_number z n from x m1 qr hx) (one_there c.memory cp.root) (λ s e. refl) (own_frame (core_in z).program n from 1 room) (λ i. omega arith) pd
      (λ e pe. bit_write_then (core_in z) T n None (stack_after z g k) W no ag register bit_is from low R m2 e (bit_there (core_in z).program n register bit_is known small_bit) room bit_is_there pe
      (λ f pf. mirrors z cp (PutBit register bit_is v old) k l w' m2 f
      (subst (λ y. Placed (core_in z) n None (y ∷ Join ∷ R) (stack_after z g k) m2 (world_as (held z) (arrived z.outside w')) f) later
      (subst (λ y. Placed (core_in z) n None (PutBack register (core_machine.with_bit bit_is (low % 2) (device_value z.outside register W)) ∷ Join ∷ R) (stack_after z g k) m2 y f) (ap (arrived z.outside) (read_as (held z) values.Number z.outside register V) ∙ arrived_as (held z) z.outside w') pf))
      (agrees_above z laws cp (active cp (PutBit register bit_is v old) k) l m1 m2 from reached above_locals (above_written n from from 1 m1 (core.byte_of (core.Number o)) (omega arith)) (agrees_same z (active cp (PutBit register bit_is v old) k) l c.memory m1 (λ ob at there lt. untouched z cp.root c.memory ob at) h.agrees))
      (kept m1 (core.byte_of (core.Number o)) (holds_frames z cp.root cp k c.memory m1 resumables frames (set_others cp.root 0 (bytes.Number 1) c.memory) h.holds))
      (λ i lt.
      let none : i ≡ 0 = omega arith in
      ap (λ y. m2 (Frame y (stored_at g k + i))) (own_copy z cp) ∙ ap (λ y. m2 (Frame n (y + i))) from_is ∙ ap (λ y. m2 (Frame n (from + y))) none ∙ ap (λ y. m2 (Frame n y)) (sym zero_is) ∙ bit_is_there
      ∙ ap bytes.Number (sym (bit_byte (pattern int.UChar q))) ∙ ap (λ y. bytes.Number (pattern int.UChar (cut int.UChar (pos low)) / 256 ^ y % 256)) (sym none))))))
      (omega arith) (omega arith)
    where
      untouched : (z : Scene) (root : Root) (m : Memory) (ob : object.Object) (at : ℕ) → with_byte m (Result root 0) (bytes.Number 1) (core_byte z ob at) ≡ m (core_byte z ob at)
      untouched z root m (objects.Fixed i) at = refl
      untouched z root m (objects.Variable d i) at = refl

-- The register is written back: an event. Behind it the operation is over.
module _ (z : Scene) (cp : CopyOf) (k : List Pending) (l : source.Memory) (register bit_is : ℕ) (known : is_device register ≡ true) (join_is : writing_at z (ground_in z cp) k (spots.Bit register bit_is) 1 ≡ Join ∷ code_after (ground_in z cp) k) where
  put_case : (sets : Bool) (event : Option (Happening value.Byte)) (v : Datum) (old line : ℕ) (w : World value.Byte) (c : Machine) → sets_gie register (core_machine.with_bit bit_is (lowest_bit v) old) (arrived z.outside w) ≡ sets → is_due (arrived z.outside w) ≡ false
      → Mirrors z (state cp (PutBit register bit_is v old) k l w) c
      → Follow z 3 0 c (after_putting (if sets then Refuses Gie else Puts l (after_device_write values.Number register (core_machine.with_bit bit_is (lowest_bit v) old) (arrived z.outside w)) event) (Write (spots.Bit register bit_is) v 1) cp k line)
  unfolding active
  put_case true event v old line w c gie due h = tt
  put_case false event v old line w c gie due h =
      let n = number z cp in
      let g = ground_in z cp in
      let V = arrived z.outside w in
      let W = world_as (held z) V in
      let x = core_machine.with_bit bit_is (lowest_bit v) old in
      let w' = after_device_write values.Number register x V in
      let T = Mirrors z (state cp (Write (spots.Bit register bit_is) v 1) k l w') in
      put_back_then (core_in z) T n None (stack_after z g k) W (due_below z V due) (again_below z w) register x (Join ∷ code_after g k) c.memory c (device_valid (core_in z).program n register known) (gie_as (held z) register x V ∙ gie)
      (placed_of z (state cp (PutBit register bit_is v old) k l w) c h)
      (λ d pd. mirrors z cp (Write (spots.Bit register bit_is) v 1) k l w' c.memory d
      (subst (λ y. Placed (core_in z) n None y (stack_after z g k) c.memory (world_as (held z) (arrived z.outside w')) d) (sym join_is)
      (subst (λ y. Placed (core_in z) n None (Join ∷ code_after g k) (stack_after z g k) c.memory y d) (ap (arrived z.outside) (write_as (held z) values.Number register x V) ∙ arrived_as (held z) z.outside w') pd))
      h.agrees h.holds h.value)

  pub put_bit_goes : (v : Datum) (old : ℕ) (w : World value.Byte) (c : Machine) → is_due (arrived z.outside w) ≡ false
      → Mirrors z (state cp (PutBit register bit_is v old) k l w) c → Follow z 3 0 c (put_bit (source_in z) register bit_is v old k cp l (arrived z.outside w))
  put_bit_goes v old w c due h =
      let x = core_machine.with_bit bit_is (lowest_bit v) old in
      put_case (sets_gie register x (arrived z.outside w)) (Some (WriteOf (cells.Device register) (values.Number x))) v old (line_at k) w c refl due h

-- ---- an assignment to a bit has the bit
pub bit_assigned : (z : Scene) (laws : SceneLaws z) (sought : Place) (right : Expression) (ty : Ty) (line register bit_is : ℕ) (v : Datum) (k : List Pending) (cp : CopyOf) (l : source.Memory) (w : World value.Byte) (c : Machine) → spot_of (ground_in z cp).layout (ground_in z cp).copy sought ≡ Bit register bit_is → base (ground_in z cp) k ≤ 96 → is_due (arrived z.outside w) ≡ false
    → Mirrors z (state cp (Write (spots.Bit register bit_is) v 1) (In (tree.Assign sought right ty line) (Stores (spots.Bit register bit_is) v) ∷ k) l w) c
    → Comes (core_in z) (Mirrors z (state cp (Value (number_of int.UChar (lowest_bit v))) k l (arrived z.outside w))) 4 0 c
unfolding active
bit_assigned z laws sought right ty line register bit_is v k cp l w c bit_spot small due h =
    let n = number z cp in
    let g = ground_in z cp in
    let b = base g k in
    let e = tree.Assign sought right ty line in
    let f = In e (Stores (spots.Bit register bit_is) v) ∷ k in
    let W = world_as (held z) (arrived z.outside w) in
    let u = number_of int.UChar (lowest_bit v) in
    let T = Mirrors z (state cp (Value u) k l (arrived z.outside w)) in
    let at_b : stored g b e ≡ b = ap (λ y. beyond b (pointer_bytes y)) bit_spot ∙ beyond_is b 0 (omega arith) ∙ (omega arith) in
    let now : writing_at z g f (spots.Bit register bit_is) 1 ≡ Join ∷ code_after g k =
    ap (λ y. writing z g.layout.root y (spots.Bit register bit_is) (Frame g.copy b) (Frame g.copy (stored g b e)) (width g.layout ty) 1 (todo (kept_row (wanted k) y (Frame g.copy b) (lower.behind (Frame g.copy b) (pointer_bytes y)) (width g.layout ty)) (code_after g k))) bit_spot in
    comes_within (core_in z) T (4 + 0) 0 4 0 c
    (join_then (core_in z) T n None W (due_below z (arrived z.outside w) due) (again_below z w) (code_after g k) (stack_after z g k) c.memory c 0 0
    (subst (λ y. Placed (core_in z) n None y (stack_after z g k) c.memory W c) now (placed_of z (state cp (Write (spots.Bit register bit_is) v 1) f l w) c h))
    (λ d pd. arrive z cp (Value u) k l w c.memory d pd h.agrees h.holds.1 (if_there (wanted k) (base g k) at_b)))
    (omega arith) (omega arith)
  where
    if_there : (want : Bool) (b : ℕ) → stored (ground_in z cp) (base (ground_in z cp) k) (tree.Assign sought right ty line) ≡ b → HasIf want z (ground_in z cp).copy b (number_of int.UChar (lowest_bit v)) c.memory
    if_there true b e = subst (λ y. HasDatum z (ground_in z cp).copy y (number_of int.UChar (lowest_bit v)) c.memory) e h.value
    if_there false b e = tt
