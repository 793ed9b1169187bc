-- Bits of registers are read and written: a register is read for one of its bits, and written with the bit replaced.
use Rattle.c_typed.specs.Fits.{is_device}
use Rattle.core_code.specs.Bytes as bytes
use Rattle.core_code.specs.Bytes.{Held, Memory, with_byte, with_bytes}
use Rattle.core_code.specs.Cost.{cost_of}
use Rattle.core_code.specs.Machine.{Machine, PutBack, PutBit, Setting, Task, Do as Todo, Waiting, act, after_read, after_write, has_bit, is_own, is_valid, memory_with, operate, put}
use Rattle.core_code.specs.Tree as code
use Rattle.core_code.specs.declared.code.Byte.TheVariants.{Device, Frame}
use Rattle.core_code.specs.declared.code.Byte.{Byte}
use Rattle.lower_expr.specs.declared.places.Spot.TheVariants.{Bit}
use Rattle.lower_trace.proofs.Beginnings.{Follow}
use Rattle.lower_trace.proofs.CodeLeft.{Scene, base, code_after, core_in, ground_in, held, number, reading_at, source_in, stack_after, wanted}
use Rattle.lower_trace.proofs.Constants.{again_below, due_below}
use Rattle.lower_trace.proofs.Fetching.{Reads, one_written}
use Rattle.lower_trace.proofs.FixedPlaces.{device_valid}
use Rattle.lower_trace.proofs.Flow.{arrive}
use Rattle.lower_trace.proofs.Giving.{Around, agrees_written, holds_written, mirrors, placed_of, value_high}
use Rattle.lower_trace.proofs.Kept.{SceneLaws, own_copy}
use Rattle.lower_trace.proofs.Mirrors.{Agrees, HasIf, Holds, Mirrors}
use Rattle.lower_trace.proofs.Operations.{Comes, comes_first, comes_free, comes_here, comes_within, own_frame, own_put}
use Rattle.lower_trace.proofs.Placed.{Placed, does, front, least_does, least_operates, most_does, most_operates, operates, other}
use Rattle.lower_trace.proofs.Reading.{lt_true}
use Rattle.lower_trace.proofs.Written.{both, bytes_there}
use Rattle.pic_world.proofs.WorldLaws.{arrived_as, read_as, value_as}
use Rattle.pic_world.specs.Bits.{bit}
use Rattle.pic_world.specs.World.{World, after_device_read, after_device_write, arrived, device_value, is_due, sets_gie, world_as}
use Rattle.src_rules.specs.Accesses.{after_taking}
use Rattle.src_rules.specs.State.{state}
use Rattle.src_values.specs.Accesses.{take_byte}
use Rattle.src_values.specs.Control.{Fetch, Pending, Holds as Value, active}
use Rattle.src_values.specs.Data.{Datum}
use Rattle.src_values.specs.Memory as source
use Rattle.src_values.specs.Values.{byte_count, byte_of, number_in}
use Rattle.src_values.specs.declared.objects.Byte as value
use Rattle.src_values.specs.declared.objects.Byte.TheVariants as values
use Rattle.src_values.specs.declared.objects.CopyOf.{CopyOf}
use Rattle.src_values.specs.declared.objects.Spot as spot
use Rattle.src_values.specs.declared.objects.Spot.TheVariants as spots
use Rattle.std.proofs.Common.{Bool, List, None, Option, [], ap, arith, false, nat_lt, refl, subst, sym, true, ℕ, ◌++◌, ◌+◌, ◌<◌, ◌∙◌, ◌∷◌, ◌≡◌, ◌≤◌}

module _ (g : Setting) (T : Machine → Type 0) (n : ℕ) (a : Option ℕ) (s : List Waiting) (w : World Held) (due : is_due w ≡ false) (now : arrived g.outside w ≡ w) where
  -- a register is read for one of its bits, which is an event
  pub bit_read_then : (to : Byte) (register bit_is : ℕ) (r : List Task) (m : Memory) (c : Machine) → has_bit g.program n register bit_is ≡ true
      → Placed g n a (Todo [] (code.BitRead to register bit_is) ∷ r) s m w c
      → ((d : Machine) → Placed g n a (PutBit to (bit (device_value g.outside register w) bit_is) ∷ r) s m (arrived g.outside (after_device_read bytes.Number g.outside register w)) d → T d) → Comes g T 6 1 c
  unfolding operate cost_of after_read
  bit_read_then to register bit_is r m c valid p next =
      let t = code.BitRead to register bit_is in
      let f = front c.code t r p.code in
      let d : Machine = record { copy = n; passing = a; code = PutBit to (bit (device_value g.outside register w) bit_is) ∷ f.rest; stack = c.stack; memory = m; world = after_device_read bytes.Number g.outside register w } in
      let em = most_operates g n a (Todo [] t ∷ r) s m w c p t r f due in
      let el = least_operates g n a (Todo [] t ∷ r) s m w c p t r f due in
      comes_within g T (6 + 0) (1 + 0) 6 1 c
      (comes_first g T 0 0 6 1 c d
      (operates g n a (Todo [] t ∷ r) s m w c p t r f due ∙ rw valid refl)
      (omega arith) (omega arith)
      (comes_here g T d (next d (record { copy = refl; passing = refl; code = ap (λ y. PutBit to (bit (device_value g.outside register w) bit_is) ∷ y) f.behind; stack = p.stack; memory = refl; world = refl }))))
      (omega arith) (omega arith)

  -- the bit is written as a byte
  pub put_bit_then : (to : Byte) (v : ℕ) (r : List Task) (m : Memory) (c : Machine) (q l : ℕ) → is_own g.program n to 1 ≡ true → Placed g n a (PutBit to v ∷ r) s m w c → ((d : Machine) → Placed g n a r s (with_byte m to (bytes.Number v)) w d → Comes g T q l d) → Comes g T (4 + q) l c
  unfolding act
  put_bit_then to v r m c q l own p next =
      let f = other c.code (PutBit to v) r tt p.code in
      let d : Machine = record { copy = n; passing = a; code = f.rest; stack = c.stack; memory = with_byte m to (bytes.Number v); world = w } in
      let em = most_does g n a (PutBit to v ∷ r) s m w c p (PutBit to v) r f due in
      comes_free g T q l 4 c d
      (does g n a (PutBit to v ∷ r) s m w c p (PutBit to v) r f due ∙ own_put g.program to (bytes.Number v) f.rest n a c.stack m w own)
      (omega arith)
      (next d (record { copy = refl; passing = refl; code = f.behind; stack = p.stack; memory = refl; world = now }))

  -- the register is written back, which is an event
  pub put_back_then : (register v : ℕ) (r : List Task) (m : Memory) (c : Machine) → is_valid g.program n (Device register) ≡ true → sets_gie register v w ≡ false → Placed g n a (PutBack register v ∷ r) s m w c
      → ((d : Machine) → Placed g n a r s m (arrived g.outside (after_device_write bytes.Number register v w)) d → T d) → Comes g T 3 0 c
  unfolding act put memory_with after_write
  put_back_then register v r m c valid safe p next =
      let f = other c.code (PutBack register v) r tt p.code in
      let d : Machine = record { copy = n; passing = a; code = f.rest; stack = c.stack; memory = m; world = after_device_write bytes.Number register v w } in
      let em = most_does g n a (PutBack register v ∷ r) s m w c p (PutBack register v) r f due in
      let el = least_does g n a (PutBack register v ∷ r) s m w c p (PutBack register v) r f due in
      comes_within g T (3 + 0) (0 + 0) 3 0 c
      (comes_first g T 0 0 3 0 c d
      (does g n a (PutBack register v ∷ r) s m w c p (PutBack register v) r f due ∙ rw (valid, safe) refl)
      (omega arith) (omega arith)
      (comes_here g T d (next d (record { copy = refl; passing = refl; code = f.behind; stack = p.stack; memory = refl; world = refl }))))
      (omega arith) (omega arith)

pub bit_there : (q : _) (n register bit_is : ℕ) → is_device register ≡ true → bit_is < 8 → has_bit q n register bit_is ≡ true
bit_there q n register bit_is d lt = both (is_valid q n (Device register)) (nat_lt bit_is 8) (device_valid q n register d) (lt_true bit_is 8 lt)

-- ---- a bit is read: one byte, which the next step writes
module _ (z : Scene) (laws : SceneLaws z) (cp : CopyOf) (k : List Pending) (l : source.Memory) (register bit_is to count : ℕ) (pointer : Byte) (r : List Task) (reads : Reads z (ground_in z cp) k (Bit register bit_is) to count pointer r) (around : Around z cp k) (room : to + 1 ≤ (core_in z).program.frame_bytes (number z cp)) (known : is_device register ≡ true) (small_bit : bit_is < 8) where
  pub fetch_bit : (at : spot.Spot) (fits : value.Byte → Bool) (line : ℕ) (w : World value.Byte) (c : Machine) → at ≡ spots.Bit register bit_is → is_due (arrived z.outside w) ≡ false
      → Mirrors z (state cp (Fetch at []) k l w) c
      → Follow z 6 1 c (after_taking (take_byte (source_in z) (active cp (Fetch at []) k) cp.root fits (spots.Bit register bit_is) l (arrived z.outside w)) (λ byte. Fetch at ([] ++ byte ∷ [])) cp k l line)
  unfolding take_byte active
  fetch_bit at fits line w c is due h =
      let n = number z cp in
      let g = ground_in z cp in
      let V = arrived z.outside w in
      let W = world_as (held z) V in
      let v = bit (device_value z.outside register V) bit_is in
      let byte = values.Number v in
      let w' = after_device_read values.Number z.outside register V in
      let T = Mirrors z (state cp (Fetch at (byte ∷ [])) k l w') in
      let now : reading_at z g k at [] ≡ Todo [] (code.BitRead (Frame n to) register bit_is) ∷ r = reads.code at [] ∙ ap (λ i. Todo [] (code.BitRead (Frame i to) register bit_is) ∷ r) (own_copy z cp) in
      let later : PutBit (Frame n to) (bit (device_value z.outside register W) bit_is) ∷ r ≡ reading_at z g k at (byte ∷ []) =
      ap (λ y. PutBit (Frame n to) (bit y bit_is) ∷ r) (value_as (held z) z.outside register V) ∙ ap (λ i. PutBit (Frame i to) v ∷ r) (sym (own_copy z cp)) ∙ sym (reads.code at (byte ∷ [])) in
      bit_read_then (core_in z) T n None (stack_after z g k) W (due_below z V due) (again_below z w) (Frame n to) register bit_is r c.memory c (bit_there (core_in z).program n register bit_is known small_bit)
      (subst (λ y. Placed (core_in z) n None y (stack_after z g k) c.memory W c) now (placed_of z (state cp (Fetch at []) k l w) c h))
      (λ d pd.
      mirrors z cp (Fetch at (byte ∷ [])) k l w' c.memory d
      (subst (λ y. Placed (core_in z) n None y (stack_after z g k) c.memory (world_as (held z) (arrived z.outside w')) d) later
      (subst (λ y. Placed (core_in z) n None (PutBit (Frame n to) (bit (device_value z.outside register W) bit_is) ∷ r) (stack_after z g k) c.memory y d) (ap (arrived z.outside) (read_as (held z) values.Number z.outside register V) ∙ arrived_as (held z) z.outside w') pd))
      h.agrees h.holds
      (reads.had at (byte ∷ []) c.memory (λ i lt. absurd (omega arith))))

  -- and its value goes on
  pub bit_done : (at : spot.Spot) (byte : value.Byte) (v : Datum) (k' : List Pending) (w : World value.Byte) (c : Machine) → byte_count v ≤ 1 → bytes.Number (number_in byte) ≡ held z (byte_of v 0)
      → r ≡ code_after (ground_in z cp) k' → stack_after z (ground_in z cp) k ≡ stack_after z (ground_in z cp) k' → base (ground_in z cp) k' ≡ to → ((m : Memory) → Holds z (ground_in z cp) k m → Holds z (ground_in z cp) k' m) → active cp (Fetch at (byte ∷ [])) k ≡ active cp (Value v) k' → is_due (arrived z.outside w) ≡ false
      → Mirrors z (state cp (Fetch at (byte ∷ [])) k l w) c → Comes (core_in z) (Mirrors z (state cp (Value v) k' l (arrived z.outside w))) 4 0 c
  bit_done at byte v k' w c few same_byte_is rest stack based holds live due h =
      let n = number z cp in
      let g = ground_in z cp in
      let W = world_as (held z) (arrived z.outside w) in
      let T = Mirrors z (state cp (Value v) k' l (arrived z.outside w)) in
      let x = bytes.Number (number_in byte) in
      let m' = with_byte c.memory (Frame n to) x in
      let wrote = one_written c.memory n to x in
      let low = reads.based in
      let high = value_high z cp k around in
      let now : reading_at z g k at (byte ∷ []) ≡ PutBit (Frame n to) (number_in byte) ∷ code_after g k' = reads.code at (byte ∷ []) ∙ ap (λ i. PutBit (Frame i to) (number_in byte) ∷ r) (own_copy z cp) ∙ ap (λ y. PutBit (Frame n to) (number_in byte) ∷ y) rest in
      comes_within (core_in z) T (4 + 0) 0 4 0 c
      (put_bit_then (core_in z) T n None (stack_after z g k) W (due_below z (arrived z.outside w) due) (again_below z w) (Frame n to) (number_in byte) (code_after g k') c.memory c 0 0 (own_frame (core_in z).program n to 1 room)
      (subst (λ y. Placed (core_in z) n None y (stack_after z g k) c.memory W c) now (placed_of z (state cp (Fetch at (byte ∷ [])) k l w) c h))
      (λ d pd. arrive z cp (Value v) k' l w m' d (subst (λ y. Placed (core_in z) n None (code_after g k') y m' W d) stack pd)
      (subst (λ y. Agrees z (active cp (Value v) k') l y) (sym wrote) (agrees_written z laws cp (active cp (Value v) k') l c.memory to 1 (λ i. x) around.reached (omega arith) (subst (λ y. Agrees z y l c.memory) live h.agrees)))
      (holds m' (subst (λ y. Holds z g k y) (sym wrote) (holds_written z cp k c.memory to 1 (λ i. x) around (omega arith) h.holds)))
      (value_if_one (wanted k') (base g k') m' based wrote)))
      (omega arith) (omega arith)
    where
      value_if_one : (want : Bool) (b : ℕ) (m : Memory) → b ≡ to → m ≡ with_bytes c.memory (Frame (number z cp) to) 1 (λ i. bytes.Number (number_in byte)) → HasIf want z (ground_in z cp).copy b v m
      value_if_one false b m e is = tt
      value_if_one true b m e is = λ i lt.
          let none : i ≡ 0 = omega arith in
          ap (λ y. m (Frame y (b + i))) (own_copy z cp) ∙ ap (λ y. m (Frame (number z cp) (y + i))) e ∙ ap (λ y. y (Frame (number z cp) (to + i))) is
          ∙ bytes_there c.memory (number z cp) to 1 (λ j. bytes.Number (number_in byte)) i (omega arith) ∙ same_byte_is ∙ ap (λ y. held z (byte_of v y)) (sym none)
