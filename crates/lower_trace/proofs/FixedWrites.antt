-- Fixed places are written: the byte that comes next, and what follows the last one.
use Rattle.core_code.specs.Bytes.{Held, Memory, with_byte, with_bytes}
use Rattle.core_code.specs.Machine.{Machine, Setting, Task, Do as Todo, Waiting}
use Rattle.core_code.specs.Tree as code
use Rattle.core_code.specs.Tree.{many}
use Rattle.core_code.specs.declared.code.Byte.TheVariants.{Device, Frame, Static}
use Rattle.core_code.specs.declared.code.Byte.{Byte}
use Rattle.core_puts.specs.Bytes as lower
use Rattle.core_puts.specs.Puts.{copies}
use Rattle.src_rules.specs.Runs.{one_if}
use Rattle.lower_trace.proofs.Costs.{either, either_within}
use Rattle.lower_trace.proofs.Assigning.{store_static, store_variable}
use Rattle.lower_trace.proofs.Beginnings.{Follow}
use Rattle.lower_trace.proofs.CodeLeft.{Scene, base, copies_from, core_in, ground_in, number, source_in, stored_at, todo, writing_at}
use Rattle.lower_trace.proofs.Converting.{not_less}
use Rattle.lower_trace.proofs.FixedFetches.{follow_within}
use Rattle.lower_trace.proofs.FixedPlaces.{IsOwnSpot, device_small, device_valid}
use Rattle.lower_trace.proofs.FixedReads.{little_same}
use Rattle.lower_trace.proofs.Giving.{Around}
use Rattle.lower_trace.proofs.Handing.{valid_frame}
use Rattle.lower_trace.proofs.Kept.{Reached, SceneLaws}
use Rattle.lower_trace.proofs.Members.{byte_is_so}
use Rattle.lower_trace.proofs.Mirrors.{Mirrors, at_byte, core_byte}
use Rattle.lower_trace.proofs.Operations.{Comes, beyond_is, comes_within, copy_then, own_frame}
use Rattle.lower_trace.proofs.Placed.{Placed, ends, todo_join}
use Rattle.lower_trace.proofs.Reading.{lt_of}
use Rattle.lower_trace.proofs.Registers.{store_register}
use Rattle.lower_trace.proofs.Written.{bytes_clear}
use Rattle.pic_world.specs.World.{World, arrived, is_due}
use Rattle.src_rules.specs.Accesses.{after_putting, stored, write, write_at}
use Rattle.src_rules.specs.Standing.{stepped}
use Rattle.src_rules.specs.State.{state}
use Rattle.src_rules.specs.Step.{start}
use Rattle.src_values.specs.Accesses.{put_byte}
use Rattle.src_values.specs.Control.{Pending, Write, active, line_at}
use Rattle.src_values.specs.Data as datum
use Rattle.src_values.specs.Data.{Datum}
use Rattle.src_values.specs.Memory as source
use Rattle.src_values.specs.Objects.{function_at, is_watched, next_byte, object_bytes, variable_offset, variables_of}
use Rattle.src_values.specs.Values.{byte_count, byte_of, written_bytes}
use Rattle.src_values.specs.declared.objects.Byte as value
use Rattle.src_values.specs.declared.objects.CopyOf.{CopyOf}
use Rattle.src_values.specs.declared.objects.Object.TheVariants as objects
use Rattle.src_values.specs.declared.objects.Pointer.TheVariants.{Into, Null}
use Rattle.src_values.specs.declared.objects.Spot as spot
use Rattle.src_values.specs.declared.objects.Spot.TheVariants as spots
use Rattle.std.proofs.Common.{Bool, List, Option, Some, [], ap, arith, false, if◌then◌else◌, inl, inr, length, nat_lt, refl, subst, suc, sym, true, zero, ℕ, ⊎_elim, ◌*◌, ◌++◌, ◌+◌, ◌-◌, ◌<◌, ◌∙◌, ◌∷◌, ◌≡◌, ◌≤◌, ◌⊎◌}

-- a static object that is written isn't const
abbrev pub IsOpen : Scene → spot.Spot → Type 0
IsOpen z (spots.Memory (Into (objects.Fixed i) f)) = is_watched z.program (objects.Fixed i) ≡ true
IsOpen z _ = Unit {0}

-- only numbers go to registers
abbrev pub IsFor : spot.Spot → Datum → Type 0
IsFor (spots.Device a) (datum.Number q) = Unit {0}
IsFor (spots.Device a) _ = ⊥
IsFor _ v = Unit {0}

module _ (z : Scene) (laws : SceneLaws z) (cp : CopyOf) (k : List Pending) (l : source.Memory) (around : Around z cp k) (reach : Reached z (ground_in z cp) k) (low : base (ground_in z cp) k ≤ 96) (X : Byte) (count from : ℕ) (r : List Task) (code_is : (a : spot.Spot) (i : ℕ) → writing_at z (ground_in z cp) k a i ≡ todo (copies_from X (Frame (ground_in z cp).copy from) i (count - i)) r) (from_is : stored_at (ground_in z cp) k ≡ from) (room : from + count ≤ (core_in z).program.frame_bytes (number z cp)) (own_room : (ground_in z cp).base ≤ (core_in z).program.frame_bytes (number z cp)) where
  variable_byte : (inside : Bool) (i f : ℕ) (v : Datum) (done line : ℕ) (w : World value.Byte) (c : Machine) → nat_lt (f + done) (object_bytes z.program (objects.Variable cp i)) ≡ inside → core_byte z (objects.Variable cp i) f ≡ X → i < length (variables_of (function_at z.program cp.function)) → done < count → done < byte_count v → is_due (arrived z.outside w) ≡ false
      → Mirrors z (state cp (Write (spots.Memory (Into (objects.Variable cp i) (f + done))) v done) k l w) c
      → Follow z 6 1 c (after_putting (put_byte (source_in z) (active cp (Write (spots.Memory (Into (objects.Variable cp i) (f + done))) v done) k) cp.root (spots.Memory (Into (objects.Variable cp i) (f + done))) (byte_of v done) l (arrived z.outside w)) (Write (next_byte (spots.Memory (Into (objects.Variable cp i) (f + done)))) v (done + 1)) cp k line)
  unfolding put_byte
  variable_byte true i f v done line w c inside is there lt part due h =
      let o = objects.Variable cp i in
      let fit = laws.fits o (around.reached, there) in
      let few = laws.reach o (around.reached, there) in
      let less = lt_of (f + done) (object_bytes z.program o) inside in
      let target : lower.behind X done ≡ core_byte z o (f + done) =
      ap (λ y. lower.behind y done) (sym is) ∙ ap (Frame (number z cp)) (beyond_is (variable_offset z.program cp.function i + f) done (omega arith) ∙ (omega arith)) in
      store_variable z laws cp k l around reach low X count from r code_is from_is room own_room i (f + done) (spots.Memory (Into o (f + done))) (next_byte (spots.Memory (Into o (f + done)))) v done line w c (λ y i. refl) (λ y i. refl) lt part there target due h
  variable_byte false i f v done line w c inside is there lt part due h = rw inside tt

  static_byte : (inside : Bool) (i f : ℕ) (v : Datum) (done line : ℕ) (w : World value.Byte) (c : Machine) → nat_lt (f + done) (object_bytes z.program (objects.Fixed i)) ≡ inside → core_byte z (objects.Fixed i) f ≡ X → i < length z.program.statics → is_watched z.program (objects.Fixed i) ≡ true → done < count → done < byte_count v → is_due (arrived z.outside w) ≡ false
      → Mirrors z (state cp (Write (spots.Memory (Into (objects.Fixed i) (f + done))) v done) k l w) c
      → Follow z 6 1 c (after_putting (put_byte (source_in z) (active cp (Write (spots.Memory (Into (objects.Fixed i) (f + done))) v done) k) cp.root (spots.Memory (Into (objects.Fixed i) (f + done))) (byte_of v done) l (arrived z.outside w)) (Write (next_byte (spots.Memory (Into (objects.Fixed i) (f + done)))) v (done + 1)) cp k line)
  unfolding put_byte
  static_byte true i f v done line w c inside is there seen lt part due h =
      let o = objects.Fixed i in
      let fit = laws.fits o there in
      let few = laws.reach o there in
      let less = lt_of (f + done) (object_bytes z.program o) inside in
      let target : lower.behind X done ≡ core_byte z o (f + done) = ap (λ y. lower.behind y done) (sym is) ∙ ap (Static i) (beyond_is (0 + f) done (omega arith) ∙ (omega arith)) in
      store_static z laws cp k l around reach low X count from r code_is from_is room own_room i (f + done) (spots.Memory (Into o (f + done))) (next_byte (spots.Memory (Into o (f + done)))) v done line w c (λ y i. refl) (λ y i. refl) lt part there seen target due h
  static_byte false i f v done line w c inside is there seen lt part due h = rw inside tt

  -- the byte that comes next, where a fixed place was found
  pub store_fixed : (start : spot.Spot) (v : Datum) (done line : ℕ) (w : World value.Byte) (c : Machine) → at_byte z start ≡ Some X → IsOwnSpot z cp start → IsOpen z start → IsFor start v → ((a : ℕ) → start ≡ spots.Device a → count ≡ 1) → done < count → done < byte_count v → is_due (arrived z.outside w) ≡ false
      → Mirrors z (state cp (Write (stepped done start) v done) k l w) c → Follow z 6 1 c (write_at (source_in z) (stepped done start) v done k cp l (arrived z.outside w))
  store_fixed (spots.Memory (Into (objects.Fixed i) f)) v done line w c is own open_is for one lt part due h =
      static_byte (nat_lt (f + done) (object_bytes z.program (objects.Fixed i))) i f v done (line_at k) w c refl (byte_is_so (core_byte z (objects.Fixed i) f) X is) own open_is lt part due h
  store_fixed (spots.Memory (Into (objects.Variable d i) f)) v done line w c is own open_is for one lt part due h =
      subst (λ x. core_byte z (objects.Variable x i) f ≡ X → Mirrors z (state cp (Write (spots.Memory (Into (objects.Variable x i) (f + done))) v done) k l w) c
      → Follow z 6 1 c (write_at (source_in z) (spots.Memory (Into (objects.Variable x i) (f + done))) v done k cp l (arrived z.outside w))) (sym own.0)
      (λ e m. variable_byte (nat_lt (f + done) (object_bytes z.program (objects.Variable cp i))) i f v done (line_at k) w c refl e own.1 lt part due m)
      (byte_is_so (core_byte z (objects.Variable d i) f) X is) h
  store_fixed (spots.Memory Null) v done line w c is own open_is for one lt part due h = absurd (cc)
  store_fixed (spots.Device a) (datum.Number q) done line w c is own open_is for one lt part due h =
      let same_byte_is = byte_is_so (Device a) X is in
      let single = one a refl in
      let target : lower.behind X done ≡ Device a = ap (λ y. lower.behind y done) (sym same_byte_is) ∙ ap Device (little_same a done (omega arith) (device_small a own)) in
      store_register z laws cp k l X count from r code_is from_is room (active cp (Write (spots.Device a) (datum.Number q) done) k) a (spots.Device a) (spots.Device a) q done (line_at k) w c (λ y i. refl) (λ y i. refl) lt part target (device_valid (core_in z).program (number z cp) a own) due h
  store_fixed (spots.Device a) (datum.Pointer x) done line w c is own open_is for one lt part due h = absurd for
  store_fixed (spots.Device a) datum.Missing done line w c is own open_is for one lt part due h = absurd for
  store_fixed (spots.Bit register bit) v done line w c is own open_is for one lt part due h = absurd (cc)

  bytes_written : (start : spot.Spot) (v : Datum) (done : ℕ) → at_byte z start ≡ Some X → written_bytes (stepped done start) v ≡ byte_count v
  bytes_written (spots.Memory (Into o f)) v done is = refl
  bytes_written (spots.Memory Null) v done is = absurd (cc)
  bytes_written (spots.Device a) v done is = refl
  bytes_written (spots.Bit register bit) v done is = absurd (cc)

  write_case : (more : Bool) (start : spot.Spot) (v : Datum) (done x : ℕ) (w : World value.Byte) (c : Machine) → nat_lt done (byte_count v) ≡ more → at_byte z start ≡ Some X → IsOwnSpot z cp start → IsOpen z start → IsFor start v → ((a : ℕ) → start ≡ spots.Device a → count ≡ 1) → byte_count v ≡ count → is_due (arrived z.outside w) ≡ false
      → (count ≤ done → Follow z x 0 c (stored (source_in z) k cp l (arrived z.outside w)))
      → Mirrors z (state cp (Write (stepped done start) v done) k l w) c → Follow z (either more 6 x) (one_if more) c (if nat_lt done (byte_count v) then write_at (source_in z) (stepped done start) v done k cp l (arrived z.outside w) else stored (source_in z) k cp l (arrived z.outside w))
  write_case true start v done x w c lt is own open_is for one all due ends h =
      let less = lt_of done (byte_count v) lt in
      rw lt (store_fixed start v done 0 w c is own open_is for one (omega arith) less due h)
  write_case false start v done x w c lt is own open_is for one all due ends h =
      let le = not_less done (byte_count v) lt in
      rw lt (ends (omega arith))

  -- the next byte, or what follows
  pub fixed_written : (start : spot.Spot) (v : Datum) (done x : ℕ) (w : World value.Byte) (c : Machine) → at_byte z start ≡ Some X → IsOwnSpot z cp start → IsOpen z start → IsFor start v → ((a : ℕ) → start ≡ spots.Device a → count ≡ 1) → byte_count v ≡ count → is_due (arrived z.outside w) ≡ false
      → (count ≤ done → Follow z x 0 c (stored (source_in z) k cp l (arrived z.outside w)))
      → Mirrors z (state cp (Write (stepped done start) v done) k l w) c → Follow z (either (nat_lt done (byte_count v)) 6 x) (one_if (nat_lt done (byte_count v))) c (write (source_in z) (stepped done start) v done k cp l (arrived z.outside w))
  fixed_written start v done x w c is own open_is for one all due ends h =
      subst (λ n. Follow z (either (nat_lt done (byte_count v)) 6 x) (one_if (nat_lt done (byte_count v))) c (if nat_lt done n then write_at (source_in z) (stepped done start) v done k cp l (arrived z.outside w) else stored (source_in z) k cp l (arrived z.outside w))) (sym (bytes_written start v done is))
      (write_case (nat_lt done (byte_count v)) start v done x w c refl is own open_is for one all due ends h)

  -- the same within one bound
  pub fixed_write : (start : spot.Spot) (v : Datum) (done x : ℕ) (w : World value.Byte) (c : Machine) → at_byte z start ≡ Some X → IsOwnSpot z cp start → IsOpen z start → IsFor start v → ((a : ℕ) → start ≡ spots.Device a → count ≡ 1) → byte_count v ≡ count → 6 ≤ x → is_due (arrived z.outside w) ≡ false
      → (count ≤ done → Follow z x 0 c (stored (source_in z) k cp l (arrived z.outside w)))
      → Mirrors z (state cp (Write (stepped done start) v done) k l w) c → Follow z x 0 c (write (source_in z) (stepped done start) v done k cp l (arrived z.outside w))
  fixed_write start v done x w c is own open_is for one all few due ends h =
      follow_within z (either (nat_lt done (byte_count v)) 6 x) (one_if (nat_lt done (byte_count v))) x 0 c _ (fixed_written start v done x w c is own open_is for one all due ends h) (either_within (nat_lt done (byte_count v)) 6 x x few (omega arith)) (omega arith)

-- ---- bytes that are moved within the frame
module _ (g : Setting) (T : Machine → Type 0) (n : ℕ) (a : Option ℕ) (s : List Waiting) (w : World Held) (due : is_due w ≡ false) (now : arrived g.outside w ≡ w) (small : g.program.frame_bytes n ≤ 96) where
  -- so many bytes become others of the frame, which lie higher, or have no byte in common with them
  pub move_then : (b y i : ℕ) (r : List Task) (m : Memory) (c : Machine) (q l : ℕ) → ((b ≤ y) ⊎ (y + i ≤ b)) → b + i ≤ g.program.frame_bytes n → y + i ≤ g.program.frame_bytes n → Placed g n a (todo (copies (Frame n b) (Frame n y) i) r) s m w c
      → ((d : Machine) → Placed g n a r s (with_bytes m (Frame n b) i (λ j. m (Frame n (y + j)))) w d → Comes g T q l d) → Comes g T (6 * i + q) l c
  unfolding copies
  move_then b y zero r m c q l apart room from p next = comes_within g T q l (6 * 0 + q) l c (next c p) (omega arith) (omega arith)
  move_then b y (suc i) r m c q l apart room from p next =
      let to_is : lower.behind (Frame n b) i ≡ Frame n (b + i) = ap (Frame n) (beyond_is b i (omega arith)) in
      let from_is : lower.behind (Frame n y) i ≡ Frame n (y + i) = ap (Frame n) (beyond_is y i (omega arith)) in
      let m' = with_bytes m (Frame n b) i (λ j. m (Frame n (y + j))) in
      let split : todo (copies (Frame n b) (Frame n y) i ++ code.Copy (lower.behind (Frame n b) i) (lower.behind (Frame n y) i) ∷ []) r ≡ todo (copies (Frame n b) (Frame n y) i) (Todo [] (code.Copy (Frame n (b + i)) (Frame n (y + i))) ∷ r) =
      todo_join (copies (Frame n b) (Frame n y) i) (code.Copy (lower.behind (Frame n b) i) (lower.behind (Frame n y) i) ∷ []) r
      ∙ ap (λ x. todo (copies (Frame n b) (Frame n y) i) (Todo [] (code.Copy x (lower.behind (Frame n y) i)) ∷ r)) to_is
      ∙ ap (λ x. todo (copies (Frame n b) (Frame n y) i) (Todo [] (code.Copy (Frame n (b + i)) x) ∷ r)) from_is in
      let clear : m' (Frame n (y + i)) ≡ m (Frame n (y + i)) = bytes_clear m n b i (λ j. m (Frame n (y + j))) (Frame n (y + i)) (inr (⊎_elim (λ le. inr (omega arith)) (λ le. inl (omega arith)) apart)) in
      comes_within g T (6 * i + (6 + q)) (0 + l) (6 * suc i + q) l c
      (move_then b y i (Todo [] (code.Copy (Frame n (b + i)) (Frame n (y + i))) ∷ r) m c (6 + q) (0 + l) (⊎_elim (λ le. inl le) (λ le. inr (omega arith)) apart) (omega arith) (omega arith) (subst (λ x. Placed g n a x s m w c) split p)
      (λ d pd. copy_then g T n a s w due now (Frame n (b + i)) (Frame n (y + i)) r m' d q l 0 (omega arith) refl (valid_frame g n (y + i) (omega arith)) (own_frame g.program n (b + i) 1 (omega arith)) pd
      (λ e pe. next e (subst (λ x. Placed g n a r s (with_byte m' (Frame n (b + i)) x) w e) clear pe))))
      (omega arith) (omega arith)
