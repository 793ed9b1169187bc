-- What an access to a byte of memory answers, from what the code found.
use Rattle.std.proofs.Common.{◌≡◌, ℕ, zero, suc, ◌+◌, ◌%◌, Bool, true, false, not, if◌then◌else◌, ◌<◌, ◌≤◌, List, [], ◌∷◌, length, refl, sym, ap, subst, ◌∙◌, arith, Ok, Err}
use Rattle.std.specs.Prelude.{slice_get, option_map, Option, Some, None}
use Rattle.std.proofs.lemmas.Bool.{lt-ltb, le-ltb}
use Rattle.std.proofs.lemmas.Option.{slice_get_within}
use Rattle.c_typed.specs.Trees.{Program, StaticTree}
use Rattle.pic_map.specs.MapContent.{MapContent}
use Rattle.pic_world.specs.World.{Happening, Outside, ReadOf, WriteOf}
use Rattle.pic_world.specs.World as shared
use Rattle.pic_world.specs.declared.Cell.{Cell as Place}
use Rattle.pic_world.specs.declared.Cell.TheVariants.{Static}
use Rattle.pic_world.specs.declared.Event.{Event}
use Rattle.pic_world.specs.declared.Event.TheVariants as events
use Rattle.pic_world.specs.declared.Root.{Root}
use Rattle.src_memory.specs.Accessed.{TellsPutting, TellsTaking, IsPut, IsTaken, fault_of_read, fault_of_write}
use Rattle.src_memory.specs.Cells.{byte_or, cell_in, memory_in, put_cell, seen_cell, size_of}
use Rattle.src_memory.specs.Seen.{IsWorld}
use Rattle.src_memory.specs.Shape.{IsKnown, IsShaped, IsThere}
use Rattle.src_memory.specs.Shown.{address_byte, address_of, shown, shown_byte}
use Rattle.src_memory.specs.declared.accesses.Taken.{Taken}
use Rattle.src_memory.specs.declared.memory.Memory.{Memory}
use Rattle.src_memory.specs.declared.world.World.{World}
use Rattle.src_memory.proofs.Cells.{alike_put}
use Rattle.src_memory.proofs.Changes.{puts, stays}
use Rattle.src_memory.proofs.Same.{one_object}
use Rattle.src_values.specs.Accesses.{event_at, noting, put_byte, put_unless, read_fault, take_byte, taken_unless, write_fault}
use Rattle.src_values.specs.Memory as spec
use Rattle.src_values.specs.Memory.{Setting, with_byte}
use Rattle.src_values.specs.Objects.{bytes_of_static, is_alive, is_watched, object_bytes, same_object}
use Rattle.src_values.specs.declared.objects.Byte.{Byte}
use Rattle.src_values.specs.declared.objects.Byte.TheVariants as bytes
use Rattle.src_values.specs.declared.objects.CopyOf.{CopyOf}
use Rattle.src_values.specs.declared.objects.Object.{Object}
use Rattle.src_values.specs.declared.objects.Object.TheVariants.{Fixed, Variable}
use Rattle.src_values.specs.declared.objects.Pointer.TheVariants.{Into}
use Rattle.src_values.specs.declared.objects.Spot.TheVariants as spots
use Rattle.src_values.specs.declared.objects.Undef.{Undef}
use Rattle.src_values.specs.declared.objects.Undef.TheVariants.{Outside as Beyond}

-- ---- why an access is undefined
module _ (p : Program) (live : List CopyOf) (root : Root) (fits : Byte → Bool) (o : Object) (offset : ℕ) (byte : Byte) where
  pub read_beyond : object_bytes p o ≤ offset → read_fault p live root fits o offset byte ≡ Some Beyond
  read_beyond h = ap (λ b. if not b then Some Beyond else fault_of_read (is_alive live o) root fits o byte) (le-ltb offset (object_bytes p o) h)

  pub read_within : (alive : Bool) → alive ≡ is_alive live o → offset < object_bytes p o → read_fault p live root fits o offset byte ≡ fault_of_read alive root fits o byte
  read_within alive a h =
      ap (λ b. if not b then Some Beyond else fault_of_read (is_alive live o) root fits o byte) (lt-ltb offset (object_bytes p o) h) ∙
      ap (λ b. fault_of_read b root fits o byte) (sym a)

module _ (p : Program) (live : List CopyOf) (root : Root) (o : Object) (offset : ℕ) where
  pub write_beyond : object_bytes p o ≤ offset → write_fault p live root o offset ≡ Some Beyond
  write_beyond h = ap (λ b. if not b then Some Beyond else fault_of_write (is_alive live o) root o) (le-ltb offset (object_bytes p o) h)

  pub write_within : (alive : Bool) → alive ≡ is_alive live o → offset < object_bytes p o → write_fault p live root o offset ≡ fault_of_write alive root o
  write_within alive a h =
      ap (λ b. if not b then Some Beyond else fault_of_write (is_alive live o) root o) (lt-ltb offset (object_bytes p o) h) ∙
      ap (λ b. fault_of_write b root o) (sym a)

-- ---- bytes as numbers
same_bits : (high : Bool) (a b offset : ℕ) → a % 512 ≡ b % 512 → address_byte high (a + offset) ≡ address_byte high (b + offset)
same_bits false a b offset h = omega arith
same_bits true a b offset h = omega arith

pub shown_same : (p : Program) (map : MapContent) (m : Memory) → IsShaped p map m → (byte : Byte) → IsKnown p byte → shown_byte (λ o. (cell_in m o).address) byte ≡ shown_byte (address_of p map) byte
shown_same p map m s bytes.Unset k = refl
shown_same p map m s (bytes.Number n) k = refl
shown_same p map m s (bytes.Part o offset high) k = same_bits high (cell_in m o).address (address_of p map o) offset (s.address o k)

-- ---- events
there_in : (sizes : List ℕ) (ss : List StaticTree) (n offset : ℕ) → offset < bytes_of_static sizes (slice_get ss n) → n < length ss
there_in sizes [] n offset h = absurd (omega arith)
there_in sizes (s ∷ ss) zero offset h = omega arith
there_in sizes (s ∷ ss) (suc n) offset h =
    let t = there_in sizes ss n offset h in
    omega arith

there : (p : Program) (n offset : ℕ) → offset < object_bytes p (Fixed n) → IsThere p (Fixed n)
unfolding object_bytes
there p n offset h = there_in p.sizes p.statics n offset h

static_event : (form : Place → Byte → Happening Byte) (byte : Byte) (n offset : ℕ) (b : Bool) → n < 65536 → offset < 65536 → (if b then Some (form (Static n offset) byte) else None) ≡ option_map (λ place. form place byte) (seen_cell b (Fixed n) offset)
static_event form byte n offset true hn ho =
    ap (λ k. Some (form (Static k offset) byte)) (omega arith) ∙ ap (λ k. Some (form (Static (n % 65536) k) byte)) (omega arith)
static_event form byte n offset false hn ho = refl

-- the event is that of the place that the code found
pub event_found : (p : Program) (map : MapContent) (m : Memory) → IsShaped p map m → (form : Place → Byte → Happening Byte) (o : Object) (offset : ℕ) (byte : Byte) → offset < object_bytes p o →
    event_at p form o offset byte ≡ option_map (λ place. form place byte) (seen_cell (cell_in m o).watched o offset)
event_found p map m s form (Fixed n) offset byte h =
    let t = there p n offset h in
    let few = s.small.statics in
    let small = s.small.bytes n in
    static_event form byte n offset (is_watched p (Fixed n)) (omega (arith, t)) (omega arith) ∙
    ap (λ b. option_map (λ place. form place byte) (seen_cell b (Fixed n) offset)) (sym (s.watched (Fixed n) t))
event_found p map m s form (Variable c n) offset byte h = refl

-- ---- reads of memory
none_past : (xs : List Byte) (k : ℕ) → slice_get xs k ≡ None → length xs ≤ k
none_past [] k e = omega arith
none_past (x ∷ xs) zero e = absurd (cc)
none_past (x ∷ xs) (suc k) e =
    let h = none_past xs k e in
    omega arith

faulted : (o : Outside) (a : Object → ℕ) (code : World) (x : Option Undef) (kind : Undef) (byte : Byte) (w : shared.World Byte) (event : Option (Happening Byte)) → x ≡ Some kind → TellsTaking o a (Err kind) code (taken_unless x byte w event)
faulted o a code x kind byte w event e = subst (λ y. TellsTaking o a (Err kind) code (taken_unless y byte w event)) (sym e) refl

taken : (o : Outside) (a : Object → ℕ) (code : World) (x : Option Undef) (t : Taken) (byte : Byte) (w : shared.World Byte) (event : Option (Happening Byte)) → x ≡ None → IsTaken o a t code byte (noting event w) event → TellsTaking o a (Ok t) code (taken_unless x byte w event)
taken o a code x t byte w event e h = subst (λ y. TellsTaking o a (Ok t) code (taken_unless y byte w event)) (sym e) h

module _ (set : Setting) (map : MapContent) (live : List CopyOf) (w : shared.World Byte) (m : Memory) (root : Root) (fits : Byte → Bool) (o : Object) (offset : ℕ) (code : World) (s : IsShaped set.program map m) where
  pub take_beyond : slice_get (cell_in m o).bytes offset ≡ None → TellsTaking set.outside (address_of set.program map) (Err Beyond) code (take_byte set live root fits (spots.Memory (Into o offset)) (memory_in m) w)
  unfolding take_byte
  take_beyond e =
      let b = memory_in m o offset in
      let size = s.size o in
      let past = none_past (cell_in m o).bytes offset e in
      faulted set.outside (address_of set.program map) code (read_fault set.program live root fits o offset b) Beyond b w (event_at set.program ReadOf o offset b)
      (read_beyond set.program live root fits o offset b (omega arith))

  module _ (alive : Bool) (byte : Byte) (a : alive ≡ is_alive live o) (here : slice_get (cell_in m o).bytes offset ≡ Some byte) where
    within : offset < object_bytes set.program o
    within =
        let size = s.size o in
        let k = slice_get_within (cell_in m o).bytes offset byte here in
        omega arith

    same_byte : memory_in m o offset ≡ byte
    unfolding memory_in
    same_byte = ap byte_or here

    fault_is : read_fault set.program live root fits o offset (memory_in m o offset) ≡ fault_of_read alive root fits o byte
    fault_is = read_within set.program live root fits o offset (memory_in m o offset) alive a within ∙ ap (fault_of_read alive root fits o) same_byte

    pub take_refused : (kind : Undef) → Some kind ≡ fault_of_read alive root fits o byte → TellsTaking set.outside (address_of set.program map) (Err kind) code (take_byte set live root fits (spots.Memory (Into o offset)) (memory_in m) w)
    unfolding take_byte
    take_refused kind f =
        let b = memory_in m o offset in
        faulted set.outside (address_of set.program map) code (read_fault set.program live root fits o offset b) kind b w (event_at set.program ReadOf o offset b) (fault_is ∙ sym f)

    pub take_shown : (place : Place) (value : ℕ) → None ≡ fault_of_read alive root fits o byte → Some place ≡ seen_cell (cell_in m o).watched o offset → value ≡ shown_byte (λ x. (cell_in m x).address) byte → IsKnown set.program (memory_in m o offset) →
        ((e : Happening Byte) → IsWorld set.outside code (shared.noted e w)) →
        TellsTaking set.outside (address_of set.program map) (Ok (record { byte = byte; event = Some (events.Read place value) })) code (take_byte set live root fits (spots.Memory (Into o offset)) (memory_in m) w)
    unfolding take_byte shown
    take_shown place value f seen v known noted =
        let b = memory_in m o offset in
        let address = address_of set.program map in
        let event : event_at set.program ReadOf o offset b ≡ Some (ReadOf place b) =
        event_found set.program map m s ReadOf o offset b within ∙ ap (option_map (λ q. ReadOf q b)) (sym seen) in
        let number : value ≡ shown_byte address b =
        v ∙ ap (shown_byte (λ x. (cell_in m x).address)) (sym same_byte) ∙ shown_same set.program map m s b known in
        taken set.outside address code (read_fault set.program live root fits o offset b) (record { byte = byte; event = Some (events.Read place value) }) b w (event_at set.program ReadOf o offset b) (fault_is ∙ sym f)
        (record {
          reads = sym same_byte;
          leaves = subst (λ e. IsWorld set.outside code (noting e w)) (sym event) (noted (ReadOf place b));
          shows = ap (λ n. Some (events.Read place n)) number ∙ ap (option_map (shown address)) (sym event);
        })

    pub take_silent : None ≡ fault_of_read alive root fits o byte → None ≡ seen_cell (cell_in m o).watched o offset → IsWorld set.outside code w →
        TellsTaking set.outside (address_of set.program map) (Ok (record { byte = byte; event = None })) code (take_byte set live root fits (spots.Memory (Into o offset)) (memory_in m) w)
    unfolding take_byte
    take_silent f seen h =
        let b = memory_in m o offset in
        let address = address_of set.program map in
        let event : event_at set.program ReadOf o offset b ≡ None =
        event_found set.program map m s ReadOf o offset b within ∙ ap (option_map (λ q. ReadOf q b)) (sym seen) in
        taken set.outside address code (read_fault set.program live root fits o offset b) (record { byte = byte; event = None }) b w (event_at set.program ReadOf o offset b) (fault_is ∙ sym f)
        (record {
          reads = sym same_byte;
          leaves = subst (λ e. IsWorld set.outside code (noting e w)) (sym event) h;
          shows = ap (option_map (shown address)) (sym event);
        })

-- ---- writes to memory
refuses : (o : Outside) (a : Object → ℕ) (code : World) (new : spec.Memory) (x : Option Undef) (kind : Undef) (object : Object) (offset : ℕ) (byte : Byte) (event : Option (Happening Byte)) (m : spec.Memory) (w : shared.World Byte) → x ≡ Some kind → TellsPutting o a (Err kind) new code (put_unless x object offset byte event m w)
refuses o a code new x kind object offset byte event m w e = subst (λ y. TellsPutting o a (Err kind) new code (put_unless y object offset byte event m w)) (sym e) refl

put_done : (o : Outside) (a : Object → ℕ) (code : World) (new : spec.Memory) (x : Option Undef) (made : Option Event) (object : Object) (offset : ℕ) (byte : Byte) (event : Option (Happening Byte)) (m : spec.Memory) (w : shared.World Byte) → x ≡ None → IsPut o a made new code (with_byte m object offset byte) (noting event w) event → TellsPutting o a (Ok made) new code (put_unless x object offset byte event m w)
put_done o a code new x made object offset byte event m w e h = subst (λ y. TellsPutting o a (Ok made) new code (put_unless y object offset byte event m w)) (sym e) h

module _ (set : Setting) (map : MapContent) (live : List CopyOf) (w : shared.World Byte) (old : Memory) (root : Root) (o : Object) (offset : ℕ) (byte : Byte) (code : World) (s : IsShaped set.program map old) where
  pub put_beyond : (new : spec.Memory) → size_of (cell_in old o) ≤ offset → TellsPutting set.outside (address_of set.program map) (Err Beyond) new code (put_byte set live root (spots.Memory (Into o offset)) byte (memory_in old) w)
  unfolding put_byte
  put_beyond new past =
      let size = s.size o in
      refuses set.outside (address_of set.program map) code new (write_fault set.program live root o offset) Beyond o offset byte (event_at set.program WriteOf o offset byte) (memory_in old) w
      (write_beyond set.program live root o offset (omega arith))

  module _ (alive : Bool) (a : alive ≡ is_alive live o) (small : offset < size_of (cell_in old o)) where
    is_within : offset < object_bytes set.program o
    is_within =
        let size = s.size o in
        omega arith

    pub put_refused : (new : spec.Memory) (kind : Undef) → Some kind ≡ fault_of_write alive root o → TellsPutting set.outside (address_of set.program map) (Err kind) new code (put_byte set live root (spots.Memory (Into o offset)) byte (memory_in old) w)
    unfolding put_byte
    put_refused new kind f =
        refuses set.outside (address_of set.program map) code new (write_fault set.program live root o offset) kind o offset byte (event_at set.program WriteOf o offset byte) (memory_in old) w
        (write_within set.program live root o offset alive a is_within ∙ sym f)

    module _ (new : Memory) (h : (x : Object) → cell_in new x ≡ if same_object x o then put_cell (cell_in old x) offset byte else cell_in old x) where
      shaped_then : IsShaped set.program map new
      shaped_then = stays (λ c. put_cell c offset byte) (alike_put offset byte) (λ x. same_object x o) old new h set.program map s

      pub put_shown : (place : Place) (value : ℕ) → None ≡ fault_of_write alive root o → Some place ≡ seen_cell (cell_in new o).watched o offset → value ≡ shown_byte (λ x. (cell_in new x).address) byte → IsKnown set.program byte →
          ((e : Happening Byte) → IsWorld set.outside code (shared.noted e w)) →
          TellsPutting set.outside (address_of set.program map) (Ok (Some (events.Write place value))) (memory_in new) code (put_byte set live root (spots.Memory (Into o offset)) byte (memory_in old) w)
      unfolding put_byte shown
      put_shown place value f seen v known noted =
          let address = address_of set.program map in
          let event : event_at set.program WriteOf o offset byte ≡ Some (WriteOf place byte) =
          event_found set.program map new shaped_then WriteOf o offset byte is_within ∙ ap (option_map (λ q. WriteOf q byte)) (sym seen) in
          let number : value ≡ shown_byte address byte = v ∙ shown_same set.program map new shaped_then byte known in
          put_done set.outside address code (memory_in new) (write_fault set.program live root o offset) (Some (events.Write place value)) o offset byte (event_at set.program WriteOf o offset byte) (memory_in old) w
          (write_within set.program live root o offset alive a is_within ∙ sym f)
          (record {
            stores = puts old new o offset byte small (λ x. one_object x o) h;
            leaves = subst (λ e. IsWorld set.outside code (noting e w)) (sym event) (noted (WriteOf place byte));
            shows = ap (λ n. Some (events.Write place n)) number ∙ ap (option_map (shown address)) (sym event);
          })

      pub put_silent : None ≡ fault_of_write alive root o → None ≡ seen_cell (cell_in new o).watched o offset → IsWorld set.outside code w →
          TellsPutting set.outside (address_of set.program map) (Ok None) (memory_in new) code (put_byte set live root (spots.Memory (Into o offset)) byte (memory_in old) w)
      unfolding put_byte
      put_silent f seen g =
          let address = address_of set.program map in
          let event : event_at set.program WriteOf o offset byte ≡ None =
          event_found set.program map new shaped_then WriteOf o offset byte is_within ∙ ap (option_map (λ q. WriteOf q byte)) (sym seen) in
          put_done set.outside address code (memory_in new) (write_fault set.program live root o offset) None o offset byte (event_at set.program WriteOf o offset byte) (memory_in old) w
          (write_within set.program live root o offset alive a is_within ∙ sym f)
          (record {
            stores = puts old new o offset byte small (λ x. one_object x o) h;
            leaves = subst (λ e. IsWorld set.outside code (noting e w)) (sym event) g;
            shows = ap (option_map (shown address)) (sym event);
          })
