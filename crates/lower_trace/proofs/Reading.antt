-- Bytes of variables and of static objects are read, as the source reads them.
use Rattle.std.proofs.Common.{◌≡◌, ℕ, ◌+◌, ◌<◌, ◌≤◌, Bool, true, false, not, nat_lt, if◌then◌else◌, List, [], ◌∷◌, ◌++◌, length, Option, Some, None, refl, sym, ap, ◌∙◌, arith}
use Rattle.std.proofs.lemmas.Grind.{common_steps}
use Rattle.core_code.specs.Bytes.{Held, is_private}
use Rattle.core_code.specs.Machine.{Machine, Task, is_valid, held_at, after_read, noting_if, static_bytes}
use Rattle.core_code.specs.declared.code.Byte.{Byte}
use Rattle.core_code.specs.declared.code.Byte.TheVariants.{Static}
use Rattle.core_puts.specs.Bytes.{behind}
use Rattle.lower_expr.specs.declared.places.Spot.TheVariants.{Fixed}
use Rattle.pic_world.specs.World.{World, Happening, ReadOf, arrived, is_due, noted, world_as, event_as}
use Rattle.pic_world.specs.declared.Cell.TheVariants as cells
use Rattle.pic_world.specs.declared.Root.{Root}
use Rattle.pic_world.proofs.WorldLaws.{arrived_as, noted_as}
use Rattle.src_rules.specs.Accesses.{after_taking}
use Rattle.src_rules.specs.State.{state}
use Rattle.src_values.specs.Accesses.{take_byte, taken_unless, read_fault, event_at, noting, is_unset}
use Rattle.src_values.specs.Control.{Fetch, Pending, active}
use Rattle.src_values.specs.Memory as source
use Rattle.src_values.specs.Objects.{object_bytes, is_alive, is_watched, variables_of, function_at, variable_offset}
use Rattle.src_values.specs.declared.objects.Byte as value
use Rattle.src_values.specs.declared.objects.Byte.TheVariants as values
use Rattle.src_values.specs.declared.objects.CopyOf.{CopyOf}
use Rattle.src_values.specs.declared.objects.Object as object
use Rattle.src_values.specs.declared.objects.Object.TheVariants as objects
use Rattle.src_values.specs.declared.objects.Pointer.TheVariants.{Into}
use Rattle.src_values.specs.declared.objects.Spot as spot
use Rattle.src_values.specs.declared.objects.Spot.TheVariants as spots
use Rattle.src_values.specs.declared.objects.Undef.{Undef}
use Rattle.lower_trace.proofs.Beginnings.{Follow}
use Rattle.lower_trace.proofs.CodeLeft.{Scene, held, number, ground_in, core_in, source_in}
use Rattle.lower_trace.proofs.Fetching.{Reads, fetch_hidden, fetch_seen}
use Rattle.lower_trace.proofs.Giving.{Around, value_high}
use Rattle.lower_trace.proofs.Kept.{SceneLaws}
use Rattle.lower_trace.proofs.Mirrors.{Mirrors, Agree, core_byte}

-- ---- reads that are defined
pub if_none : (b : Bool) (kind : Undef) (x : Option Undef) → (if b then Some kind else x) ≡ None → (b ≡ false) × (x ≡ None)
if_none true kind x e = absurd (cc)
if_none false kind x e = (refl, e)

pub not_false : (b : Bool) → not b ≡ false → b ≡ true
not_false true e = refl
not_false false e = absurd (cc)

pub lt_of : (a b : ℕ) → nat_lt a b ≡ true → a < b
lt_of a b e = grind (arith, common_steps)

pub lt_true : (a b : ℕ) → a < b → nat_lt a b ≡ true
lt_true a b h = grind (arith, common_steps)

pub record Readable (z : Scene) (live : List CopyOf) (object : object.Object) (offset : ℕ) (byte : value.Byte) : Type 0 where
  pub inside : offset < object_bytes z.program object
  pub set : is_unset byte ≡ false
  pub alive : is_alive live object ≡ true

pub readable : (z : Scene) (live : List CopyOf) (root : Root) (fits : value.Byte → Bool) (object : object.Object) (offset : ℕ) (byte : value.Byte) → read_fault z.program live root fits object offset byte ≡ None → Readable z live object offset byte
readable z live root fits object offset byte e =
    let a = if_none (not (nat_lt offset (object_bytes z.program object))) _ _ e in
    let b = if_none (is_unset byte) _ _ a.1 in
    let c = if_none (not (is_alive live object)) _ _ b.1 in
    record { inside = lt_of offset (object_bytes z.program object) (not_false _ a.0); set = b.0; alive = not_false _ c.0 }

pub set_agrees : (z : Scene) (b : value.Byte) (h : Held) → is_unset b ≡ false → Agree z b h → h ≡ held z b
set_agrees z values.Unset h s a = absurd (cc)
set_agrees z (values.Number n) h s a = a
set_agrees z (values.Part object offset high) h s a = a

-- ---- events
pub noted_if : (z : Scene) (b : Bool) (e : Happening value.Byte) (w : World value.Byte) → arrived z.outside (noting_if b (event_as (held z) e) (world_as (held z) w)) ≡ world_as (held z) (arrived z.outside (noting (if b then Some e else None) w))
noted_if z true e w = ap (arrived z.outside) (noted_as (held z) e w) ∙ arrived_as (held z) z.outside (noted e w)
noted_if z false e w = arrived_as (held z) z.outside w

module _ (z : Scene) (laws : SceneLaws z) (cp : CopyOf) (k : List Pending) (l : source.Memory) (from : Byte) (to count : ℕ) (pointer : Byte) (r : List Task) (reads : Reads z (ground_in z cp) k (Fixed from) to count pointer r) (around : Around z cp k) (room : to + count ≤ (core_in z).program.frame_bytes (number z cp)) where
  variable_case : (fault : Option Undef) (i offset : ℕ) (fits : value.Byte → Bool) (at : spot.Spot) (read : List value.Byte) (line : ℕ) (w : World value.Byte) (c : Machine) → length read < count → is_private from ≡ true → i < length (variables_of (function_at z.program cp.function))
      → behind from (length read) ≡ core_byte z (objects.Variable cp i) offset → is_due (arrived z.outside w) ≡ false → read_fault z.program (active cp (Fetch at read) k) cp.root fits (objects.Variable cp i) offset (l (objects.Variable cp i) offset) ≡ fault
      → (next : spot.Spot) → Mirrors z (state cp (Fetch at read) k l w) c
      → Follow z 6 1 c (after_taking (taken_unless fault (l (objects.Variable cp i) offset) (arrived z.outside w) None) (λ byte. Fetch next (read ++ byte ∷ [])) cp k l line)
  variable_case (Some kind) i offset fits at read line w c lt hidden is target due e next h = tt
  variable_case None i offset fits at read line w c lt hidden is target due e next h =
      let ok = readable z (active cp (Fetch at read) k) cp.root fits (objects.Variable cp i) offset (l (objects.Variable cp i) offset) e in
      let low = laws.below cp i offset around.reached is ok.inside in
      let high = value_high z cp k around in
      let b = reads.based in
      fetch_hidden z laws cp k l from to count pointer r reads around at next read (l (objects.Variable cp i) offset) (variable_offset z.program cp.function i + offset) w c lt room target (laws.kept (objects.Variable cp i) offset (around.reached, is) ok.inside) hidden (omega arith)
      (set_agrees z (l (objects.Variable cp i) offset) (c.memory (core_byte z (objects.Variable cp i) offset)) ok.set (h.agrees (objects.Variable cp i) offset (around.reached, is) ok.alive ok.inside))
      due h

  -- a byte of a variable of the own copy
  pub fetch_variable : (i offset : ℕ) (fits : value.Byte → Bool) (at next : spot.Spot) (read : List value.Byte) (line : ℕ) (w : World value.Byte) (c : Machine) → length read < count → is_private from ≡ true → i < length (variables_of (function_at z.program cp.function))
      → behind from (length read) ≡ core_byte z (objects.Variable cp i) offset → is_due (arrived z.outside w) ≡ false → Mirrors z (state cp (Fetch at read) k l w) c
      → Follow z 6 1 c (after_taking (take_byte (source_in z) (active cp (Fetch at read) k) cp.root fits (spots.Memory (Into (objects.Variable cp i) offset)) l (arrived z.outside w)) (λ byte. Fetch next (read ++ byte ∷ [])) cp k l line)
  unfolding take_byte
  fetch_variable i offset fits at next read line w c lt hidden is target due h =
      variable_case (read_fault z.program (active cp (Fetch at read) k) cp.root fits (objects.Variable cp i) offset (l (objects.Variable cp i) offset)) i offset fits at read line w c lt hidden is target due refl next h

  static_case : (fault : Option Undef) (i offset : ℕ) (fits : value.Byte → Bool) (at : spot.Spot) (read : List value.Byte) (line : ℕ) (w : World value.Byte) (c : Machine) → length read < count → is_private from ≡ false → i < length z.program.statics
      → behind from (length read) ≡ Static i offset → is_due (arrived z.outside w) ≡ false → read_fault z.program (active cp (Fetch at read) k) cp.root fits (objects.Fixed i) offset (l (objects.Fixed i) offset) ≡ fault
      → (next : spot.Spot) → Mirrors z (state cp (Fetch at read) k l w) c
      → Follow z 6 1 c (after_taking (taken_unless fault (l (objects.Fixed i) offset) (arrived z.outside w) (event_at z.program ReadOf (objects.Fixed i) offset (l (objects.Fixed i) offset))) (λ byte. Fetch next (read ++ byte ∷ [])) cp k l line)
  unfolding is_valid held_at after_read
  static_case (Some kind) i offset fits at read line w c lt seen is target due e next h = tt
  static_case None i offset fits at read line w c lt seen is target due e next h =
      let byte = l (objects.Fixed i) offset in
      let V = arrived z.outside w in
      let ok = readable z (active cp (Fetch at read) k) cp.root fits (objects.Fixed i) offset byte e in
      let size = laws.statics i is in
      let same : 0 + offset ≡ offset = omega arith in
      let there : c.memory (Static i offset) ≡ held z byte = ap (λ y. c.memory (Static i y)) (sym same) ∙ set_agrees z byte (c.memory (core_byte z (objects.Fixed i) offset)) ok.set (h.agrees (objects.Fixed i) offset is ok.alive ok.inside) in
      fetch_seen z laws cp k l from to count pointer r reads around at next read byte (Static i offset) w (noting (event_at z.program ReadOf (objects.Fixed i) offset byte) V) c lt room target seen refl
      (let in_static : offset < static_bytes (core_in z).program i = omega (arith, ok.inside, size) in lt_true offset (static_bytes (core_in z).program i) in_static)
      (λ m e. e ∙ there)
      (λ m e.
      ap (λ x. arrived z.outside (noting_if ((core_in z).program.is_watched i) (ReadOf (cells.Static i offset) x) (world_as (held z) V))) (e ∙ there)
      ∙ ap (λ b. arrived z.outside (noting_if b (ReadOf (cells.Static i offset) (held z byte)) (world_as (held z) V))) (laws.watched i is)
      ∙ noted_if z (is_watched z.program (objects.Fixed i)) (ReadOf (cells.Static i offset) byte) V)
      due h

  -- a byte of a static object
  pub fetch_static : (i offset : ℕ) (fits : value.Byte → Bool) (at next : spot.Spot) (read : List value.Byte) (line : ℕ) (w : World value.Byte) (c : Machine) → length read < count → is_private from ≡ false → i < length z.program.statics
      → behind from (length read) ≡ Static i offset → is_due (arrived z.outside w) ≡ false → Mirrors z (state cp (Fetch at read) k l w) c
      → Follow z 6 1 c (after_taking (take_byte (source_in z) (active cp (Fetch at read) k) cp.root fits (spots.Memory (Into (objects.Fixed i) offset)) l (arrived z.outside w)) (λ byte. Fetch next (read ++ byte ∷ [])) cp k l line)
  unfolding take_byte
  fetch_static i offset fits at next read line w c lt seen is target due h =
      static_case (read_fault z.program (active cp (Fetch at read) k) cp.root fits (objects.Fixed i) offset (l (objects.Fixed i) offset)) i offset fits at read line w c lt seen is target due refl next h
