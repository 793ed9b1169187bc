-- Fixed places are read: the byte that comes next, of a static object, of a variable of the own copy, or a register.
use Rattle.c_ints.specs.declared.operators.BinOp.{BinOp}
use Rattle.c_typed.specs.Trees as tree
use Rattle.c_typed.specs.Trees.{Expression, Place}
use Rattle.c_typed.specs.declared.expression.StepOp.{StepOp}
use Rattle.c_typed.specs.declared.types.Ty.{Ty}
use Rattle.core_code.specs.Bytes.{is_private}
use Rattle.core_code.specs.Machine.{Machine, Task}
use Rattle.core_code.specs.declared.code.Byte.TheVariants.{Device, Frame, Static}
use Rattle.core_code.specs.declared.code.Byte.{Byte}
use Rattle.core_puts.specs.Bytes as lower
use Rattle.core_puts.specs.Bytes.{little_beyond}
use Rattle.lower_expr.specs.Layout.{place_width, width}
use Rattle.lower_expr.specs.Spots.{spot_of}
use Rattle.lower_expr.specs.declared.places.Spot as place
use Rattle.lower_expr.specs.declared.places.Spot.TheVariants.{Fixed}
use Rattle.lower_stmt.specs.Ground.{Ground}
use Rattle.lower_trace.proofs.Beginnings.{Follow}
use Rattle.lower_trace.proofs.CodeLeft.{Scene, above, base, code_after, core_in, ground_in, number, reading, source_in}
use Rattle.lower_trace.proofs.Fetching.{Reads}
use Rattle.lower_trace.proofs.FixedPlaces.{IsOwnSpot, device_small, device_valid}
use Rattle.lower_trace.proofs.Giving.{Around}
use Rattle.lower_trace.proofs.Kept.{SceneLaws}
use Rattle.lower_trace.proofs.Members.{byte_is_so}
use Rattle.lower_trace.proofs.Mirrors.{HasRead, Mirrors, at_byte, core_byte, in_place}
use Rattle.lower_trace.proofs.Operations.{beyond_is}
use Rattle.lower_trace.proofs.Reading.{fetch_static, fetch_variable, lt_of}
use Rattle.lower_trace.proofs.Registers.{fetch_register}
use Rattle.pic_world.specs.World.{World, arrived, is_due}
use Rattle.src_rules.specs.Accesses.{after_taking}
use Rattle.src_rules.specs.Standing.{stepped}
use Rattle.src_rules.specs.State.{state}
use Rattle.src_values.specs.Accesses.{take_byte}
use Rattle.src_values.specs.Control.{At, AtWith, Fetch, In, Pending, active}
use Rattle.src_values.specs.Data.{Datum}
use Rattle.src_values.specs.Memory as source
use Rattle.src_values.specs.Objects.{function_at, next_byte, object_bytes, variable_offset, variables_of}
use Rattle.src_values.specs.declared.objects.Byte as value
use Rattle.src_values.specs.declared.objects.CopyOf.{CopyOf}
use Rattle.src_values.specs.declared.objects.Object.TheVariants as objects
use Rattle.src_values.specs.declared.objects.Pointer.TheVariants.{Into, Null}
use Rattle.src_values.specs.declared.objects.Spot as spot
use Rattle.src_values.specs.declared.objects.Spot.TheVariants as spots
use Rattle.src_values.specs.declared.objects.Undef.TheVariants.{Outside}
use Rattle.src_values.specs.declared.objects.Undef.{Undef}
use Rattle.std.proofs.Common.{Bool, List, Option, Some, [], ap, arith, false, if◌then◌else◌, length, nat_lt, not, refl, subst, sym, true, ℕ, ◌++◌, ◌+◌, ◌<◌, ◌∙◌, ◌∷◌, ◌≡◌, ◌≤◌}
use Rattle.std.proofs.lemmas.Grind.{common_steps}

-- ---- nodes that read, as Fetching has them
pub reads_read : (z : Scene) (g : Ground) (sought : Place) (ty : Ty) (line : ℕ) (at0 : spot.Spot) (k : List Pending) (s : place.Spot) → spot_of g.layout g.copy sought ≡ s
    → Reads z g (In (tree.Read sought ty line) (At at0) ∷ k) s (above g (base g k) (tree.Read sought ty line) (At at0)) (width g.layout ty) (Frame g.copy (base g k)) (code_after g (In (tree.Read sought ty line) (At at0) ∷ k))
reads_read z g sought ty line at0 k s e =
    let to = above g (base g k) (tree.Read sought ty line) (At at0) in
    record {
      code = λ at read. ap (λ y. reading z y at (Frame g.copy (base g k)) (Frame g.copy to) (width g.layout ty) read (code_after g (In (tree.Read sought ty line) (At at0) ∷ k))) e;
      has = λ at read m h. subst (λ y. HasRead z g.copy to read (in_place y at (length read)) m) e h;
      had = λ at read m h. subst (λ y. HasRead z g.copy to read (in_place y at (length read)) m) (sym e) h;
      based = refl;
    }

pub reads_update : (z : Scene) (g : Ground) (op : BinOp) (sought : Place) (right : Expression) (operation : Ty) (size : ℕ) (ty : Ty) (line : ℕ) (at0 : spot.Spot) (u : Datum) (k : List Pending) (s : place.Spot) → spot_of g.layout g.copy sought ≡ s
    → Reads z g (In (tree.Update op sought right operation size ty line) (AtWith at0 u) ∷ k) s (above g (base g k) (tree.Update op sought right operation size ty line) (AtWith at0 u)) (place_width g.layout sought) (Frame g.copy (base g k)) (code_after g (In (tree.Update op sought right operation size ty line) (AtWith at0 u) ∷ k))
reads_update z g op sought right operation size ty line at0 u k s e =
    let f = In (tree.Update op sought right operation size ty line) (AtWith at0 u) ∷ k in
    let to = above g (base g k) (tree.Update op sought right operation size ty line) (AtWith at0 u) in
    record {
      code = λ at read. ap (λ y. reading z y at (Frame g.copy (base g k)) (Frame g.copy to) (place_width g.layout sought) read (code_after g f)) e;
      has = λ at read m h. subst (λ y. HasRead z g.copy to read (in_place y at (length read)) m) e h;
      had = λ at read m h. subst (λ y. HasRead z g.copy to read (in_place y at (length read)) m) (sym e) h;
      based = refl;
    }

pub reads_step : (z : Scene) (g : Ground) (op : StepOp) (sought : Place) (operation : Ty) (size : ℕ) (ty : Ty) (line : ℕ) (at0 : spot.Spot) (k : List Pending) (s : place.Spot) → spot_of g.layout g.copy sought ≡ s
    → Reads z g (In (tree.Step op sought operation size ty line) (At at0) ∷ k) s (above g (base g k) (tree.Step op sought operation size ty line) (At at0)) (place_width g.layout sought) (Frame g.copy (base g k)) (code_after g (In (tree.Step op sought operation size ty line) (At at0) ∷ k))
reads_step z g op sought operation size ty line at0 k s e =
    let f = In (tree.Step op sought operation size ty line) (At at0) ∷ k in
    let to = above g (base g k) (tree.Step op sought operation size ty line) (At at0) in
    record {
      code = λ at read. ap (λ y. reading z y at (Frame g.copy (base g k)) (Frame g.copy to) (place_width g.layout sought) read (code_after g f)) e;
      has = λ at read m h. subst (λ y. HasRead z g.copy to read (in_place y at (length read)) m) e h;
      had = λ at read m h. subst (λ y. HasRead z g.copy to read (in_place y at (length read)) m) (sym e) h;
      based = refl;
    }

outside_false : (size offset : ℕ) (x : Option Undef) → nat_lt offset size ≡ false → (if not (nat_lt offset size) then Some Outside else x) ≡ Some Outside
outside_false size offset x e = rw e refl

pub little_same : (a n : ℕ) → n < 1 → a ≤ 255 → little_beyond a n ≡ a
unfolding little_beyond
little_same a n lt le = grind (arith, common_steps)

module _ (z : Scene) (laws : SceneLaws z) (cp : CopyOf) (k : List Pending) (l : source.Memory) (from : Byte) (to count : ℕ) (pointer : Byte) (r : List Task) (reads : Reads z (ground_in z cp) k (Fixed from) to count pointer r) (around : Around z cp k) (room : to + count ≤ (core_in z).program.frame_bytes (number z cp)) where
  variable_byte : (inside : Bool) (i f : ℕ) (fits : value.Byte → Bool) (read : List value.Byte) (line : ℕ) (w : World value.Byte) (c : Machine) → nat_lt (f + length read) (object_bytes z.program (objects.Variable cp i)) ≡ inside → core_byte z (objects.Variable cp i) f ≡ from → i < length (variables_of (function_at z.program cp.function)) → length read < count → is_due (arrived z.outside w) ≡ false
      → Mirrors z (state cp (Fetch (spots.Memory (Into (objects.Variable cp i) (f + length read))) read) k l w) c
      → Follow z 6 1 c (after_taking (take_byte (source_in z) (active cp (Fetch (spots.Memory (Into (objects.Variable cp i) (f + length read))) read) k) cp.root fits (spots.Memory (Into (objects.Variable cp i) (f + length read))) l (arrived z.outside w)) (λ byte. Fetch (next_byte (spots.Memory (Into (objects.Variable cp i) (f + length read)))) (read ++ byte ∷ [])) cp k l line)
  unfolding take_byte
  variable_byte true i f fits read line w c inside is there lt due h =
      let o = objects.Variable cp i in
      let at = spots.Memory (Into o (f + length read)) in
      let fit = laws.fits o (around.reached, there) in
      let few = laws.reach o (around.reached, there) in
      let low = lt_of (f + length read) (object_bytes z.program o) inside in
      let target : lower.behind from (length read) ≡ core_byte z o (f + length read) =
      ap (λ y. lower.behind y (length read)) (sym is)
      ∙ ap (Frame (number z cp)) (beyond_is (variable_offset z.program cp.function i + f) (length read) (omega arith) ∙ (omega arith)) in
      fetch_variable z laws cp k l from to count pointer r reads around room i (f + length read) fits at (next_byte at) read line w c lt (ap is_private (sym is)) there target due h
  variable_byte false i f fits read line w c inside is there lt due h = rw inside tt

  static_byte : (inside : Bool) (i f : ℕ) (fits : value.Byte → Bool) (read : List value.Byte) (line : ℕ) (w : World value.Byte) (c : Machine) → nat_lt (f + length read) (object_bytes z.program (objects.Fixed i)) ≡ inside → core_byte z (objects.Fixed i) f ≡ from → i < length z.program.statics → length read < count → is_due (arrived z.outside w) ≡ false
      → Mirrors z (state cp (Fetch (spots.Memory (Into (objects.Fixed i) (f + length read))) read) k l w) c
      → Follow z 6 1 c (after_taking (take_byte (source_in z) (active cp (Fetch (spots.Memory (Into (objects.Fixed i) (f + length read))) read) k) cp.root fits (spots.Memory (Into (objects.Fixed i) (f + length read))) l (arrived z.outside w)) (λ byte. Fetch (next_byte (spots.Memory (Into (objects.Fixed i) (f + length read)))) (read ++ byte ∷ [])) cp k l line)
  unfolding take_byte
  static_byte true i f fits read line w c inside is there lt due h =
      let o = objects.Fixed i in
      let at = spots.Memory (Into o (f + length read)) in
      let fit = laws.fits o there in
      let few = laws.reach o there in
      let low = lt_of (f + length read) (object_bytes z.program o) inside in
      let target : lower.behind from (length read) ≡ Static i (f + length read) = ap (λ y. lower.behind y (length read)) (sym is) ∙ ap (Static i) (beyond_is (0 + f) (length read) (omega arith) ∙ (omega arith)) in
      fetch_static z laws cp k l from to count pointer r reads around room i (f + length read) fits at (next_byte at) read line w c lt (ap is_private (sym is)) there target due h
  static_byte false i f fits read line w c inside is there lt due h = rw inside tt

  -- the byte that comes next, where a fixed place was found
  pub fetch_fixed : (start : spot.Spot) (fits : value.Byte → Bool) (read : List value.Byte) (line : ℕ) (w : World value.Byte) (c : Machine) → at_byte z start ≡ Some from → IsOwnSpot z cp start → ((a : ℕ) → start ≡ spots.Device a → count ≡ 1) → length read < count → is_due (arrived z.outside w) ≡ false
      → Mirrors z (state cp (Fetch (stepped (length read) start) read) k l w) c
      → Follow z 6 1 c (after_taking (take_byte (source_in z) (active cp (Fetch (stepped (length read) start) read) k) cp.root fits (stepped (length read) start) l (arrived z.outside w)) (λ byte. Fetch (next_byte (stepped (length read) start)) (read ++ byte ∷ [])) cp k l line)
  fetch_fixed (spots.Memory (Into (objects.Fixed i) f)) fits read line w c is own one lt due h =
      static_byte (nat_lt (f + length read) (object_bytes z.program (objects.Fixed i))) i f fits read line w c refl (byte_is_so (core_byte z (objects.Fixed i) f) from is) own lt due h
  fetch_fixed (spots.Memory (Into (objects.Variable d i) f)) fits read line w c is own one lt due h =
      subst (λ x. core_byte z (objects.Variable x i) f ≡ from → Mirrors z (state cp (Fetch (spots.Memory (Into (objects.Variable x i) (f + length read))) read) k l w) c
      → Follow z 6 1 c (after_taking (take_byte (source_in z) (active cp (Fetch (spots.Memory (Into (objects.Variable x i) (f + length read))) read) k) cp.root fits (spots.Memory (Into (objects.Variable x i) (f + length read))) l (arrived z.outside w)) (λ byte. Fetch (next_byte (spots.Memory (Into (objects.Variable x i) (f + length read)))) (read ++ byte ∷ [])) cp k l line)) (sym own.0)
      (λ e m. variable_byte (nat_lt (f + length read) (object_bytes z.program (objects.Variable cp i))) i f fits read line w c refl e own.1 lt due m)
      (byte_is_so (core_byte z (objects.Variable d i) f) from is) h
  fetch_fixed (spots.Memory Null) fits read line w c is own one lt due h = absurd (cc)
  fetch_fixed (spots.Device a) fits read line w c is own one lt due h =
      let q = byte_is_so (Device a) from is in
      let single = one a refl in
      let target : lower.behind from (length read) ≡ Device a = ap (λ y. lower.behind y (length read)) (sym q) ∙ ap Device (little_same a (length read) (omega arith) (device_small a own)) in
      fetch_register z laws cp k l from to count pointer r reads around room (active cp (Fetch (spots.Device a) read) k) fits a (spots.Device a) (spots.Device a) read line w c lt (ap is_private (sym q)) target (device_valid (core_in z).program (number z cp) a own) due h
  fetch_fixed (spots.Bit register bit) fits read line w c is own one lt due h = absurd (cc)
