-- The laws of bytes that are read, put together: at fixed places, at bits and behind pointers.
use Rattle.std.proofs.Common.{◌≡◌, ℕ, ◌<◌, ◌≤◌, nat_lt, Bool, true, false, List, [], ◌∷◌, length, Some, None, refl, sym, ap, ◌∙◌, subst, ⊎_elim, arith}
use Rattle.std.proofs.lemmas.Bool.{and_parts, or_cases}
use Rattle.std.specs.List.{All}
use Rattle.std.specs.Prelude.{if◌then◌else◌}
use Rattle.c_ints.specs.declared.operators.BinOp.{BinOp}
use Rattle.c_ints.specs.declared.types.IntTy.TheVariants as int
use Rattle.c_typed.specs.Fits.{place_rule_holds, is_named, is_device, register_type}
use Rattle.c_typed.specs.Room.{room, place_room}
use Rattle.c_typed.specs.Sameness.{is_scalar, same_qualified}
use Rattle.c_typed.specs.Trees as tree
use Rattle.c_typed.specs.Trees.{Expression, Place}
use Rattle.c_typed.specs.Types.{form_of, place_bytes, place_type, type_bytes, type_of, value_bytes}
use Rattle.c_typed.specs.declared.expression.Object.TheVariants as names
use Rattle.c_typed.specs.declared.expression.StepOp.{StepOp}
use Rattle.c_typed.specs.declared.types.Qualified.{Qualified}
use Rattle.c_typed.specs.declared.types.Ty.{Ty}
use Rattle.c_typed.specs.declared.types.Ty.TheVariants as types
use Rattle.core_code.specs.Machine.{Machine}
use Rattle.core_code.specs.declared.code.Byte as code
use Rattle.lower_expr.specs.Layout.{width}
use Rattle.lower_expr.specs.Lowering.{behind_pointer}
use Rattle.lower_expr.specs.Spots.{member_spot, pointer_bytes, spot_of}
use Rattle.lower_expr.specs.declared.places.Spot as place
use Rattle.lower_expr.specs.declared.places.Spot.TheVariants.{Fixed, Bit, Computed}
use Rattle.pic_world.specs.World.{World, arrived, is_due}
use Rattle.src_rules.proofs.Places.{spot_there}
use Rattle.src_rules.proofs.Rules.{read_rule, update_rule, step_rule}
use Rattle.src_rules.proofs.Values.{same_type_is}
use Rattle.src_rules.specs.Parts.{IsPlaceOf}
use Rattle.src_rules.specs.Runs.{one_if}
use Rattle.src_rules.specs.Standing.{AreRead, IsSpotOf, stepped}
use Rattle.src_rules.specs.State.{State, state}
use Rattle.src_rules.specs.Step.{act}
use Rattle.src_values.specs.Control.{Fetch, At, AtWith, Pending, In}
use Rattle.src_values.specs.Data.{Datum}
use Rattle.src_values.specs.Memory as source
use Rattle.src_values.specs.declared.objects.Byte.{Byte}
use Rattle.src_values.specs.declared.objects.CopyOf.{CopyOf}
use Rattle.src_values.specs.declared.objects.Pointer.{Pointer}
use Rattle.src_values.specs.declared.objects.Spot.{Spot}
use Rattle.src_values.specs.declared.objects.Spot.TheVariants as spots
use Rattle.lower_trace.specs.Lowering.{IsLowerable}
use Rattle.lower_trace.proofs.BitReads.{BitPlace, bit_read, bit_step, bit_update}
use Rattle.lower_trace.proofs.CodeLeft.{Scene, base, ground_in, number, source_in}
use Rattle.lower_trace.proofs.Costs.{either}
use Rattle.lower_trace.proofs.Fitting.{pointer_at, value_at, step_operation, width_is}
use Rattle.lower_trace.proofs.FixedFetches.{read_fetch, update_fetch, step_fetch}
use Rattle.lower_trace.proofs.Known.{Known, around, reaches, small}
use Rattle.lower_trace.proofs.Leads.{Led, Law, led_by}
use Rattle.lower_trace.proofs.LedPlaces.{step_scalar}
use Rattle.lower_trace.proofs.LedValues.{around_in, scalar_update}
use Rattle.lower_trace.proofs.Mirrors.{Mirrors}
use Rattle.lower_trace.proofs.Operations.{beyond_is}
use Rattle.lower_trace.proofs.Pointed.{pointed_read, pointed_step, pointed_update}
use Rattle.lower_trace.proofs.PriceTests.{either_fetch, one_or_none, same_fetch}
use Rattle.lower_trace.proofs.Reading.{lt_of}
use Rattle.lower_trace.proofs.Rooms.{pointer_is, read_parts, update_parts}
use Rattle.lower_trace.proofs.Scenes.{frame_is, scene_laws}

-- ---- where a place lies
memory_no_device : (x : Pointer) (a : ℕ) → spots.Device a ≡ spots.Memory x → ⊥
memory_no_device x a e = cc

member_no_bit : (s : place.Spot) (offset r n : ℕ) → member_spot s offset ≡ Bit r n → ⊥
member_no_bit (Fixed byte) offset r n e = cc
member_no_bit (Bit register bit) offset r n e = cc
member_no_bit Computed offset r n e = cc

register_one : (sizes : List ℕ) (b : Bool) (ty : Qualified) → is_named false (if b then Some register_type else None) ty ≡ true → type_bytes sizes ty.ty ≡ 1
register_one sizes true ty e =
    ⊎_elim
    (λ q. sym (ap (type_bytes sizes) (same_type_is (types.Int int.UChar) ty.ty (and_parts _ _ q).0)))
    (λ n. absurd (let q : false ≡ true = n in cc))
    (or_cases (same_qualified register_type ty) false e)
register_one sizes false ty e = absurd (cc)

module _ (z : Scene) (cp : CopyOf) where
  abbrev found_as : Place → place.Spot
  found_as sought = spot_of (ground_in z cp).layout (ground_in z cp).copy sought

  -- a register has one byte
  pub device_one : (sought : Place) (a : ℕ) → IsPlaceOf z.program cp.function sought → IsSpotOf z.program cp sought (spots.Device a) → type_bytes z.program.sizes (place_type sought).ty ≡ 1
  unfolding place_rule_holds
  device_one (tree.Name (names.Static n) ty line) a h s = absurd (memory_no_device _ a s)
  device_one (tree.Name (names.Param n) ty line) a h s = absurd (memory_no_device _ a s)
  device_one (tree.Name (names.Local n) ty line) a h s = absurd (memory_no_device _ a s)
  device_one (tree.Name (names.Register n) ty line) a h s = register_one z.program.sizes (is_device n) ty h
  device_one (tree.Bit register bit line) a h s = absurd (cc)
  device_one (tree.Member whole member offset ty line) a h s = absurd (memory_no_device _ a s.4)
  device_one (tree.Deref pointer ty line) a h s = absurd (memory_no_device _ a s.2)

  pub device_fixed : (sought : Place) (a : ℕ) → IsSpotOf z.program cp sought (spots.Device a) → (from : code.Byte) × (found_as sought ≡ Fixed from)
  unfolding spot_of
  device_fixed (tree.Name object ty line) a s = (_, refl)
  device_fixed (tree.Bit register bit line) a s = absurd (cc)
  device_fixed (tree.Member whole member offset ty line) a s = absurd (memory_no_device _ a s.4)
  device_fixed (tree.Deref pointer ty line) a s = absurd (memory_no_device _ a s.2)

  pub memory_no_bit : (sought : Place) (x : Pointer) (r n : ℕ) → IsSpotOf z.program cp sought (spots.Memory x) → found_as sought ≡ Bit r n → ⊥
  unfolding spot_of
  memory_no_bit (tree.Name object ty line) x r n s e = cc
  memory_no_bit (tree.Bit register bit line) x r n s e = let q : spots.Memory x ≡ spots.Bit register bit = s in cc
  memory_no_bit (tree.Member whole member offset ty line) x r n s e = member_no_bit (found_as whole) offset r n e
  memory_no_bit (tree.Deref pointer ty line) x r n s e = cc

  abbrev pub bit_is : Spot → Place → Type 0
  bit_is (spots.Device a) sought = Unit {0}
  bit_is (spots.Memory x) sought = Unit {0}
  bit_is (spots.Bit r n) sought = BitPlace z cp sought r n × ((place_type sought).ty ≡ types.Int int.UChar)

  bit_here : (register bit line : ℕ) → IsPlaceOf z.program cp.function (tree.Bit register bit line) → bit_is (spots.Bit register bit) (tree.Bit register bit line)
  unfolding place_rule_holds spot_of
  bit_here register bit line h = let g = and_parts (is_device register) (nat_lt bit 8) h in (record { spot = refl; known = g.0; small = lt_of bit 8 g.1 }, refl)

  -- a bit is found as it is
  pub bit_place : (sought : Place) (r n : ℕ) → IsPlaceOf z.program cp.function sought → IsSpotOf z.program cp sought (spots.Bit r n) → bit_is (spots.Bit r n) sought
  bit_place (tree.Name (names.Static i) ty line) r n h s = absurd (let q : spots.Bit r n ≡ spots.Memory _ = s in cc)
  bit_place (tree.Name (names.Param i) ty line) r n h s = absurd (let q : spots.Bit r n ≡ spots.Memory _ = s in cc)
  bit_place (tree.Name (names.Local i) ty line) r n h s = absurd (let q : spots.Bit r n ≡ spots.Memory _ = s in cc)
  bit_place (tree.Name (names.Register i) ty line) r n h s = absurd (let q : spots.Bit r n ≡ spots.Device i = s in cc)
  bit_place (tree.Bit register bit line) r n h s = subst (λ y. bit_is y (tree.Bit register bit line)) (sym s) (bit_here register bit line h)
  bit_place (tree.Member whole member offset ty line) r n h s = absurd (let q : spots.Bit r n ≡ spots.Memory s.1 = s.4 in cc)
  bit_place (tree.Deref pointer ty line) r n h s = absurd (let q : spots.Bit r n ≡ spots.Memory s.0 = s.2 in cc)

scalar_some : (sizes : List ℕ) (ty : Ty) → is_scalar ty ≡ true → 0 < type_bytes sizes ty
scalar_some sizes types.Void e = absurd (cc)
scalar_some sizes (types.Int int.Char) e = omega arith
scalar_some sizes (types.Int int.SChar) e = omega arith
scalar_some sizes (types.Int int.UChar) e = omega arith
scalar_some sizes (types.Int int.Short) e = omega arith
scalar_some sizes (types.Int int.UShort) e = omega arith
scalar_some sizes (types.Int int.Int) e = omega arith
scalar_some sizes (types.Int int.UInt) e = omega arith
scalar_some sizes (types.Int int.Long) e = omega arith
scalar_some sizes (types.Int int.ULong) e = omega arith
scalar_some sizes (types.Pointer row) e = omega arith
scalar_some sizes (types.Array element length bytes) e = absurd (cc)
scalar_some sizes (types.Struct number) e = absurd (cc)

module _ (z : Scene) (given : IsLowerable z.program z.copies) (input : All (λ byte. byte < 256) z.outside.input) where
  -- ---- a read
  abbrev read_of : Place → Ty → ℕ → Spot → List Byte → List Pending → CopyOf → source.Memory → World Byte → State
  read_of sought ty line start read k cp l w = state cp (Fetch (stepped (length read) start) read) (In (tree.Read sought ty line) (At start) ∷ k) l w

  read_fixed : (start : Spot) (from : code.Byte) (sought : Place) (ty : Ty) (line : ℕ) (read : List Byte) (k : List Pending) (cp : CopyOf) (l : source.Memory) (w : World Byte) (c : Machine) → found_as z cp sought ≡ Fixed from → ((a : ℕ) → start ≡ spots.Device a → type_bytes z.program.sizes ty ≡ 1)
      → Known z (read_of sought ty line start read k cp l w) → length read ≤ type_bytes z.program.sizes ty → type_bytes z.program.sizes ty ≤ 4 → AreRead z.program ty [] read → is_due (arrived z.outside w) ≡ false → Mirrors z (read_of sought ty line start read k cp l w) c
      → Led z (Fetch (stepped (length read) start) read) (In (tree.Read sought ty line) (At start) ∷ k) c (act (source_in z) (Fetch (stepped (length read) start) read) (In (tree.Read sought ty line) (At start) ∷ k) cp l (arrived z.outside w))
  unfolding act room
  read_fixed start from sought ty line read k cp l w c is one known le few are due h =
      let s = known.stands in
      let st = s.stack in
      let n = type_bytes z.program.sizes ty in
      let less = small z given input cp s.reached in
      let f = frame_is z given cp s.reached in
      let fits = known.stack.0 in
      let q = (read_parts (place_room z.program.sizes sought) (form_of sought) n).1 in
      led_by z _ _ (either (nat_lt (length read) n) 6 3) (one_if (nat_lt (length read) n)) c _ (either_fetch (nat_lt (length read) n) 6 3 27 (omega arith) (omega arith)) (one_or_none (nat_lt (length read) n))
      (read_fetch z (scene_laws z given) cp l sought ty line start from k read w c (record { spot = is; there = st.0.1; found = st.2; one = one }) (around z given input (read_of sought ty line start read k cp l w) known)
      (width_is z cp ty (omega arith)) (omega arith) (omega arith) le are due h)

  read_pointed : (x : Pointer) (sought : Place) (ty : Ty) (line : ℕ) (read : List Byte) (k : List Pending) (cp : CopyOf) (l : source.Memory) (w : World Byte) (c : Machine) → found_as z cp sought ≡ Computed → is_scalar ty ≡ true
      → Known z (read_of sought ty line (spots.Memory x) read k cp l w) → length read ≤ type_bytes z.program.sizes ty → type_bytes z.program.sizes ty ≤ 4 → AreRead z.program ty [] read → is_due (arrived z.outside w) ≡ false → Mirrors z (read_of sought ty line (spots.Memory x) read k cp l w) c
      → Led z (Fetch (stepped (length read) (spots.Memory x)) read) (In (tree.Read sought ty line) (At (spots.Memory x)) ∷ k) c (act (source_in z) (Fetch (stepped (length read) (spots.Memory x)) read) (In (tree.Read sought ty line) (At (spots.Memory x)) ∷ k) cp l (arrived z.outside w))
  unfolding act room
  read_pointed x sought ty line read k cp l w c is scalar known le few are due h =
      let t = read_of sought ty line (spots.Memory x) read k cp l w in
      let s = known.stands in
      let st = s.stack in
      let n = type_bytes z.program.sizes ty in
      let f = frame_is z given cp s.reached in
      let fits = known.stack.0 in
      let q = (read_parts (place_room z.program.sizes sought) (form_of sought) n).1 in
      let p = pointer_is (ground_in z cp).layout (ground_in z cp).copy sought in
      let two = ap pointer_bytes is in
      let a = around z given input t known in
      led_by z _ _ (either (nat_lt (length read) n) 30 27) (one_if (nat_lt (length read) n)) c _ (either_fetch (nat_lt (length read) n) 30 27 27 (omega arith) (omega arith)) (one_or_none (nat_lt (length read) n))
      (pointed_read z (scene_laws z given) cp l sought ty line x k read w c
      (record { spot = is; there = spot_there z.program cp sought (spots.Memory x) s.reached st.0.1 st.2; some = scalar_some z.program.sizes ty scalar; few = few }) a (around_in z cp (tree.Read sought ty line) (At (spots.Memory x)) k a) (reaches z given input t known)
      (width_is z cp ty (omega arith)) (omega arith) le are due h)

  read_bit : (r n : ℕ) (sought : Place) (ty : Ty) (line : ℕ) (read : List Byte) (k : List Pending) (cp : CopyOf) (l : source.Memory) (w : World Byte) (c : Machine) → ty ≡ types.Int int.UChar → BitPlace z cp sought r n
      → Known z (read_of sought ty line (spots.Bit r n) read k cp l w) → length read ≤ type_bytes z.program.sizes ty → AreRead z.program ty [] read → is_due (arrived z.outside w) ≡ false → Mirrors z (read_of sought ty line (spots.Bit r n) read k cp l w) c
      → Led z (Fetch (spots.Bit r n) read) (In (tree.Read sought ty line) (At (spots.Bit r n)) ∷ k) c (act (source_in z) (Fetch (spots.Bit r n) read) (In (tree.Read sought ty line) (At (spots.Bit r n)) ∷ k) cp l (arrived z.outside w))
  unfolding act room
  read_bit r n sought (types.Int int.UChar) line read k cp l w c e bit known le are due h =
      let t = read_of sought (types.Int int.UChar) line (spots.Bit r n) read k cp l w in
      let s = known.stands in
      let less = small z given input cp s.reached in
      let f = frame_is z given cp s.reached in
      let fits = known.stack.0 in
      let q = (read_parts (place_room z.program.sizes sought) (form_of sought) 1).1 in
      led_by z _ _ 6 (one_if (nat_lt (length read) 1)) c _ (same_fetch (nat_lt (length read) 1) 6 27 (omega arith) (omega arith)) (one_or_none (nat_lt (length read) 1)) (bit_read z (scene_laws z given) cp l sought line r n k read w c bit (around z given input t known) (omega arith) (omega arith) le are due h)
  read_bit r n sought _ line read k cp l w c e bit known le are due h = absurd (cc)

  read_in_memory : (s : place.Spot) (x : Pointer) (sought : Place) (ty : Ty) (line : ℕ) (read : List Byte) (k : List Pending) (cp : CopyOf) (l : source.Memory) (w : World Byte) (c : Machine) → found_as z cp sought ≡ s → is_scalar ty ≡ true
      → Known z (read_of sought ty line (spots.Memory x) read k cp l w) → length read ≤ type_bytes z.program.sizes ty → type_bytes z.program.sizes ty ≤ 4 → AreRead z.program ty [] read → is_due (arrived z.outside w) ≡ false → Mirrors z (read_of sought ty line (spots.Memory x) read k cp l w) c
      → Led z (Fetch (stepped (length read) (spots.Memory x)) read) (In (tree.Read sought ty line) (At (spots.Memory x)) ∷ k) c (act (source_in z) (Fetch (stepped (length read) (spots.Memory x)) read) (In (tree.Read sought ty line) (At (spots.Memory x)) ∷ k) cp l (arrived z.outside w))
  read_in_memory (Fixed from) x sought ty line read k cp l w c is scalar known le few are due h = read_fixed (spots.Memory x) from sought ty line read k cp l w c is (λ a e. absurd (cc)) known le few are due h
  read_in_memory (Bit r n) x sought ty line read k cp l w c is scalar known le few are due h = absurd (memory_no_bit z cp sought x r n known.stands.stack.2 is)
  read_in_memory Computed x sought ty line read k cp l w c is scalar known le few are due h = read_pointed x sought ty line read k cp l w c is scalar known le few are due h

  -- a byte of a number or a pointer is read
  fetch_read : (start : Spot) (sought : Place) (ty : Ty) (line : ℕ) (read : List Byte) (k : List Pending) (cp : CopyOf) (l : source.Memory) (w : World Byte) (c : Machine) → is_scalar ty ≡ true
      → Known z (read_of sought ty line start read k cp l w) → length read ≤ type_bytes z.program.sizes ty → type_bytes z.program.sizes ty ≤ 4 → AreRead z.program ty [] read → is_due (arrived z.outside w) ≡ false → Mirrors z (read_of sought ty line start read k cp l w) c
      → Led z (Fetch (stepped (length read) start) read) (In (tree.Read sought ty line) (At start) ∷ k) c (act (source_in z) (Fetch (stepped (length read) start) read) (In (tree.Read sought ty line) (At start) ∷ k) cp l (arrived z.outside w))
  fetch_read (spots.Device a) sought ty line read k cp l w c scalar known le few are due h =
      let st = known.stands.stack in
      let fixed = device_fixed z cp sought a st.2 in
      let rule = (read_rule z.program sought ty line st.0.0).0 in
      read_fixed (spots.Device a) fixed.0 sought ty line read k cp l w c fixed.1 (λ b e. sym (ap (type_bytes z.program.sizes) rule) ∙ device_one z cp sought a st.0.1 st.2) known le few are due h
  fetch_read (spots.Memory x) sought ty line read k cp l w c scalar known le few are due h = read_in_memory (found_as z cp sought) x sought ty line read k cp l w c refl scalar known le few are due h
  fetch_read (spots.Bit r n) sought ty line read k cp l w c scalar known le few are due h =
      let st = known.stands.stack in
      let bit = bit_place z cp sought r n st.0.1 st.2 in
      let rule = (read_rule z.program sought ty line st.0.0).0 in
      read_bit r n sought ty line read k cp l w c (sym rule ∙ bit.1) bit.0 known le are due h

  read_fetches : (place : Place) (ty : Ty) (line : ℕ) (start spot : Spot) (read : List Byte) (k : List Pending) → is_scalar ty ≡ true → Law z (Fetch spot read) (In (tree.Read place ty line) (At start) ∷ k)
  read_fetches place ty line start spot read k scalar cp l w c known due h =
      let s = known.stands.focus in
      let at : spot ≡ stepped (length read) start = s.at ∙ ap (stepped (length read)) s.node in
      subst (λ y. Led z (Fetch y read) (In (tree.Read place ty line) (At start) ∷ k) c (act (source_in z) (Fetch y read) (In (tree.Read place ty line) (At start) ∷ k) cp l (arrived z.outside w))) (sym at)
      (fetch_read start place ty line read k cp l w c scalar (subst (λ y. Known z (state cp (Fetch y read) (In (tree.Read place ty line) (At start) ∷ k) l w)) at known) s.part s.few s.bytes due
      (subst (λ y. Mirrors z (state cp (Fetch y read) (In (tree.Read place ty line) (At start) ∷ k) l w) c) at h))

  -- ---- an update
  update_fixed : (start : Spot) (from : code.Byte) (op : BinOp) (right : Expression) (operation : Ty) (size : ℕ) (u : Datum) (sought : Place) (ty : Ty) (line : ℕ) (read : List Byte) (k : List Pending) (cp : CopyOf) (l : source.Memory) (w : World Byte) (c : Machine) → found_as z cp sought ≡ Fixed from → ((a : ℕ) → start ≡ spots.Device a → type_bytes z.program.sizes ty ≡ 1)
      → Known z (state cp (Fetch (stepped (length read) start) read) (In (tree.Update op sought right operation size ty line) (AtWith start u) ∷ k) l w) → length read ≤ type_bytes z.program.sizes ty → type_bytes z.program.sizes ty ≤ 4 → AreRead z.program ty [] read → is_due (arrived z.outside w) ≡ false → Mirrors z (state cp (Fetch (stepped (length read) start) read) (In (tree.Update op sought right operation size ty line) (AtWith start u) ∷ k) l w) c
      → Led z (Fetch (stepped (length read) start) read) (In (tree.Update op sought right operation size ty line) (AtWith start u) ∷ k) c (act (source_in z) (Fetch (stepped (length read) start) read) (In (tree.Update op sought right operation size ty line) (AtWith start u) ∷ k) cp l (arrived z.outside w))
  unfolding act room
  update_fixed start from op right operation size u sought ty line read k cp l w c is one known le few are due h =
      let t = state cp (Fetch (stepped (length read) start) read) (In (tree.Update op sought right operation size ty line) (AtWith start u) ∷ k) l w in
      let s = known.stands in
      let st = s.stack in
      let g = ground_in z cp in
      let n = type_bytes z.program.sizes (ty) in
      let less = small z given input cp s.reached in
      let f = frame_is z given cp s.reached in
      let fits = known.stack.0 in
      let rule = (update_rule z.program op sought right operation size (ty) line st.0.0) in
      let same = ap (type_bytes z.program.sizes) rule.0 in
      let q = (update_parts (place_room z.program.sizes sought) (form_of sought) (place_bytes z.program.sizes sought) (room z.program.sizes right) (value_bytes z.program.sizes right) (type_bytes z.program.sizes operation)).2 in
      let p = pointer_is g.layout g.copy sought in
      let a = pointer_at z cp less (base g k) sought (omega arith) in
      let v = value_at z cp less (behind_pointer g.layout g.copy (base g k) sought) right (omega arith) in
      let wide = width_is z cp (place_type sought).ty (omega arith) ∙ same in
      led_by z _ _ (either (nat_lt (length read) n) 6 3) (one_if (nat_lt (length read) n)) c _ (either_fetch (nat_lt (length read) n) 6 3 27 (omega arith) (omega arith)) (one_or_none (nat_lt (length read) n))
      (update_fetch z (scene_laws z given) cp l op sought right operation size ty line start u from k read w c (record { spot = is; there = st.0.1; found = st.2.0; one = one }) (around z given input t known) wide (omega arith) le are due h)

  update_pointed : (x : Pointer) (op : BinOp) (right : Expression) (operation : Ty) (size : ℕ) (u : Datum) (sought : Place) (ty : Ty) (line : ℕ) (read : List Byte) (k : List Pending) (cp : CopyOf) (l : source.Memory) (w : World Byte) (c : Machine) → found_as z cp sought ≡ Computed → is_scalar ty ≡ true
      → Known z (state cp (Fetch (stepped (length read) (spots.Memory x)) read) (In (tree.Update op sought right operation size ty line) (AtWith (spots.Memory x) u) ∷ k) l w) → length read ≤ type_bytes z.program.sizes ty → type_bytes z.program.sizes ty ≤ 4 → AreRead z.program ty [] read → is_due (arrived z.outside w) ≡ false → Mirrors z (state cp (Fetch (stepped (length read) (spots.Memory x)) read) (In (tree.Update op sought right operation size ty line) (AtWith (spots.Memory x) u) ∷ k) l w) c
      → Led z (Fetch (stepped (length read) (spots.Memory x)) read) (In (tree.Update op sought right operation size ty line) (AtWith (spots.Memory x) u) ∷ k) c (act (source_in z) (Fetch (stepped (length read) (spots.Memory x)) read) (In (tree.Update op sought right operation size ty line) (AtWith (spots.Memory x) u) ∷ k) cp l (arrived z.outside w))
  unfolding act room
  update_pointed x op right operation size u sought ty line read k cp l w c is scalar known le few are due h =
      let t = state cp (Fetch (stepped (length read) (spots.Memory x)) read) (In (tree.Update op sought right operation size ty line) (AtWith (spots.Memory x) u) ∷ k) l w in
      let s = known.stands in
      let st = s.stack in
      let g = ground_in z cp in
      let n = type_bytes z.program.sizes (ty) in
      let less = small z given input cp s.reached in
      let f = frame_is z given cp s.reached in
      let fits = known.stack.0 in
      let rule = (update_rule z.program op sought right operation size (ty) line st.0.0) in
      let same = ap (type_bytes z.program.sizes) rule.0 in
      let q = (update_parts (place_room z.program.sizes sought) (form_of sought) (place_bytes z.program.sizes sought) (room z.program.sizes right) (value_bytes z.program.sizes right) (type_bytes z.program.sizes operation)).2 in
      let p = pointer_is g.layout g.copy sought in
      let a = pointer_at z cp less (base g k) sought (omega arith) in
      let v = value_at z cp less (behind_pointer g.layout g.copy (base g k) sought) right (omega arith) in
      let wide = width_is z cp (place_type sought).ty (omega arith) ∙ same in
      let two = ap pointer_bytes is in
      led_by z _ _ (either (nat_lt (length read) n) 30 27) (one_if (nat_lt (length read) n)) c _ (either_fetch (nat_lt (length read) n) 30 27 27 (omega arith) (omega arith)) (one_or_none (nat_lt (length read) n))
      (pointed_update z (scene_laws z given) cp l op sought right operation size ty line x u k read w c
      (record { spot = is; there = spot_there z.program cp sought (spots.Memory x) s.reached st.0.1 st.2.0; some = scalar_some z.program.sizes ty scalar; few = few }) (around z given input t known) (reaches z given input t known) wide (omega arith) (omega arith) le are due h)

  update_bit : (r n : ℕ) (op : BinOp) (right : Expression) (operation : Ty) (size : ℕ) (u : Datum) (sought : Place) (ty : Ty) (line : ℕ) (read : List Byte) (k : List Pending) (cp : CopyOf) (l : source.Memory) (w : World Byte) (c : Machine) → ty ≡ types.Int int.UChar → BitPlace z cp sought r n
      → Known z (state cp (Fetch (stepped (length read) (spots.Bit r n)) read) (In (tree.Update op sought right operation size ty line) (AtWith (spots.Bit r n) u) ∷ k) l w) → length read ≤ type_bytes z.program.sizes ty → AreRead z.program ty [] read → is_due (arrived z.outside w) ≡ false → Mirrors z (state cp (Fetch (stepped (length read) (spots.Bit r n)) read) (In (tree.Update op sought right operation size ty line) (AtWith (spots.Bit r n) u) ∷ k) l w) c
      → Led z (Fetch (spots.Bit r n) read) (In (tree.Update op sought right operation size ty line) (AtWith (spots.Bit r n) u) ∷ k) c (act (source_in z) (Fetch (spots.Bit r n) read) (In (tree.Update op sought right operation size ty line) (AtWith (spots.Bit r n) u) ∷ k) cp l (arrived z.outside w))
  unfolding act room
  update_bit r n op right operation size u sought (types.Int int.UChar) line read k cp l w c e bit known le are due h =
      let t = state cp (Fetch (stepped (length read) (spots.Bit r n)) read) (In (tree.Update op sought right operation size (types.Int int.UChar) line) (AtWith (spots.Bit r n) u) ∷ k) l w in
      let s = known.stands in
      let st = s.stack in
      let g = ground_in z cp in
      let count = type_bytes z.program.sizes (types.Int int.UChar) in
      let less = small z given input cp s.reached in
      let f = frame_is z given cp s.reached in
      let fits = known.stack.0 in
      let rule = (update_rule z.program op sought right operation size (types.Int int.UChar) line st.0.0) in
      let same = ap (type_bytes z.program.sizes) rule.0 in
      let q = (update_parts (place_room z.program.sizes sought) (form_of sought) (place_bytes z.program.sizes sought) (room z.program.sizes right) (value_bytes z.program.sizes right) (type_bytes z.program.sizes operation)).2 in
      let p = pointer_is g.layout g.copy sought in
      let a = pointer_at z cp less (base g k) sought (omega arith) in
      let v = value_at z cp less (behind_pointer g.layout g.copy (base g k) sought) right (omega arith) in
      let wide = width_is z cp (place_type sought).ty (omega arith) ∙ same in
      led_by z _ _ 6 (one_if (nat_lt (length read) 1)) c _ (same_fetch (nat_lt (length read) 1) 6 27 (omega arith) (omega arith)) (one_or_none (nat_lt (length read) 1)) (bit_update z (scene_laws z given) cp l op sought right operation size line r n u k read w c bit (around z given input t known) (omega arith) le are due h)
  update_bit r n op right operation size u sought _ line read k cp l w c e bit known le are due h = absurd (cc)

  update_in_memory : (s : place.Spot) (x : Pointer) (op : BinOp) (right : Expression) (operation : Ty) (size : ℕ) (u : Datum) (sought : Place) (ty : Ty) (line : ℕ) (read : List Byte) (k : List Pending) (cp : CopyOf) (l : source.Memory) (w : World Byte) (c : Machine) → found_as z cp sought ≡ s → is_scalar ty ≡ true
      → Known z (state cp (Fetch (stepped (length read) (spots.Memory x)) read) (In (tree.Update op sought right operation size ty line) (AtWith (spots.Memory x) u) ∷ k) l w) → length read ≤ type_bytes z.program.sizes ty → type_bytes z.program.sizes ty ≤ 4 → AreRead z.program ty [] read → is_due (arrived z.outside w) ≡ false → Mirrors z (state cp (Fetch (stepped (length read) (spots.Memory x)) read) (In (tree.Update op sought right operation size ty line) (AtWith (spots.Memory x) u) ∷ k) l w) c
      → Led z (Fetch (stepped (length read) (spots.Memory x)) read) (In (tree.Update op sought right operation size ty line) (AtWith (spots.Memory x) u) ∷ k) c (act (source_in z) (Fetch (stepped (length read) (spots.Memory x)) read) (In (tree.Update op sought right operation size ty line) (AtWith (spots.Memory x) u) ∷ k) cp l (arrived z.outside w))
  update_in_memory (Fixed from) x op right operation size u sought ty line read k cp l w c is scalar known le few are due h = update_fixed (spots.Memory x) from op right operation size u sought ty line read k cp l w c is (λ a e. absurd (cc)) known le few are due h
  update_in_memory (Bit r n) x op right operation size u sought ty line read k cp l w c is scalar known le few are due h = absurd (memory_no_bit z cp sought x r n known.stands.stack.2.0 is)
  update_in_memory Computed x op right operation size u sought ty line read k cp l w c is scalar known le few are due h = update_pointed x op right operation size u sought ty line read k cp l w c is scalar known le few are due h

  fetch_update : (start : Spot) (op : BinOp) (right : Expression) (operation : Ty) (size : ℕ) (u : Datum) (sought : Place) (ty : Ty) (line : ℕ) (read : List Byte) (k : List Pending) (cp : CopyOf) (l : source.Memory) (w : World Byte) (c : Machine) → is_scalar ty ≡ true
      → Known z (state cp (Fetch (stepped (length read) start) read) (In (tree.Update op sought right operation size ty line) (AtWith start u) ∷ k) l w) → length read ≤ type_bytes z.program.sizes ty → type_bytes z.program.sizes ty ≤ 4 → AreRead z.program ty [] read → is_due (arrived z.outside w) ≡ false → Mirrors z (state cp (Fetch (stepped (length read) start) read) (In (tree.Update op sought right operation size ty line) (AtWith start u) ∷ k) l w) c
      → Led z (Fetch (stepped (length read) start) read) (In (tree.Update op sought right operation size ty line) (AtWith start u) ∷ k) c (act (source_in z) (Fetch (stepped (length read) start) read) (In (tree.Update op sought right operation size ty line) (AtWith start u) ∷ k) cp l (arrived z.outside w))
  fetch_update (spots.Device a) op right operation size u sought ty line read k cp l w c scalar known le few are due h =
      let st = known.stands.stack in
      let fixed = device_fixed z cp sought a st.2.0 in
      let rule = (update_rule z.program op sought right operation size ty line st.0.0).0 in
      update_fixed (spots.Device a) fixed.0 op right operation size u sought ty line read k cp l w c fixed.1 (λ b e. sym (ap (type_bytes z.program.sizes) rule) ∙ device_one z cp sought a st.0.1 st.2.0) known le few are due h
  fetch_update (spots.Memory x) op right operation size u sought ty line read k cp l w c scalar known le few are due h = update_in_memory (found_as z cp sought) x op right operation size u sought ty line read k cp l w c refl scalar known le few are due h
  fetch_update (spots.Bit r n) op right operation size u sought ty line read k cp l w c scalar known le few are due h =
      let st = known.stands.stack in
      let bit = bit_place z cp sought r n st.0.1 st.2.0 in
      let rule = (update_rule z.program op sought right operation size ty line st.0.0).0 in
      update_bit r n op right operation size u sought ty line read k cp l w c (sym rule ∙ bit.1) bit.0 known le are due h

  update_fetches : (op : BinOp) (right : Expression) (operation : Ty) (size : ℕ) (u : Datum) (sought : Place) (ty : Ty) (line : ℕ) (start spot : Spot) (read : List Byte) (k : List Pending) → Law z (Fetch spot read) (In (tree.Update op sought right operation size ty line) (AtWith start u) ∷ k)
  update_fetches op right operation size u sought ty line start spot read k cp l w c known due h =
      let s = known.stands.focus in
      let st = known.stands.stack in
      let rule = (update_rule z.program op sought right operation size ty line st.0.0).1 in
      let scalar = scalar_update z op (type_of right) operation size ty rule in
      let at : spot ≡ stepped (length read) start = s.at ∙ ap (stepped (length read)) s.node in
      subst (λ y. Led z (Fetch y read) (In (tree.Update op sought right operation size ty line) (AtWith start u) ∷ k) c (act (source_in z) (Fetch y read) (In (tree.Update op sought right operation size ty line) (AtWith start u) ∷ k) cp l (arrived z.outside w))) (sym at)
      (fetch_update start op right operation size u sought ty line read k cp l w c scalar (subst (λ y. Known z (state cp (Fetch y read) (In (tree.Update op sought right operation size ty line) (AtWith start u) ∷ k) l w)) at known) s.part s.few s.bytes due
      (subst (λ y. Mirrors z (state cp (Fetch y read) (In (tree.Update op sought right operation size ty line) (AtWith start u) ∷ k) l w) c) at h))

  -- ---- a step
  step_fixed : (start : Spot) (from : code.Byte) (op : StepOp) (operation : Ty) (size : ℕ) (sought : Place) (ty : Ty) (line : ℕ) (read : List Byte) (k : List Pending) (cp : CopyOf) (l : source.Memory) (w : World Byte) (c : Machine) → found_as z cp sought ≡ Fixed from → ((a : ℕ) → start ≡ spots.Device a → type_bytes z.program.sizes ty ≡ 1)
      → Known z (state cp (Fetch (stepped (length read) start) read) (In (tree.Step op sought operation size ty line) (At start) ∷ k) l w) → length read ≤ type_bytes z.program.sizes ty → type_bytes z.program.sizes ty ≤ 4 → AreRead z.program ty [] read → is_due (arrived z.outside w) ≡ false → Mirrors z (state cp (Fetch (stepped (length read) start) read) (In (tree.Step op sought operation size ty line) (At start) ∷ k) l w) c
      → Led z (Fetch (stepped (length read) start) read) (In (tree.Step op sought operation size ty line) (At start) ∷ k) c (act (source_in z) (Fetch (stepped (length read) start) read) (In (tree.Step op sought operation size ty line) (At start) ∷ k) cp l (arrived z.outside w))
  unfolding act room
  step_fixed start from op operation size sought ty line read k cp l w c is one known le few are due h =
      let t = state cp (Fetch (stepped (length read) start) read) (In (tree.Step op sought operation size ty line) (At start) ∷ k) l w in
      let s = known.stands in
      let st = s.stack in
      let g = ground_in z cp in
      let n = type_bytes z.program.sizes (ty) in
      let less = small z given input cp s.reached in
      let f = frame_is z given cp s.reached in
      let fits = known.stack.0 in
      let rule = (step_rule z.program op sought operation size (ty) line st.0.0) in
      let same = ap (type_bytes z.program.sizes) rule.0 in
      let q = (update_parts (place_room z.program.sizes sought) (form_of sought) (place_bytes z.program.sizes sought) 2 2 (type_bytes z.program.sizes operation)).2 in
      let p = pointer_is g.layout g.copy sought in
      let a = pointer_at z cp less (base g k) sought (omega arith) in
      let o = step_operation z cp less operation (ty) rule.1 in
      let o1 = o.1 in
      let wo = width_is z cp operation (omega arith) in
      let v = beyond_is (behind_pointer g.layout g.copy (base g k) sought) (width g.layout operation) (omega arith) in
      let wide = width_is z cp (place_type sought).ty (omega arith) ∙ same in
      led_by z _ _ (either (nat_lt (length read) n) 6 3) (one_if (nat_lt (length read) n)) c _ (either_fetch (nat_lt (length read) n) 6 3 27 (omega arith) (omega arith)) (one_or_none (nat_lt (length read) n))
      (step_fetch z (scene_laws z given) cp l op sought operation size ty line start from k read w c (record { spot = is; there = st.0.1; found = st.2; one = one }) (around z given input t known) wide (omega arith) le are due h)

  step_pointed : (x : Pointer) (op : StepOp) (operation : Ty) (size : ℕ) (sought : Place) (ty : Ty) (line : ℕ) (read : List Byte) (k : List Pending) (cp : CopyOf) (l : source.Memory) (w : World Byte) (c : Machine) → found_as z cp sought ≡ Computed → is_scalar ty ≡ true
      → Known z (state cp (Fetch (stepped (length read) (spots.Memory x)) read) (In (tree.Step op sought operation size ty line) (At (spots.Memory x)) ∷ k) l w) → length read ≤ type_bytes z.program.sizes ty → type_bytes z.program.sizes ty ≤ 4 → AreRead z.program ty [] read → is_due (arrived z.outside w) ≡ false → Mirrors z (state cp (Fetch (stepped (length read) (spots.Memory x)) read) (In (tree.Step op sought operation size ty line) (At (spots.Memory x)) ∷ k) l w) c
      → Led z (Fetch (stepped (length read) (spots.Memory x)) read) (In (tree.Step op sought operation size ty line) (At (spots.Memory x)) ∷ k) c (act (source_in z) (Fetch (stepped (length read) (spots.Memory x)) read) (In (tree.Step op sought operation size ty line) (At (spots.Memory x)) ∷ k) cp l (arrived z.outside w))
  unfolding act room
  step_pointed x op operation size sought ty line read k cp l w c is scalar known le few are due h =
      let t = state cp (Fetch (stepped (length read) (spots.Memory x)) read) (In (tree.Step op sought operation size ty line) (At (spots.Memory x)) ∷ k) l w in
      let s = known.stands in
      let st = s.stack in
      let g = ground_in z cp in
      let n = type_bytes z.program.sizes (ty) in
      let less = small z given input cp s.reached in
      let f = frame_is z given cp s.reached in
      let fits = known.stack.0 in
      let rule = (step_rule z.program op sought operation size (ty) line st.0.0) in
      let same = ap (type_bytes z.program.sizes) rule.0 in
      let q = (update_parts (place_room z.program.sizes sought) (form_of sought) (place_bytes z.program.sizes sought) 2 2 (type_bytes z.program.sizes operation)).2 in
      let p = pointer_is g.layout g.copy sought in
      let a = pointer_at z cp less (base g k) sought (omega arith) in
      let o = step_operation z cp less operation (ty) rule.1 in
      let o1 = o.1 in
      let wo = width_is z cp operation (omega arith) in
      let v = beyond_is (behind_pointer g.layout g.copy (base g k) sought) (width g.layout operation) (omega arith) in
      let wide = width_is z cp (place_type sought).ty (omega arith) ∙ same in
      let two = ap pointer_bytes is in
      led_by z _ _ (either (nat_lt (length read) n) 30 27) (one_if (nat_lt (length read) n)) c _ (either_fetch (nat_lt (length read) n) 30 27 27 (omega arith) (omega arith)) (one_or_none (nat_lt (length read) n))
      (pointed_step z (scene_laws z given) cp l op sought operation size ty line x k read w c
      (record { spot = is; there = spot_there z.program cp sought (spots.Memory x) s.reached st.0.1 st.2; some = scalar_some z.program.sizes ty scalar; few = few }) (around z given input t known) (reaches z given input t known) wide (omega arith) (omega arith) le are due h)

  step_bit : (r n : ℕ) (op : StepOp) (operation : Ty) (size : ℕ) (sought : Place) (ty : Ty) (line : ℕ) (read : List Byte) (k : List Pending) (cp : CopyOf) (l : source.Memory) (w : World Byte) (c : Machine) → ty ≡ types.Int int.UChar → BitPlace z cp sought r n
      → Known z (state cp (Fetch (stepped (length read) (spots.Bit r n)) read) (In (tree.Step op sought operation size ty line) (At (spots.Bit r n)) ∷ k) l w) → length read ≤ type_bytes z.program.sizes ty → AreRead z.program ty [] read → is_due (arrived z.outside w) ≡ false → Mirrors z (state cp (Fetch (stepped (length read) (spots.Bit r n)) read) (In (tree.Step op sought operation size ty line) (At (spots.Bit r n)) ∷ k) l w) c
      → Led z (Fetch (spots.Bit r n) read) (In (tree.Step op sought operation size ty line) (At (spots.Bit r n)) ∷ k) c (act (source_in z) (Fetch (spots.Bit r n) read) (In (tree.Step op sought operation size ty line) (At (spots.Bit r n)) ∷ k) cp l (arrived z.outside w))
  unfolding act room
  step_bit r n op operation size sought (types.Int int.UChar) line read k cp l w c e bit known le are due h =
      let t = state cp (Fetch (stepped (length read) (spots.Bit r n)) read) (In (tree.Step op sought operation size (types.Int int.UChar) line) (At (spots.Bit r n)) ∷ k) l w in
      let s = known.stands in
      let st = s.stack in
      let g = ground_in z cp in
      let count = type_bytes z.program.sizes (types.Int int.UChar) in
      let less = small z given input cp s.reached in
      let f = frame_is z given cp s.reached in
      let fits = known.stack.0 in
      let rule = (step_rule z.program op sought operation size (types.Int int.UChar) line st.0.0) in
      let same = ap (type_bytes z.program.sizes) rule.0 in
      let q = (update_parts (place_room z.program.sizes sought) (form_of sought) (place_bytes z.program.sizes sought) 2 2 (type_bytes z.program.sizes operation)).2 in
      let p = pointer_is g.layout g.copy sought in
      let a = pointer_at z cp less (base g k) sought (omega arith) in
      let o = step_operation z cp less operation (types.Int int.UChar) rule.1 in
      let o1 = o.1 in
      let wo = width_is z cp operation (omega arith) in
      let v = beyond_is (behind_pointer g.layout g.copy (base g k) sought) (width g.layout operation) (omega arith) in
      let wide = width_is z cp (place_type sought).ty (omega arith) ∙ same in
      led_by z _ _ 6 (one_if (nat_lt (length read) 1)) c _ (same_fetch (nat_lt (length read) 1) 6 27 (omega arith) (omega arith)) (one_or_none (nat_lt (length read) 1)) (bit_step z (scene_laws z given) cp l op sought operation size line r n k read w c bit (around z given input t known) (omega arith) le are due h)
  step_bit r n op operation size sought _ line read k cp l w c e bit known le are due h = absurd (cc)

  step_in_memory : (s : place.Spot) (x : Pointer) (op : StepOp) (operation : Ty) (size : ℕ) (sought : Place) (ty : Ty) (line : ℕ) (read : List Byte) (k : List Pending) (cp : CopyOf) (l : source.Memory) (w : World Byte) (c : Machine) → found_as z cp sought ≡ s → is_scalar ty ≡ true
      → Known z (state cp (Fetch (stepped (length read) (spots.Memory x)) read) (In (tree.Step op sought operation size ty line) (At (spots.Memory x)) ∷ k) l w) → length read ≤ type_bytes z.program.sizes ty → type_bytes z.program.sizes ty ≤ 4 → AreRead z.program ty [] read → is_due (arrived z.outside w) ≡ false → Mirrors z (state cp (Fetch (stepped (length read) (spots.Memory x)) read) (In (tree.Step op sought operation size ty line) (At (spots.Memory x)) ∷ k) l w) c
      → Led z (Fetch (stepped (length read) (spots.Memory x)) read) (In (tree.Step op sought operation size ty line) (At (spots.Memory x)) ∷ k) c (act (source_in z) (Fetch (stepped (length read) (spots.Memory x)) read) (In (tree.Step op sought operation size ty line) (At (spots.Memory x)) ∷ k) cp l (arrived z.outside w))
  step_in_memory (Fixed from) x op operation size sought ty line read k cp l w c is scalar known le few are due h = step_fixed (spots.Memory x) from op operation size sought ty line read k cp l w c is (λ a e. absurd (cc)) known le few are due h
  step_in_memory (Bit r n) x op operation size sought ty line read k cp l w c is scalar known le few are due h = absurd (memory_no_bit z cp sought x r n known.stands.stack.2 is)
  step_in_memory Computed x op operation size sought ty line read k cp l w c is scalar known le few are due h = step_pointed x op operation size sought ty line read k cp l w c is scalar known le few are due h

  fetch_step : (start : Spot) (op : StepOp) (operation : Ty) (size : ℕ) (sought : Place) (ty : Ty) (line : ℕ) (read : List Byte) (k : List Pending) (cp : CopyOf) (l : source.Memory) (w : World Byte) (c : Machine) → is_scalar ty ≡ true
      → Known z (state cp (Fetch (stepped (length read) start) read) (In (tree.Step op sought operation size ty line) (At start) ∷ k) l w) → length read ≤ type_bytes z.program.sizes ty → type_bytes z.program.sizes ty ≤ 4 → AreRead z.program ty [] read → is_due (arrived z.outside w) ≡ false → Mirrors z (state cp (Fetch (stepped (length read) start) read) (In (tree.Step op sought operation size ty line) (At start) ∷ k) l w) c
      → Led z (Fetch (stepped (length read) start) read) (In (tree.Step op sought operation size ty line) (At start) ∷ k) c (act (source_in z) (Fetch (stepped (length read) start) read) (In (tree.Step op sought operation size ty line) (At start) ∷ k) cp l (arrived z.outside w))
  fetch_step (spots.Device a) op operation size sought ty line read k cp l w c scalar known le few are due h =
      let st = known.stands.stack in
      let fixed = device_fixed z cp sought a st.2 in
      let rule = (step_rule z.program op sought operation size ty line st.0.0).0 in
      step_fixed (spots.Device a) fixed.0 op operation size sought ty line read k cp l w c fixed.1 (λ b e. sym (ap (type_bytes z.program.sizes) rule) ∙ device_one z cp sought a st.0.1 st.2) known le few are due h
  fetch_step (spots.Memory x) op operation size sought ty line read k cp l w c scalar known le few are due h = step_in_memory (found_as z cp sought) x op operation size sought ty line read k cp l w c refl scalar known le few are due h
  fetch_step (spots.Bit r n) op operation size sought ty line read k cp l w c scalar known le few are due h =
      let st = known.stands.stack in
      let bit = bit_place z cp sought r n st.0.1 st.2 in
      let rule = (step_rule z.program op sought operation size ty line st.0.0).0 in
      step_bit r n op operation size sought ty line read k cp l w c (sym rule ∙ bit.1) bit.0 known le are due h

  step_fetches : (op : StepOp) (operation : Ty) (size : ℕ) (sought : Place) (ty : Ty) (line : ℕ) (start spot : Spot) (read : List Byte) (k : List Pending) → Law z (Fetch spot read) (In (tree.Step op sought operation size ty line) (At start) ∷ k)
  step_fetches op operation size sought ty line start spot read k cp l w c known due h =
      let s = known.stands.focus in
      let st = known.stands.stack in
      let rule = (step_rule z.program op sought operation size ty line st.0.0).1 in
      let scalar = step_scalar z operation ty rule in
      let at : spot ≡ stepped (length read) start = s.at ∙ ap (stepped (length read)) s.node in
      subst (λ y. Led z (Fetch y read) (In (tree.Step op sought operation size ty line) (At start) ∷ k) c (act (source_in z) (Fetch y read) (In (tree.Step op sought operation size ty line) (At start) ∷ k) cp l (arrived z.outside w))) (sym at)
      (fetch_step start op operation size sought ty line read k cp l w c scalar (subst (λ y. Known z (state cp (Fetch y read) (In (tree.Step op sought operation size ty line) (At start) ∷ k) l w)) at known) s.part s.few s.bytes due
      (subst (λ y. Mirrors z (state cp (Fetch y read) (In (tree.Step op sought operation size ty line) (At start) ∷ k) l w) c) at h))

  -- A byte is read. What is neither a number nor a pointer, and has bytes of one, is left over.
  pub fetches : ((place : Place) (ty : Ty) (line : ℕ) (start spot : Spot) (read : List Byte) (k : List Pending) → is_scalar ty ≡ false → Law z (Fetch spot read) (In (tree.Read place ty line) (At start) ∷ k)) → (spot : Spot) (read : List Byte) (k : List Pending) → Law z (Fetch spot read) k
  fetches others spot read (In (tree.Read place ty line) (At start) ∷ k) cp l w c known due h = by (is_scalar ty) refl
    where
      by : (b : Bool) → is_scalar ty ≡ b → Led z (Fetch spot read) (In (tree.Read place ty line) (At start) ∷ k) c (act (source_in z) (Fetch spot read) (In (tree.Read place ty line) (At start) ∷ k) cp l (arrived z.outside w))
      by true e = read_fetches place ty line start spot read k e cp l w c known due h
      by false e = others place ty line start spot read k e cp l w c known due h
  fetches others spot read (In (tree.Update op sought right operation size ty line) (AtWith start u) ∷ k) cp l w c known due h = update_fetches op right operation size u sought ty line start spot read k cp l w c known due h
  fetches others spot read (In (tree.Step op sought operation size ty line) (At start) ∷ k) cp l w c known due h = step_fetches op operation size sought ty line start spot read k cp l w c known due h
  fetches others spot read _ cp l w c known due h = absurd known.stands.focus.node
